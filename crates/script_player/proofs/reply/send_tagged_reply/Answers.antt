use Rattle.std.proofs.Common.{◌≡◌, [], ◌∷◌, ◌++◌, append_assoc}
use Rattle.std.specs.Prelude.{decimal}
use Rattle.play_types.specs.declared.event.Tag.{Tag}
use Rattle.history_model.specs.scripts.Output.{reply_line, tag_text, tagged_lines}
use Rattle.script_player.proofs.reply.send_tagged_reply.Goals as goal

-- the text of a tag from its parts
tag_parts : (tag : Tag) → decimal tag.worker ++ 46 ∷ (decimal tag.session ++ 32 ∷ []) ≡ tag_text tag
unfolding tag_text
tag_parts tag = simp append_assoc

pub returns : goal.returns
unfolding tagged_lines reply_line
returns g c =
    rw (c.as_bytes.ensures.value, c.format.ensures.text, c.as_bytes-2.ensures.value, c.format-2.ensures.text, tag_parts c.args.tag) at c.send_reply_lines.ensures
