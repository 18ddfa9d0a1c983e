use Rattle.std.proofs.Common.{◌∷◌, ◌++◌, [], ℕ, List, sym, ap, ap₂, ◌∙◌, arith}
use Rattle.std.specs.Str.{chars}
use Rattle.play_types.specs.Media.{MediaNameView}
use Rattle.clip_format.specs.Table.{media_name}
use Rattle.clip_format.proofs.Looking.{entry_at, media_names-more}
use Rattle.clip_format.proofs.table.MediaTable.names.Goals as goal
use Rattle.clip_format.proofs.table.MediaTable.names.Goals.{in-Some+in_ok-name_of+in_ok-push, in_default}

pub loop-at-preserved : goal.loop-at-preserved
loop-at-preserved c =
    elim c.match-get_index.branch [
      | in-Some+in_ok-name_of+in_ok-push w ↦
          let at = entry_at c.self.inside.clips.entries c.args.self.now c.loop-at.at (w.in-Some.name.now, w.in-Some.clip.now) c.self.view_is w.in-Some.ensures.entry in
          w.names-is ∙ w.in_ok-push.ensures.ok
          ∙ ap₂ (λ (front : List MediaNameView) (one : MediaNameView). front ++ one ∷ []) c.loop-at.invariant (w.in_ok-name_of.ensures ∙ ap (λ (n : List ℕ). media_name (chars n) w.in-Some.clip.now) w.as_str.ensures.value)
          ∙ sym (media_names-more c.args.self.now c.loop-at.at _ at)
      | in_default w ↦ let some = w.in_default.ensures.found.1 (omega (arith, c.loop-at-test.true, c.len-at-end.ensures.len)) in cc
    ]
