use Rattle.std.proofs.Common.{◌++◌}
use Rattle.std.specs.Prelude.{codes, encode_utf8_all}
use Rattle.amcp_text.specs.Escapes.{quoted}
use Rattle.history_model.specs.text.Replies.{clip_text}
use Rattle.play_outside.proofs.Following.{added-then, added-left}
use Rattle.return_codes.specs.inner.Style.{head_of}
use Rattle.return_codes.proofs.Lines.{media_line-parts}
use Rattle.return_codes.proofs.media.add_name.Goals as goal

pub returns-in_err-add_head : goal.returns-in_err-add_head
returns-in_err-add_head g c =
    rw media_line-parts
    (added-left _ _ _ (head_of c.args.style.now) (encode_utf8_all (quoted c.args.clip.now.name) ++ (codes " " ++ clip_text c.args.clip.now ++ c.args.style.now.after.now)) _ _ _ c.add_head.ensures c.in_err-add_head.ensures c.from_residual.ensures)

pub returns-in_err-add_quoted : goal.returns-in_err-add_quoted
returns-in_err-add_quoted g c =
    rw media_line-parts
    (added-then _ _ (head_of c.args.style.now) (encode_utf8_all (quoted c.args.clip.now.name) ++ (codes " " ++ clip_text c.args.clip.now ++ c.args.style.now.after.now)) _ _ _ _ _ (rw c.in_ok-add_head.ensures at c.add_head.ensures)
    (added-left _ _ _ (encode_utf8_all (quoted c.args.clip.now.name)) (codes " " ++ clip_text c.args.clip.now ++ c.args.style.now.after.now) _ _ _ (rw (c.as_str.ensures, c.name.ensures) at c.add_quoted.ensures) c.in_err-add_quoted.ensures c.from_residual-in_err-add_quoted.ensures))

pub returns-in_err-add_clip : goal.returns-in_err-add_clip
returns-in_err-add_clip g c =
    rw media_line-parts
    (added-then _ _ (head_of c.args.style.now) (encode_utf8_all (quoted c.args.clip.now.name) ++ (codes " " ++ clip_text c.args.clip.now ++ c.args.style.now.after.now)) _ _ _ _ _ (rw c.in_ok-add_head.ensures at c.add_head.ensures)
    (added-then _ _ (encode_utf8_all (quoted c.args.clip.now.name)) (codes " " ++ clip_text c.args.clip.now ++ c.args.style.now.after.now) _ _ _ _ _ (rw (c.as_str.ensures, c.name.ensures, c.in_ok-add_quoted.ensures) at c.add_quoted.ensures)
    (added-left _ _ _ (codes " " ++ clip_text c.args.clip.now) (c.args.style.now.after.now) _ _ _ c.add_clip.ensures c.in_err-add_clip.ensures c.from_residual-in_err-add_clip.ensures)))

pub returns : goal.returns
returns g c =
    rw media_line-parts
    (added-then _ _ (head_of c.args.style.now) (encode_utf8_all (quoted c.args.clip.now.name) ++ (codes " " ++ clip_text c.args.clip.now ++ c.args.style.now.after.now)) _ _ _ _ _ (rw c.in_ok-add_head.ensures at c.add_head.ensures)
    (added-then _ _ (encode_utf8_all (quoted c.args.clip.now.name)) (codes " " ++ clip_text c.args.clip.now ++ c.args.style.now.after.now) _ _ _ _ _ (rw (c.as_str.ensures, c.name.ensures, c.in_ok-add_quoted.ensures) at c.add_quoted.ensures)
    (added-then _ _ (codes " " ++ clip_text c.args.clip.now) (c.args.style.now.after.now) _ _ _ _ _ (rw c.in_ok-add_clip.ensures at c.add_clip.ensures)
    c.add.ensures.adds)))
