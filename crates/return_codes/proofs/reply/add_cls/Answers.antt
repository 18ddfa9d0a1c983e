use Rattle.std.proofs.Common.{[], ◌++◌}
use Rattle.std.specs.List.{flat_map}
use Rattle.std.specs.Prelude.{codes, map}
use Rattle.history_model.specs.text.Replies.{media_line}
use Rattle.play_outside.proofs.Following.{added-then, added-left}
use Rattle.return_codes.specs.inner.Style.{later, styled}
use Rattle.return_codes.proofs.Lines.{listed_lines}
use Rattle.return_codes.proofs.reply.add_cls.Goals as goal

pub returns-in_err-add_line : goal.returns-in_err-add_line
returns-in_err-add_line g c =
    rw listed_lines
    (added-left _ _ _ (styled c.args.style.now (codes "200 CLS OK")) (flat_map (styled (later c.args.style.now)) (map media_line c.args.media.now) ++ styled (later c.args.style.now) []) _ _ _ c.add_line.ensures c.in_err-add_line.ensures c.from_residual.ensures)

pub returns-in_err-add_names : goal.returns-in_err-add_names
returns-in_err-add_names g c =
    rw listed_lines
    (added-then _ _ (styled c.args.style.now (codes "200 CLS OK")) (flat_map (styled (later c.args.style.now)) (map media_line c.args.media.now) ++ styled (later c.args.style.now) []) _ _ _ _ _ (rw c.in_ok-add_line.ensures at c.add_line.ensures)
    (added-left _ _ _ (flat_map (styled (later c.args.style.now)) (map media_line c.args.media.now)) (styled (later c.args.style.now) []) _ _ _ (rw c.later-later.ensures at c.add_names.ensures) c.in_err-add_names.ensures c.from_residual-in_err-add_names.ensures))

pub returns : goal.returns
returns g c =
    rw listed_lines
    (added-then _ _ (styled c.args.style.now (codes "200 CLS OK")) (flat_map (styled (later c.args.style.now)) (map media_line c.args.media.now) ++ styled (later c.args.style.now) []) _ _ _ _ _ (rw c.in_ok-add_line.ensures at c.add_line.ensures)
    (added-then _ _ (flat_map (styled (later c.args.style.now)) (map media_line c.args.media.now)) (styled (later c.args.style.now) []) _ _ _ _ _ (rw (c.in_ok-add_names.ensures, c.later-later.ensures) at c.add_names.ensures)
    (rw c.later-later.ensures at c.add_line-2.ensures)))
