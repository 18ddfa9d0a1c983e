use Rattle.std.specs.List.{flat_map}
use Rattle.history_model.specs.text.Replies.{token_text}
use Rattle.play_outside.proofs.Following.{added-then}
use Rattle.return_codes.specs.inner.Style.{token_of}
use Rattle.return_codes.proofs.line.LineStyle.add_head.Goals as goal

pub returns : goal.returns
returns g c =
    added-then _ _ (flat_map (λ part. part.now) c.args.self.now.before.now) (token_text (token_of c.args.self.now)) _ _ _ _ _ (rw c.in_ok-add_parts.ensures at c.add_parts.ensures)
    c.add_token.ensures
