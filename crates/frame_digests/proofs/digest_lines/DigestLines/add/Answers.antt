use Rattle.std.proofs.Common.{◌++◌, ◌∙◌, sym, ap, subst}
use Rattle.play_outside.specs.SinkState.{after_taking}
use Rattle.play_outside.specs.Gathered.{Adds}
use Rattle.play_outside.proofs.Gathering.{Adds-sent}
use Rattle.history_model.specs.text.Frames.{digest_line}
use Rattle.frame_digests.proofs.digest_lines.DigestLines.add.Goals as goal

pub returns : goal.returns
returns g c =
    let old = c.args.self.now in
    let line = digest_line c.args.channel c.args.tick c.args.frame.now c.args.sound.now in
    let first = g.K.Sink.state c.args.to.now in
    subst (λ none. Adds c.write_digest.result (old ++ line) none first (g.K.Sink.state c.write_digest.new.to))
    (sym (c.if-hold-2.ensures.text ∙ c.self-2.view_is ∙ c.finish.ensures.none_waits))
    (Adds-sent c.write_digest.result old line _ _ _
    ((rw c.in_ok-finish.ensures at c.finish.ensures.sends) ∙ ap (after_taking first) (c.if-hold.ensures.text ∙ c.self.view_is))
    c.write_digest.ensures)
