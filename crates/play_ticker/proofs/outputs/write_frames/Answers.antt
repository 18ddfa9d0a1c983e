use Rattle.std.proofs.Common.{◌≡◌, ℕ, ◌+◌, ◌++◌, List, get_or, ap, subst, ◌∙◌, arith}
use Rattle.play_outside.specs.SinkState.{after_taking}
use Rattle.play_outside.specs.Sink.{Fails}
use Rattle.play_ticker.specs.inner.Writing.{bytes_in}
use Rattle.play_ticker.proofs.Taking.{frames_all, frames_fail, frames_first, frames_next}
use Rattle.play_ticker.proofs.outputs.write_frames.Goals as goal

pub loop-at-init : goal.loop-at-init
loop-at-init g c = frames_first g.O.Sink.state (bytes_in c.args.renderer.now) c.args.outs.now

pub loop-at-preserved : goal.loop-at-preserved
loop-at-preserved g c =
    let bytes : c.frame.result.now ++ c.sound.result.now ≡ bytes_in c.args.renderer.now (c.loop-at.at + 1) = λ i. c.frame.ensures.value i ++ c.sound.ensures.value i in
    let out : g.row.O.Denot = get_or c.loop-at.outs c.from.result c.index-outs-from.result in
    frames_next g.O.Sink.state (bytes_in c.args.renderer.now) c.loop-at.at c.from.result c.args.outs.now c.loop-at.outs out c.write_raw.new.to c.from.ensures
    (ap (λ (d : g.row.O.Denot). get_or c.loop-at.outs c.from.result d) c.index-outs-from.is)
    (c.in-All.ensures ∙ ap (after_taking (g.O.Sink.state out)) bytes)
    c.loop-at.invariant

pub returns-in-Failed-clause-outs : goal.returns-in-Failed-clause-outs
returns-in-Failed-clause-outs g c =
    let bytes : c.frame.result.now ++ c.sound.result.now ≡ bytes_in c.args.renderer.now (c.loop-at.at + 1) = λ i. c.frame.ensures.value i ++ c.sound.ensures.value i in
    let out : g.row.O.Denot = get_or c.loop-at.outs c.from.result c.index-outs-from.result in
    frames_fail g.O.Sink.state (bytes_in c.args.renderer.now) c.loop-at.at c.from.result c.args.outs.now c.loop-at.outs out c.write_raw.new.to c.from.ensures
    (ap (λ (d : g.row.O.Denot). get_or c.loop-at.outs c.from.result d) c.index-outs-from.is)
    (subst (λ (b : List ℕ). Fails b (g.O.Sink.state out) (g.O.Sink.state c.write_raw.new.to)) bytes c.in-Failed.ensures)
    c.loop-at.invariant

pub returns-clause-outs : goal.returns-clause-outs
returns-clause-outs g c = frames_all g.O.Sink.state (bytes_in c.args.renderer.now) c.loop-at.at c.args.outs.now c.loop-at.outs (omega (arith, c.requires.outs)) c.loop-at.invariant
