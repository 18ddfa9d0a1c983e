use Rattle.std.proofs.Common.{◌∙◌, arith}
use Rattle.std.proofs.lemmas.Result.{err_from_is_err_and}
use Rattle.cue_player.proofs.PlayedLines.{all_played, halts_at_step, lines_left, no_memory_left, step_shorter, ticks_left, up_to_first, up_to_next}
use Rattle.cue_player.proofs.planning.SheetPlayer.play_steps.Goals as goal

pub loop-step-init : goal.loop-step-init
loop-step-init g c = record {
  ready = c.requires.ready;
  frames = c.requires.frames;
  shown = c.requires.shown;
  time = c.requires.time;
  lines = c.requires.lines;
  plays = λ run had. up_to_first run _ _ _ had;
}

pub play_step-requires-clause-time : goal.play_step-requires-clause-time
play_step-requires-clause-time g c =
    let before = c.loop-step.invariant.time in
    let taken = ticks_left c.loop-step.steps c.next.new.self c.in-Some.step (rw c.in-Some.is at c.in_ok-step.ensures.ok) in
    omega (arith, before, taken)

pub play_step-requires-clause-line : goal.play_step-requires-clause-line
play_step-requires-clause-line g c =
    (lines_left c.loop-step.steps c.next.new.self c.in-Some.step (rw c.in-Some.is at c.in_ok-step.ensures.ok) c.loop-step.invariant.lines).0

pub loop-step-preserved : goal.loop-step-preserved
loop-step-preserved g c =
    let before = c.loop-step.invariant in
    let step = c.in-Some.step in
    let takes = rw c.in-Some.is at c.in_ok-step.ensures.ok in
    let time = before.time in
    let taken = ticks_left c.loop-step.steps c.next.new.self step takes in
    let made = c.in_ok-play_step.ensures.ticks in
    record {
      ready = c.in_ok-play_step.ensures.ready;
      frames = c.play_step.ensures.told ∙ before.frames;
      shown = c.in_ok-play_step.ensures.shown;
      time = omega (arith, time, taken, made);
      lines = (lines_left c.loop-step.steps c.next.new.self step takes before.lines).1;
      plays = λ run had.
          let upto = before.plays run had in
          up_to_next run _ c.loop-step.steps c.next.new.self c.loop-step.self.player _ _ upto step takes c.play_step.new.self.player
          (c.in_ok-play_step.ensures.plays run upto.lines upto.plays);
    }

pub loop-step-smaller : goal.loop-step-smaller
loop-step-smaller g c = step_shorter c.loop-step.steps c.next.new.self c.in-Some.step (rw c.in-Some.is at c.in_ok-step.ensures.ok)

pub returns-in_err-step : goal.returns-in_err-step
returns-in_err-step g c = λ run had.
    let p = err_from_is_err_and c.from_residual.result c.from_residual.ensures.1 in
    rw (p.1, p.2) (no_memory_left run _ c.loop-step.steps c.next.new.self c.loop-step.self.player (g.K.Sink.state c.loop-step.out) (g.K.Sink.state c.loop-step.out)
    (c.loop-step.invariant.plays run had))

pub returns-in_err-play_step : goal.returns-in_err-play_step
returns-in_err-play_step g c = λ run had.
    let p = err_from_is_err_and c.from_residual-in_err-play_step.result c.from_residual-in_err-play_step.ensures.1 in
    let upto = c.loop-step.invariant.plays run had in
    let takes = rw c.in-Some.is at c.in_ok-step.ensures.ok in
    rw (p.1, p.2)
    (halts_at_step run _ c.loop-step.steps c.next.new.self c.loop-step.self.player _ _ upto c.in-Some.step takes c.in_err-play_step.field-0.0
    (c.in_err-play_step.ensures.plays run upto.lines upto.plays))

pub returns : goal.returns
returns g c = λ run had.
    all_played run _ c.loop-step.steps c.next.new.self c.loop-step.self.player (g.K.Sink.state c.loop-step.out) (g.K.Sink.state c.loop-step.out)
    (c.loop-step.invariant.plays run had) (rw c.in_default.is at c.in_ok-step.ensures.ok).0
