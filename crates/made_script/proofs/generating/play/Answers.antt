use Rattle.std.proofs.Common.{◌≡◌, refl, ap, ◌∙◌, arith}
use Rattle.std.specs.Prelude.{Some, codes}
use Rattle.std.proofs.lemmas.Result.{err_from_is_err_and}
use Rattle.history_model.proofs.Generated.{no_end, tick_line}
use Rattle.history_model.specs.scripts.Generator.{step_lines}
use Rattle.made_script.proofs.MadeScripts.{ends_at_step, last_tick, no_steps, step_drawn_on, step_line, step_made, step_taken}
use Rattle.made_script.proofs.generating.play.Goals as goal

pub loop-step-init : goal.loop-step-init
loop-step-init g c =
    let first = no_steps c.args.seed c.new-generator.result.state c.args.run.now c.requires.made c.new-generator.ensures in
    record {
      ready = c.requires.ready;
      frames = c.requires.frames;
      shown = c.requires.shown;
      ticks = omega (arith, c.requires.no_ticks);
      few = omega (arith, c.requires.none_refused);
      made = first.0;
      state = first.1;
    }

pub loop-step-preserved : goal.loop-step-preserved
loop-step-preserved g c =
    let old = c.loop-step.invariant in
    let line = c.as_slice.ensures.value ∙ step_taken c.args.seed c.loop-step._step c.loop-step.generator.state _ _ c.send_line.new.to.taken.items old.state
    (ap Some c.new-line.ensures.taken) refl c.in-All.ensures.line in
    let made = c.in_ok-take_line.ensures.takes (step_lines c.loop-step._step c.args.seed) old.made in
    let more = c.in_ok-take_line.ensures.ticks in
    let refused = c.in_ok-take_line.ensures.few in
    let ticks = old.ticks in
    let few = old.few in
    record {
      ready = c.in_ok-take_line.ensures.ready;
      frames = c.take_line.ensures.told ∙ old.frames;
      shown = c.in_ok-take_line.ensures.shown;
      ticks = omega (arith, more, ticks);
      few = omega (arith, refused, few);
      made = step_made _ c.args.seed c.loop-step._step _ 0 c.take_line.new.self refl line made;
      state = step_drawn_on c.args.seed c.loop-step._step _ c.loop-step.generator.state c.send_line.new.self.state refl old.state c.send_line.ensures.state;
    }

pub take_line-requires-clause-one_line : goal.take_line-requires-clause-one_line
take_line-requires-clause-one_line g c =
    let line = c.as_slice.ensures.value ∙ step_taken c.args.seed c.loop-step._step c.loop-step.generator.state _ _ c.send_line.new.to.taken.items c.loop-step.invariant.state
    (ap Some c.new-line.ensures.taken) refl c.in-All.ensures.line in
    no_end _ (step_line _ c.args.seed c.loop-step._step line)

pub take_line-requires-clause-short : goal.take_line-requires-clause-short
take_line-requires-clause-short g c =
    let line = c.as_slice.ensures.value ∙ step_taken c.args.seed c.loop-step._step c.loop-step.generator.state _ _ c.send_line.new.to.taken.items c.loop-step.invariant.state
    (ap Some c.new-line.ensures.taken) refl c.in-All.ensures.line in
    (step_line _ c.args.seed c.loop-step._step line).short

pub take_line-requires-clause-accepted : goal.take_line-requires-clause-accepted
take_line-requires-clause-accepted g c =
    let line = c.as_slice.ensures.value ∙ step_taken c.args.seed c.loop-step._step c.loop-step.generator.state _ _ c.send_line.new.to.taken.items c.loop-step.invariant.state
    (ap Some c.new-line.ensures.taken) refl c.in-All.ensures.line in
    (step_line _ c.args.seed c.loop-step._step line).accepted

pub returns-in_err-take_line : goal.returns-in_err-take_line
returns-in_err-take_line g c =
    let line = c.as_slice.ensures.value ∙ step_taken c.args.seed c.loop-step._step c.loop-step.generator.state _ _ c.send_line.new.to.taken.items c.loop-step.invariant.state
    (ap Some c.new-line.ensures.taken) refl c.in-All.ensures.line in
    let p = err_from_is_err_and c.from_residual.result c.from_residual.ensures.1 in
    rw (p.1, p.2)
    (ends_at_step _ c.args.seed c.args.steps c.loop-step._step c.in_err-take_line.field-0.0 c.take_line.new.self c.loop-step-test.true line
    (c.in_err-take_line.ensures.takes (step_lines c.loop-step._step c.args.seed) c.loop-step.invariant.made))

pub take_line-requires-2-clause-accepted : goal.take_line-requires-2-clause-accepted
take_line-requires-2-clause-accepted g c = tick_line.accepted

pub returns : goal.returns
returns g c =
    let done : c.loop-step._step ≡ c.args.steps = omega arith in
    last_tick (codes "T") c.args.seed c.args.steps c.take_line-2.result c.take_line-2.new.self refl
    (rw done at (c.take_line-2.ensures.takes (step_lines c.loop-step._step c.args.seed) c.loop-step.invariant.made))
