use Rattle.std.proofs.Common.{ap, ◌∙◌, subst, sym, arith}
use Rattle.stage_core.specs.Stage.{StageView}
use Rattle.play_recorder.specs.Finder.{Represents}
use Rattle.play_recorder.specs.inner.Replay.{events_in}
use Rattle.play_recorder.proofs.Playing.{next_can, one_played, tick_time}
use Rattle.play_recorder.proofs.finding.film_in.Goals as goal

pub event-requires-clause-can : goal.event-requires-clause-can
event-requires-clause-can c =
    next_can c.args.replay.now.stage c.args.journal.now.events c.loop-event.replay.stage c.in-Some.event.now c.next.new.self
    (rw c.in-Some.ensures.steps at c.loop-event.invariant.played) c.requires.can

pub event-requires-in-loop-event : goal.event-requires-in-loop-event
event-requires-in-loop-event c is =
    let now = c.loop-event.replay.stage in
    let next = next_can c.args.replay.now.stage c.args.journal.now.events now c.in-Some.event.now c.next.new.self
    (rw c.in-Some.ensures.steps at c.loop-event.invariant.played) c.requires.can in
    let time = tick_time now c.in-Some.event.now next is in
    let known = c.loop-event.invariant.represents.ticks in
    omega (arith, time, known)

pub loop-event-preserved : goal.loop-event-preserved
loop-event-preserved c =
    let before = c.loop-event.invariant in
    let made = c.in_ok-answer.ensures.made in
    record {
      scenes = c.in_ok-answer.ensures.scenes;
      played = one_played c.args.replay.now.stage c.args.journal.now.events c.loop-event.replay.stage c.in-Some.event.now c.next.new.self
          (rw c.in-Some.ensures.steps at before.played) c.event.new.self.stage made;
      name = c.event-in-loop-event.ensures.name ∙ before.name;
      represents = subst (Represents c.event-in-loop-event.new.self) (sym (ap (λ (stage : StageView). stage.journal.events) made))
          (c.event-in-loop-event.ensures.represents (events_in c.loop-event.replay) before.represents c.in_ok-answer.ensures.answer);
    }
