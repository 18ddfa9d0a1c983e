use Rattle.std.proofs.Common.{◌≢◌, inl, inr}
use Rattle.play_types.specs.declared.event.Event.TheVariants.{Tick}
use Rattle.play_recorder.proofs.FrameReplays.{ready_after_event}
use Rattle.play_recorder.proofs.Playing.{next_running, tick_time}
use Rattle.play_recorder.proofs.frame_replay.FrameReplay.event.Goals as goal

pub tick-requires-clause-running : goal.tick-requires-clause-running
tick-requires-clause-running g c κs within = next_running c.args.self.now.played.stage c.args.event.now c.requires.can

pub tick-requires-clause-time : goal.tick-requires-clause-time
tick-requires-clause-time g c κs within = tick_time c.args.self.now.played.stage c.args.event.now c.requires.can c.in-Tick.is

pub returns-in_ok-event-in-Do-clause-ready : goal.returns-in_ok-event-in-Do-clause-ready
returns-in_ok-event-in-Do-clause-ready g c =
    let other : c.args.event.now ≢ Tick = λ same. elim c.in-Do.is [
      | inl command ↦ let is = command.2 in cc
      | inr others ↦ elim others [
        | inl batch ↦ let is = batch.2 in cc
        | inr stop ↦ let is = stop.1 in cc
      ]
    ] in
    ready_after_event c.args.self.now c.event.new.self c.args.event.now other c.requires.ready
    c.in_ok-event-in-Do.ensures.scenes c.in_ok-event-in-Do.ensures.made
