use Rattle.std.proofs.Common.{◌≢◌, inl, inr}
use Rattle.play_types.specs.declared.event.Event.TheVariants.{Tick}
use Rattle.play_recorder.proofs.DepthReplays.{known_after_event}
use Rattle.play_recorder.proofs.Playing.{next_running, tick_time}
use Rattle.play_recorder.proofs.last_replay.LastReplay.event.Goals as goal

pub tick-requires-clause-running : goal.tick-requires-clause-running
tick-requires-clause-running g c κs within = next_running c.args.self.now.frames.played.stage c.args.event.now c.requires.can

pub tick-requires-clause-time : goal.tick-requires-clause-time
tick-requires-clause-time g c κs within = tick_time c.args.self.now.frames.played.stage c.args.event.now c.requires.can c.in-Tick.is

pub returns-in_ok-event-in-Do-clause-depths : goal.returns-in_ok-event-in-Do-clause-depths
returns-in_ok-event-in-Do-clause-depths g c =
    let other : c.args.event.now ≢ Tick = λ same. elim c.in-Do.is [
      | inl command ↦ let is = command.2 in cc
      | inr others ↦ elim others [
        | inl batch ↦ let is = batch.2 in cc
        | inr stop ↦ let is = stop.1 in cc
      ]
    ] in
    known_after_event (record { played = c.args.self.now.frames.played; depths = c.args.self.now.depths }) c.event.new.self.played c.args.event.now other c.requires.depths
    c.in_ok-event-in-Do.ensures.ready.scenes c.in_ok-event-in-Do.ensures.follows.stage
