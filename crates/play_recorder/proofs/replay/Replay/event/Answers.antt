use Rattle.std.proofs.Common.{[], ◌∷◌, length, ap, ◌∙◌, subst, sym, arith}
use Rattle.std.proofs.lemmas.List.FromFn.{length-map-range_with_len}
use Rattle.play_types.specs.History.{held_by, ticks}
use Rattle.play_types.specs.declared.event.Event.{Event}
use Rattle.history_model.specs.pictures.Scene.{scene}
use Rattle.history_model.specs.stage.Acts.{is_refused}
use Rattle.stage_core.specs.Stage.{StageView}
use Rattle.play_recorder.specs.Recording.{IsServedEvent}
use Rattle.play_recorder.specs.inner.Replay.{events_in}
use Rattle.play_recorder.proofs.Playing.{batch_filled, next_room, next_running, next_served, next_time}
use Rattle.play_recorder.proofs.Refusals.{refusal-stop, refusal-tick}
use Rattle.play_recorder.proofs.replay.Replay.event.Goals as goal

pub apply-requires-clause-running : goal.apply-requires-clause-running
apply-requires-clause-running c = next_running c.args.self.now.stage c.args.event.now c.requires.can

pub apply-requires-clause-served : goal.apply-requires-clause-served
apply-requires-clause-served c =
    subst (IsServedEvent c.args.self.now.stage.channels) c.in-Do.is (next_served c.args.self.now.stage c.args.event.now c.requires.can)

pub apply-requires-clause-room : goal.apply-requires-clause-room
apply-requires-clause-room c =
    let room = next_room c.args.self.now.stage c.args.event.now c.requires.can in
    let one = ap held_by c.in-Do.is in
    omega (arith, room, one)

pub apply_batch-requires-clause-running : goal.apply_batch-requires-clause-running
apply_batch-requires-clause-running c = next_running c.args.self.now.stage c.args.event.now c.requires.can

pub apply_batch-requires-clause-some : goal.apply_batch-requires-clause-some
apply_batch-requires-clause-some c =
    batch_filled c.args.self.now.stage.journal.events c.in-Batch.tag c.in-Batch.cmds (rw c.in-Batch.is at c.requires.can.history)

pub apply_batch-requires-clause-served : goal.apply_batch-requires-clause-served
apply_batch-requires-clause-served c =
    subst (IsServedEvent c.args.self.now.stage.channels) c.in-Batch.is (next_served c.args.self.now.stage c.args.event.now c.requires.can)

pub apply_batch-requires-clause-room : goal.apply_batch-requires-clause-room
apply_batch-requires-clause-room c =
    let room = next_room c.args.self.now.stage c.args.event.now c.requires.can in
    let many = ap held_by c.in-Batch.is in
    omega (arith, room, many)

pub tick-requires-clause-running : goal.tick-requires-clause-running
tick-requires-clause-running c = next_running c.args.self.now.stage c.args.event.now c.requires.can

pub tick-requires-clause-time : goal.tick-requires-clause-time
tick-requires-clause-time c =
    let time = next_time c.args.self.now.stage c.args.event.now c.requires.can in
    let one = ap (λ (event : Event). ticks (event ∷ [])) c.in-Tick.is in
    omega (arith, time, one)

pub stop-requires : goal.stop-requires
stop-requires c = next_running c.args.self.now.stage c.args.event.now c.requires.can

pub returns-in-Tick-clause-scenes : goal.returns-in-Tick-clause-scenes
returns-in-Tick-clause-scenes c =
    let old = c.args.self.now in
    ap length c.tick.ensures.scenes ∙ length-map-range_with_len (scene (events_in old)) 1 old.stage.channels
    ∙ sym (ap (λ (stage : StageView). stage.channels) c.tick.ensures.made)

pub returns-in-Tick-clause-answer : goal.returns-in-Tick-clause-answer
returns-in-Tick-clause-answer c =
    refusal-tick (events_in c.args.self.now) ∙ ap (is_refused (events_in c.args.self.now)) (sym c.in-Tick.is)

pub returns-in-Stop-clause-answer : goal.returns-in-Stop-clause-answer
returns-in-Stop-clause-answer c =
    refusal-stop (events_in c.args.self.now) c.in-Stop.tag ∙ ap (is_refused (events_in c.args.self.now)) (sym c.in-Stop.is)
