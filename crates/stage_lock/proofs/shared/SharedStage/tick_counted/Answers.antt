use Rattle.std.proofs.Common.{◌≡◌, ◌∙◌, List, ap, inl, map, subst, ℕ, ◌+◌}
use Rattle.std.specs.Prelude.{Result, Ok, Err, IfErr, IfOk, MatchResult, OnOk}
use Rattle.std.proofs.lemmas.Result.{IfErr-weaker, IfOk-weaker, on_ok_weaker}
use Rattle.std.specs.List.{range_with_len}
use Rattle.history_model.specs.pictures.Scene.{scene}
use Rattle.play_types.specs.History.{held, ticks}
use Rattle.play_types.specs.declared.drawn.Drawn.{Drawn}
use Rattle.play_types.specs.declared.event.Event.{Event}
use Rattle.play_types.specs.declared.event.Event.TheVariants.{Tick}
use Rattle.play_journal.specs.Journal.{JournalView}
use Rattle.stage_core.specs.Stage.{HasTime, IsNoTick}
use Rattle.stage_core.specs.declared.fault.TickFault.{TickFault}
use Rattle.stage_lock.specs.Own.{is_own}
use Rattle.stage_lock.specs.Views.{PassView, SharedView, Sizes, journal_of, whole}
use Rattle.stage_lock.specs.declared.ticked.Ticked.{Ticked}
use Rattle.stage_lock.specs.Calls.{Adds, IsCounted, Looks}
use Rattle.stage_lock.specs.Seats.{pass_view}
use Rattle.stage_lock.proofs.Calls.{called_at, channels_are, events_are, holds_event, journal_is, stays}
use Rattle.stage_lock.proofs.shared.SharedStage.tick_counted.Goals as goal

-- the tick is the pass's own
pub put_back-requires-clause-event : goal.put_back-requires-clause-event
put_back-requires-clause-event g c =
    let seat = c.pass.inside.seat in
    let first : seat.me.0.number ≡ 0 = ap (λ (p : PassView). p.number) c.pass.view_is ∙ c.requires.first in
    holds_event seat.me c.take-stage.new.seat.me c.take-stage.result c.tick-ticked.new.self c.tick-ticked.result c.take-stage.ensures.won
    Tick c.tick-ticked.ensures.journal (inl (ap (λ (n : ℕ). is_own n Tick) first))

pub put_back-requires-clause-stage : goal.put_back-requires-clause-stage
put_back-requires-clause-stage g c =
    stays c.pass.inside.seat.me c.take-stage.new.seat.me c.take-stage.result c.tick-ticked.new.self c.tick-ticked.result c.take-stage.ensures.won c.tick-ticked.ensures.err

-- the number of a tick, and how many commands were held before it
abbrev with_held : ℕ → ℕ → Ticked
with_held commands number = record { number = number; held = commands }

-- a tick that was taken after a history
ticked : (sizes : Sizes) (history : List Event) (drawn : List (List Drawn)) (commands : ℕ) (called : Result ℕ TickFault) → commands ≡ held (whole sizes history)
    → OnOk called (HasTime (journal_of sizes history)) → IfOk called (λ number. number ≡ ticks (whole sizes history) + 1)
    → OnOk called (drawn ≡ map (scene (whole sizes history)) (range_with_len 1 sizes.channels)) → IfOk called (λ number. IsCounted sizes (with_held commands number) drawn history)
ticked sizes history drawn commands (Ok number) many time is scenes = record { tick = record { time = time; number = is; scenes = scenes }; held = many }
ticked sizes history drawn commands (Err fault) many time is scenes = tt

pub returns-clause-call : goal.returns-clause-call
returns-clause-call g c =
    let sizes : Sizes = c.args.self.now.sizes in
    let seat = c.pass.inside.seat in
    let last = c.put_back.new.seat in
    let drawn : List (List Drawn) = c.tick-ticked.new.scenes in
    let commands : ℕ = c.held-held.result in
    let called : Result ℕ TickFault = c.tick-ticked.result in
    let won = c.take-stage.ensures.won in
    let history : List Event = won.log in
    let same : seat.me.0.sizes ≡ sizes = ap (λ (p : PassView). p.stage.sizes) c.pass.view_is ∙ ap (λ (s : SharedView). s.sizes) c.requires.of in
    let events : c.take-stage.result.journal.events ≡ whole sizes history = events_are seat.me c.take-stage.new.seat.me c.take-stage.result sizes won same in
    let many : commands ≡ held (whole sizes history) = c.held-held.ensures.value ∙ (ap (λ (j : JournalView). held j.events) c.journal.ensures ∙ ap held events) in
    let told : IfOk called (λ number. IsCounted sizes (with_held commands number) drawn history) =
    ticked sizes history drawn commands called many
    (on_ok_weaker called (subst HasTime (journal_is seat.me c.take-stage.new.seat.me c.take-stage.result sizes won same)) c.tick-ticked.ensures.time)
    (IfOk-weaker called _ _ (λ number is. is ∙ ap (λ (es : List Event). ticks es + 1) events) c.tick-ticked.ensures.number)
    (on_ok_weaker called
    (λ are. are ∙ (λ i. map (scene (events i)) (range_with_len 1 (channels_are seat.me c.take-stage.new.seat.me c.take-stage.result sizes won same i)))) c.tick-ticked.ensures.scenes) in
    let refused : IfErr called (λ fault. IsNoTick (journal_of sizes history) fault) =
    IfErr-weaker called _ _ (λ fault. subst (λ (j : JournalView). IsNoTick j fault) (journal_is seat.me c.take-stage.new.seat.me c.take-stage.result sizes won same)) c.tick-ticked.ensures.fault in
    subst (λ (r : Result ℕ TickFault). MatchResult r (λ number. Adds c.args.pass.now Tick (IsCounted sizes (with_held commands number) drawn) (pass_view last.table_id last.me.0))
    (λ fault. Looks c.args.pass.now (λ history. IsNoTick (journal_of sizes history) fault) (pass_view last.table_id last.me.0))) c.in_ok-number.was
    (subst (λ (p : PassView). MatchResult c.put_back.result (λ number. Adds p Tick (IsCounted sizes (with_held commands number) drawn) (pass_view last.table_id last.me.0))
    (λ fault. Looks p (λ history. IsNoTick (journal_of sizes history) fault) (pass_view last.table_id last.me.0))) c.pass.view_is
    (called_at seat.me c.take-stage.new.seat.me c.take-stage.result c.tick-ticked.new.self called won
    seat.table_id last.table_id last.me Tick (λ number. IsCounted sizes (with_held commands number) drawn) (λ fault history. IsNoTick (journal_of sizes history) fault) c.put_back.result
    (c.put_back.ensures.same ∙ c.take-stage.ensures.same) c.put_back.ensures.result
    c.tick-ticked.ensures.journal c.put_back.ensures.entered c.put_back.ensures.kept told refused))
