-- Events that the stage takes while a player can go on.
use Rattle.std.proofs.Common.{◌≡◌, ℕ, ◌<◌, true, List, refl, sym, ◌∙◌, subst, arith}
use Rattle.std.specs.Prelude.{Err, IfErr, IfOk, None, Ok, OnOk, Result, Some}
use Rattle.std.specs.Result.{is_ok}
use Rattle.std.proofs.lemmas.Option.{none-some}
use Rattle.play_types.specs.History.{stop_at, ticks}
use Rattle.play_types.specs.declared.event.Event.{Event}
use Rattle.play_types.specs.declared.event.TheConstants.{MAX_TICKS}
use Rattle.stage_core.specs.Stage.{IsNoTick, StageView}
use Rattle.stage_core.specs.declared.fault.Ended.{Ended}
use Rattle.stage_core.specs.declared.fault.TickFault.{TickFault}
use Rattle.stage_core.specs.declared.fault.TickFault.TheVariants as tick

-- what a result promises for `Ok` holds if it is `Ok`
pub from_ok : {T E A : Type 0} (result : Result T E) (value : T) → result ≡ Ok value → OnOk result A → A
from_ok (Ok other) value is holds = holds
from_ok (Err fault) value is holds = cc

pub from_if : {T E : Type 0} (P : T → Type 0) (result : Result T E) (value : T) → result ≡ Ok value → IfOk result P → P value
from_if P result value is holds = subst (λ r. IfOk r P) is holds

-- what holds in any case holds if a result is `Ok`
pub always : {T E A : Type 0} (result : Result T E) → A → OnOk result A
always (Ok value) holds = holds
always (Err fault) holds = tt

-- a tick is taken if the history has no stop and may have more ticks
pub tick_taken : (stage : StageView) (result : Result ℕ TickFault) → IfErr result (λ fault. IsNoTick stage.journal fault)
    → stop_at stage.journal.events ≡ None → ticks stage.journal.events < MAX_TICKS → is_ok result ≡ true
tick_taken stage (Ok number) cause running time = refl
tick_taken stage (Err (tick.Ended at)) cause running time = absurd (none-some at (sym running ∙ cause))
tick_taken stage (Err tick.TicksOver) cause running time = absurd (let many = cause.1 in omega (arith, many, time))

-- a stop is taken if the history has none
pub stop_taken : (events : List Event) (result : Result ℕ Ended) → IfErr result (λ ended. stop_at events ≡ Some ended.at) → stop_at events ≡ None → is_ok result ≡ true
stop_taken events (Ok number) cause running = refl
stop_taken events (Err ended) cause running = absurd (none-some ended.at (sym running ∙ cause))
