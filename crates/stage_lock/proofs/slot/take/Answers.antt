use Rattle.std.proofs.Common.{rules, ap, sym, ◌∙◌, ◌∷◌, Some, Option, List, ℕ}
use Rattle.atomic_table.specs.Table.{rest}
use Rattle.stage_core.specs.Stage.{StageView}
use Rattle.stage_lock.specs.Views.{stage_of}
use Rattle.stage_lock.specs.Rule.{Seat}
use Rattle.stage_lock.proofs.Keeps.{takes_turn}
use Rattle.stage_lock.proofs.slot.take.Goals as goal

pub compare_exchange-requires : goal.compare_exchange-requires
compare_exchange-requires g c = (search rules, search rules, takes_turn _ _ _ _ (ap (λ (m : Seat). m.0.is_pass) c.loop.invariant.2 ∙ c.requires.pass))

pub exchange-requires : goal.exchange-requires
exchange-requires g c =
    let t = c.compare_exchange.ensures.2.0 c.if-compare_exchange-eq0.true in
    let e = ap (λ (m : Seat). m.1) t.after in
    let stage : Option StageView = Some (stage_of c.loop.seat.me.0.sizes t.log) in
    (search rules, (stage, e ∙ ap (λ (xs : List (ℕ × Option StageView)). (0, stage) ∷ rest xs) (sym e)))
