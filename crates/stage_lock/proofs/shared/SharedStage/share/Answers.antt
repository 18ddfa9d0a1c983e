use Rattle.std.proofs.Common.{rules, arith, ◌≡◌, List, [], ◌∷◌, Option, Some, sym, subst}
use Rattle.atomic_table.specs.Table.{opening}
use Rattle.stage_core.specs.Stage.{StageView}
use Rattle.stage_lock.specs.Seats.{first_view}
use Rattle.stage_lock.specs.Rule.{Ruled}
use Rattle.stage_lock.specs.Views.{sizes_of}
use Rattle.stage_lock.proofs.Keeps.{opens}
use Rattle.stage_lock.proofs.shared.SharedStage.share.Goals as goal

-- the rule holds of the table with the stage at home
pub new-requires : goal.new-requires
new-requires c =
    let stage : StageView = c.args.stage in
    let items : c.push_reserved.new.self.items ≡ Some stage ∷ [] = search rules in
    let same : c.of.result.value ≡ stage = search rules in
    let first : Ruled (sizes_of stage c.args.passes) (opening (0 ∷ 0 ∷ []) (Some stage ∷ []) (first_view (sizes_of stage c.args.passes))) =
    opens stage c.args.passes (omega (arith, c.requires.passes.0)) in
    let sized : Ruled (sizes_of c.of.result.value c.args.passes) (opening (0 ∷ 0 ∷ []) (Some stage ∷ []) (first_view (sizes_of c.of.result.value c.args.passes))) =
    subst (λ (s : StageView). Ruled (sizes_of s c.args.passes) (opening (0 ∷ 0 ∷ []) (Some stage ∷ []) (first_view (sizes_of s c.args.passes)))) (sym same) first in
    subst (λ (xs : List (Option StageView)). Ruled (sizes_of c.of.result.value c.args.passes) (opening (0 ∷ 0 ∷ []) xs (first_view (sizes_of c.of.result.value c.args.passes)))) (sym items) sized
