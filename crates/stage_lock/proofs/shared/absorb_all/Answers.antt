use Rattle.std.proofs.Common.{refl, sym, ap, subst, ◌≡◌, ◌∙◌, ◌++◌, ◌∷◌, [], List, length, append_assoc, ℕ}
use mathlib.Core.Option.{some}
use lib.ListN.{get_elem?}
use Rattle.atomic_table.proofs.Lists.{at_last, at_longer}
use Rattle.stage_lock.specs.Views.{PassView}
use Rattle.stage_lock.proofs.Taking.{taken_more}
use Rattle.stage_lock.proofs.shared.absorb_all.Goals as goal

pub absorb-requires-clause-of : goal.absorb-requires-clause-of
absorb-requires-clause-of c =
    let t = c.loop-pass.invariant.taken in
    let rest : List PassView = c.pop.new.self.items in
    let p : PassView = c.in-Some.pass in
    let k : ℕ = length rest in
    let items : c.loop-pass.passes.items ≡ rest ++ p ∷ [] = c.in-Some.ensures.items in
    let at : get_elem? c.args.passes.items k ≡ some p = subst (λ (l : List PassView). get_elem? l k ≡ some p) (sym t.1) (at_longer c.loop-pass.passes.items t.0 k p (subst (λ (l : List PassView). get_elem? l k ≡ some p) (sym items) (at_last rest p k refl))) in
    (c.loop-pass.invariant.of ∙ c.requires.of, ap (λ (x : PassView). x.stage.table_id) c.pass.view_is ∙ c.requires.passes k p at)

pub loop-pass-preserved : goal.loop-pass-preserved
loop-pass-preserved c =
    let t = c.loop-pass.invariant.taken in
    let rest : List PassView = c.pop.new.self.items in
    let p : PassView = c.in-Some.pass in
    let items : c.loop-pass.passes.items ≡ rest ++ p ∷ [] = c.in-Some.ensures.items in
    record {
      of = c.absorb.ensures.same ∙ c.loop-pass.invariant.of;
      free = c.absorb.ensures.slots ∙ c.loop-pass.invariant.free;
      taken = (
        p ∷ t.0,
        t.1 ∙ (ap (λ (l : List PassView). l ++ t.0) items ∙ append_assoc rest (p ∷ []) t.0),
        taken_more c.pass.inside.seat.table_id t.0 c.args.seat.now.me.0 c.pass.inside.seat.me.0 c.loop-pass.seat.me.0 c.absorb.new.seat.me.0 p t.2 c.pass.view_is c.absorb.ensures.absorbed,
      );
    }
