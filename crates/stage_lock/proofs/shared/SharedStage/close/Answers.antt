use Rattle.std.proofs.Common.{refl, sym, ap, subst, ◌≡◌, ◌∙◌, ◌∷◌, ◌++◌, [], List, length}
use Rattle.std.specs.Prelude.{option_to_list}
use mathlib.Core.Option.{some}
use lib.ListN.{get_elem?}
use Rattle.atomic_table.proofs.Lists.{at_last, at_longer}
use Rattle.stage_lock.specs.Views.{PassView, SharedView}
use Rattle.stage_lock.proofs.Closing.{closes}
use Rattle.stage_lock.proofs.shared.SharedStage.close.Goals as goal

pub absorb_all-requires-clause-of : goal.absorb_all-requires-clause-of
absorb_all-requires-clause-of g c =
    let rest : List PassView = c.pop.new.self.items in
    let p : PassView = c.unwrap-last.result in
    let at : get_elem? c.args.passes.items (length rest) ≡ some p = subst (λ (l : List PassView). get_elem? l (length rest) ≡ some p) (sym (c.pop.ensures.items ∙ ap (λ o. c.pop.new.self.items ++ option_to_list o) c.unwrap-last.ensures)) (at_last rest p (length rest) refl) in
    ap (λ (x : PassView). x.stage.table_id) c.last.view_is ∙ (ap (λ (s : SharedView). s.table_id) (c.requires.each (length rest) p at) ∙ sym (ap (λ (s : SharedView). s.table_id) c.self.view_is))

pub absorb_all-requires-clause-passes : goal.absorb_all-requires-clause-passes
absorb_all-requires-clause-passes g c k p at =
    let rest : List PassView = c.pop.new.self.items in
    let at' : get_elem? c.args.passes.items k ≡ some p = subst (λ (l : List PassView). get_elem? l k ≡ some p) (sym (c.pop.ensures.items ∙ ap (λ o. c.pop.new.self.items ++ option_to_list o) c.unwrap-last.ensures)) (at_longer rest (c.unwrap-last.result ∷ []) k p at) in
    ap (λ (s : SharedView). s.table_id) (c.requires.each k p at') ∙ sym (ap (λ (s : SharedView). s.table_id) c.self.view_is)

pub take-stage-requires-clause-of : goal.take-stage-requires-clause-of
take-stage-requires-clause-of g c =
    let rest : List PassView = c.pop.new.self.items in
    let p : PassView = c.unwrap-last.result in
    let at : get_elem? c.args.passes.items (length rest) ≡ some p = subst (λ (l : List PassView). get_elem? l (length rest) ≡ some p) (sym (c.pop.ensures.items ∙ ap (λ o. c.pop.new.self.items ++ option_to_list o) c.unwrap-last.ensures)) (at_last rest p (length rest) refl) in
    c.absorb_all.ensures.same ∙ (ap (λ (x : PassView). x.stage.table_id) c.last.view_is ∙ (ap (λ (s : SharedView). s.table_id) (c.requires.each (length rest) p at) ∙ sym (ap (λ (s : SharedView). s.table_id) c.self.view_is)))

pub count-requires-clause-of : goal.count-requires-clause-of
count-requires-clause-of g c =
    let rest : List PassView = c.pop.new.self.items in
    let p : PassView = c.unwrap-last.result in
    let at : get_elem? c.args.passes.items (length rest) ≡ some p = subst (λ (l : List PassView). get_elem? l (length rest) ≡ some p) (sym (c.pop.ensures.items ∙ ap (λ o. c.pop.new.self.items ++ option_to_list o) c.unwrap-last.ensures)) (at_last rest p (length rest) refl) in
    c.take-stage.ensures.same ∙ (c.absorb_all.ensures.same ∙ (ap (λ (x : PassView). x.stage.table_id) c.last.view_is ∙ (ap (λ (s : SharedView). s.table_id) (c.requires.each (length rest) p at) ∙ sym (ap (λ (s : SharedView). s.table_id) c.self.view_is))))

pub returns : goal.returns
returns g c =
    closes c.args.self c.args.passes.items c.pop.new.self.items c.unwrap-last.result c.last.inside.seat.table_id c.last.inside.seat.me.0 c.absorb_all.new.seat.me c.take-stage.new.seat.me c.take-stage.result
    c.requires (c.pop.ensures.items ∙ ap (λ o. c.pop.new.self.items ++ option_to_list o) c.unwrap-last.ensures) c.last.view_is c.absorb_all.ensures.all c.take-stage.ensures.won c.count.ensures.told
