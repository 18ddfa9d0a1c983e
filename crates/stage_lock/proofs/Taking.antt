-- A pass takes in others.
use Rattle.std.proofs.Common.{zero, suc, ◌≡◌, ℕ, List, [], ◌∷◌, map, sym, ap, subst, ◌∙◌}
use mathlib.Core.List.{IsPrefix}
use mathlib.Core.Option.{some, some-injective, some-ne-none}
use lib.ListN.{get_elem?}
use Rattle.atomic_table.specs.Seated.{TableId}
use Rattle.play_types.specs.declared.event.Event.{Event}
use Rattle.stage_lock.specs.Views.{PassView}
use Rattle.stage_lock.specs.Calls.{longer}
use Rattle.stage_lock.specs.Seats.{KeptPass, SeatView, kept_of, kept_seat, pass_view}
use Rattle.stage_lock.specs.Steps.{HasAbsorbed, HasTaken}
use Rattle.stage_lock.proofs.Prefixes.{prefix_self, prefix_trans}

pub taken_none : (v : SeatView) → v.kept ≡ [] → HasTaken [] v v
taken_none v none_kept = record {
  after = λ i. record v { kept = none_kept i };
  seen = prefix_self v.seen;
  each = λ i p e. absurd (some-ne-none p (sym e));
}

pub taken_more : (t : TableId) (done : List PassView) (v u w w' : SeatView) (p : PassView) → HasTaken done v w → pass_view t u ≡ p → HasAbsorbed w u w' → HasTaken (p ∷ done) v w'
taken_more t done v u w w' p h is a =
    let all : List Event = longer w.seen u.seen in
    let kept : List KeptPass = kept_seat u ∷ w.kept in
    let seen_is : all ≡ w'.seen = sym (ap (λ (x : SeatView). x.seen) a.after) in
    let kept_is : kept ≡ kept_of p ∷ map kept_of done = λ i. kept_of (is i) ∷ (h.after i).kept in
    record {
      after = a.after ∙ ((λ i. record (h.after i) { seen = all; kept = kept }) ∙ (λ i. record v { seen = seen_is i; kept = kept_is i }));
      seen = prefix_trans v.seen w.seen w'.seen h.seen a.own;
      each = each;
    }
  where
    each : (i : ℕ) (q : PassView) → get_elem? (p ∷ done) i ≡ some q → IsPrefix q.seen w'.seen
    each zero q at = subst (λ (x : PassView). IsPrefix x.seen w'.seen) (is ∙ some-injective p q at) a.other
    each (suc i) q at = prefix_trans q.seen w.seen w'.seen (h.each i q at) a.own
