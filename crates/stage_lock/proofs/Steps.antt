-- The seat of a pass after the steps of a call.
use Rattle.std.proofs.Common.{◌≡◌, ℕ, ◌+◌, ◌%◌, ◌^◌, ◌<◌, List, [], ◌∷◌, ◌++◌, length, Option, Some, None, refl, sym, ap, ◌∙◌, subst, arith, length-append}
use mathlib.Core.Option.{some, none}
use mathlib.Core.List.{IsPrefix}
use lib.ListN.{get_elem?}
use Rattle.atomic_table.specs.Table.{step, Allows, rest}
use Rattle.play_types.specs.declared.event.Event.{Event}
use Rattle.stage_core.specs.Stage.{StageView}
use Rattle.stage_lock.specs.Views.{Sizes, stage_of, whole}
use Rattle.stage_lock.specs.Calls.{longer}
use Rattle.stage_lock.specs.Seats.{KeptPass, SeatView, absorbed, grown, holding, kept_seat, met, released, settled}
use Rattle.stage_lock.specs.Rule.{Enters, EntersEvent, GivesTurn, Ruled, Seat, Settles, TakesTurn, journal_in}
use Rattle.stage_lock.specs.Steps.{HasAbsorbed, HasEntered, HasEvent, HasMet, HasWon, IsOut}
use Rattle.stage_lock.proofs.Keeps.{enters, gives_turn}

-- the event of a stage that was put back has entered the history
record HasGrown (m n : Seat) (c : StageView) : Type 0 where
  pub log : List Event
  pub whole : c ≡ stage_of m.0.sizes log
  pub after : n ≡ (grown m.0 log, (0, Some c) ∷ [])

grown_with : (m m' n : Seat) (c : StageView) → IsOut m → m' ≡ (m.0, (0, Some c) ∷ rest m.1) → Enters m' n → HasEvent m.0 c → HasGrown m n c
grown_with m m' n c out same entered h =
    let same' : m' ≡ (m.0, (0, Some c) ∷ []) = same ∙ ap (λ (xs : List (ℕ × Option StageView)). (m.0, (0, Some c) ∷ rest xs)) out.slot in
    let log : List Event = entered.log in
    let events : c.journal.events ≡ whole m.0.sizes log =
    sym (ap (λ (x : Seat). journal_in x.1) same') ∙ (entered.journal ∙ ap (λ (x : Seat). whole x.0.sizes log) same') in
    record {
      log = log;
      whole = λ i. record { journal = record { limit = (h.whole i).journal.limit; events = events i }; channels = (h.whole i).channels };
      after = entered.after ∙ ap (λ (x : Seat). (grown x.0 log, x.1)) same';
    }

module _ (sizes : Sizes) where
  -- the turn may be given up after the stage was put back
  pub gives_as : (slots id : ℕ) (m m' : Seat) (c : StageView) → 0 < slots → IsOut m → m' ≡ (m.0, (0, Some c) ∷ rest m.1) → c ≡ stage_of m.0.sizes m.0.seen
      → Allows (Ruled sizes) slots id m' 1 (λ _. 0) (λ _. GivesTurn (step slots 1 0 0 none) m' 0)
  gives_as slots id m m' c some_slot out e is =
      let e' : m' ≡ (m.0, (0, Some c) ∷ []) = e ∙ ap (λ (xs : List (ℕ × Option StageView)). (m.0, (0, Some c) ∷ rest xs)) out.slot in
      subst (λ (x : Seat). Allows (Ruled sizes) slots id x 1 (λ _. 0) (λ _. GivesTurn (step slots 1 0 0 none) x 0)) (sym e')
      (gives_turn sizes slots id (m.0, (0, Some c) ∷ []) some_slot out.pass out.holds (ap (λ (x : StageView). (0, Some x) ∷ []) is))

  -- the event may enter after the stage was put back with it
  pub enters_as : (slots id : ℕ) (m m' : Seat) (c : StageView) → IsOut m → m' ≡ (m.0, (0, Some c) ∷ rest m.1) → HasEvent m.0 c
      → length c.journal.events < 1125899906842624 → Allows (Ruled sizes) slots id m' 0 (λ n. (n + 1) % 2 ^ 64) (EntersEvent (step slots 0 1 0 none) m')
  enters_as slots id m m' c out same h short =
      let e = h.event in
      let same' : m' ≡ (m.0, (0, Some c) ∷ []) = same ∙ ap (λ (xs : List (ℕ × Option StageView)). (m.0, (0, Some c) ∷ rest xs)) out.slot in
      let es : c.journal.events ≡ whole m.0.sizes (m.0.seen ++ e ∷ []) = ap (λ (x : StageView). x.journal.events) h.whole in
      let small : length m.0.seen + 1 < 18446744073709551616 =
      omega (arith, ap length es, length-append m.0.sizes.given (m.0.seen ++ e ∷ []), length-append m.0.seen (e ∷ [])) in
      subst (λ (x : Seat). Allows (Ruled sizes) slots id x 0 (λ n. (n + 1) % 2 ^ 64) (EntersEvent (step slots 0 1 0 none) x)) (sym same')
      (enters sizes slots id (m.0, (0, Some c) ∷ []) e out.pass out.holds es small h.own)

  -- the turn may be given up after the event has entered
  pub gives_after : (slots id : ℕ) (m m' m'' : Seat) (c : StageView) → 0 < slots → IsOut m → m' ≡ (m.0, (0, Some c) ∷ rest m.1) → Enters m' m'' → HasEvent m.0 c
      → Allows (Ruled sizes) slots id m'' 1 (λ _. 0) (λ _. GivesTurn (step slots 1 0 0 none) m'' 0)
  gives_after slots id m m' m'' c some_slot out same entered h =
      let t : HasGrown m m'' c = grown_with m m' m'' c out same entered h in
      subst (λ (x : Seat). Allows (Ruled sizes) slots id x 1 (λ _. 0) (λ _. GivesTurn (step slots 1 0 0 none) x 0)) (sym t.after)
      (gives_turn sizes slots id (grown m.0 t.log, (0, Some c) ∷ []) some_slot out.pass out.holds (ap (λ (x : StageView). (0, Some x) ∷ []) t.whole))

-- the seat after the stage was put back and the turn given up
pub given : (m m' n : Seat) (c : StageView) → IsOut m → m' ≡ (m.0, (0, Some c) ∷ rest m.1) → n ≡ (released m'.0, rest m'.1) → n ≡ (released m.0, [])
given m m' n c out e is = is ∙ (ap (λ (x : Seat). (released x.0, rest x.1)) e ∙ ap (λ (xs : List (ℕ × Option StageView)). (released m.0, rest xs)) out.slot)

-- the seat after its event has entered and the turn was given up
pub given_after : (m m' m'' n : Seat) (c : StageView) → IsOut m → m' ≡ (m.0, (0, Some c) ∷ rest m.1) → Enters m' m'' → n ≡ (released m''.0, rest m''.1) → HasEvent m.0 c → HasEntered m.0 c n
given_after m m' m'' n c out same entered is h =
    let t : HasGrown m m'' c = grown_with m m' m'' c out same entered h in
    record { log = t.log; whole = t.whole; after = is ∙ ap (λ (x : Seat). (released x.0, rest x.1)) t.after }

-- the seat after it has won the turn and the stage was taken out
pub won : (m m' n : Seat) (c : StageView) → m.1 ≡ [] → TakesTurn (step 1 1 0 1 none) m 0 m' → m'.1 ≡ (0, Some c) ∷ rest m'.1 → n ≡ (m'.0, (0, None) ∷ rest m'.1) → HasWon m c n
won m m' n c empty took has is =
    let t = took.0 refl in
    let log : List Event = t.log in
    let e : m' ≡ (holding m.0 log, (0, Some (stage_of m.0.sizes log)) ∷ m.1) = t.after in
    let heads : List (ℕ × Option StageView) → Option StageView = λ xs. head xs in
    let same : Some c ≡ Some (stage_of m.0.sizes log) = ap heads (sym has ∙ ap (λ (x : Seat). x.1) e) in
    let same' : c ≡ stage_of m.0.sizes log = cc in
    let n' : n ≡ (holding m.0 log, (0, None) ∷ []) = is ∙ (ap (λ (x : Seat). (x.0, (0, None) ∷ rest x.1)) e ∙ ap (λ (xs : List (ℕ × Option StageView)). (holding m.0 log, (0, None) ∷ xs)) empty) in
    subst (λ (x : StageView). HasWon m x n) (sym same') record { log = log; seen = t.seen; made = t.made; made_seen = t.made_seen; whole = refl; after = n' }
  where
    head : List (ℕ × Option StageView) → Option StageView
    head [] = None
    head (x ∷ xs) = x.1

-- the seat after a join and the read of the length that follows it
pub met_at : (m m' n : Seat) (w : SeatView) (slots r : ℕ) → m.0.olds ≡ [] → m' ≡ (met m.0 w, m.1) → Settles (step slots 0 0 0 none) m' r n → HasMet m.0 w.seen n.0
met_at m m' n w slots r none_old is told =
    let all : List Event = longer m.0.seen w.seen in
    let e : n.0 ≡ record m.0 { seen = all } = ap (λ (x : Seat). x.0) told.0 ∙ ((λ i. settled (is i).0) ∙ (λ i. record m.0 { seen = all; olds = sym none_old i })) in
    let seen : m'.0.seen ≡ n.0.seen = (λ i. (is i).0.seen) ∙ sym (λ i. (e i).seen) in
    let old : (i : ℕ) (o : List Event) → get_elem? (m.0.seen ∷ w.seen ∷ []) i ≡ some o → IsPrefix o n.0.seen = λ i o at. subst (λ (l : List Event). IsPrefix o l) seen (told.1 i o (subst (λ (x : Seat). get_elem? x.0.olds i ≡ some o) (sym is) at)) in
    record { after = e; own = old 0 m.0.seen refl; other = old 1 w.seen refl }

pub absorbed_at : (m m' n : Seat) (w : SeatView) (slots r : ℕ) → m.0.olds ≡ [] → m' ≡ (absorbed m.0 w, m.1) → Settles (step slots 0 0 0 none) m' r n → HasAbsorbed m.0 w n.0
absorbed_at m m' n w slots r none_old is told =
    let all : List Event = longer m.0.seen w.seen in
    let kept : List KeptPass = kept_seat w ∷ m.0.kept in
    let e : n.0 ≡ record m.0 { seen = all; kept = kept } = ap (λ (x : Seat). x.0) told.0 ∙ ((λ i. settled (is i).0) ∙ (λ i. record m.0 { seen = all; kept = kept; olds = sym none_old i })) in
    let seen : m'.0.seen ≡ n.0.seen = (λ i. (is i).0.seen) ∙ sym (λ i. (e i).seen) in
    let old : (i : ℕ) (o : List Event) → get_elem? (m.0.seen ∷ w.seen ∷ []) i ≡ some o → IsPrefix o n.0.seen = λ i o at. subst (λ (l : List Event). IsPrefix o l) seen (told.1 i o (subst (λ (x : Seat). get_elem? x.0.olds i ≡ some o) (sym is) at)) in
    record { after = e; own = old 0 m.0.seen refl; other = old 1 w.seen refl }
