-- What the calls of a connection make of its pass.
use Rattle.std.specs.Prelude.{None}
use Rattle.std.proofs.Common.{◌≡◌, ℕ, ◌+◌, ◌||◌, Bool, true, false, cond, List, [], ◌∷◌, ◌++◌, length, refl, sym, ap, subst, ◌∙◌, arith, append_assoc, append-nil}
use Rattle.std.specs.List.{flat_map, range_with_len}
use Rattle.std.proofs.Math.Bool.{or-false}
use Rattle.std.proofs.lemmas.Grind.{flat_map-append}
use mathlib.Core.List.{IsPrefix}
use Rattle.play_types.specs.declared.event.Event.{Event}
use Rattle.stage_lock.specs.Own.{is_final, is_own, made_by, own_by}
use Rattle.stage_lock.specs.Views.{PassView}
use Rattle.stage_lock.specs.Calls.{Adds, IsFound, Looks, looked}
use Rattle.stage_lock.proofs.Positions.{made_by-own, own_by-append, own_by_same}
use Rattle.stage_lock.proofs.Prefixes.{prefix_self, prefix_trans}
use Rattle.history_model.specs.sessions.Session.{Step}
use Rattle.conn_worker.specs.Followed.{Service, Followed, events_of, positions_of, times_asked}
use Rattle.conn_worker.specs.Explained.{AreInOrder, HasMade}
use Rattle.conn_worker.specs.inner.Steps.{MakesStep}

-- a history that was found has no more own events of the pass than it had seen
own_found : (pass : PassView) (history : List Event) → IsFound pass history → own_by pass.number history ≡ own_by pass.number pass.seen
own_found pass history found = own_by_same pass.number pass.seen history found.seen (found.made_seen ∙ sym found.made)

-- a step whose event was added
pub makes_added : (service : Service) (step : Step) (no_memory : Bool) (before after : PassView) (event : Event) (IsTold : List Event → Type 0)
    (adds : Adds before event IsTold after)
    → events_of service (record { step = step; found = adds.history; no_memory = no_memory; token = None }) ≡ event ∷ []
    → is_own before.number event ≡ true → is_final event ≡ false → times_asked step ≡ 1
    → MakesStep service (record { step = step; found = adds.history; no_memory = no_memory; token = None }) before after
makes_added service step no_memory before after event IsTold adds events own other asked =
    let one : Followed = record { step = step; found = adds.history; no_memory = no_memory; token = None } in
    let h = adds.history in
    let n = before.number in
    let seen : after.seen ≡ h ++ event ∷ [] = ap (λ (p : PassView). p.seen) adds.after in
    let made : after.made ≡ before.made ++ length h ∷ [] =
    ap (λ (p : PassView). p.made) adds.after ∙ ap (λ (b : Bool). cond b (before.made ++ length h ∷ []) before.made) own in
    record {
      stage = ap (λ (p : PassView). p.stage) adds.after;
      number = ap (λ (p : PassView). p.number) adds.after;
      ends = ap (λ (p : PassView). p.ends) adds.after ∙ ap (λ (b : Bool). before.ends || b) other ∙ or-false before.ends;
      found = adds.found.seen;
      seen = seen ∙ ap (λ (es : List Event). h ++ es) (sym events);
      own =
          ap (own_by n) seen ∙ own_by-append n h (event ∷ [])
          ∙ ap (λ (es : List Event). own_by n h ++ es) (ap (λ (b : Bool). cond b (event ∷ []) []) own)
          ∙ ap (λ (es : List Event). es ++ event ∷ []) (own_found before h adds.found)
          ∙ ap (λ (es : List Event). own_by n before.seen ++ es) (sym events);
      made = made ∙ ap (λ (es : List Event). before.made ++ range_with_len (length h) (length es)) (sym events);
      turns = ap (λ (p : PassView). p.turns) adds.after ∙ ap (λ (k : ℕ). before.turns + k) (sym asked);
      known = λ _.
          ap (made_by n) seen ∙ made_by-own n h event own ∙ ap (λ (ks : List ℕ). ks ++ length h ∷ []) adds.found.made ∙ sym made;
    }

-- a step that made no event, though the stage was asked
pub makes_looked : (service : Service) (step : Step) (no_memory : Bool) (before after : PassView) (IsTold : List Event → Type 0)
    (looks : Looks before IsTold after)
    → events_of service (record { step = step; found = looks.history; no_memory = no_memory; token = None }) ≡ []
    → times_asked step ≡ 1
    → MakesStep service (record { step = step; found = looks.history; no_memory = no_memory; token = None }) before after
makes_looked service step no_memory before after IsTold looks events asked =
    let h = looks.history in
    let n = before.number in
    let seen : after.seen ≡ h = ap (λ (p : PassView). p.seen) looks.after in
    let made : after.made ≡ before.made = ap (λ (p : PassView). p.made) looks.after in
    record {
      stage = ap (λ (p : PassView). p.stage) looks.after;
      number = ap (λ (p : PassView). p.number) looks.after;
      ends = ap (λ (p : PassView). p.ends) looks.after;
      found = looks.found.seen;
      seen = seen ∙ sym (append-nil h) ∙ ap (λ (es : List Event). h ++ es) (sym events);
      own =
          ap (own_by n) seen ∙ own_found before h looks.found ∙ sym (append-nil (own_by n before.seen))
          ∙ ap (λ (es : List Event). own_by n before.seen ++ es) (sym events);
      made = made ∙ sym (append-nil before.made) ∙ ap (λ (es : List Event). before.made ++ range_with_len (length h) (length es)) (sym events);
      turns = ap (λ (p : PassView). p.turns) looks.after ∙ ap (λ (k : ℕ). before.turns + k) (sym asked);
      known = λ _. ap (made_by n) seen ∙ looks.found.made ∙ sym made;
    }

-- a step for which the stage was not asked
pub makes_nothing : (service : Service) (step : Step) (pass : PassView)
    → events_of service (record { step = step; found = pass.seen; no_memory = false; token = None }) ≡ []
    → times_asked step ≡ 0
    → MakesStep service (record { step = step; found = pass.seen; no_memory = false; token = None }) pass pass
makes_nothing service step pass events asked =
    let same : pass.turns + 0 ≡ pass.turns = omega arith in
    record {
      stage = refl;
      number = refl;
      ends = refl;
      found = prefix_self pass.seen;
      seen = sym (append-nil pass.seen) ∙ ap (λ (es : List Event). pass.seen ++ es) (sym events);
      own = sym (append-nil (own_by pass.number pass.seen)) ∙ ap (λ (es : List Event). own_by pass.number pass.seen ++ es) (sym events);
      made = sym (append-nil pass.made) ∙ ap (λ (es : List Event). pass.made ++ range_with_len (length pass.seen) (length es)) (sym events);
      turns = sym same ∙ ap (λ (k : ℕ). pass.turns + k) (sym asked);
      known = λ known. known;
    }

-- steps that were executed one after another, with one more
pub in_order_more : (service : Service) (seen : List Event) (followed : List Followed) (one : Followed) (between history : List Event)
    → AreInOrder service seen followed between → IsPrefix between one.found → history ≡ one.found ++ events_of service one
    → AreInOrder service seen (followed ++ one ∷ []) history
in_order_more service seen [] one between history order found grows = (
  prefix_trans seen between one.found order found,
  subst (IsPrefix (one.found ++ events_of service one)) (sym grows) (prefix_self (one.found ++ events_of service one)),
)
in_order_more service seen (first ∷ followed) one between history order found grows =
    (order.0, in_order_more service (first.found ++ events_of service first) followed one between history order.1 found grows)

-- steps that found a part of a history found a part of each that goes on from it
pub in_order_later : (service : Service) (seen : List Event) (followed : List Followed) (between history : List Event)
    → AreInOrder service seen followed between → IsPrefix between history → AreInOrder service seen followed history
in_order_later service seen [] between history order grows = prefix_trans seen between history order grows
in_order_later service seen (first ∷ followed) between history order grows =
    (order.0, in_order_later service (first.found ++ events_of service first) followed between history order.1 grows)

-- a pass that has executed nothing yet
pub made_none : (service : Service) (pass : PassView) → HasMade service [] pass pass
made_none service pass = record {
  stage = refl;
  number = refl;
  ends = refl;
  order = prefix_self pass.seen;
  own = sym (append-nil (own_by pass.number pass.seen));
  made = sym (append-nil pass.made);
  known = λ known. known;
}

flat_map-more : {A : Type 0} (f : Followed → List A) (start : List A) (followed : List Followed) (one : Followed)
    → (start ++ flat_map f followed) ++ f one ≡ start ++ flat_map f (followed ++ one ∷ [])
flat_map-more f start followed one =
    append_assoc start (flat_map f followed) (f one)
    ∙ ap (λ (l : List _). start ++ l)
    (ap (λ (l : List _). flat_map f followed ++ l) (sym (append-nil (f one))) ∙ sym (flat_map-append f followed (one ∷ [])))

-- a pass that executed one step more
pub made_more : (service : Service) (followed : List Followed) (one : Followed) (before between after : PassView)
    → HasMade service followed before between → MakesStep service one between after
    → HasMade service (followed ++ one ∷ []) before after
made_more service followed one before between after had makes =
    let own : own_by before.number after.seen ≡ own_by before.number between.seen ++ events_of service one =
    subst (λ (n : ℕ). own_by n after.seen ≡ own_by n between.seen ++ events_of service one) had.number makes.own in
    record {
      stage = makes.stage ∙ had.stage;
      number = makes.number ∙ had.number;
      ends = makes.ends ∙ had.ends;
      order = in_order_more service before.seen followed one between.seen after.seen had.order makes.found makes.seen;
      own = own ∙ ap (λ (es : List Event). es ++ events_of service one) had.own
          ∙ flat_map-more (events_of service) (own_by before.number before.seen) followed one;
      made = makes.made ∙ ap (λ (ks : List ℕ). ks ++ positions_of service one) had.made
          ∙ flat_map-more (positions_of service) before.made followed one;
      known = λ known.
          subst (λ (n : ℕ). made_by n after.seen ≡ after.made) had.number
          (makes.known (subst (λ (n : ℕ). made_by n between.seen ≡ between.made) (sym had.number) (had.known known)));
    }

-- a pass that checked the stage once more
pub made_looked : (service : Service) (followed : List Followed) (before between after : PassView) (history : List Event)
    → HasMade service followed before between → IsFound between history → after ≡ looked between history
    → HasMade service followed before after
made_looked service followed before between after history had found is =
    let seen : after.seen ≡ history = ap (λ (p : PassView). p.seen) is in
    let made : after.made ≡ between.made = ap (λ (p : PassView). p.made) is in
    record {
      stage = ap (λ (p : PassView). p.stage) is ∙ had.stage;
      number = ap (λ (p : PassView). p.number) is ∙ had.number;
      ends = ap (λ (p : PassView). p.ends) is ∙ had.ends;
      order = subst (AreInOrder service before.seen followed) (sym seen) (in_order_later service before.seen followed between.seen history had.order found.seen);
      own =
          ap (own_by before.number) seen
          ∙ subst (λ (n : ℕ). own_by n history ≡ own_by n between.seen) had.number (own_found between history found)
          ∙ had.own;
      made = made ∙ had.made;
      known = λ _. ap (made_by before.number) seen ∙ subst (λ (n : ℕ). made_by n history ≡ between.made) had.number found.made ∙ sym made;
    }
