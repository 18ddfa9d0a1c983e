-- The status of a channel, place by place.
use Rattle.std.proofs.Common.{◌≡◌, ℕ, zero, suc, ◌+◌, ◌<◌, ◌≤◌, Bool, true, false, not, ◌||◌, List, [], ◌∷◌, ◌++◌, length, get_or, take, filter_map, refl, sym, ap, ◌∙◌, arith, append-nil}
use Rattle.std.specs.Prelude.{Option, Some, None, IfSome, option_map}
use Rattle.std.specs.List.{cons_option, list_any}
use Rattle.std.proofs.lemmas.Bool.{cond-true, cond-false}
use Rattle.std.proofs.lemmas.List.{ext_get_or, get_or-take, length-take-le, take_more}
use Rattle.std.proofs.lemmas.List.Elements.{filter_map-append}
use Rattle.std.proofs.lemmas.List.Folds.{list_any-append}
use Rattle.play_types.specs.declared.answer.Status.{Status}
use Rattle.play_types.specs.declared.answer.Status.TheVariants.{Empty, Paused, Playing}
use Rattle.history_model.specs.stage.Answer.{status_of}
use Rattle.history_model.specs.stage.Life.{Foreground, Life}
use Rattle.history_model.specs.stage.Places.{Places}
use Rattle.layer_state.specs.declared.front.Front.{Front}
use Rattle.layer_state.specs.Shown.{front_of}
use Rattle.history_model.specs.stage.StageHistory.{foreground_of}

-- a foreground that is not paused
abbrev pub is_playing : Foreground → Bool
is_playing one = not one.paused

-- a foreground that was found, and is paused if its front is
pub record IsTold (found : Option Foreground) (front : Front) : Type 0 where
  pub foreground : Foreground
  pub found_is : found ≡ Some foreground
  pub paused_is : foreground.paused ≡ front.paused

pub told : (found : Option Foreground) (front : Front) → option_map front_of found ≡ Some front → IsTold found front
told None front e = absurd (cc)
told (Some f) front e = record { foreground = f; found_is = refl; paused_is = (let same : front_of f ≡ front = cc in ap (λ (one : Front). one.paused) same) }

pub untold : (found : Option Foreground) → option_map front_of found ≡ None → found ≡ None
untold None e = refl
untold (Some f) e = absurd (cc)

-- a channel of which some foreground is not paused is playing
status-any : (foregrounds : List Foreground) → list_any is_playing foregrounds ≡ true → status_of foregrounds ≡ Playing
status-any [] e = absurd (cc)
status-any (f ∷ more) e = cond-true (list_any is_playing (f ∷ more)) Playing Paused e

-- one more that is paused makes it paused
status-paused : (foregrounds : List Foreground) (f : Foreground) → list_any is_playing foregrounds ≡ false → f.paused ≡ true → status_of (foregrounds ++ f ∷ []) ≡ Paused
status-paused [] f none paused = cond-false (not f.paused || false) Playing Paused (ap (λ (b : Bool). not b || false) paused)
status-paused (g ∷ more) f none paused =
    cond-false (list_any is_playing (g ∷ more ++ f ∷ [])) Playing Paused
    (list_any-append is_playing (g ∷ more) (f ∷ []) ∙ ap (λ (b : Bool). b || (not f.paused || false)) none ∙ ap (λ (b : Bool). not b || false) paused)

module _ (xs : Places) (i : ℕ) (x : ℕ × Life) (within : i < length xs) (read : get_or xs i x ≡ x) where
  shown_so_far : List Foreground
  shown_so_far = filter_map foreground_of (take i xs)

  one_more : filter_map foreground_of (take (i + 1) xs) ≡ filter_map foreground_of (take i xs) ++ cons_option (foreground_of x) []
  one_more =
      ap (filter_map foreground_of) (take_more xs i x within)
      ∙ filter_map-append foreground_of (take i xs) (get_or xs i x ∷ [])
      ∙ ap (λ (y : ℕ × Life). filter_map foreground_of (take i xs) ++ filter_map foreground_of (y ∷ [])) read

  pub more-none : foreground_of x ≡ None → filter_map foreground_of (take (i + 1) xs) ≡ filter_map foreground_of (take i xs)
  more-none e =
      one_more ∙ ap (λ (found : Option Foreground). filter_map foreground_of (take i xs) ++ cons_option found []) e
      ∙ append-nil (filter_map foreground_of (take i xs))

  pub more-some : (f : Foreground) → foreground_of x ≡ Some f →
      filter_map foreground_of (take (i + 1) xs) ≡ filter_map foreground_of (take i xs) ++ f ∷ []
  more-some f e = one_more ∙ ap (λ (found : Option Foreground). filter_map foreground_of (take i xs) ++ cons_option found []) e

  pub paused_more : (f : Foreground) → foreground_of x ≡ Some f → f.paused ≡ true → list_any is_playing (filter_map foreground_of (take i xs)) ≡ false →
      record {
        none : list_any is_playing (filter_map foreground_of (take (i + 1) xs)) ≡ false;
        status : Paused ≡ status_of (filter_map foreground_of (take (i + 1) xs));
      }
  paused_more f e paused none = record {
    none =
        ap (list_any is_playing) (more-some f e) ∙ list_any-append is_playing (filter_map foreground_of (take i xs)) (f ∷ [])
        ∙ ap (λ (b : Bool). b || (not f.paused || false)) none ∙ ap (λ (b : Bool). not b || false) paused;
    status = sym (ap status_of (more-some f e) ∙ status-paused (filter_map foreground_of (take i xs)) f none paused);
  }

-- a place that plays
any_playing : (xs : Places) (i : ℕ) (x : ℕ × Life) (f : Foreground) → i < length xs → get_or xs i x ≡ x → foreground_of x ≡ Some f → f.paused ≡ false →
    list_any is_playing (filter_map foreground_of xs) ≡ true
any_playing [] i x f within read e plays = absurd (omega arith)
any_playing (y ∷ xs) zero x f within read e plays =
    ap (λ (found : Option Foreground). list_any is_playing (cons_option found (filter_map foreground_of xs))) (ap foreground_of read ∙ e)
    ∙ ap (λ (b : Bool). not b || list_any is_playing (filter_map foreground_of xs)) plays
any_playing (y ∷ xs) (suc i) x f within read e plays =
    behind (foreground_of y) (filter_map foreground_of xs) (any_playing xs i x f (omega arith) read e plays)
  where
    behind : (found : Option Foreground) (more : List Foreground) → list_any is_playing more ≡ true → list_any is_playing (cons_option found more) ≡ true
    behind None more h = h
    behind (Some g) more h = either (not g.paused) (list_any is_playing more) h
      where
        either : (a b : Bool) → b ≡ true → (a || b) ≡ true
        either true b h = refl
        either false b h = h

pub status-playing : (xs : Places) (i : ℕ) (x : ℕ × Life) (f : Foreground) → i < length xs → get_or xs i x ≡ x → foreground_of x ≡ Some f → f.paused ≡ false →
    status_of (filter_map foreground_of xs) ≡ Playing
status-playing xs i x f within read e plays = status-any (filter_map foreground_of xs) (any_playing xs i x f within read e plays)

-- lists whose first statuses are equal
pub take-same : (n : ℕ) (xs ys : List Status) → n ≤ length xs → n ≤ length ys → ((k : ℕ) → k < n → get_or xs k Empty ≡ get_or ys k Empty) → take n xs ≡ take n ys
take-same n xs ys long wide same =
    let count : length (take n xs) ≡ n = length-take-le n xs long in
    let other : length (take n ys) ≡ n = length-take-le n ys wide in
    ext_get_or Empty (take n xs) (take n ys) (count ∙ sym other) (λ i within.
    let low : i < n = omega (arith, within, count) in
    get_or-take n xs i Empty low ∙ same i low ∙ sym (get_or-take n ys i Empty low))

-- the value of an option that is there, and its equality to another
pub some_is : {A : Type 0} (found : Option A) (x y : A) → found ≡ Some x → IfSome found (λ z. z ≡ y) → x ≡ y
some_is None x y e h = absurd (cc)
some_is (Some z) x y e h = let same : z ≡ x = cc in sym same ∙ h
