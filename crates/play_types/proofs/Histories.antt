-- Histories made of two parts.
use Rattle.std.proofs.Common.{◌≡◌, ℕ, suc, ◌+◌, false, cond, ltb, List, [], ◌∷◌, ◌++◌, length, Option, Some, None, option_map, inl, inr, refl, sym, ap, ◌∙◌, zero-add, arith}
use Rattle.std.proofs.lemmas.Bool.Decides.{nat_tests, leb_tells}
use Rattle.std.proofs.lemmas.Bool.{lt-ltb}
use Rattle.std.specs.List.{position_or_len}
use Rattle.play_types.specs.declared.event.Event.{Event}
use Rattle.play_types.specs.declared.event.Event.TheVariants.{Do, Batch, Tick, Stop}
use Rattle.play_types.specs.declared.event.Tag.{Tag}
use Rattle.play_types.specs.History.{ticks, held, is_stop, stop_at, IsHistory}

-- the ticks of two parts, one after the other
pub ticks-append : (xs ys : List Event) → ticks (xs ++ ys) ≡ ticks xs + ticks ys
ticks-append [] ys = omega arith
ticks-append (Do tag cmd ∷ xs) ys = ticks-append xs ys
ticks-append (Batch tag cmds ∷ xs) ys = ticks-append xs ys
ticks-append (Tick ∷ xs) ys = omega (arith, ticks-append xs ys)
ticks-append (Stop tag ∷ xs) ys = ticks-append xs ys

-- the commands of two parts, one after the other
pub held-append : (xs ys : List Event) → held (xs ++ ys) ≡ held xs + held ys
held-append [] ys = omega arith
held-append (event ∷ xs) ys = omega (arith, held-append xs ys)

unmoved : (o : Option ℕ) → option_map (λ n. 0 + n) o ≡ o
unmoved None = refl
unmoved (Some n) = ap Some (zero-add n)

moved_twice : (k : ℕ) (o : Option ℕ) → option_map (λ n. 1 + n) (option_map (λ n. k + n) o) ≡ option_map (λ n. suc k + n) o
moved_twice k None = refl
moved_twice k (Some n) = ap Some (omega arith)

none_before_moved : (o : Option ℕ) → option_map (λ n. 1 + n) o ≡ None → o ≡ None
none_before_moved None h = refl
none_before_moved (Some n) h = cc

one_place_on : (p n : ℕ) → cond (ltb (1 + p) (suc n)) (Some (1 + p)) None ≡ option_map (λ k. 1 + k) (cond (ltb p n) (Some p) None)
one_place_on p n =
    elim (leb_tells (suc p) n) [
      | inl w ↦ rw (lt-ltb p n w.1, lt-ltb (1 + p) (suc n) (omega arith))
      | inr w ↦ grind (arith, nat_tests)
    ]

-- an event that is no stop, put in front, moves the first stop by one position
pub stop_at-other : (event : Event) (events : List Event) → is_stop event ≡ false → stop_at (event ∷ events) ≡ option_map (λ n. 1 + n) (stop_at events)
stop_at-other event events h = rw h (one_place_on (position_or_len is_stop events) (length events))

-- a stop that begins a history is its first stop
pub stop_at-stop : (tag : Tag) (events : List Event) → stop_at (Stop tag ∷ events) ≡ Some 0
stop_at-stop tag events = rw (lt-ltb 0 (suc (length events)) (omega arith))

stop_at-cons : (event : Event) (xs ys : List Event) → is_stop event ≡ false → stop_at (event ∷ xs) ≡ None → (stop_at xs ≡ None → stop_at (xs ++ ys) ≡ option_map (λ n. length xs + n) (stop_at ys)) → stop_at (event ∷ (xs ++ ys)) ≡ option_map (λ n. suc (length xs) + n) (stop_at ys)
stop_at-cons event xs ys other none rest =
    stop_at-other event (xs ++ ys) other
    ∙ ap (option_map (λ n. 1 + n)) (rest (none_before_moved (stop_at xs) (sym (stop_at-other event xs other) ∙ none)))
    ∙ moved_twice (length xs) (stop_at ys)

-- the first stop of two parts, if the first part has none
pub stop_at-append : (xs ys : List Event) → stop_at xs ≡ None → stop_at (xs ++ ys) ≡ option_map (λ n. length xs + n) (stop_at ys)
stop_at-append [] ys h = sym (unmoved (stop_at ys))
stop_at-append (Do tag cmd ∷ xs) ys h = stop_at-cons (Do tag cmd) xs ys refl h (stop_at-append xs ys)
stop_at-append (Batch tag cmds ∷ xs) ys h = stop_at-cons (Batch tag cmds) xs ys refl h (stop_at-append xs ys)
stop_at-append (Tick ∷ xs) ys h = stop_at-cons Tick xs ys refl h (stop_at-append xs ys)
stop_at-append (Stop tag ∷ xs) ys h = cc (stop_at-stop tag xs)

-- the first part of a history is one
pub IsHistory-front : (xs ys : List Event) → IsHistory (xs ++ ys) → IsHistory xs
IsHistory-front [] ys h = tt
IsHistory-front (Do tag cmd ∷ xs) ys h = IsHistory-front xs ys h
IsHistory-front (Batch tag cmds ∷ xs) ys h = (h.0, IsHistory-front xs ys h.1)
IsHistory-front (Tick ∷ xs) ys h = IsHistory-front xs ys h
IsHistory-front (Stop tag ∷ []) ys h = refl
IsHistory-front (Stop tag ∷ event ∷ xs) ys h = cc

-- a history without a stop, followed by a history, is a history
pub IsHistory-append : (xs ys : List Event) → IsHistory xs → stop_at xs ≡ None → IsHistory ys → IsHistory (xs ++ ys)
IsHistory-append [] ys h none rest = rest
IsHistory-append (Do tag cmd ∷ xs) ys h none rest =
    IsHistory-append xs ys h (none_before_moved _ (sym (stop_at-other (Do tag cmd) xs refl) ∙ none)) rest
IsHistory-append (Batch tag cmds ∷ xs) ys h none rest =
    (h.0, IsHistory-append xs ys h.1 (none_before_moved _ (sym (stop_at-other (Batch tag cmds) xs refl) ∙ none)) rest)
IsHistory-append (Tick ∷ xs) ys h none rest =
    IsHistory-append xs ys h (none_before_moved _ (sym (stop_at-other Tick xs refl) ∙ none)) rest
IsHistory-append (Stop tag ∷ xs) ys h none rest = cc (stop_at-stop tag xs)
