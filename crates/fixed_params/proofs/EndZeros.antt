-- The zeros at the end of digits.
use Rattle.std.proofs.Common.{◌≡◌, ℕ, ◌-◌, ◌<◌, suc, Bool, true, false, ◌&&◌, List, [], ◌∷◌, ◌++◌, take, length, replicate, refl, sym, ap, ◌∙◌, arith, inl, inr, add-one}
use Rattle.std.specs.Prelude.{◌==◌}
use Rattle.std.specs.List.{list_all, suffix_len}
use Rattle.std.proofs.lemmas.Bool.{cases_Bool, and_parts, eq-eqb, ne_eqb, eqb-true}
use Rattle.std.proofs.lemmas.List.{replicate_more, take-append-le, length-append, length-replicate, append_assoc}
use Rattle.amcp_text.specs.Micros.{without_end_zeros}
use Rattle.amcp_text.proofs.LastMark.{suffix_len-cons}

abbrev pub is_zero : ℕ → Bool
is_zero c = c == 48

suffix_len_all : (p : ℕ → Bool) (xs : List ℕ) → list_all p xs ≡ true → suffix_len p xs ≡ length xs
suffix_len_all p [] h = refl
suffix_len_all p (x ∷ xs) h =
    let parts = and_parts (p x) (list_all p xs) h in
    let rest = suffix_len_all p xs parts.1 in
    rw (suffix_len-cons p x xs, eq-eqb (suffix_len p xs) (length xs) rest, parts.0) (omega arith)

suffix_len_part : (p : ℕ → Bool) (xs : List ℕ) → list_all p xs ≡ false → suffix_len p xs < length xs
suffix_len_part p [] h = cc
suffix_len_part p (x ∷ xs) h = elim (cases_Bool (list_all p xs)) [
  | inl later ↦
      let rest = suffix_len_all p xs later in
      let here : p x ≡ false = elim (cases_Bool (p x)) [ inl passes ↦ absurd (cc (rw (passes, later) at h)) | inr fails ↦ fails ] in
      rw (suffix_len-cons p x xs, eq-eqb (suffix_len p xs) (length xs) rest, here) (omega arith)
  | inr some ↦
      let rest = suffix_len_part p xs some in
      rw (suffix_len-cons p x xs, ne_eqb (suffix_len p xs) (length xs) (λ e. absurd (omega arith))) (omega arith)
]

-- zeros alone are dropped
pub without_end_zeros_none : (ds : List ℕ) → list_all is_zero ds ≡ true → without_end_zeros ds ≡ []
without_end_zeros_none ds zeros =
    let none : length ds - suffix_len is_zero ds ≡ 0 = omega (arith, suffix_len_all is_zero ds zeros) in
    rw none refl

-- a digit stays if it is not zero or one after it stays
pub without_end_zeros-cons : (d : ℕ) (ds : List ℕ) → (is_zero d && list_all is_zero ds) ≡ false → without_end_zeros (d ∷ ds) ≡ d ∷ without_end_zeros ds
without_end_zeros-cons d ds some = elim (cases_Bool (list_all is_zero ds)) [
  | inl zeros ↦
      let here : is_zero d ≡ false = elim (cases_Bool (is_zero d)) [ inl zero ↦ absurd (cc (rw (zero, zeros) at some)) | inr other ↦ other ] in
      let all = suffix_len_all is_zero ds zeros in
      let one : length (d ∷ ds) - suffix_len is_zero (d ∷ ds) ≡ 1 =
      rw (suffix_len-cons is_zero d ds, eq-eqb (suffix_len is_zero ds) (length ds) all, here) (omega arith) in
      rw (one, without_end_zeros_none ds zeros) refl
  | inr others ↦
      let part = suffix_len_part is_zero ds others in
      let more : length (d ∷ ds) - suffix_len is_zero (d ∷ ds) ≡ suc (length ds - suffix_len is_zero ds) =
      rw (suffix_len-cons is_zero d ds, ne_eqb (suffix_len is_zero ds) (length ds) (λ e. absurd (omega arith))) (omega arith) in
      rw more refl
]

-- the digits without the zeros at their end, followed by zeros, are the digits again
pub with_end_zeros : (ds : List ℕ) → take (length ds) (without_end_zeros ds ++ replicate (length ds) 48) ≡ ds
with_end_zeros [] = refl
with_end_zeros (d ∷ ds) =
    let rest = with_end_zeros ds in
    let n = length ds in
    let same : take n ((without_end_zeros ds ++ replicate n 48) ++ 48 ∷ []) ≡ ds =
    take-append-le n (without_end_zeros ds ++ replicate n 48) (48 ∷ []) (omega (arith, length-append (without_end_zeros ds) (replicate n 48), length-replicate {A = ℕ} n 48)) ∙ rest in
    elim (cases_Bool (is_zero d && list_all is_zero ds)) [
      | inl zeros ↦
          let parts = and_parts (is_zero d) (list_all is_zero ds) zeros in
          let none : take n ([] ++ replicate n 48) ≡ ds = rw (without_end_zeros_none ds parts.1) at rest in
          rw (without_end_zeros_none (d ∷ ds) zeros) (ap (λ (xs : List ℕ). 48 ∷ xs) none ∙ ap (λ (c : ℕ). c ∷ ds) (sym (eqb-true d 48 parts.0)))
      | inr others ↦
          let wide : 48 ∷ replicate n 48 ≡ replicate n 48 ++ 48 ∷ [] = rw add-one at (sym (replicate_more {X = ℕ} n 48)) in
          rw (without_end_zeros-cons d ds others, wide) (ap (λ (xs : List ℕ). d ∷ xs) (rw append_assoc at same))
    ]
