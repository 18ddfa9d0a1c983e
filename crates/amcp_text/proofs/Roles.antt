-- The roles of a line's parts, one after another.
use Rattle.std.proofs.Common.{◌≡◌, ℕ, ◌+◌, ◌%◌, Bool, true, false, cond, not, List, [], ◌∷◌, ◌++◌, map, take, length, refl, arith, inl, inr, append_assoc, zero-add}
use Rattle.std.specs.Prelude.{◌==◌, count_by}
use Rattle.std.specs.List.{enumerate_from, list_any}
use Rattle.std.proofs.lemmas.Bool.{cases_eq, ne_eqb, or_parts}
use Rattle.std.proofs.lemmas.List.{take_at, length-append}
use Rattle.std.proofs.lemmas.List.Sums.{sum_by-cons, sum_by_push}
use Rattle.amcp_text.specs.Words.{Part, Role, is_mark, is_unclosed, role_of, roles_of}

-- whether what follows a part is quoted, by whether the part is
abbrev pub quoted_after : Part → Bool → Bool
quoted_after part quoted = cond (is_mark part) (not quoted) quoted

-- the roles of parts that follow others, by whether those leave quotes open
abbrev pub roles_from : Bool → List Part → List Role
roles_from quoted [] = []
roles_from quoted (part ∷ parts) = role_of part quoted ∷ roles_from (quoted_after part quoted) parts

-- one more makes an odd number even, and an even one odd
odd_with : (one : Bool) (n : ℕ) → ((cond one 1 0 + n) % 2 == 1) ≡ cond one (not (n % 2 == 1)) (n % 2 == 1)
odd_with true n = elim (cases_eq (n % 2) 1) [
  | inl odd ↦
      let even : (1 + n) % 2 ≡ 0 = omega arith in
      rw (even, odd) refl
  | inr even ↦
      let odd : (1 + n) % 2 ≡ 1 = omega arith in
      rw (odd, ne_eqb (n % 2) 1 even) refl
]
odd_with false n = rw (zero-add n) refl

pub is_unclosed-cons : (part : Part) (parts : List Part) → is_unclosed (part ∷ parts) ≡ quoted_after part (is_unclosed parts)
is_unclosed-cons part parts =
    rw (sum_by-cons (λ (x : Part). cond (is_mark x) 1 0) part parts) (odd_with (is_mark part) (count_by is_mark parts))

-- whether quotes are left open with one more part at the end
is_unclosed_push : (before : List Part) (part : Part) → is_unclosed (before ++ part ∷ []) ≡ quoted_after part (is_unclosed before)
is_unclosed_push before part =
    let swapped : count_by is_mark before + cond (is_mark part) 1 0 ≡ cond (is_mark part) 1 0 + count_by is_mark before = omega arith in
    rw (sum_by_push (λ (x : Part). cond (is_mark x) 1 0) before part, swapped) (odd_with (is_mark part) (count_by is_mark before))

pub is_unclosed_none : (parts : List Part) → list_any is_mark parts ≡ false → is_unclosed parts ≡ false
is_unclosed_none [] h = refl
is_unclosed_none (part ∷ parts) h =
    let each = or_parts (is_mark part) (list_any is_mark parts) h in
    rw (is_unclosed-cons part parts, each.0, is_unclosed_none parts each.1) refl

roles_after : (before parts : List Part)
    → map (λ at. role_of at.1 (is_unclosed (take at.0 (before ++ parts)))) (enumerate_from (length before) parts) ≡ roles_from (is_unclosed before) parts
roles_after before [] = refl
roles_after before (part ∷ parts) =
    let next = roles_after (before ++ part ∷ []) parts in
    let more : length (before ++ part ∷ []) ≡ length before + 1 = omega (arith, length-append before (part ∷ [])) in
    let rest = rw (append_assoc before (part ∷ []) parts, more, is_unclosed_push before part) at next in
    rw (take_at before (part ∷ parts) (length before) refl, rest) refl

pub roles_of_is : (parts : List Part) → roles_of parts ≡ roles_from false parts
roles_of_is parts = roles_after [] parts
