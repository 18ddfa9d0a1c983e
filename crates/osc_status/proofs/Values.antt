-- Arguments that are read are those of the bytes, and those of the bytes are read.
use Rattle.std.proofs.Common.{◌≡◌, ℕ, ◌+◌, ◌^◌, ◌<◌, ◌≤◌, Bool, true, false, cond, ◌==◌, ℤ, List, [], ◌∷◌, ◌++◌, length, map, get_or, take, drop, Option, Some, None, refl, sym, ap, subst, ◌∙◌, arith, inl, inr}
use Rattle.std.specs.Prelude.{option_map, nat_lt, flat_map, FitsSigned}
use Rattle.std.specs.List.{AllByRecursion, list_any}
use Rattle.std.specs.Int.{w32, cast_signed, cast_unsigned, from_be_bytes, to_be_bytes}
use Rattle.std.proofs.lemmas.Bool.{ltb-false, le-ltb, eqb-true}
use Rattle.std.proofs.lemmas.Int.{ints, to_z-of_z, of_z-to_z}
use Rattle.std.proofs.lemmas.List.{drop_at, take-append-drop, length-append, length-take, get_or-drop, get_or-take, get_or_past, nil_from_length}
use Rattle.std.proofs.lemmas.Nat.{be_bytes_4, from_be_bytes-to_be_bytes_4}
use Rattle.std.proofs.lemmas.Bool.{cases_lt}
use Rattle.std.proofs.lemmas.Option.{same_Some}
use Rattle.osc_status.specs.declared.arg.OscValue.{OscValue}
use Rattle.osc_status.specs.declared.arg.OscValue.TheVariants.{Int, Word}
use Rattle.osc_status.specs.Texts.{is_zero}
use Rattle.osc_status.specs.Message.{IsArg, letter, value_bytes}
use Rattle.osc_status.specs.inner.Reading.{◌>>=◌, number_at, number_value, text_at, value_at, values_at, word_value}
use Rattle.osc_status.proofs.Padded.{bind_some, passed, passed_over}
use Rattle.osc_status.proofs.Characters.{text_again, text_takes}

-- each number is a byte
abbrev pub IsBytes : List ℕ → Type 0
IsBytes bytes = (i : ℕ) → get_or bytes i 0 < 256

-- what follows a prefix of bytes has bytes too
pub rest_bytes : (bytes front rest : List ℕ) → IsBytes bytes → bytes ≡ front ++ rest → IsBytes rest
rest_bytes bytes front rest are e i =
    let one : get_or (drop (length front) (front ++ rest)) i 0 ≡ get_or (front ++ rest) (length front + i) 0 = get_or-drop (length front) (front ++ rest) i 0 in
    let two : get_or rest i 0 ≡ get_or (front ++ rest) (length front + i) 0 = rw (drop_at front rest (length front) refl) at one in
    rw (two, ← e) (are (length front + i))

front_bytes : (n : ℕ) (bytes : List ℕ) → IsBytes bytes → IsBytes (take n bytes)
front_bytes n bytes are i =
    elim (cases_lt i n) [
      | inl lt ↦ rw get_or-take (are i)
      | inr le ↦ rw (get_or_past (take n bytes) i 0 (omega (arith, length-take n bytes))) (omega arith)
    ]

some_mapped : {A B : Type 0} (f : A → B) (o : Option A) (y : B) → option_map f o ≡ Some y → (x : A) × (o ≡ Some x) × (f x ≡ y)
some_mapped f (Some x) y e = (x, refl, same_Some (f x) y e)
some_mapped f None y e = absurd cc

-- the four bytes of a number
pub record TakesNumber (bytes : List ℕ) (number : ℤ) (rest : List ℕ) : Type 0 where
  pub parts : bytes ≡ to_be_bytes w32 (cast_unsigned w32 number) ++ rest
  pub fits : FitsSigned w32 number

below_2_32 : (bytes : List ℕ) → IsBytes bytes → from_be_bytes w32 bytes < 2 ^ 32
below_2_32 bytes are = omega (arith, are 0, are 1, are 2, are 3)

signed_fits : (n : ℕ) → n < 2 ^ 32 → FitsSigned w32 (cast_signed w32 n)
signed_fits n below = grind (arith, ints)

number_takes : (bytes : List ℕ) (number : ℤ) (rest : List ℕ) → IsBytes bytes → number_at bytes ≡ Some (number, rest) → TakesNumber bytes number rest
unfolding number_at
number_takes bytes number rest are e =
    let g = passed_over (nat_lt (length bytes) 4) (cast_signed w32 (from_be_bytes w32 (take 4 bytes)), drop 4 bytes) (number, rest) e in
    let long : 4 ≤ length bytes = ltb-false _ _ g.0 in
    let front = front_bytes 4 bytes are in
    let below = below_2_32 (take 4 bytes) front in
    let same : to_be_bytes w32 (from_be_bytes w32 (take 4 bytes)) ≡ take 4 bytes = be_bytes_4 (take 4 bytes) _ (omega (arith, length-take 4 bytes)) front refl in
    subst (λ (p : ℤ × List ℕ). TakesNumber bytes p.0 p.1) g.1 (record {
      parts = sym (ap (λ (front : List ℕ). front ++ drop 4 bytes) (ap (to_be_bytes w32) (of_z-to_z w32 (from_be_bytes w32 (take 4 bytes)) below) ∙ same) ∙ take-append-drop 4 bytes);
      fits = signed_fits (from_be_bytes w32 (take 4 bytes)) below;
    })

unsigned_below : (number : ℤ) → FitsSigned w32 number → cast_unsigned w32 number < 2 ^ 32
unsigned_below number fits = grind (arith, ints)

number_again : (number : ℤ) (rest : List ℕ) → FitsSigned w32 number → number_at (to_be_bytes w32 (cast_unsigned w32 number) ++ rest) ≡ Some (number, rest)
unfolding number_at
number_again number rest fits =
    let same : cast_signed w32 (from_be_bytes w32 (to_be_bytes w32 (cast_unsigned w32 number))) ≡ number =
    ap (cast_signed w32) (from_be_bytes-to_be_bytes_4 (cast_unsigned w32 number) (unsigned_below number fits)) ∙ to_z-of_z w32 number fits in
    let len : length (to_be_bytes w32 (cast_unsigned w32 number)) ≡ 4 = refl in
    let long : nat_lt (length (to_be_bytes w32 (cast_unsigned w32 number) ++ rest)) 4 ≡ false = le-ltb _ _ (omega (arith, len, length-append (to_be_bytes w32 (cast_unsigned w32 number)) rest)) in
    let done : ℤ → Option (ℤ × List ℕ) = λ found. Some (found, rest) in
    rw long (ap done same)

-- an argument of a kind, and its bytes
pub record TakesValue (kind : ℕ) (bytes : List ℕ) (value : OscValue) (rest : List ℕ) : Type 0 where
  pub letter : letter value ≡ kind
  pub is : IsArg value
  pub parts : bytes ≡ value_bytes value ++ rest

word_takes : (kind : ℕ) (bytes : List ℕ) (value : OscValue) (rest : List ℕ) → (another : Bool) → (kind == 115) ≡ another →
    cond another (option_map word_value (text_at bytes)) None ≡ Some (value, rest) → TakesValue kind bytes value rest
word_takes kind bytes value rest true same e =
    let a = some_mapped word_value (text_at bytes) (value, rest) e in
    let t = text_takes bytes a.0.0 a.0.1 a.1 in
    subst (λ (p : OscValue × List ℕ). TakesValue kind bytes p.0 p.1) a.2
    (record { letter = sym (eqb-true kind 115 same); is = t.0; parts = t.1 })
word_takes kind bytes value rest false same e = absurd cc

value_takes_by : (kind : ℕ) (bytes : List ℕ) (value : OscValue) (rest : List ℕ) → IsBytes bytes → (number : Bool) → (kind == 105) ≡ number →
    cond number (option_map number_value (number_at bytes)) (cond (kind == 115) (option_map word_value (text_at bytes)) None) ≡ Some (value, rest) → TakesValue kind bytes value rest
value_takes_by kind bytes value rest are true same e =
    let a = some_mapped number_value (number_at bytes) (value, rest) e in
    let t = number_takes bytes a.0.0 a.0.1 are a.1 in
    subst (λ (p : OscValue × List ℕ). TakesValue kind bytes p.0 p.1) a.2
    (record { letter = sym (eqb-true kind 105 same); is = t.fits; parts = t.parts })
value_takes_by kind bytes value rest are false same e = word_takes kind bytes value rest (kind == 115) refl e

pub value_takes : (kind : ℕ) (bytes : List ℕ) (value : OscValue) (rest : List ℕ) → IsBytes bytes → value_at kind bytes ≡ Some (value, rest) → TakesValue kind bytes value rest
unfolding value_at
value_takes kind bytes value rest are e = value_takes_by kind bytes value rest are (kind == 105) refl e

pub value_again : (value : OscValue) (rest : List ℕ) → IsArg value → value_at (letter value) (value_bytes value ++ rest) ≡ Some (value, rest)
unfolding value_at
value_again (Int number) rest is = rw (number_again number rest is) refl
value_again (Word word) rest is = rw (text_again word rest is) refl

-- arguments of these kinds, and their bytes
pub record TakesValues (kinds bytes : List ℕ) (args : List OscValue) : Type 0 where
  pub letters : kinds ≡ map letter args
  pub are : AllByRecursion IsArg args
  pub parts : bytes ≡ flat_map value_bytes args

pub values_take : (kinds bytes : List ℕ) (args : List OscValue) → IsBytes bytes → values_at kinds bytes ≡ Some args → TakesValues kinds bytes args
unfolding values_at
values_take [] bytes args are e =
    let g = passed (length bytes == 0) (Some []) args e in
    subst (λ (values : List OscValue). TakesValues [] bytes values) (same_Some [] args g.1)
    (record { letters = refl; are = tt; parts = nil_from_length bytes (eqb-true (length bytes) 0 g.0) })
values_take (kind ∷ kinds) bytes args are e =
    let a = bind_some (value_at kind bytes) (λ first. values_at kinds first.1 >>= λ others. Some (first.0 ∷ others)) args e in
    let b = bind_some (values_at kinds a.0.1) (λ others. Some (a.0.0 ∷ others)) args a.2 in
    let first = value_takes kind bytes a.0.0 a.0.1 are a.1 in
    let others = values_take kinds a.0.1 b.0 (rest_bytes bytes (value_bytes a.0.0) a.0.1 are first.parts) b.1 in
    subst (λ (values : List OscValue). TakesValues (kind ∷ kinds) bytes values) (same_Some (a.0.0 ∷ b.0) args b.2)
    (record {
      letters = ap (λ (k : ℕ). k ∷ kinds) (sym first.letter) ∙ ap (λ (ks : List ℕ). letter a.0.0 ∷ ks) others.letters;
      are = (first.is, others.are);
      parts = first.parts ∙ ap (λ (more : List ℕ). value_bytes a.0.0 ++ more) others.parts;
    })

pub values_again : (args : List OscValue) → AllByRecursion IsArg args → values_at (map letter args) (flat_map value_bytes args) ≡ Some args
unfolding values_at
values_again [] are = refl
values_again (value ∷ args) are =
    rw (value_again value (flat_map value_bytes args) are.0) (rw (values_again args are.1) refl)

-- no letter is zero
letter_is_not_zero : (value : OscValue) → is_zero (letter value) ≡ false
letter_is_not_zero (Int number) = refl
letter_is_not_zero (Word word) = refl

pub letters_whole : (args : List OscValue) → list_any is_zero (map letter args) ≡ false
letters_whole [] = refl
letters_whole (value ∷ args) = rw (letter_is_not_zero value, letters_whole args) refl
