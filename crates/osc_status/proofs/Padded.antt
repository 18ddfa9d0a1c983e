-- Where padded bytes end.
use Rattle.std.proofs.Common.{◌≡◌, ◌++◌, List, [], ◌∷◌, ℕ, zero, suc, ◌+◌, ◌-◌, ◌<◌, ◌≤◌, length, take, drop, replicate, ◌%◌, Bool, true, false, cond, ◌||◌, Option, None, inl, inr, refl, arith, sym, ap, ap₂, Some, subst, nat_lt}
use Rattle.std.proofs.lemmas.Bool.{cases_Bool, lt-ltb, le-ltb, ltb-false}
use Rattle.std.proofs.lemmas.Bool.Decides.{eqb_tells}
use Rattle.std.proofs.lemmas.List.{append_assoc, length-append, length-replicate, take-append-le, drop-append-le, take_all, drop_all, take-append-drop, length-take, length-drop, drop-drop}
use Rattle.std.specs.List.{list_any, position, position_or_len}
use Rattle.osc_status.specs.Texts.{is_other, is_zero, padded}
use Rattle.osc_status.specs.inner.Reading.{◌>>=◌, lacks_padding, padded_at, whole_len}

-- the value of a step that had one
pub bind_some : {A B : Type 0} (o : Option A) (f : A → Option B) (y : B) → (o >>= f) ≡ Some y → (x : A) × (o ≡ Some x) × (f x ≡ Some y)
bind_some (Some x) f y e = (x, refl, e)
bind_some None f y e = absurd cc

-- a test that did not fail
pub passed_over : {A : Type 0} (b : Bool) (x y : A) → cond b None (Some x) ≡ Some y → (b ≡ false) × (x ≡ y)
passed_over true x y e = absurd cc
passed_over false x y e = (refl, cc)

pub passed : {A : Type 0} (b : Bool) (o : Option A) (y : A) → cond b o None ≡ Some y → (b ≡ true) × (o ≡ Some y)
passed true o y e = (refl, e)
passed false o y e = absurd cc

pub neither : (a b : Bool) → (a || b) ≡ false → (a ≡ false) × (b ≡ false)
neither false false e = (refl, refl)
neither false true e = absurd cc
neither true b e = absurd cc

-- the first element that passes comes after those that do not
first-after : {X : Type 0} (p : X → Bool) (word : List X) (x : X) (tail : List X) → p x ≡ true → list_any p word ≡ false →
    position_or_len p (word ++ x ∷ tail) ≡ length word
first-after p [] x tail passes none = rw passes refl
first-after p (w ∷ word) x tail passes none = elim (cases_Bool (p w)) [
  | inl passing ↦ absurd (cc (rw passing at none))
  | inr failing ↦ rw (failing, first-after p word x tail passes (rw failing at none)) (omega arith)
]

-- none passes before the first one
none-before : {X : Type 0} (p : X → Bool) (xs : List X) → list_any p (take (position_or_len p xs) xs) ≡ false
none-before p [] = refl
none-before p (x ∷ xs) = elim (cases_Bool (p x)) [
  | inl passing ↦ rw passing refl
  | inr failing ↦
      let next : 1 + position_or_len p xs ≡ suc (position_or_len p xs) = omega arith in
      rw (failing, next) (rw failing (none-before p xs))
]

-- bytes among which no other is are zeros
zeros-are : (bytes : List ℕ) → list_any is_other bytes ≡ false → bytes ≡ replicate {A = ℕ} (length bytes) 0
zeros-are [] none = refl
zeros-are (byte ∷ bytes) none = elim (eqb_tells byte 0) [
  | inl w ↦
      let more : bytes ≡ replicate {A = ℕ} (length bytes) 0 = zeros-are bytes (rw w.0 at none) in
      ap₂ (λ (b : ℕ) (bs : List ℕ). b ∷ bs) w.1 more
  | inr w ↦ absurd (cc (rw w.0 at none))
]

-- zeros alone have no other
zeros-alone : (n : ℕ) → list_any is_other (replicate {A = ℕ} n 0) ≡ false
zeros-alone zero = refl
zeros-alone (suc n) = zeros-alone n

-- padded bytes and what follows them have a zero byte right after the word
padded-parts : (word rest : List ℕ) → padded word ++ rest ≡ word ++ 0 ∷ (replicate {A = ℕ} (3 - length word % 4) 0 ++ rest)
padded-parts word rest =
    let e : 4 - length word % 4 ≡ suc (3 - length word % 4) = omega arith in
    rw (append_assoc word (replicate {A = ℕ} (4 - length word % 4) 0) rest, e) refl

-- the first zero byte is at the length of the word
padded-found : (word rest : List ℕ) → list_any is_zero word ≡ false → position is_zero (padded word ++ rest) ≡ Some (length word)
padded-found word rest whole =
    let f : padded word ++ rest ≡ word ++ 0 ∷ (replicate {A = ℕ} (3 - length word % 4) 0 ++ rest) = padded-parts word rest in
    let at : position_or_len is_zero (padded word ++ rest) ≡ length word = rw f (first-after is_zero word 0 (replicate {A = ℕ} (3 - length word % 4) 0 ++ rest) refl whole) in
    let long : length word < length (padded word ++ rest) = omega (arith, ap (λ (xs : List ℕ). length xs) f, length-append word (0 ∷ (replicate {A = ℕ} (3 - length word % 4) 0 ++ rest))) in
    rw (at, lt-ltb (length word) (length (padded word ++ rest)) long) refl

-- padding reaches to the next multiple of four
pub length-padded : (word : List ℕ) → length (padded word) ≡ whole_len (length word)
length-padded word =
    omega (
      arith,
      length-append word (replicate {A = ℕ} (4 - length word % 4) 0),
      length-replicate {A = ℕ} (4 - length word % 4) 0,
    )

padded-long : (word rest : List ℕ) → whole_len (length word) ≤ length (padded word ++ rest)
padded-long word rest = omega (arith, length-padded word, length-append (padded word) rest)

drop-word : (word more : List ℕ) → drop (length word) (word ++ more) ≡ more
drop-word word more = rw (drop-append-le (length word) word more (omega arith), drop_all (length word) word (omega arith)) refl

take-word : (word more : List ℕ) (n : ℕ) → n ≡ length word → take n (word ++ more) ≡ word
take-word word more n e = rw (e, take-append-le (length word) word more (omega arith)) (take_all (length word) word (omega arith))

-- the first bytes are the word
padded-word : (word rest : List ℕ) → take (length word) (padded word ++ rest) ≡ word
padded-word word rest =
    rw append_assoc (take-word word (replicate {A = ℕ} (4 - length word % 4) 0 ++ rest) (length word) refl)

-- what follows the padding
padded-rest : (word rest : List ℕ) → drop (whole_len (length word)) (padded word ++ rest) ≡ rest
padded-rest word rest =
    rw (← length-padded word) (drop-word (padded word) rest)

-- the other bytes are zeros
padded-zeros : (word rest : List ℕ) →
    list_any is_other (take (whole_len (length word) - length word) (drop (length word) (padded word ++ rest))) ≡ false
padded-zeros word rest =
    let n : whole_len (length word) - length word ≡ length (replicate {A = ℕ} (4 - length word % 4) 0) = omega (arith, length-replicate {A = ℕ} (4 - length word % 4) 0) in
    rw (append_assoc, drop-word word (replicate {A = ℕ} (4 - length word % 4) 0 ++ rest), take-word (replicate {A = ℕ} (4 - length word % 4) 0) rest (whole_len (length word) - length word) n)
    (zeros-alone (4 - length word % 4))

-- what is padded is found, whatever follows it
pub padded_again : (word rest : List ℕ) → list_any is_zero word ≡ false → padded_at (padded word ++ rest) ≡ Some (word, rest)
unfolding padded_at
padded_again word rest whole =
    let long : nat_lt (length (padded word ++ rest)) (whole_len (length word)) ≡ false = le-ltb _ _ (padded-long word rest) in
    rw (padded-found word rest whole)
    (rw (long, padded-zeros word rest, padded-word word rest, padded-rest word rest) refl)

reach : (len : ℕ) → len + (whole_len len - len) ≡ whole_len len
reach len = omega arith

-- bytes that have zeros from a place on to the next multiple of four begin with padded ones
padded-is : (bytes : List ℕ) (len : ℕ) → whole_len len ≤ length bytes →
    list_any is_other (take (whole_len len - len) (drop len bytes)) ≡ false →
    bytes ≡ padded (take len bytes) ++ drop (whole_len len) bytes
padded-is bytes len long zeros =
    let short : length (take len bytes) ≡ len = omega (arith, length-take len bytes) in
    let count : length (take (whole_len len - len) (drop len bytes)) ≡ 4 - len % 4 = omega (arith, length-take (whole_len len - len) (drop len bytes), length-drop len bytes) in
    let middle : take (whole_len len - len) (drop len bytes) ≡ replicate {A = ℕ} (4 - len % 4) 0 = rw count at (zeros-are (take (whole_len len - len) (drop len bytes)) zeros) in
    let both : drop (whole_len len - len) (drop len bytes) ≡ drop (whole_len len) bytes =
    rw (drop-drop (whole_len len - len) len bytes, reach len) refl in
    rw (
      short,
      sym middle,
      append_assoc (take len bytes) (take (whole_len len - len) (drop len bytes)) (drop (whole_len len) bytes),
      sym both,
      take-append-drop (whole_len len - len) (drop len bytes),
      take-append-drop len bytes,
    )
    refl

-- before the first zero byte there is none
no-zero : (bytes : List ℕ) (len : ℕ) → position is_zero bytes ≡ Some len → list_any is_zero (take len bytes) ≡ false
no-zero bytes len found = elim (cases_Bool (nat_lt (position_or_len is_zero bytes) (length bytes))) [
  | inl inside ↦
      let f : position_or_len is_zero bytes ≡ len = cc (rw inside at found) in
      rw (← f) (none-before is_zero bytes)
  | inr outside ↦ absurd (cc (rw outside at found))
]

-- what is found is padded
pub padded_takes : (bytes word rest : List ℕ) → padded_at bytes ≡ Some (word, rest) → (list_any is_zero word ≡ false) × (bytes ≡ padded word ++ rest)
unfolding padded_at
padded_takes bytes word rest e =
    let a = bind_some (position is_zero bytes) (λ len. cond (lacks_padding bytes len) None (Some (take len bytes, drop (whole_len len) bytes))) (word, rest) e in
    let len = a.0 in
    let g = passed_over (lacks_padding bytes len) (take len bytes, drop (whole_len len) bytes) (word, rest) a.2 in
    let tests = neither (nat_lt (length bytes) (whole_len len)) (list_any is_other (take (whole_len len - len) (drop len bytes))) g.0 in
    subst (λ (p : List ℕ × List ℕ). (list_any is_zero p.0 ≡ false) × (bytes ≡ padded p.0 ++ p.1)) g.1
    (no-zero bytes len a.1, padded-is bytes len (ltb-false _ _ tests.0) tests.1)
