-- Arguments that are read one after another.
use Rattle.std.proofs.Common.{◌≡◌, ℕ, ◌+◌, ◌<◌, ◌≤◌, Bool, true, false, cond, ◌==◌, List, [], ◌∷◌, ◌++◌, length, get_or, drop, Option, Some, None, refl, sym, ap, ◌∙◌, append_assoc, append-nil, add-one, rules, inl, inr}
use Rattle.std.specs.Prelude.{option_map, is_some, IsSome, ◌⊎◌}
use Rattle.std.proofs.lemmas.List.{drop_all}
use Rattle.std.proofs.Math.Seq.{drop-cons}
use Rattle.osc_status.specs.declared.arg.OscValue.{OscValue}
use Rattle.osc_status.specs.inner.Reading.{◌>>=◌, value_at, values_at}

-- arguments before others, if there are others
abbrev pub after_args : List OscValue → Option (List OscValue) → Option (List OscValue)
after_args args more = option_map (λ (others : List OscValue). args ++ others) more

first-of : (value : OscValue) (more : Option (List OscValue)) → (more >>= λ others. Some (value ∷ others)) ≡ after_args (value ∷ []) more
first-of value None = refl
first-of value (Some others) = refl

-- the first argument was read, and the others follow it
values-first : (kind : ℕ) (kinds bytes : List ℕ) (value : OscValue) (rest : List ℕ) → value_at kind bytes ≡ Some (value, rest)
    → values_at (kind ∷ kinds) bytes ≡ after_args (value ∷ []) (values_at kinds rest)
unfolding values_at
values-first kind kinds bytes value rest e = rw e (first-of value (values_at kinds rest))

values-none : (kind : ℕ) (kinds bytes : List ℕ) → value_at kind bytes ≡ None → values_at (kind ∷ kinds) bytes ≡ None
unfolding values_at
values-none kind kinds bytes e = rw e refl

from-place : (kinds : List ℕ) (at d : ℕ) → at < length kinds → drop at kinds ≡ get_or kinds at d ∷ drop (at + 1) kinds
from-place kinds at d within = drop-cons kinds at d within ∙ ap (λ (n : ℕ). get_or kinds at d ∷ drop n kinds) (sym (add-one at))

-- the argument at a place was read
pub values-turn : (kinds : List ℕ) (at d : ℕ) (bytes : List ℕ) (value : OscValue) (rest : List ℕ) → at < length kinds
    → value_at (get_or kinds at d) bytes ≡ Some (value, rest) → values_at (drop at kinds) bytes ≡ after_args (value ∷ []) (values_at (drop (at + 1) kinds) rest)
values-turn kinds at d bytes value rest within e =
    ap (λ (ks : List ℕ). values_at ks bytes) (from-place kinds at d within) ∙ values-first (get_or kinds at d) (drop (at + 1) kinds) bytes value rest e

-- there is no argument of the kind at this place
pub values-end : (kinds : List ℕ) (at d : ℕ) (bytes : List ℕ) → at < length kinds → value_at (get_or kinds at d) bytes ≡ None → values_at (drop at kinds) bytes ≡ None
values-end kinds at d bytes within e =
    ap (λ (ks : List ℕ). values_at ks bytes) (from-place kinds at d within) ∙ values-none (get_or kinds at d) (drop (at + 1) kinds) bytes e

-- all arguments were read
pub values-all : (kinds : List ℕ) (at : ℕ) (bytes : List ℕ) → length kinds ≤ at → values_at (drop at kinds) bytes ≡ cond (length bytes == 0) (Some []) None
unfolding values_at
values-all kinds at bytes past = rw (drop_all at kinds past) refl

pub some-after : (args : List OscValue) (more : Option (List OscValue)) → is_some (after_args args more) ≡ is_some more
some-after args None = refl
some-after args (Some others) = refl

pub after-after : (args : List OscValue) (value : OscValue) (more : Option (List OscValue)) → after_args args (after_args (value ∷ []) more) ≡ after_args (args ++ value ∷ []) more
after-after args value None = refl
after-after args value (Some others) = ap (λ (all : List OscValue). Some all) (sym (append_assoc args (value ∷ []) others))

pub nothing-before : (more : Option (List OscValue)) → after_args [] more ≡ more
nothing-before None = refl
nothing-before (Some others) = refl

pub is-empty : (test : Bool) → is_some {T = List OscValue} (cond test (Some []) None) ≡ test
is-empty true = refl
is-empty false = refl

cases_found : {A : Type 0} (o : Option A) → (is_some o ≡ true) ⊎ (o ≡ None)
cases_found (Some x) = inl refl
cases_found None = inr refl

-- there is an argument at the front if the arguments of the kinds from this place on are read
pub value-there : (kinds : List ℕ) (at d : ℕ) (bytes : List ℕ) → at < length kinds → is_some (values_at (drop at kinds) bytes) ≡ true → is_some (value_at (get_or kinds at d) bytes) ≡ true
value-there kinds at d bytes within some = elim (cases_found (value_at (get_or kinds at d) bytes)) [
  | inl found ↦ found
  | inr none ↦ absurd (cc (rw (values-end kinds at d bytes within none) at some))
]

-- what is found is found whatever is seen of it
pub some_seen : {A B : Type 0} (f : A → B) (o : Option A) → is_some (option_map f o) ≡ true → IsSome o
some_seen f (Some x) e = search rules
some_seen f None e = absurd cc

-- nothing is left after all arguments
pub all_read : (args : List OscValue) (nothing_left : Bool) (found : Option (List OscValue)) → after_args args (cond nothing_left (Some []) None) ≡ found
    → is_some found ≡ true → found ≡ Some args
all_read args true found e some = sym e ∙ ap (λ (all : List OscValue). Some all) (append-nil args)
all_read args false found e some = absurd (cc (rw (← e) at some))
