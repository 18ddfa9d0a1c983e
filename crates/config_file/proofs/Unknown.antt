-- The keys of a table, which ascend, and the least of them that is not known.
use Rattle.std.proofs.Common.{◌≡◌, ℕ, Bool, true, false, not, cond, List, [], ◌∷◌, map, Option, Some, String, Global, string_bytes, Less, refl, ap, ◌∙◌}
use Rattle.std.specs.List.{find, filter, AllByRecursion}
use Rattle.std.specs.List.Sorted.{IsStrictlySortedBy}
use Rattle.std.specs.Map.{keys_of}
use Rattle.std.specs.String.{string_cmp}
use Rattle.toml.specs.View.{members_view}
use Rattle.toml.specs.declared.value.Value.{Value}
use Rattle.config_file.specs.Section.{is_among, known_names, least, lesser, names_of, unknown_of}
use Rattle.config_file.specs.declared.section.Section.{Section}

-- the key is not known
abbrev pub is_unknown : Section → List ℕ → Bool
is_unknown section name = not (is_among (known_names section) name)

-- the first of the keys that is not known
abbrev pub first_unknown : Section → List (String Global) → Option (List ℕ)
first_unknown section keys = find (is_unknown section) (map string_bytes keys)

names_of-keys : (es : List (String Global × Value)) → names_of (members_view es) ≡ map string_bytes (keys_of es)
names_of-keys [] = refl
names_of-keys (e ∷ es) = ap (λ (names : List (List ℕ)). string_bytes e.0 ∷ names) (names_of-keys es)

-- a key below the first that passes is the least beside it
least_beside : (test : List ℕ → Bool) (k l : String Global) (found : Option (List ℕ)) (b : Bool) → test (string_bytes l) ≡ b → string_cmp k l ≡ Less
    → lesser (string_bytes k) found ≡ string_bytes k → lesser (string_bytes k) (cond (test (string_bytes l)) (Some (string_bytes l)) found) ≡ string_bytes k
least_beside test k l found true e below rest = rw (e, below)
least_beside test k l found false e below rest = rw e rest

least_of_first : (test : List ℕ → Bool) (k : String Global) (ks : List (String Global)) → AllByRecursion (λ y. string_cmp k y ≡ Less) ks
    → lesser (string_bytes k) (find test (map string_bytes ks)) ≡ string_bytes k
least_of_first test k [] below = refl
least_of_first test k (l ∷ ks) below = least_beside test k l _ (test (string_bytes l)) refl below.0 (least_of_first test k ks below.1)

first_beside : (test : List ℕ → Bool) (name : List ℕ) (passed : List (List ℕ)) (found : Option (List ℕ)) (b : Bool) → test name ≡ b → lesser name found ≡ name
    → least passed ≡ found → least (cond (test name) (name ∷ passed) passed) ≡ cond (test name) (Some name) found
first_beside test name passed found true e below same = rw (e, same, below)
first_beside test name passed found false e below same = rw e same

-- of keys that ascend the first that passes is the least
least-first : (test : List ℕ → Bool) (ks : List (String Global)) → IsStrictlySortedBy string_cmp ks
    → least (filter test (map string_bytes ks)) ≡ find test (map string_bytes ks)
unfolding IsStrictlySortedBy
least-first test [] sorted = refl
least-first test (k ∷ ks) sorted =
    first_beside test (string_bytes k) _ _ (test (string_bytes k)) refl (least_of_first test k ks sorted.0) (least-first test ks sorted.1)

pub unknown_of-first : (section : Section) (es : List (String Global × Value)) → IsStrictlySortedBy string_cmp (keys_of es)
    → unknown_of section (members_view es) ≡ first_unknown section (keys_of es)
unknown_of-first section es sorted =
    ap (λ (names : List (List ℕ)). least (filter (is_unknown section) names)) (names_of-keys es) ∙ least-first (is_unknown section) (keys_of es) sorted

pub past_known : (section : Section) (ks rest : List (String Global)) (k : String Global) → ks ≡ k ∷ rest
    → is_among (known_names section) (string_bytes k) ≡ true → first_unknown section ks ≡ first_unknown section rest
past_known section ks rest k e known = rw (e, known)

pub at_unknown : (section : Section) (ks rest : List (String Global)) (k : String Global) → ks ≡ k ∷ rest
    → is_among (known_names section) (string_bytes k) ≡ false → first_unknown section ks ≡ Some (string_bytes k)
at_unknown section ks rest k e unknown = rw (e, unknown)
