-- Elements of an array, one after another.
use Rattle.std.proofs.Common.{◌≡◌, ◌<◌, ◌≤◌, List, [], ◌∷◌, length, Some, None, refl, arith}
use Rattle.std.proofs.lemmas.Bool.Decides.{nat_tests}
use Rattle.toml.specs.View.{items_view}
use Rattle.toml.specs.declared.value.Value.{Value}
use Rattle.play_types.specs.declared.place.TheConstants.{MAX_CHANNELS}
use Rattle.config_file.specs.Configuration.{list_of, some_elements}

pub length-list_of : (vs : List Value) → length (list_of (items_view vs)) ≡ length vs
length-list_of [] = refl
length-list_of (v ∷ vs) = let rest = length-list_of vs in omega arith

-- 1 to 16 elements are some, and other numbers are none
pub few_elements : (vs : List Value) → 1 ≤ length vs → length vs ≤ MAX_CHANNELS → some_elements (items_view vs) ≡ Some (list_of (items_view vs))
few_elements vs some few = let same = length-list_of vs in grind (arith, nat_tests)

pub no_elements : (vs : List Value) → length vs ≡ 0 → some_elements (items_view vs) ≡ None
no_elements vs none = let same = length-list_of vs in grind (arith, nat_tests)

pub too_many_elements : (vs : List Value) → MAX_CHANNELS < length vs → some_elements (items_view vs) ≡ None
too_many_elements vs many = let same = length-list_of vs in grind (arith, nat_tests)
