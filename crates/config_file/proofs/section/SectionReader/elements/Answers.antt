use Rattle.std.proofs.Common.{◌≡◌, ◌≤◌, length, Option, Some, None, List, refl, sym, ◌∙◌, arith}
use Rattle.play_types.specs.declared.place.TheConstants.{MAX_CHANNELS}
use Rattle.std.proofs.lemmas.Bool.Decides.{nat_tests}
use Rattle.std.specs.Prelude.{option_and_then}
use Rattle.toml.specs.Data.{as_array, Items, Data}
use Rattle.toml.specs.View.{items_view}
use Rattle.toml.specs.declared.value.Value.{Value}
use Rattle.config_file.specs.Configuration.{some_elements}
use Rattle.config_file.proofs.Elements.{few_elements, no_elements, too_many_elements}
use Rattle.config_file.proofs.section.SectionReader.elements.Goals as goal

-- an array at the key has the elements of its values
at_key : (top : Option Data) (value : Data) (items : Items) (listed values : List Value) → Some value ≡ top → Some items ≡ as_array value → items ≡ items_view values → listed ≡ values
    → some_elements (items_view listed) ≡ option_and_then some_elements (option_and_then as_array top)
at_key top value items listed values stands array seen same = rw (← stands, ← array, seen, same)

pub returns-then-not-contains-clause-elements : goal.returns-then-not-contains-clause-elements
returns-then-not-contains-clause-elements c =
    let found = at_key _ _ _ c.as_slice-elements.result.now _ c.in_ok-value.ensures c.in_ok-as_array.ensures refl c.as_slice-elements.ensures.value in
    let none : some_elements (items_view c.as_slice-elements.result.now) ≡ None = grind (arith, nat_tests, no_elements, too_many_elements) in
    sym none ∙ found

pub returns-clause-elements : goal.returns-clause-elements
returns-clause-elements c =
    let found = at_key _ _ _ c.as_slice-elements.result.now _ c.in_ok-value.ensures c.in_ok-as_array.ensures refl c.as_slice-elements.ensures.value in
    let some : 1 ≤ length c.as_slice-elements.result.now = grind (arith, nat_tests) in
    let few : length c.as_slice-elements.result.now ≤ MAX_CHANNELS = grind (arith, nat_tests) in
    sym (few_elements c.as_slice-elements.result.now some few) ∙ found
