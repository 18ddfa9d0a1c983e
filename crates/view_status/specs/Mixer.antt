-- The mixer properties of a layer.
use Rattle.std.specs.Prelude.{nat_le, ℤ, Bool, if◌then◌else◌, List, [], map, take, flat_map}
use Rattle.std.specs.Ordering.{int_eq}
use Rattle.std.specs.Cmp.Lexicographic.{pointwise}
use Rattle.json.specs.Token.{Token}
use Rattle.play_types.specs.History.{ticks}
use Rattle.play_types.specs.Place.{PlaceView}
use Rattle.play_types.specs.Words.{all_props, prop_text}
use Rattle.play_types.specs.declared.event.Event.{Event}
use Rattle.play_types.specs.declared.place.TheConstants.{MAX_LAYER}
use Rattle.play_types.specs.declared.setting.Prop.{Prop}
use Rattle.history_model.specs.stage.Answer.{number_count}
use Rattle.history_model.specs.stage.Value.{default_of, value}
use Rattle.view_status.specs.Tokens.{array, named, object, signed}

-- the numbers of a property of a place after a history, in millionths
abbrev pub numbers_of : List Event → PlaceView → Prop → List ℤ
numbers_of history place prop = take (number_count prop) (value history place prop (ticks history))

-- whether the numbers of a property are those that it has without any setting
abbrev pub are_default : Prop → List ℤ → Bool
are_default prop numbers = pointwise int_eq numbers (take (number_count prop) (default_of prop))

-- the member of a property: none if its numbers are the default
abbrev pub property_tokens : Prop → List ℤ → List Token
property_tokens prop numbers = if are_default prop numbers then [] else named (prop_text prop) (array (flat_map signed numbers))

-- the properties of a place that are not the default, each as a member. Layers are at most MAX_LAYER, and one above it would have none
abbrev pub properties : List Event → PlaceView → List (List Token)
properties history place =
    if nat_le place.layer MAX_LAYER then map (λ prop. property_tokens prop (numbers_of history place prop)) all_props else []

-- the properties of a place as an object
abbrev pub mixer_tokens : List Event → PlaceView → List Token
mixer_tokens history place = object (properties history place)
