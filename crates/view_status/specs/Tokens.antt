-- Values of JSON as lists of tokens.
use Prim.Native.String.{String}
use Rattle.std.specs.Prelude.{ℕ, ℤ, Bool, List, [], ◌∷◌, ◌++◌, codes, decimal}
use Rattle.std.specs.List.{flat_map}
use Rattle.std.specs.Fmt.{signed_decimal}
use Rattle.json.specs.Token.{Token, begin_object, end_object, begin_array, end_array, key, string, number, boolean}

-- a whole number
abbrev pub whole : ℕ → List Token
whole n = number (decimal n) ∷ []

-- a whole number that may be below 0
abbrev pub signed : ℤ → List Token
signed n = number (signed_decimal n) ∷ []

-- a string of these bytes
abbrev pub text : List ℕ → List Token
text bytes = string bytes ∷ []

-- true or false
abbrev pub flag : Bool → List Token
flag value = boolean value ∷ []

-- a member of an object: its name, and the tokens of its value
abbrev pub named : List ℕ → List Token → List Token
named name value = key name ∷ value

abbrev pub member : String → List Token → List Token
member name value = named (codes name) value

-- an object of these members
abbrev pub object : List (List Token) → List Token
object members = begin_object ∷ (flat_map (λ (tokens : List Token). tokens) members ++ end_object ∷ [])

-- an array whose items have these tokens, one after another
abbrev pub array : List Token → List Token
array items = begin_array ∷ (items ++ end_array ∷ [])
