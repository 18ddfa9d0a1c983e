-- Texts that are their own bytes.
use Rattle.std.specs.Prelude.{ℕ, nat_lt, ◌&&◌, Bool, List}
use Rattle.std.specs.List.{list_all}

-- characters of ASCII that are not zero
abbrev pub is_plain : ℕ → Bool
is_plain c = nat_lt 0 c && nat_lt c 128

abbrev pub are_plain : List ℕ → Bool
are_plain text = list_all is_plain text
