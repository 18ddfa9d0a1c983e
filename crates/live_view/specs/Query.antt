-- What the query of a target asks for.
use Rattle.std.specs.Prelude.{ℕ, Option, Some, None, option_and_then, option_map, List, codes}
use Rattle.amcp_text.specs.Numbers.{number_within}
use Rattle.live_view.specs.declared.query.TheConstants.{MAX_WIDTH, MAX_AFTER}
use Rattle.live_view.specs.Target.{after_prefix}

-- the number after a key, if the whole query is the key and a number from `least` to `most` in digits
abbrev pub number_after : List ℕ → ℕ → ℕ → List ℕ → Option ℕ
number_after key least most query = option_and_then (number_within least most) (after_prefix key query)

-- the width that a query asks for, `Some None` if there is no query, and none if the query is wrong
abbrev pub width_in : Option (List ℕ) → Option (Option ℕ)
width_in None = Some None
width_in (Some query) = option_map Some (number_after (codes "width=") 1 MAX_WIDTH query)

-- the position from which events are asked for, 0 if there is no query, and none if the query is wrong
abbrev pub after_in : Option (List ℕ) → Option ℕ
after_in None = Some 0
after_in (Some query) = number_after (codes "after=") 0 MAX_AFTER query
