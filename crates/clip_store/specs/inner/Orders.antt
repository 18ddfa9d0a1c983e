-- Clip files in strictly rising order of their clips' names.
use Rattle.std.specs.Prelude.{◌≡◌, true, List, [], ◌∷◌, All}
use Rattle.std.specs.Ordering.{nat_cmp, is_lt}
use Rattle.std.specs.Cmp.Lexicographic.{slice_cmp}
use Rattle.clip_store.specs.Listing.{Found}

-- each name is below all that come after it
abbrev pub IsStrict : List Found → Type 0
IsStrict [] = Unit {0}
IsStrict (x ∷ xs) = All (λ later. is_lt (slice_cmp nat_cmp x.name later.name) ≡ true) xs × IsStrict xs
