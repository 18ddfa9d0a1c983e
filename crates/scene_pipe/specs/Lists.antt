-- What comes out of a ring.
use Rattle.std.specs.Prelude.{◌≡◌, Bool, true, false, List, [], ◌∷◌, ◌++◌, All}

-- this item came out last: it is the first that fits, after others that were passed over
pub record GetsNext {T : Type 0} (fits : T → Bool) (item : T) (old new : List T) : Type 0 where
  pub others : List T
  pub foreign : All (λ other. fits other ≡ false) others
  pub own : fits item ≡ true
  pub lists : new ≡ old ++ others ++ item ∷ []
