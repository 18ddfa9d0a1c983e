-- The frames that came last.
use Rattle.std.specs.Prelude.{◌≡◌, ◌≤◌, ℕ, List, length, drop}

-- `window` is all of `frames` but for the first `gone`
pub record AreLast (window : List (List ℕ)) (gone : ℕ) (frames : List (List ℕ)) : Type 0 where
  pub some : gone ≤ length frames
  pub rest : drop gone frames ≡ window
