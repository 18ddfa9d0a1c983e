-- Lists from which some items are left out.
use Rattle.std.specs.Prelude.{◌≡◌, ◌⊎◌, ⊤, List, [], ◌∷◌}

-- the first list is the second with some items left out
abbrev pub IsPickedFrom : {X : Type 0} → List X → List X → Type 0
IsPickedFrom [] ys = ⊤
IsPickedFrom (x ∷ xs) [] = ⊥
IsPickedFrom (x ∷ xs) (y ∷ ys) = ((x ≡ y) × IsPickedFrom xs ys) ⊎ IsPickedFrom (x ∷ xs) ys
