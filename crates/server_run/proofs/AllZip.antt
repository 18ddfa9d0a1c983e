-- A list in two parts.
use Rattle.std.proofs.Common.{◌≡◌, List, [], ◌∷◌, ◌++◌, subst}
use Rattle.std.specs.List.{AllZip}

pub all_zip_append : {A B : Type 0} (R : A → B → Type 0) (xs : List A) (xs' : List B) (ys : List A) (ys' : List B)
    → AllZip R xs xs' → AllZip R ys ys' → AllZip R (xs ++ ys) (xs' ++ ys')
all_zip_append R [] [] ys ys' one other = other
all_zip_append R [] (x ∷ xs') ys ys' one other = absurd one
all_zip_append R (x ∷ xs) [] ys ys' one other = absurd one
all_zip_append R (x ∷ xs) (x' ∷ xs') ys ys' one other = (one.0, all_zip_append R xs xs' ys ys' one.1 other)

-- if a list was cut in two, what holds of the parts element by element holds of the whole
pub all_zip_halves : {A B : Type 0} (R : A → B → Type 0) (xs front back : List A) (front' back' : List B)
    → front ++ back ≡ xs → AllZip R front front' → AllZip R back back' → AllZip R xs (front' ++ back')
all_zip_halves {A} {B} R xs front back front' back' whole one other =
    let P : List A → Type 0 = λ l. AllZip R l (front' ++ back') in
    subst P whole (all_zip_append R front front' back back' one other)
