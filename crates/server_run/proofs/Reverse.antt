-- Lists whose elements were moved, the last one first.
use Rattle.std.proofs.Common.{◌≡◌, suc, ◌||◌, Bool, true, false, List, [], ◌∷◌, ◌++◌, length, map, reverse, refl, sym, ap, ◌∙◌, subst, arith, append_assoc}
use Rattle.std.specs.List.{AllZip, list_any}
use Rattle.std.proofs.lemmas.List.{length-append, map-append, reverse-append}
use Rattle.std.proofs.lemmas.List.Folds.{list_any-append}
use mathlib.Core.List.{reverse-cons}
use Rattle.server_run.proofs.AllZip.{all_zip_append}

-- one more element was moved from the end of a list to the end of another
pub taken_more : {X Y : Type 0} (f : X → Y) (whole before after : List Y) (taken : List X) (x : X) (y : Y)
    → whole ≡ before ++ map f (reverse taken) → before ≡ after ++ y ∷ [] → y ≡ f x → whole ≡ after ++ map f (reverse (taken ++ x ∷ []))
taken_more {X} {Y} f whole before after taken x y so_far last is =
    so_far ∙ ap (λ (l : List Y). l ++ map f (reverse taken)) last
    ∙ append_assoc after (y ∷ []) (map f (reverse taken))
    ∙ ap (λ (z : Y). after ++ z ∷ map f (reverse taken)) is
    ∙ ap (λ (l : List X). after ++ map f l) (sym (reverse-append taken (x ∷ [])))

-- one element more was given back
pub given_more : {X Y : Type 0} (f : X → Y) (whole before after : List Y) (left fewer : List X) (x : X)
    → before ++ map f (reverse left) ≡ whole → left ≡ fewer ++ x ∷ [] → after ≡ before ++ f x ∷ [] → after ++ map f (reverse fewer) ≡ whole
given_more {X} {Y} f whole before after left fewer x so_far last more =
    ap (λ (l : List Y). l ++ map f (reverse fewer)) more
    ∙ append_assoc before (f x ∷ []) (map f (reverse fewer))
    ∙ ap (λ (l : List X). before ++ map f l) (sym (reverse-append fewer (x ∷ [])))
    ∙ ap (λ (l : List X). before ++ map f (reverse l)) (sym last)
    ∙ so_far

-- what holds element by element holds from the end on
pub all_zip_reverse : {A B : Type 0} (R : A → B → Type 0) (xs : List A) (ys : List B) → AllZip R xs ys → AllZip R (reverse xs) (reverse ys)
all_zip_reverse R [] [] all = tt
all_zip_reverse R [] (y ∷ ys) all = absurd all
all_zip_reverse R (x ∷ xs) [] all = absurd all
all_zip_reverse {A} {B} R (x ∷ xs) (y ∷ ys) all =
    subst (λ (l : List A). AllZip R l (reverse (y ∷ ys))) (sym (reverse-cons x xs))
    (subst (λ (l : List B). AllZip R (reverse xs ++ x ∷ []) l) (sym (reverse-cons y ys))
    (all_zip_append R (reverse xs) (reverse ys) (x ∷ []) (y ∷ []) (all_zip_reverse R xs ys all.1) (all.0, tt)))

pub all_zip_many : {A B : Type 0} (R : A → B → Type 0) (xs : List A) (ys : List B) → AllZip R xs ys → length ys ≡ length xs
all_zip_many R [] [] all = refl
all_zip_many R [] (y ∷ ys) all = absurd all
all_zip_many R (x ∷ xs) [] all = absurd all
all_zip_many R (x ∷ xs) (y ∷ ys) all = ap suc (all_zip_many R xs ys all.1)

or_exchanged : (a b : Bool) → (a || (b || false)) ≡ (b || a)
or_exchanged true true = refl
or_exchanged true false = refl
or_exchanged false true = refl
or_exchanged false false = refl

-- whether there is such an element does not depend on the order
pub any_reversed : {X Y : Type 0} (p : Y → Bool) (f : X → Y) (xs : List X) → list_any p (map f (reverse xs)) ≡ list_any (λ x. p (f x)) xs
any_reversed p f [] = refl
any_reversed {X} {Y} p f (x ∷ xs) =
    ap (λ (l : List X). list_any p (map f l)) (reverse-cons x xs)
    ∙ ap (list_any p) (map-append f (reverse xs) (x ∷ []))
    ∙ list_any-append p (map f (reverse xs)) (f x ∷ [])
    ∙ ap (λ (b : Bool). b || (p (f x) || false)) (any_reversed p f xs)
    ∙ or_exchanged (list_any (λ x. p (f x)) xs) (p (f x))

-- a list without an element
pub none : {X : Type 0} (xs : List X) → length xs ≡ 0 → xs ≡ []
none [] many = refl
none (x ∷ xs) many = absurd (omega (arith, many))

pub heads : {X : Type 0} (x y : X) (xs ys : List X) → x ∷ xs ≡ y ∷ ys → x ≡ y
heads x y xs ys same = cc same

pub tails : {X : Type 0} (x y : X) (xs ys : List X) → x ∷ xs ≡ y ∷ ys → xs ≡ ys
tails x y xs ys same = cc same

-- if all but the first element were taken, the first one is left
pub first_left : {X : Type 0} (x : X) (zs xs ys : List X) → x ∷ zs ≡ xs ++ ys → length ys ≡ length zs → (xs ≡ x ∷ []) × (ys ≡ zs)
first_left x zs [] ys same many = absurd (omega (arith, ap length same, many))
first_left {X} x zs (y ∷ []) ys same many = (ap (λ (z : X). z ∷ []) (sym (heads x y zs ys same)), sym (tails x y zs ys same))
first_left x zs (y ∷ y' ∷ xs) ys same many = absurd (omega (arith, ap length same, length-append xs ys, many))

-- lists with a last element each that are one list have one last element
pub same_last : {X : Type 0} (xs ys : List X) (x y : X) → xs ++ x ∷ [] ≡ ys ++ y ∷ [] → (xs ≡ ys) × (x ≡ y)
same_last [] [] x y same = (refl, heads x y [] [] same)
same_last [] (z ∷ ys) x y same = absurd (omega (arith, ap length same, length-append ys (y ∷ [])))
same_last (z ∷ xs) [] x y same = absurd (omega (arith, ap length same, length-append xs (x ∷ [])))
same_last {X} (z ∷ xs) (z' ∷ ys) x y same =
    let rest = same_last xs ys x y (tails z z' (xs ++ x ∷ []) (ys ++ y ∷ []) same) in (
      ap (λ (a : X). a ∷ xs) (heads z z' (xs ++ x ∷ []) (ys ++ y ∷ []) same) ∙ ap (λ (l : List X). z' ∷ l) rest.0,
      rest.1,
    )

-- a list of one element has no other
pub only_one : {X : Type 0} (xs : List X) (x y : X) → x ∷ [] ≡ xs ++ y ∷ [] → (xs ≡ []) × (y ≡ x)
only_one [] x y same = (refl, sym (heads x y [] [] same))
only_one (z ∷ xs) x y same = absurd (omega (arith, ap length same, length-append xs (y ∷ [])))
