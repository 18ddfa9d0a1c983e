-- What a tick draws, place by place.
use Rattle.std.proofs.Common.{◌≡◌, ℕ, ◌+◌, ◌-◌, ◌<◌, ◌≤◌, List, [], ◌∷◌, ◌++◌, length, get_or, set, take, drop, map, refl, sym, ap, ◌∙◌, arith, add-one, append_assoc, drop-cons, get_or-set_same, set-set, replicate, zero, suc}
use Rattle.std.proofs.lemmas.List.{length-append, length-drop, length-map, length-replicate, length-take-le, get_or_default, get_or-append_right, get_or-drop}
use Rattle.std.proofs.lemmas.List.Edits.{map_over_more}
use Rattle.play_types.specs.Scene.{scene_at, with_layer}
use Rattle.play_types.specs.declared.drawn.Drawn.{Drawn}
use Rattle.history_model.specs.stage.Life.{Life, after}
use Rattle.history_model.specs.stage.Places.{Places, one_tick_later}
use Rattle.stage_core.specs.inner.Target.{with_layers}

-- one place more is one tick later
pub places-more : (xs ys : Places) (i : ℕ) (x : ℕ × Life) (life : Life) → i < length xs →
    ys ≡ map one_tick_later (take i xs) ++ drop i xs → x ≡ get_or ys i x → life ≡ after x.1 1 →
    set ys i (x.0, life) ≡ map one_tick_later (take (i + 1) xs) ++ drop (i + 1) xs
places-more xs ys i x life within so_far read now =
    ap (λ (s : Life). set ys i (x.0, s)) now ∙ map_over_more one_tick_later xs ys i x within so_far read

-- an element that the loop has not reached is as it was
pub element_left : {X : Type 0} (f : X → X) (xs ys : List X) (i : ℕ) (d : X) → i < length xs → ys ≡ map f (take i xs) ++ drop i xs →
    get_or ys i d ≡ get_or xs i d
element_left f xs ys i d within so_far =
    let count : length (map f (take i xs)) ≡ i = length-map (take i xs) f ∙ length-take-le i xs (omega arith) in
    let here : i + (i - i) ≡ i = omega arith in
    ap (λ zs. get_or zs i d) so_far
    ∙ get_or-append_right (map f (take i xs)) (drop i xs) i i d count (omega arith)
    ∙ get_or-drop i xs (i - i) d ∙ ap (λ (n : ℕ). get_or xs n d) here

-- and it is what is read there, however often
module _ {X : Type 0} (f : X → X) (xs ys : List X) (at : ℕ) (within : at < length xs) (kept : length ys ≡ length xs)
    (so_far : ys ≡ map f (take at xs) ++ drop at xs) where
  pub read_again : (d e : X) → get_or ys at e ≡ get_or ys at d
  read_again d e = get_or_default ys at e d (omega (arith, within, kept))

  pub read_here : (d : X) → get_or xs at (get_or ys at d) ≡ get_or ys at d
  read_here d = sym (read_again (get_or ys at d) d ∙ element_left f xs ys at (get_or ys at d) within so_far)

-- one layer more in the scene of a channel
pub with_layers-more : (channel : ℕ) (layers : List Drawn) (drawn : Drawn) (scenes : List (List Drawn)) → channel - 1 < length scenes →
    with_layer channel drawn (with_layers channel layers scenes) ≡ with_layers channel (layers ++ drawn ∷ []) scenes
with_layers-more channel layers drawn scenes within =
    let before : List Drawn = scene_at channel scenes ++ layers in
    ap (λ (mine : List Drawn). set (set scenes (channel - 1) before) (channel - 1) (mine ++ drawn ∷ []))
    (get_or-set_same scenes (channel - 1) before [] within)
    ∙ set-set scenes (channel - 1) before (before ++ drawn ∷ [])
    ∙ ap (set scenes (channel - 1)) (append_assoc (scene_at channel scenes) layers (drawn ∷ []))

-- lists of one channel more
set_seam : {X : Type 0} (xs rest : List X) (x y : X) → set (xs ++ x ∷ rest) (length xs) y ≡ xs ++ y ∷ rest
set_seam [] rest x y = refl
set_seam (z ∷ xs) rest x y = ap (λ more. z ∷ more) (set_seam xs rest x y)

-- channels for which nothing was added yet
abbrev pub blank : {X : Type 0} → ℕ → List (List X)
blank n = replicate n []

module _ {X : Type 0} where
  blank_at : (n i : ℕ) → get_or (blank {X = X} n) i [] ≡ []
  blank_at zero i = refl
  blank_at (suc n) zero = refl
  blank_at (suc n) (suc i) = blank_at n i

  pub left_blank : (done : List (List X)) (n i : ℕ) → length done ≡ i → get_or (done ++ drop i (blank n)) ((i + 1) - 1) [] ≡ []
  left_blank done n i count =
      let here : (i + 1) - 1 ≡ i = omega arith in
      let same : i + (i - i) ≡ i = omega arith in
      ap (λ (k : ℕ). get_or (done ++ drop i (blank n)) k []) here
      ∙ get_or-append_right done (drop i (blank n)) i i [] count (omega arith)
      ∙ get_or-drop i (blank n) (i - i) [] ∙ ap (λ (k : ℕ). get_or (blank n) k []) same ∙ blank_at n i

  pub set_next : (done : List (List X)) (layers : List X) (n i : ℕ) → length done ≡ i → i < n →
      set (done ++ drop i (blank n)) ((i + 1) - 1) layers ≡ (done ++ layers ∷ []) ++ drop (i + 1) (blank n)
  set_next done layers n i count within =
      let here : (i + 1) - 1 ≡ i = omega arith in
      let rest : List (List X) = drop (suc i) (blank n) in
      let cut : drop i (blank n) ≡ get_or (blank n) i [] ∷ rest =
      drop-cons (blank n) i [] (let all : length (blank {X = X} n) ≡ n = length-replicate n [] in omega (arith, all)) in
      ap (λ (k : ℕ). set (done ++ drop i (blank n)) k layers) (here ∙ sym count)
      ∙ ap (λ (zs : List (List X)). set (done ++ zs) (length done) layers) cut
      ∙ set_seam done rest (get_or (blank n) i []) layers
      ∙ sym (append_assoc done (layers ∷ []) rest)
      ∙ ap (λ (k : ℕ). (done ++ layers ∷ []) ++ drop k (blank n)) (sym (add-one i))

  pub length-between : (done : List (List X)) (n i : ℕ) → length done ≡ i → i ≤ n → length (done ++ drop i (blank n)) ≡ n
  length-between done n i count within =
      let all : length (blank {X = X} n) ≡ n = length-replicate n [] in
      let rest = length-drop i (blank {X = X} n) in
      let both = length-append done (drop i (blank {X = X} n)) in omega (arith, all, rest, both, count, within)

pub scenes-more : (done : List (List Drawn)) (layers : List Drawn) (n i : ℕ) → length done ≡ i → i < n →
    with_layers (i + 1) layers (done ++ drop i (blank n)) ≡ (done ++ layers ∷ []) ++ drop (i + 1) (blank n)
scenes-more done layers n i count within =
    ap (λ (mine : List Drawn). set (done ++ drop i (blank n)) ((i + 1) - 1) (mine ++ layers)) (left_blank done n i count)
    ∙ set_next done layers n i count within
