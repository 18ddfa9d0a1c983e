-- The end mark, and what fits a pipe.
use Rattle.std.proofs.Common.{◌≡◌, true, List, [], ◌∷◌, ◌++◌, All, refl, sym, ap, subst, ◌∙◌}
use Rattle.std.proofs.lemmas.List.Elements.{All-nil, All-cons, All-head, All-tail}
use Rattle.scene_pipe.specs.declared.item.Taken.{Taken}
use Rattle.scene_pipe.specs.declared.item.Taken.TheVariants.{Staged, Done}
use Rattle.scene_pipe.specs.Items.{IsClosed, is_closed}

-- nothing follows an end mark: a prefix of a closed list that is itself closed is the whole list
whole : (taken known : List Taken) → is_closed taken ≡ true → is_closed (taken ++ known) ≡ true → taken ≡ taken ++ known
whole [] known p q = absurd cc
whole (Staged tick scenes ∷ xs) known p q = ap (λ l. Staged tick scenes ∷ l) (whole xs known p q)
whole (Done ∷ []) [] p q = refl
whole (Done ∷ []) (y ∷ ys) p q = absurd cc
whole (Done ∷ x ∷ xs) known p q = absurd cc

-- if the end mark was sent and taken, all that was sent was taken
pub all_taken : (taken known sent : List Taken) → taken ++ known ≡ sent → IsClosed taken → IsClosed sent → taken ≡ sent
all_taken taken known sent e p q = whole taken known p (subst IsClosed (sym e) q) ∙ e

-- what holds of a list holds of its prefixes
pub all_front : {X : Type 0} (P : X → Type 0) (xs ys : List X) → All P (xs ++ ys) → All P xs
all_front P [] ys all = All-nil P
all_front P (x ∷ xs) ys all = All-cons P x xs (All-head P x (xs ++ ys) all) (all_front P xs ys (All-tail P x (xs ++ ys) all))
