-- How many sets came back before the report of a failed output.
use Rattle.std.proofs.Common.{◌≡◌, ◌==◌, ℕ, ◌+◌, ◌≤◌, true, false, List, [], ◌∷◌, ◌++◌, length, All, inl, inr, refl, arith, sym, ap, ◌∙◌}
use Rattle.std.specs.List.{list_any}
use Rattle.std.proofs.lemmas.Bool.{cases_Bool}
use Rattle.std.proofs.lemmas.List.Elements.{All-head, All-tail}
use Rattle.std.proofs.lemmas.List.{append_assoc}
use mathlib.Core.List.{IsPrefix}
use Rattle.scene_pipe.specs.declared.item.Returned.{Returned}
use Rattle.scene_pipe.specs.declared.item.Returned.TheVariants.{Free, Broken}
use Rattle.scene_pipe.specs.Items.{fits_returned}
use Rattle.scene_pipe.specs.Counts.{StopsAtNews, free_before_news, free_count, is_news, is_room}
use Rattle.scene_pipe.proofs.Closing.{all_front}

-- the free sets of two lists
free_append : (channels : ℕ) (xs ys : List Returned) → free_count channels (xs ++ ys) ≡ free_count channels xs + free_count channels ys
free_append channels [] ys = omega arith
free_append channels (x ∷ xs) ys = elim (cases_Bool (is_room channels x)) [
  | inl room ↦ rw room (omega (arith, free_append channels xs ys))
  | inr none ↦ rw none (free_append channels xs ys)
]

-- a report is no free set
news_counts_none : (channels : ℕ) (item : Returned) → is_news channels item ≡ true → free_count channels (item ∷ []) ≡ 0
news_counts_none channels (Free scenes) news = absurd cc
news_counts_none channels (Broken channel scenes) news = refl

-- items that fit and are no report are free, so there are no more of them than before the first report
few_free : (channels : ℕ) (xs known : List Returned) → All (λ item. fits_returned channels item ≡ true) xs → list_any (is_news channels) xs ≡ false
    → free_count channels xs ≤ free_before_news (xs ++ known)
few_free channels [] known fit none = omega arith
few_free channels (Free scenes ∷ xs) known fit none =
    let first : (length scenes == channels) ≡ true = All-head (λ (item : Returned). fits_returned channels item ≡ true) (Free scenes) xs fit in
    rw first (omega (arith, few_free channels xs known (All-tail (λ (item : Returned). fits_returned channels item ≡ true) (Free scenes) xs fit) none))
few_free channels (Broken channel scenes ∷ xs) known fit none =
    let first : (length scenes == channels) ≡ true = All-head (λ (item : Returned). fits_returned channels item ≡ true) (Broken channel scenes) xs fit in
    absurd (cc (rw first at none))

-- of what came back up to the first report, the free sets were given back before it
pub few_returned : (channels : ℕ) (returned given : List Returned) → IsPrefix returned given
    → All (λ item. fits_returned channels item ≡ true) returned → StopsAtNews channels returned → free_count channels returned ≤ free_before_news given
few_returned channels returned given p fit (inl none) = rw (sym p.1) (few_free channels returned p.0 fit none)
few_returned channels returned given p fit (inr n) =
    let fits : All (λ item. fits_returned channels item ≡ true) n.front = all_front (λ (item : Returned). fits_returned channels item ≡ true) n.front (n.last ∷ []) (rw n.whole at fit) in
    let last : free_count channels (n.last ∷ []) ≡ 0 = news_counts_none channels n.last n.news in
    let whole : given ≡ n.front ++ (n.last ∷ [] ++ p.0) = sym p.1 ∙ ap (λ (l : List Returned). l ++ p.0) n.whole ∙ append_assoc n.front (n.last ∷ []) p.0 in
    rw (whole, n.whole, free_append channels n.front (n.last ∷ []), last)
    (omega (arith, few_free channels n.front (n.last ∷ [] ++ p.0) fits n.none_before))
