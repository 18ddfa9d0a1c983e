-- Facts on the four numbers of a setting.
use Rattle.std.proofs.Common.{◌≡◌, ℤ, List, [], ◌∷◌, length, ◌↔◌, All, arith}
use Rattle.std.proofs.lemmas.List.Elements.{All-nil, All-cons}
use Rattle.play_types.specs.Setting.{IsWide, number_at}

-- four numbers are each in the wide range if the list is
pub All-four : (values : List ℤ) → length values ≡ 4 → All IsWide values ↔ (IsWide (number_at values 0) × IsWide (number_at values 1) × IsWide (number_at values 2) × IsWide (number_at values 3))
All-four [] e = absurd (omega arith)
All-four (a ∷ []) e = absurd (omega arith)
All-four (a ∷ b ∷ []) e = absurd (omega arith)
All-four (a ∷ b ∷ c ∷ []) e = absurd (omega arith)
All-four (a ∷ b ∷ c ∷ d ∷ []) e = (
  λ h. (h 0 a (omega arith), h 1 a (omega arith), h 2 a (omega arith), h 3 a (omega arith)),
  λ h. All-cons IsWide a (b ∷ c ∷ d ∷ []) h.0 (All-cons IsWide b (c ∷ d ∷ []) h.1 (All-cons IsWide c (d ∷ []) h.2 (All-cons IsWide d [] h.3 (All-nil IsWide)))),
)
All-four (a ∷ b ∷ c ∷ d ∷ x ∷ xs) e = absurd (omega arith)
