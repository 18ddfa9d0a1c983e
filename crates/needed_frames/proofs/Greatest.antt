-- The greatest depth of the first channels.
use Rattle.std.proofs.Common.{◌≡◌, ℕ, zero, suc, ◌+◌, ◌-◌, ◌<◌, ◌≤◌, max, List, map, refl, ap, ◌∙◌, subst, arith}
use Rattle.std.specs.List.{range_with_len}
use Rattle.std.proofs.Math.Nat.{le-max_left, le-max_right}
use Rattle.play_types.specs.Scene.{IsConfigured}
use Rattle.play_types.specs.declared.event.Event.{Event}
use Rattle.needed_frames.specs.Counted.{DepthsView, HasDepths, depth_at}
use Rattle.needed_frames.specs.Depth.{greatest, greatest_depth, last_depth}

-- one channel more has been looked at
pub next_looked_at : (deep : ℕ → ℕ) (before channels most : ℕ) → before < channels
    → max most (greatest (map deep (range_with_len (before + 1) (channels - before))))
    ≡ max (max (deep (before + 1)) most) (greatest (map deep (range_with_len (before + 1 + 1) (channels - (before + 1)))))
next_looked_at deep before channels most some =
    ap (λ left. max most (greatest (map deep (range_with_len (before + 1) left)))) {x = channels - before} {y = suc (channels - (before + 1))} (omega (arith, some))
    ∙ regrouped (deep (before + 1)) (greatest (map deep (range_with_len (before + 1 + 1) (channels - (before + 1)))))
  where
    regrouped : (one rest : ℕ) → max most (max one rest) ≡ max (max one most) rest
    regrouped one rest = omega arith

-- no channel is left
pub all_looked_at : (deep : ℕ → ℕ) (before channels most : ℕ) → channels ≤ before
    → max most (greatest (map deep (range_with_len (before + 1) (channels - before)))) ≡ most
all_looked_at deep before channels most none =
    ap (λ left. max most (greatest (map deep (range_with_len (before + 1) left)))) {x = channels - before} {y = 0} (omega (arith, none))
    ∙ last
  where
    last : max most 0 ≡ most
    last = omega arith

-- the greatest of equal depths
same_greatest : (one other : ℕ → ℕ) (first count : ℕ) → ((channel : ℕ) → first ≤ channel → channel < first + count → one channel ≡ other channel)
    → greatest (map one (range_with_len first count)) ≡ greatest (map other (range_with_len first count))
same_greatest one other first zero same = refl
same_greatest one other first (suc count) same =
    λ i. max (same first (omega arith) (omega arith) i)
    (same_greatest one other (first + 1) count (λ channel from below. same channel (omega (arith, from)) (omega (arith, below))) i)

pub greatest_is : (channels : ℕ) (history : List Event) (depths : DepthsView) → HasDepths channels history depths
    → greatest (map (λ channel. depth_at channel depths) (range_with_len 1 channels)) ≡ greatest_depth channels history
greatest_is channels history depths has =
    same_greatest (λ channel. depth_at channel depths) (last_depth history) 1 channels
    (λ channel from below. has.each channel (from, omega (arith, below)))

-- no channel is deeper than the deepest one
deepest_from : (deep : ℕ → ℕ) (first count place channel : ℕ) → place < count → first + place ≡ channel
    → deep channel ≤ greatest (map deep (range_with_len first count))
deepest_from deep first zero place channel below is = absurd (omega (arith, below))
deepest_from deep first (suc count) zero channel below is =
    let here : first ≡ channel = omega (arith, is) in
    subst (λ one. deep one ≤ max (deep first) (greatest (map deep (range_with_len (first + 1) count)))) here
    (le-max_left (deep first) (greatest (map deep (range_with_len (first + 1) count))))
deepest_from deep first (suc count) (suc place) channel below is =
    let rest = deepest_from deep (first + 1) count place channel (omega (arith, below)) (omega (arith, is)) in
    omega (arith, rest, le-max_right (deep first) (greatest (map deep (range_with_len (first + 1) count))))

pub deepest : (channels : ℕ) (history : List Event) (channel : ℕ) → IsConfigured channels channel
    → last_depth history channel ≤ greatest_depth channels history
deepest channels history channel h =
    deepest_from (last_depth history) 1 channels (channel - 1) channel (omega (arith, h.0, h.1)) (omega (arith, h.0))
