-- Sums to which samples are added place by place.
use Rattle.std.proofs.Common.{◌≡◌, ℕ, ◌+◌, ◌*◌, ◌<◌, ◌≤◌, List, length, slice_set, sym, ap, ap₂, subst, ◌∙◌, arith, inl, inr}
use Rattle.std.specs.Prelude.{ℤ, pos, ◌+ℤ◌, FitsSigned}
use Rattle.std.specs.Int.{w64}
use Rattle.std.proofs.lemmas.Bool.{cases_lt}
use Rattle.std.proofs.lemmas.Grind.{get_or-set_at}
use Rattle.std.proofs.lemmas.Int.{ints, to_z-of_z}
use Rattle.std.proofs.lemmas.List.{get_or-set_other, length-set}
use Rattle.play_types.specs.Setting.{number_at}
use Rattle.play_sound.specs.inner.Rows.{AreAdded, AreSums}
use Rattle.play_sound.specs.inner.Ranges.{IsNear}
use Rattle.play_sound.proofs.Mean.{kept}
use Rattle.play_sound.proofs.Near.{near_fits}

-- the sums below `at` have one sample more, and the others are as they were
pub record AreAddedTo (more : ℕ → ℤ) (old new : List ℤ) (at : ℕ) : Type 0 where
  pub len : length new ≡ length old
  pub within : at ≤ length old
  pub before : (k : ℕ) → k < at → number_at new k ≡ number_at old k +ℤ more k
  pub after : (k : ℕ) → at ≤ k → number_at new k ≡ number_at old k
  pub near : (k : ℕ) → k < at → IsNear 32768000 (more k)

-- one sum further
pub one_more : (more : ℕ → ℤ) (old new : List ℤ) (at : ℕ) (value one : ℤ) → AreAddedTo more old new at → at < length old →
    value ≡ number_at new at +ℤ one → one ≡ more at → IsNear 32768000 one → AreAddedTo more old (slice_set new at value) (at + 1)
one_more more old new at value one h inside is one_is near_one =
    let len = h.len in
    let there : at < length new = omega (arith, len, inside) in
    record {
      len = length-set new at value ∙ len;
      within = omega (arith, inside);
      before = λ k lt. elim (cases_lt k at) [
        | inl below ↦ get_or-set_other new at k value (pos 0) (omega (arith, below)) ∙ h.before k below
        | inr from ↦ here k (omega (arith, lt, from)) there
      ];
      after = λ k ge. get_or-set_other new at k value (pos 0) (omega (arith, ge)) ∙ h.after k (omega (arith, ge));
      near = λ k lt. elim (cases_lt k at) [
        | inl below ↦ h.near k below
        | inr from ↦ near_here k (omega (arith, lt, from))
      ];
    }
  where
    here : (k : ℕ) → k ≡ at → at < length new → number_at (slice_set new at value) k ≡ number_at old k +ℤ more k
    here k same there =
        get_or-set_at new at k value (pos 0) same there
        ∙ is
        ∙ ap₂ (λ (n m : ℤ). n +ℤ m) (h.after at (omega arith)) one_is
        ∙ (λ i. number_at old (sym same i) +ℤ more (sym same i))

    near_here : (k : ℕ) → k ≡ at → IsNear 32768000 (more k)
    near_here k same = subst (IsNear 32768000) (one_is ∙ ap more (sym same)) near_one

-- nothing is added by 0
add_zero : (a : ℤ) → a ≡ a +ℤ pos 0
add_zero a = omega (arith, ints)

-- all sums, if the samples of the others are 0
pub all_added : (more : ℕ → ℤ) (old new : List ℤ) (at : ℕ) → AreAddedTo more old new at →
    ((k : ℕ) → at ≤ k → k < length old → more k ≡ pos 0) → AreAdded more old new
all_added more old new at h silent = record {
  len = h.len;
  sums = λ k lt. elim (cases_lt k at) [
    | inl below ↦ h.before k below
    | inr from ↦ h.after k from ∙ add_zero (number_at old k) ∙ ap (λ (m : ℤ). number_at old k +ℤ m) (sym (silent k from lt))
  ];
  near = λ k lt. elim (cases_lt k at) [
    | inl below ↦ h.near k below
    | inr from ↦ near_zero k (silent k from lt)
  ];
}
  where
    near_zero : (k : ℕ) → more k ≡ pos 0 → IsNear 32768000 (more k)
    near_zero k is = subst (IsNear 32768000) (sym is) (omega arith)

-- a sum as the code keeps it
pub sum_fits : (layers : ℕ) (sums : List ℤ) (at : ℕ) → layers ≤ 64 → AreSums layers sums → at < length sums → FitsSigned w64 (number_at sums at)
sum_fits layers sums at few are inside = near_fits (number_at sums at) (32768000 * layers) (omega (arith, few)) (are at inside)

pub new_sum_fits : (more : ℕ → ℤ) (old new : List ℤ) (at : ℕ) → AreAddedTo more old new at → AreSums 63 old → at < length old → FitsSigned w64 (number_at new at)
new_sum_fits more old new at h are inside = subst (FitsSigned w64) (sym (h.after at (omega arith))) (sum_fits 63 old at (omega arith) are inside)

-- the sum that the code computes
pub total_is : (sum one total : ℤ) → FitsSigned w64 sum → FitsSigned w64 one → FitsSigned w64 total → total ≡ kept sum +ℤ kept one → kept total ≡ sum +ℤ one
total_is sum one total sum_is one_is total_fits is =
    to_z-of_z w64 total total_fits ∙ is ∙ ap₂ (λ (a b : ℤ). a +ℤ b) (to_z-of_z w64 sum sum_is) (to_z-of_z w64 one one_is)
