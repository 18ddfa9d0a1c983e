-- Samples of 0, as sounds have past the end of their bytes.
use Rattle.std.proofs.Common.{◌≡◌, ℕ, ◌+◌, ◌-◌, ◌*◌, ◌<◌, ◌≤◌, List, length, sym, subst, ap, ap₂, arith, to_z}
use Rattle.std.specs.Prelude.{ℤ, pos, negsuc, ◌+ℤ◌, ◌*ℤ◌, int_div}
use Rattle.std.specs.Int.{w16}
use Rattle.std.proofs.lemmas.Int.{ints}
use Rattle.std.proofs.lemmas.List.{get_or_past}
use Rattle.history_model.specs.pictures.Media.{sample_of_bytes}
use Rattle.history_model.specs.pictures.Sound.{mixed_sample}
use Rattle.play_sound.specs.inner.Ranges.{IsNear}
use Rattle.play_sound.specs.inner.Rows.{at_volume, sample_at}
use Rattle.play_sound.proofs.Near.{near_quotient}

-- only 0 is not away from 0
zero_of_near : (z : ℤ) → IsNear 0 z → z ≡ pos 0
zero_of_near (pos n) near = ap pos (omega (arith, near))
zero_of_near (negsuc n) near = absurd (omega (arith, near))

-- a sound past the end of its bytes
pub silent_past : (sound : List ℕ) (at : ℕ) → length sound ≤ at → sample_of_bytes sound at ≡ pos 0
silent_past sound at past =
    (λ i. to_z w16 (get_or_past sound at 0 past i + 256 * get_or_past sound (at + 1) 0 (omega (arith, past)) i))

pub past_end : (sound : List ℕ) (place : ℕ) → length sound ≤ 2 * place → sample_at sound place ≡ pos 0
past_end sound place past = silent_past sound (2 * place) past

-- products by 0
no_times : (v : ℤ) → pos 0 *ℤ v ≡ pos 0
no_times v = omega (arith, ints)

pub silent_at-volume : (v : ℤ) → at_volume (pos 0) v ≡ pos 0
silent_at-volume v = ap (λ (a : ℤ). int_div a (pos 1000000)) (no_times v)

-- the mean of two samples of 0
pub silent_mean : (j d : ℕ) → j < d → mixed_sample (pos 0) (pos 0) j d ≡ pos 0
silent_mean j d below =
    let sum : IsNear 0 ((pos 0 *ℤ pos (d - j)) +ℤ (pos 0 *ℤ pos j)) =
    subst (IsNear 0) (sym (ap₂ (λ (a b : ℤ). a +ℤ b) (no_times (pos (d - j))) (no_times (pos j)))) (omega arith) in
    zero_of_near (mixed_sample (pos 0) (pos 0) j d)
    (near_quotient ((pos 0 *ℤ pos (d - j)) +ℤ (pos 0 *ℤ pos j)) 0 d (omega (arith, below)) (omega (arith, sum)))
