-- Sums of samples from a pair of a sound on: in turn the left and the right one of each pair.
use Rattle.std.specs.Prelude.{◌≡◌, ℕ, ◌+◌, ◌*◌, ◌/◌, ◌%◌, ◌<◌, ℤ, ◌+ℤ◌, ◌*ℤ◌, int_div, List, length}
use Rattle.play_types.specs.Setting.{number_at}
use Rattle.play_types.specs.declared.setting.TheConstants.{MICROS_PER_UNIT}
use Rattle.play_types.specs.declared.drawn.Still.{Still}
use Rattle.history_model.specs.pictures.Media.{sample_of_bytes}
use Rattle.history_model.specs.pictures.Sound.{still_sample}
use Rattle.play_sound.specs.Sounds.{Sounds}
use Rattle.play_sound.specs.inner.Ranges.{IsNear}

-- the sample of a still at a place, from pair `first` on
abbrev pub still_at : Sounds → ℕ → ℕ → Still → ℤ
still_at sounds first place still = still_sample sounds.setup sounds.samples (first + place / 2) (place % 2) still

-- the sample at a place of the bytes of a sound, and 0 past their end
abbrev pub sample_at : List ℕ → ℕ → ℤ
sample_at sound place = sample_of_bytes sound (2 * place)

-- a sample at a volume in millionths, rounded toward zero
abbrev pub at_volume : ℤ → ℤ → ℤ
at_volume sample volume = int_div (sample *ℤ volume) MICROS_PER_UNIT

-- sums of the samples of at most `layers` layers, each of 16 bits at a volume of at most 1000
abbrev pub AreSums : ℕ → List ℤ → Type 0
AreSums layers sums = (i : ℕ) → i < length sums → IsNear (32768000 * layers) (number_at sums i)

-- each sum has one more sample, of 16 bits at a volume of at most 1000
pub record AreAdded (more : ℕ → ℤ) (before after : List ℤ) : Type 0 where
  pub len : length after ≡ length before
  pub sums : (i : ℕ) → i < length before → number_at after i ≡ number_at before i +ℤ more i
  pub near : (i : ℕ) → i < length before → IsNear 32768000 (more i)
