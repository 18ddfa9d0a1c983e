-- The sound of a channel.
use Rattle.std.specs.Prelude.{ℕ, ◌-◌, true, false, List, [], ◌∷◌, Option, Some, None, ℤ, pos, negsuc, ◌+ℤ◌, ◌*ℤ◌, int_div, nat_lt, reverse}
use Rattle.std.specs.Int.{int_min, int_max}
use Rattle.play_types.specs.ClipFile.{ClipView}
use Rattle.play_types.specs.declared.setting.TheConstants.{MICROS_PER_UNIT}
use Rattle.play_types.specs.declared.event.Event.{Event}
use Rattle.play_types.specs.declared.event.Event.TheVariants.{Do, Batch, Tick, Stop}
use Rattle.play_types.specs.declared.drawn.Still.{Still}
use Rattle.play_types.specs.declared.drawn.Still.TheVariants.{Nothing, Colour, Frame, Channel}
use Rattle.play_types.specs.declared.drawn.Drawn.{Drawn}
use Rattle.history_model.specs.pictures.Media.{Setup, size, clip_at, clip_sample}
use Rattle.history_model.specs.pictures.Scene.{scene_back}

-- the sample of a clip, silent if its file is unreadable
abbrev pub played_sample : Option ClipView → ℕ → ℕ → ℕ → ℤ
played_sample None frame pair side = pos 0
played_sample (Some clip) frame pair side = clip_sample clip frame pair side

-- the sample of a still at a pair, side 0 left and 1 right, given each channel's sound of the tick before
abbrev pub still_sample : Setup → (ℕ → ℕ → ℕ → ℤ) → ℕ → ℕ → Still → ℤ
still_sample setup sounds pair side Nothing = pos 0
still_sample setup sounds pair side (Colour value) = pos 0
still_sample setup sounds pair side (Frame id frame) = played_sample (clip_at setup id) frame pair side
still_sample setup sounds pair side (Channel channel) = elim (nat_lt pair (size setup channel).pairs) [
  | true ↦ sounds channel pair side
  | false ↦ pos 0
]

-- the old and the new sample at step j of d, the quotient taken toward zero
abbrev pub mixed_sample : ℤ → ℤ → ℕ → ℕ → ℤ
mixed_sample old new j d = int_div ((old *ℤ pos (d - j)) +ℤ (new *ℤ pos j)) (pos d)

-- the sample of a drawn layer before its volume: every transition mixes
abbrev pub transition_sample : (Still → ℤ) → Drawn → ℤ
transition_sample sample layer = elim (nat_lt layer.step layer.trans.duration) [
  | true ↦ mixed_sample (sample layer.old) (sample layer.still) layer.step layer.trans.duration
  | false ↦ sample layer.still
]

-- the sample of a drawn layer, its volume in millionths, the quotient taken toward zero
abbrev pub layer_sample : (Still → ℤ) → Drawn → ℤ
layer_sample sample layer = int_div (transition_sample sample layer *ℤ layer.volume) MICROS_PER_UNIT

-- the sum of the samples of all drawn layers
abbrev pub sample_sum : (Still → ℤ) → List Drawn → ℤ
sample_sum sample [] = pos 0
sample_sum sample (layer ∷ layers) = layer_sample sample layer +ℤ sample_sum sample layers

-- a sum held to 16 bits
abbrev pub held_to_sample : ℤ → ℤ
held_to_sample sum = int_min (int_max sum (negsuc 32767)) (pos 32767)

-- the sample of these layers together, held to 16 bits, given each channel's sound of the tick before
abbrev pub scene_sample : Setup → (ℕ → ℕ → ℕ → ℤ) → List Drawn → ℕ → ℕ → ℤ
scene_sample setup sounds layers pair side = held_to_sample (sample_sum (still_sample setup sounds pair side) layers)

-- the samples of each channel at the last tick of a history read backward, silent if it has no tick
abbrev pub sounds_back : Setup → List Event → ℕ → ℕ → ℕ → ℤ
sounds_back setup [] = λ channel pair side. pos 0
sounds_back setup (Do tag cmd ∷ before) = sounds_back setup before
sounds_back setup (Batch tag cmds ∷ before) = sounds_back setup before
sounds_back setup (Stop tag ∷ before) = sounds_back setup before
sounds_back setup (Tick ∷ before) =
    λ channel pair side. scene_sample setup (sounds_back setup before) (scene_back before channel) pair side

-- the sample of a channel at the tick after a history, at a pair, side 0 left and 1 right
unfoldable pub frame_sample : Setup → List Event → ℕ → ℕ → ℕ → ℤ
frame_sample setup history channel pair side = sounds_back setup (Tick ∷ reverse history) channel pair side

-- the sample of a channel at the last tick of a history, silent if it has no tick
unfoldable pub last_sample : Setup → List Event → ℕ → ℕ → ℕ → ℤ
last_sample setup history channel pair side = sounds_back setup (reverse history) channel pair side
