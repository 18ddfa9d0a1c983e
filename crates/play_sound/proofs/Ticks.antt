-- The frames of one tick give the sounds of the next.
use Rattle.std.proofs.Common.{◌≡◌, ℕ, zero, suc, ◌+◌, ◌-◌, ◌*◌, ◌<◌, List, [], ◌∷◌, ◌++◌, length, map, get_or, slice_index, replicate, refl, sym, subst, ◌∙◌, to_z}
use Rattle.std.specs.Prelude.{FitsSigned, pos}
use Rattle.std.specs.Int.{w16}
use Rattle.play_types.specs.Config.{ChannelView}
use Rattle.play_types.specs.Scene.{IsConfigured}
use Rattle.play_types.specs.declared.event.Event.{Event}
use Rattle.play_types.specs.declared.event.Event.TheVariants.{Tick}
use Rattle.clip_format.specs.Table.{Entry}
use Rattle.history_model.specs.pictures.Media.{Setup}
use Rattle.history_model.specs.pictures.Scene.{scene}
use Rattle.history_model.specs.pictures.Sound.{frame_sample, last_sample, sample_sum, still_sample}
use Rattle.history_model.proofs.Frames.{frame_sample-scene, last_sample-tick}
use Rattle.play_scene.specs.Frames.{FrameView, frame_at, no_frame, zero_frame}
use Rattle.play_scene.specs.Picture.{clips_of}
use Rattle.play_sound.specs.Sounds.{AreSounds, HasSound, sample_in, sounds_after}
use Rattle.play_sound.proofs.Reading.{held_fits, sample_in-sound}

-- a sample of a tick is one of 16 bits
frame_fits : (setup : Setup) (history : List Event) (channel pair side : ℕ) → FitsSigned w16 (frame_sample setup history channel pair side)
frame_fits setup history channel pair side =
    subst (FitsSigned w16) (sym (frame_sample-scene setup history channel pair side))
    (held_fits (sample_sum (still_sample setup (last_sample setup history) pair side) (scene history channel)))

pub sample_of_frame : (frame : FrameView) (setup : Setup) (history : List Event) (channel pair side : ℕ) →
    HasSound frame (frame_sample setup history channel) → pair < frame.size.pairs → side < 2 →
    sample_in frame pair side ≡ frame_sample setup history channel pair side
sample_of_frame frame setup history channel pair side has below small =
    sample_in-sound frame (frame_sample setup history channel) pair side has (frame_fits setup history channel) below small

-- before the first tick each channel is silent
zeros : (n k : ℕ) → slice_index (replicate n 0) k ≡ 0
zeros zero k = refl
zeros (suc n) zero = refl
zeros (suc n) (suc k) = zeros n k

zero_bytes : (channels : List ChannelView) (n k : ℕ) → slice_index (get_or (map zero_frame channels) n no_frame).sound k ≡ 0
zero_bytes [] n k = refl
zero_bytes (channel ∷ channels) zero k = zeros (4 * channel.pairs) k
zero_bytes (channel ∷ channels) (suc n) k = zero_bytes channels n k

zero_sample : (channels : List ChannelView) (channel pair side : ℕ) → sample_in (frame_at channel (map zero_frame channels)) pair side ≡ pos 0
zero_sample channels channel pair side =
    let byte = zero_bytes channels (channel - 1) in
    λ i. to_z w16 (byte (4 * pair + 2 * side) i + 256 * byte (4 * pair + 2 * side + 1) i)

pub first_sounds : (setup : Setup) (channels : List ChannelView) (entries : List Entry) → setup.clips ≡ clips_of entries →
    setup.channels ≡ map (λ (frame : FrameView). frame.size) (map zero_frame channels) →
    AreSounds (sounds_after setup []) (map zero_frame channels) entries
unfolding last_sample
first_sounds setup channels entries clips sizes = record {
  clips = clips;
  sizes = sizes;
  samples = λ channel pair side configured below small. sym (zero_sample channels channel pair side);
}

-- after a tick each channel has the samples of that tick
pub next_sounds : (setup : Setup) (history : List Event) (frames : List FrameView) (entries : List Entry) → setup.clips ≡ clips_of entries →
    setup.channels ≡ map (λ (frame : FrameView). frame.size) frames →
    ((channel : ℕ) → IsConfigured (length frames) channel → HasSound (frame_at channel frames) (frame_sample setup history channel)) →
    AreSounds (sounds_after setup (history ++ Tick ∷ [])) frames entries
next_sounds setup history frames entries clips sizes has = record {
  clips = clips;
  sizes = sizes;
  samples = λ channel pair side configured below small.
      last_sample-tick setup history channel pair side
      ∙ sym (sample_of_frame (frame_at channel frames) setup history channel pair side (has channel configured) below small);
}
