-- Frames that are made from early enough a tick on are those of the whole history.
use Rattle.std.proofs.Common.{◌≡◌, ℕ, ◌+◌, ◌-◌, ◌<◌, ◌≤◌, cond, List, [], ◌∷◌, ◌++◌, reverse, sym, ap, ◌∙◌, subst, arith}
use Rattle.std.specs.Prelude.{pos}
use Rattle.std.specs.List.{AllByRecursion}
use Rattle.std.proofs.Math.Nat.{le-max_left, le-max_right}
use Rattle.std.proofs.lemmas.Bool.{le-ltb}
use Rattle.std.proofs.lemmas.List.{reverse-append}
use Rattle.play_types.proofs.Histories.{ticks-append}
use Rattle.play_types.specs.History.{ticks}
use Rattle.play_types.specs.declared.event.Event.{Event}
use Rattle.play_types.specs.declared.event.Event.TheVariants.{Do, Batch, Tick, Stop}
use Rattle.pixel_math.specs.Pixel.{transparent}
use Rattle.history_model.specs.pictures.Frame.{frame_pixel, frames_back, last_pixel, scene_pixel}
use Rattle.history_model.specs.pictures.Media.{Setup, size}
use Rattle.history_model.specs.pictures.Scene.{scene_back}
use Rattle.history_model.specs.pictures.Sound.{frame_sample, last_sample, scene_sample, sounds_back}
use Rattle.needed_frames.specs.Depth.{depth, depth_back, depth_behind, last_depth, shown_channels}
use Rattle.needed_frames.specs.Made.{frames_from, last_pixel_from, last_sample_from, pixel_from, sample_from, sounds_from}
use Rattle.history_model.proofs.Events.{ticks-reverse}
use Rattle.needed_frames.proofs.Bounds.{depth_within}
use Rattle.needed_frames.proofs.Same.{IsSameFrame, IsSameSound, in_one, same_pixel, same_sample}

-- each of the channels is less deep than the channel that shows them
behind_each : (deep : ℕ → ℕ) (most : ℕ) (P : ℕ → Type 0) → ((channel : ℕ) → deep channel + 1 ≤ most → P channel)
    → (channels : List ℕ) → depth_behind deep channels ≤ most → AllByRecursion P channels
behind_each deep most P each [] within = tt
behind_each deep most P each (channel ∷ channels) within =
    let rest = depth_behind deep channels in (
      each channel (omega (arith, within, le-max_left (deep channel + 1) rest)),
      behind_each deep most P each channels (omega (arith, within, le-max_right (deep channel + 1) rest)),
    )

-- a channel is no deeper than the ticks before it
pub depth-ticks : (history : List Event) (channel : ℕ) → depth history channel ≤ ticks history
unfolding depth
depth-ticks history channel = omega (arith, ticks-reverse history, depth_within (Tick ∷ reverse history) channel)

-- at the last tick it is less deep than the ticks
pub last-within : (history : List Event) (channel : ℕ) → last_depth history channel ≤ ticks history - 1
unfolding last_depth
last-within history channel = omega (arith, ticks-reverse history, depth_within (reverse history) channel)

-- frames that are made from a tick on
module _ (setup : Setup) (from : ℕ) where
  pub whole_frames : (back : List Event) (channel : ℕ) → from + depth_back back channel < ticks back → IsSameFrame (frames_from setup from back) (frames_back setup back) channel
  whole_frames [] channel early x y = absurd (omega (arith, early))
  whole_frames (Do tag cmd ∷ before) channel early x y = whole_frames before channel early x y
  whole_frames (Batch tag cmds ∷ before) channel early x y = whole_frames before channel early x y
  whole_frames (Stop tag ∷ before) channel early x y = whole_frames before channel early x y
  whole_frames (Tick ∷ before) channel early x y =
      let shown = shown_channels (scene_back before channel) in
      let most = depth_behind (depth_back before) shown in
      let same : AllByRecursion (IsSameFrame (frames_from setup from before) (frames_back setup before)) shown =
      behind_each (depth_back before) most (IsSameFrame (frames_from setup from before) (frames_back setup before))
      (λ one h. whole_frames before one (omega (arith, early, h))) shown (omega arith) in
      ap (λ b. cond b transparent (scene_pixel (in_one setup (frames_from setup from before) (frames_back setup before)) (size setup channel) (scene_back before channel) x y))
      (le-ltb (ticks before) from (omega (arith, early)))
      ∙ same_pixel setup (frames_from setup from before) (frames_back setup before) (size setup channel) x y (scene_back before channel) same

  pub whole_sounds : (back : List Event) (channel : ℕ) → from + depth_back back channel < ticks back → IsSameSound (sounds_from setup from back) (sounds_back setup back) channel
  whole_sounds [] channel early pair side = absurd (omega (arith, early))
  whole_sounds (Do tag cmd ∷ before) channel early pair side = whole_sounds before channel early pair side
  whole_sounds (Batch tag cmds ∷ before) channel early pair side = whole_sounds before channel early pair side
  whole_sounds (Stop tag ∷ before) channel early pair side = whole_sounds before channel early pair side
  whole_sounds (Tick ∷ before) channel early pair side =
      let shown = shown_channels (scene_back before channel) in
      let most = depth_behind (depth_back before) shown in
      let same : AllByRecursion (IsSameSound (sounds_from setup from before) (sounds_back setup before)) shown =
      behind_each (depth_back before) most (IsSameSound (sounds_from setup from before) (sounds_back setup before))
      (λ one h. whole_sounds before one (omega (arith, early, h))) shown (omega arith) in
      ap (λ b. cond b (pos 0) (scene_sample setup (sounds_from setup from before) (scene_back before channel) pair side))
      (le-ltb (ticks before) from (omega (arith, early)))
      ∙ same_sample setup (sounds_from setup from before) (sounds_back setup before) pair side (scene_back before channel) same

  -- the frames of the tick after a history
  early_enough : (history : List Event) (channel : ℕ) → from ≤ ticks history - depth history channel
      → from + depth_back (Tick ∷ reverse history) channel < ticks (Tick ∷ reverse history)
  unfolding depth
  early_enough history channel h =
      omega (arith, h, ticks-reverse history, depth_within (Tick ∷ reverse history) channel)

  pub whole_pixel : (history : List Event) (channel x y : ℕ) → from ≤ ticks history - depth history channel
      → pixel_from setup from history channel x y ≡ frame_pixel setup history channel x y
  unfolding pixel_from frame_pixel
  whole_pixel history channel x y h = whole_frames (Tick ∷ reverse history) channel (early_enough history channel h) x y

  pub whole_sample : (history : List Event) (channel pair side : ℕ) → from ≤ ticks history - depth history channel
      → sample_from setup from history channel pair side ≡ frame_sample setup history channel pair side
  unfolding sample_from frame_sample
  whole_sample history channel pair side h = whole_sounds (Tick ∷ reverse history) channel (early_enough history channel h) pair side

  -- once the frames of all channels are whole, so are later ones
  all_shown : (P : ℕ → Type 0) → ((one : ℕ) → P one) → (channels : List ℕ) → AllByRecursion P channels
  all_shown P each [] = tt
  all_shown P each (channel ∷ channels) = (each channel, all_shown P each channels)

  later_frames : (later back : List Event) → from ≤ ticks back → ((one : ℕ) → IsSameFrame (frames_from setup from back) (frames_back setup back) one)
      → (channel : ℕ) → IsSameFrame (frames_from setup from (later ++ back)) (frames_back setup (later ++ back)) channel
  later_frames [] back late whole channel x y = whole channel x y
  later_frames (Do tag cmd ∷ later) back late whole channel x y = later_frames later back late whole channel x y
  later_frames (Batch tag cmds ∷ later) back late whole channel x y = later_frames later back late whole channel x y
  later_frames (Stop tag ∷ later) back late whole channel x y = later_frames later back late whole channel x y
  later_frames (Tick ∷ later) back late whole channel x y =
      let before = later ++ back in
      ap (λ b. cond b transparent (scene_pixel (in_one setup (frames_from setup from before) (frames_back setup before)) (size setup channel) (scene_back before channel) x y))
      (le-ltb (ticks before) from (omega (arith, late, ticks-append later back)))
      ∙ same_pixel setup (frames_from setup from before) (frames_back setup before) (size setup channel) x y (scene_back before channel)
      (all_shown (IsSameFrame (frames_from setup from before) (frames_back setup before)) (later_frames later back late whole) (shown_channels (scene_back before channel)))

  later_sounds : (later back : List Event) → from ≤ ticks back → ((one : ℕ) → IsSameSound (sounds_from setup from back) (sounds_back setup back) one)
      → (channel : ℕ) → IsSameSound (sounds_from setup from (later ++ back)) (sounds_back setup (later ++ back)) channel
  later_sounds [] back late whole channel pair side = whole channel pair side
  later_sounds (Do tag cmd ∷ later) back late whole channel pair side = later_sounds later back late whole channel pair side
  later_sounds (Batch tag cmds ∷ later) back late whole channel pair side = later_sounds later back late whole channel pair side
  later_sounds (Stop tag ∷ later) back late whole channel pair side = later_sounds later back late whole channel pair side
  later_sounds (Tick ∷ later) back late whole channel pair side =
      let before = later ++ back in
      ap (λ b. cond b (pos 0) (scene_sample setup (sounds_from setup from before) (scene_back before channel) pair side))
      (le-ltb (ticks before) from (omega (arith, late, ticks-append later back)))
      ∙ same_sample setup (sounds_from setup from before) (sounds_back setup before) pair side (scene_back before channel)
      (all_shown (IsSameSound (sounds_from setup from before) (sounds_back setup before)) (later_sounds later back late whole) (shown_channels (scene_back before channel)))

  module _ (past later : List Event) (early : (one : ℕ) → from + last_depth past one < ticks past) where
    at_last : (one : ℕ) → from + depth_back (reverse past) one < ticks (reverse past)
    unfolding last_depth
    at_last one = omega (arith, early one, ticks-reverse past)

    pub later_pixel : (channel x y : ℕ) → last_pixel_from setup from (past ++ later) channel x y ≡ last_pixel setup (past ++ later) channel x y
    unfolding last_pixel_from last_pixel
    later_pixel channel x y =
        subst (λ back. frames_from setup from back channel x y ≡ frames_back setup back channel x y) (sym (reverse-append past later))
        (later_frames (reverse later) (reverse past) (omega (arith, at_last 0)) (λ one. whole_frames (reverse past) one (at_last one)) channel x y)

    pub later_sample : (channel pair side : ℕ) → last_sample_from setup from (past ++ later) channel pair side ≡ last_sample setup (past ++ later) channel pair side
    unfolding last_sample_from last_sample
    later_sample channel pair side =
        subst (λ back. sounds_from setup from back channel pair side ≡ sounds_back setup back channel pair side) (sym (reverse-append past later))
        (later_sounds (reverse later) (reverse past) (omega (arith, at_last 0)) (λ one. whole_sounds (reverse past) one (at_last one)) channel pair side)
