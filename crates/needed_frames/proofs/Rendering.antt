-- The frames of a renderer that makes frames from a tick on.
use Rattle.std.proofs.Common.{◌≡◌, ◌≢◌, ℕ, zero, suc, ◌+◌, ◌-◌, ◌<◌, ◌≤◌, ◌++◌, cond, List, [], ◌∷◌, length, map, reverse, refl, sym, ap, ◌∙◌, subst, arith}
use Rattle.std.specs.Prelude.{FitsSigned, pos}
use Rattle.std.specs.Int.{w16}
use Rattle.std.proofs.lemmas.Bool.{le-ltb, lt-ltb}
use Rattle.std.proofs.lemmas.List.{reverse-append}
use Rattle.play_types.specs.Config.{ChannelView}
use Rattle.play_types.specs.History.{ticks}
use Rattle.play_types.specs.Scene.{IsConfigured, scene_at}
use Rattle.play_types.specs.declared.event.Event.{Event}
use Rattle.play_types.specs.declared.event.Event.TheVariants.{Do, Batch, Tick, Stop}
use Rattle.pixel_math.specs.Pixel.{transparent}
use Rattle.clip_format.specs.Table.{Entry}
use Rattle.history_model.specs.pictures.Frame.{frame_pixel, frames_back, last_pixel, scene_pixel}
use Rattle.history_model.specs.pictures.Media.{Setup, size}
use Rattle.history_model.specs.pictures.Scene.{scene, scene_back}
use Rattle.history_model.specs.pictures.Sound.{frame_sample, last_sample, sample_sum, scene_sample, sounds_back, still_sample}
use Rattle.history_model.specs.text.Frames.{frame_bytes}
use Rattle.history_model.proofs.Events.{ticks-reverse}
use Rattle.play_scene.specs.Frames.{FrameView, Shows, frame_at, zero_frame}
use Rattle.play_scene.specs.Picture.{clips_of}
use Rattle.play_scene.proofs.Reading.{pixel_in-shown}
use Rattle.play_scene.proofs.Ticks.{first_pictures}
use Rattle.play_sound.specs.Sounds.{HasSound, bytes_of_samples, mixed_sample}
use Rattle.play_sound.proofs.Reading.{held_fits, sample_in-sound}
use Rattle.play_sound.proofs.Ticks.{first_sounds}
use Rattle.band_render.specs.Histories.{HasFrame, Represents, scenes_after}
use Rattle.band_render.specs.Rendered.{AreRendered, sizes}
use Rattle.band_render.proofs.Ticks.{scene_there, size_in_setup}
use Rattle.band_render.proofs.Writing.{same_many, same_size}
use Rattle.needed_frames.specs.Depth.{depth, depth_back, greatest_depth, last_depth}
use Rattle.needed_frames.specs.Made.{frames_from, last_pixel_from, last_sample_from, pixel_from, sample_from, sounds_from}
use Rattle.needed_frames.specs.Rendered.{RepresentsFrom, pictures_from, sounds_made_from}
use Rattle.needed_frames.proofs.Greatest.{deepest}
use Rattle.needed_frames.proofs.Whole.{last-within, whole_frames, whole_pixel, whole_sample, whole_sounds}

-- an event that is no tick does not change the last pixels and samples
pixels_stay : (setup : Setup) (from : ℕ) (event : Event) (back : List Event) (channel x y : ℕ) → event ≢ Tick →
    frames_from setup from (event ∷ back) channel x y ≡ frames_from setup from back channel x y
pixels_stay setup from (Do tag cmd) back channel x y other = refl
pixels_stay setup from (Batch tag cmds) back channel x y other = refl
pixels_stay setup from Tick back channel x y other = absurd (other refl)
pixels_stay setup from (Stop tag) back channel x y other = refl

samples_stay : (setup : Setup) (from : ℕ) (event : Event) (back : List Event) (channel pair side : ℕ) → event ≢ Tick →
    sounds_from setup from (event ∷ back) channel pair side ≡ sounds_from setup from back channel pair side
samples_stay setup from (Do tag cmd) back channel pair side other = refl
samples_stay setup from (Batch tag cmds) back channel pair side other = refl
samples_stay setup from Tick back channel pair side other = absurd (other refl)
samples_stay setup from (Stop tag) back channel pair side other = refl

-- up to the tick from which on frames are made, all are blank
blank_pixel : (setup : Setup) (from : ℕ) (back : List Event) (channel x y : ℕ) → ticks back ≤ from → frames_from setup from back channel x y ≡ transparent
blank_pixel setup from [] channel x y early = refl
blank_pixel setup from (Do tag cmd ∷ before) channel x y early = blank_pixel setup from before channel x y early
blank_pixel setup from (Batch tag cmds ∷ before) channel x y early = blank_pixel setup from before channel x y early
blank_pixel setup from (Stop tag ∷ before) channel x y early = blank_pixel setup from before channel x y early
blank_pixel setup from (Tick ∷ before) channel x y early =
    ap (λ b. cond b transparent (scene_pixel (record { setup = setup; frames = frames_from setup from before }) (size setup channel) (scene_back before channel) x y))
    (lt-ltb (ticks before) from (omega (arith, early)))

blank_sample : (setup : Setup) (from : ℕ) (back : List Event) (channel pair side : ℕ) → ticks back ≤ from → sounds_from setup from back channel pair side ≡ pos 0
blank_sample setup from [] channel pair side early = refl
blank_sample setup from (Do tag cmd ∷ before) channel pair side early = blank_sample setup from before channel pair side early
blank_sample setup from (Batch tag cmds ∷ before) channel pair side early = blank_sample setup from before channel pair side early
blank_sample setup from (Stop tag ∷ before) channel pair side early = blank_sample setup from before channel pair side early
blank_sample setup from (Tick ∷ before) channel pair side early =
    ap (λ b. cond b (pos 0) (scene_sample setup (sounds_from setup from before) (scene_back before channel) pair side))
    (lt-ltb (ticks before) from (omega (arith, early)))

module _ (setup : Setup) (from : ℕ) (history : List Event) where
  -- a history with one more event
  last_pixel-more : (event : Event) (channel x y : ℕ)
      → last_pixel_from setup from (history ++ event ∷ []) channel x y ≡ frames_from setup from (event ∷ reverse history) channel x y
  unfolding last_pixel_from
  last_pixel-more event channel x y = ap (λ back. frames_from setup from back channel x y) (reverse-append history (event ∷ []))

  last_sample-more : (event : Event) (channel pair side : ℕ)
      → last_sample_from setup from (history ++ event ∷ []) channel pair side ≡ sounds_from setup from (event ∷ reverse history) channel pair side
  unfolding last_sample_from
  last_sample-more event channel pair side = ap (λ back. sounds_from setup from back channel pair side) (reverse-append history (event ∷ []))

  last_pixel-other : (event : Event) (channel x y : ℕ) → event ≢ Tick
      → last_pixel_from setup from (history ++ event ∷ []) channel x y ≡ last_pixel_from setup from history channel x y
  unfolding last_pixel_from
  last_pixel-other event channel x y other = last_pixel-more event channel x y ∙ pixels_stay setup from event (reverse history) channel x y other

  last_sample-other : (event : Event) (channel pair side : ℕ) → event ≢ Tick
      → last_sample_from setup from (history ++ event ∷ []) channel pair side ≡ last_sample_from setup from history channel pair side
  unfolding last_sample_from
  last_sample-other event channel pair side other = last_sample-more event channel pair side ∙ samples_stay setup from event (reverse history) channel pair side other

  -- a tick before the one from which on frames are made
  skipped_pixel : (channel x y : ℕ) → ticks history < from
      → last_pixel_from setup from (history ++ Tick ∷ []) channel x y ≡ last_pixel_from setup from history channel x y
  unfolding last_pixel_from
  skipped_pixel channel x y early =
      last_pixel-more Tick channel x y
      ∙ blank_pixel setup from (Tick ∷ reverse history) channel x y (omega (arith, early, ticks-reverse history))
      ∙ sym (blank_pixel setup from (reverse history) channel x y (omega (arith, early, ticks-reverse history)))

  skipped_sample : (channel pair side : ℕ) → ticks history < from
      → last_sample_from setup from (history ++ Tick ∷ []) channel pair side ≡ last_sample_from setup from history channel pair side
  unfolding last_sample_from
  skipped_sample channel pair side early =
      last_sample-more Tick channel pair side
      ∙ blank_sample setup from (Tick ∷ reverse history) channel pair side (omega (arith, early, ticks-reverse history))
      ∙ sym (blank_sample setup from (reverse history) channel pair side (omega (arith, early, ticks-reverse history)))

  -- a tick from which on frames are made, or a later one
  pixel_of_scene : (channel x y : ℕ) → from ≤ ticks history
      → pixel_from setup from history channel x y ≡ scene_pixel (pictures_from setup from history) (size setup channel) (scene history channel) x y
  unfolding pixel_from last_pixel_from scene
  pixel_of_scene channel x y late =
      ap (λ b. cond b transparent (scene_pixel (record { setup = setup; frames = frames_from setup from (reverse history) }) (size setup channel) (scene_back (reverse history) channel) x y))
      (le-ltb (ticks (reverse history)) from (omega (arith, late, ticks-reverse history)))

  sample_of_scene : (channel pair side : ℕ) → from ≤ ticks history
      → sample_from setup from history channel pair side ≡ mixed_sample (sounds_made_from setup from history) (scene history channel) pair side
  unfolding sample_from last_sample_from scene
  sample_of_scene channel pair side late =
      ap (λ b. cond b (pos 0) (scene_sample setup (sounds_from setup from (reverse history)) (scene_back (reverse history) channel) pair side))
      (le-ltb (ticks (reverse history)) from (omega (arith, late, ticks-reverse history)))

  last_pixel-tick : (channel x y : ℕ) → last_pixel_from setup from (history ++ Tick ∷ []) channel x y ≡ pixel_from setup from history channel x y
  unfolding pixel_from
  last_pixel-tick channel x y = last_pixel-more Tick channel x y

  last_sample-tick : (channel pair side : ℕ) → last_sample_from setup from (history ++ Tick ∷ []) channel pair side ≡ sample_from setup from history channel pair side
  unfolding sample_from
  last_sample-tick channel pair side = last_sample-more Tick channel pair side

  module _ (entries : List Entry) where
    -- frames that stay as they are
    represents-same : (more : List Event) (frames : List FrameView)
        → ((channel x y : ℕ) → last_pixel_from setup from more channel x y ≡ last_pixel_from setup from history channel x y)
        → ((channel pair side : ℕ) → last_sample_from setup from more channel pair side ≡ last_sample_from setup from history channel pair side)
        → RepresentsFrom setup from history entries frames → RepresentsFrom setup from more entries frames
    represents-same more frames pixels samples is = record {
      pictures = record {
        clips = is.pictures.clips;
        sizes = is.pictures.sizes;
        pixels = λ channel x y configured inside below. pixels channel x y ∙ is.pictures.pixels channel x y configured inside below;
      };
      sounds = record {
        clips = is.sounds.clips;
        sizes = is.sounds.sizes;
        samples = λ channel pair side configured below small. samples channel pair side ∙ is.sounds.samples channel pair side configured below small;
      };
    }

    pub from-other : (event : Event) (frames : List FrameView) → event ≢ Tick
        → RepresentsFrom setup from history entries frames → RepresentsFrom setup from (history ++ event ∷ []) entries frames
    from-other event frames other is =
        represents-same (history ++ event ∷ []) frames
        (λ channel x y. last_pixel-other event channel x y other) (λ channel pair side. last_sample-other event channel pair side other) is

    pub from-skipped : (frames : List FrameView) → ticks history < from
        → RepresentsFrom setup from history entries frames → RepresentsFrom setup from (history ++ Tick ∷ []) entries frames
    from-skipped frames early is =
        represents-same (history ++ Tick ∷ []) frames
        (λ channel x y. skipped_pixel channel x y early) (λ channel pair side. skipped_sample channel pair side early) is

    -- frames that are rendered at a tick
    module _ (prev next : List FrameView) (late : from ≤ ticks history) (is : RepresentsFrom setup from history entries prev)
        (made : AreRendered prev entries (scenes_after history (length prev)) next) where
      size_is : (channel : ℕ) → IsConfigured (length prev) channel → (frame_at channel next).size ≡ size setup channel
      size_is channel h = same_size channel prev next made.same_sizes h ∙ sym (size_in_setup setup prev channel h.0 is.pictures.sizes)

      shows-frame : (channel : ℕ) → IsConfigured (length prev) channel → Shows (frame_at channel next) (pixel_from setup from history channel)
      shows-frame channel h =
          let shown : scene_pixel (pictures_from setup from history) (frame_at channel next).size (scene_at channel (scenes_after history (length prev)))
          ≡ pixel_from setup from history channel =
          λ i x y.
          ((λ k. scene_pixel (pictures_from setup from history) (size_is channel h k) (scene_there history (length prev) channel h k) x y)
          ∙ sym (pixel_of_scene channel x y late)) i in
          subst (Shows (frame_at channel next)) shown ((made.each channel h).picture (pictures_from setup from history) is.pictures)

      has-mixed : (channel : ℕ) → IsConfigured (length prev) channel
          → HasSound (frame_at channel next) (mixed_sample (sounds_made_from setup from history) (scene history channel))
      has-mixed channel h =
          subst (λ layers. HasSound (frame_at channel next) (mixed_sample (sounds_made_from setup from history) layers)) (scene_there history (length prev) channel h)
          ((made.each channel h).sound (sounds_made_from setup from history) is.sounds)

      has-sound : (channel : ℕ) → IsConfigured (length prev) channel → HasSound (frame_at channel next) (sample_from setup from history channel)
      has-sound channel h =
          let heard : mixed_sample (sounds_made_from setup from history) (scene history channel) ≡ sample_from setup from history channel =
          λ i pair side. sym (sample_of_scene channel pair side late) i in
          subst (HasSound (frame_at channel next)) heard (has-mixed channel h)

      sample_fits : (channel pair side : ℕ) → FitsSigned w16 (sample_from setup from history channel pair side)
      sample_fits channel pair side =
          subst (FitsSigned w16) (sym (sample_of_scene channel pair side late))
          (held_fits (sample_sum (still_sample setup (last_sample_from setup from history) pair side) (scene history channel)))

      pub from-tick : RepresentsFrom setup from (history ++ Tick ∷ []) entries next
      from-tick =
          let many = same_many prev next made.same_sizes in
          record {
            pictures = record {
              clips = is.pictures.clips;
              sizes = is.pictures.sizes ∙ sym made.same_sizes;
              pixels = λ channel x y h inside below.
                  last_pixel-tick channel x y
                  ∙ sym (pixel_in-shown (frame_at channel next) (pixel_from setup from history channel) x y (shows-frame channel (h.0, omega (arith, h.1, many))) inside below);
            };
            sounds = record {
              clips = is.sounds.clips;
              sizes = is.sounds.sizes ∙ sym made.same_sizes;
              samples = λ channel pair side h below small.
                  last_sample-tick channel pair side
                  ∙ sym (sample_in-sound (frame_at channel next) (sample_from setup from history channel) pair side (has-sound channel (h.0, omega (arith, h.1, many)))
                  (sample_fits channel) below small);
            };
          }

      -- the frame of a channel is that of the whole history, if all frames that it needs were made
      pub whole_frame : (channel : ℕ) → IsConfigured (length prev) channel → from ≤ ticks history - depth history channel
          → HasFrame setup history channel (frame_at channel next)
      whole_frame channel h early =
          let pixels : pixel_from setup from history channel ≡ frame_pixel setup history channel =
          λ i x y. whole_pixel setup from history channel x y early i in
          let samples : sample_from setup from history channel ≡ frame_sample setup history channel =
          λ i pair side. whole_sample setup from history channel pair side early i in
          record {
            size = size_is channel h;
            picture = (shows-frame channel h).bytes ∙ (λ i. frame_bytes (size_is channel h i).width (size_is channel h i).height (pixels i));
            sound = (has-sound channel h).sound ∙ (λ i. bytes_of_samples (size_is channel h i).pairs (samples i));
          }

    -- if each frame is that of the whole history, the frames represent the whole history
    pub from-whole : (frames : List FrameView) → ((channel : ℕ) → IsConfigured (length frames) channel → from + last_depth history channel < ticks history)
        → RepresentsFrom setup from history entries frames → Represents setup history entries frames
    unfolding last_pixel_from last_pixel last_sample_from last_sample last_depth
    from-whole frames early is =
        let within : (channel : ℕ) → IsConfigured (length frames) channel → from + depth_back (reverse history) channel < ticks (reverse history) =
        λ channel h. omega (arith, early channel h, ticks-reverse history) in
        record {
          pictures = record {
            clips = is.pictures.clips;
            sizes = is.pictures.sizes;
            pixels = λ channel x y h inside below.
                sym (whole_frames setup from (reverse history) channel (within channel h) x y) ∙ is.pictures.pixels channel x y h inside below;
          };
          sounds = record {
            clips = is.sounds.clips;
            sizes = is.sounds.sizes;
            samples = λ channel pair side h below small.
                sym (whole_sounds setup from (reverse history) channel (within channel h) pair side) ∙ is.sounds.samples channel pair side h below small;
          };
        }

-- before the first tick all frames are blank, and the history has no others
no_pixel : (setup : Setup) (back : List Event) (channel x y : ℕ) → ticks back ≡ 0 → frames_back setup back channel x y ≡ transparent
no_pixel setup [] channel x y none = refl
no_pixel setup (Do tag cmd ∷ before) channel x y none = no_pixel setup before channel x y none
no_pixel setup (Batch tag cmds ∷ before) channel x y none = no_pixel setup before channel x y none
no_pixel setup (Tick ∷ before) channel x y none = absurd (omega (arith, none))
no_pixel setup (Stop tag ∷ before) channel x y none = no_pixel setup before channel x y none

no_sample : (setup : Setup) (back : List Event) (channel pair side : ℕ) → ticks back ≡ 0 → sounds_back setup back channel pair side ≡ pos 0
no_sample setup [] channel pair side none = refl
no_sample setup (Do tag cmd ∷ before) channel pair side none = no_sample setup before channel pair side none
no_sample setup (Batch tag cmds ∷ before) channel pair side none = no_sample setup before channel pair side none
no_sample setup (Tick ∷ before) channel pair side none = absurd (omega (arith, none))
no_sample setup (Stop tag ∷ before) channel pair side none = no_sample setup before channel pair side none

module _ (setup : Setup) (from : ℕ) (history : List Event) (entries : List Entry) (frames : List FrameView)
    (is : RepresentsFrom setup from history entries frames) where
  whole-none : ticks history ≡ 0 → Represents setup history entries frames
  unfolding last_pixel_from last_pixel last_sample_from last_sample
  whole-none none =
      let back : ticks (reverse history) ≡ 0 = ticks-reverse history ∙ none in
      record {
        pictures = record {
          clips = is.pictures.clips;
          sizes = is.pictures.sizes;
          pixels = λ channel x y h inside below.
              no_pixel setup (reverse history) channel x y back ∙ sym (blank_pixel setup from (reverse history) channel x y (omega (arith, back)))
              ∙ is.pictures.pixels channel x y h inside below;
        };
        sounds = record {
          clips = is.sounds.clips;
          sizes = is.sounds.sizes;
          samples = λ channel pair side h below small.
              no_sample setup (reverse history) channel pair side back ∙ sym (blank_sample setup from (reverse history) channel pair side (omega (arith, back)))
              ∙ is.sounds.samples channel pair side h below small;
        };
      }

  -- frames from the tick on that is earlier by the greatest depth are those of the whole history at the last tick
  pub whole-last : from ≤ ticks history - 1 - greatest_depth (length frames) history → Represents setup history entries frames
  whole-last early = by_ticks (ticks history) refl
    where
      by_ticks : (n : ℕ) → ticks history ≡ n → Represents setup history entries frames
      by_ticks zero none = whole-none none
      by_ticks (suc n) some =
          from-whole setup from history entries frames
          (λ channel h. omega (arith, early, some, deepest (length frames) history channel h, last-within history channel)) is

-- new frames, before the first event
pub from-first : (setup : Setup) (from : ℕ) (channels : List ChannelView) (entries : List Entry) → setup.clips ≡ clips_of entries
    → setup.channels ≡ sizes (map zero_frame channels) → RepresentsFrom setup from [] entries (map zero_frame channels)
unfolding last_pixel_from last_pixel last_sample_from last_sample
from-first setup from channels entries clips same =
    let pictures = first_pictures setup channels entries clips same in
    let sounds = first_sounds setup channels entries clips same in
    record {
      pictures = record { clips = clips; sizes = same; pixels = pictures.pixels };
      sounds = record { clips = clips; sizes = same; samples = sounds.samples };
    }
