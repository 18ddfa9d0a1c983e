-- The frames of a renderer, tick by tick.
use Rattle.std.proofs.Common.{◌≡◌, ◌≢◌, ℕ, zero, suc, ◌-◌, ◌≤◌, List, [], ◌∷◌, ◌++◌, get_or, slice_get, unwrap_or, reverse, length, map, refl, sym, ap, ◌∙◌, subst, arith}
use Rattle.std.proofs.lemmas.List.{reverse-append}
use Rattle.std.proofs.lemmas.List.FromFn.{get_or-map-range_with_len}
use Rattle.play_types.specs.Config.{ChannelView}
use Rattle.play_types.specs.Scene.{IsConfigured, scene_at}
use Rattle.play_types.specs.declared.event.Event.{Event}
use Rattle.play_types.specs.declared.event.Event.TheVariants.{Do, Batch, Tick, Stop}
use Rattle.play_types.specs.declared.geometry.Geometry.{Geometry}
use Rattle.clip_format.specs.Table.{Entry}
use Rattle.history_model.specs.pictures.Frame.{frame_pixel, frames_back, last_pixel, pictures_after, scene_pixel}
use Rattle.history_model.specs.pictures.Media.{Setup, no_size, size}
use Rattle.history_model.specs.pictures.Scene.{scene}
use Rattle.history_model.specs.pictures.Sound.{frame_sample, last_sample, sounds_back}
use Rattle.history_model.specs.text.Frames.{frame_bytes}
use Rattle.history_model.proofs.Frames.{frame_sample-scene}
use Rattle.play_scene.specs.Frames.{FrameView, Shows, frame_at, no_frame, zero_frame}
use Rattle.play_scene.specs.Picture.{clips_of}
use Rattle.play_scene.proofs.Ticks.{first_pictures, history_pixel, next_pictures}
use Rattle.play_sound.specs.Sounds.{HasSound, bytes_of_samples, mixed_sample, sounds_after}
use Rattle.play_sound.proofs.Ticks.{first_sounds, next_sounds}
use Rattle.band_render.specs.Rendered.{AreRendered, sizes}
use Rattle.band_render.specs.Histories.{HasFrame, Represents, scenes_after}
use Rattle.band_render.proofs.Writing.{same_many, same_size}

-- the scene of a channel at the tick after a history
pub scene_there : (history : List Event) (channels channel : ℕ) → IsConfigured channels channel →
    scene_at channel (scenes_after history channels) ≡ scene history channel
scene_there history channels channel h =
    get_or-map-range_with_len (scene history) 1 channels (channel - 1) channel [] (omega (arith, h.0, h.1)) (omega (arith, h.0))

-- the size of a channel is that of its frame
size_of_list : (frames : List FrameView) (n : ℕ) → unwrap_or (slice_get (sizes frames) n) no_size ≡ (get_or frames n no_frame).size
size_of_list [] n = refl
size_of_list (frame ∷ frames) zero = refl
size_of_list (frame ∷ frames) (suc n) = size_of_list frames n

pub size_in_setup : (setup : Setup) (frames : List FrameView) (channel : ℕ) → 1 ≤ channel → setup.channels ≡ sizes frames →
    size setup channel ≡ (frame_at channel frames).size
size_in_setup setup frames zero h is = absurd (omega (arith, h))
size_in_setup setup frames (suc n) h is =
    let same : n ≡ suc n - 1 = omega arith in
    ap (λ (list : List Geometry). unwrap_or (slice_get list n) no_size) is ∙ size_of_list frames n
    ∙ ap (λ (k : ℕ). (get_or frames k no_frame).size) same

-- an event that is no tick leaves the last pixels and samples
pixels_stay : (setup : Setup) (event : Event) (back : List Event) (channel x y : ℕ) → event ≢ Tick →
    frames_back setup (event ∷ back) channel x y ≡ frames_back setup back channel x y
pixels_stay setup (Do tag cmd) back channel x y other = refl
pixels_stay setup (Batch tag cmds) back channel x y other = refl
pixels_stay setup Tick back channel x y other = absurd (other refl)
pixels_stay setup (Stop tag) back channel x y other = refl

samples_stay : (setup : Setup) (event : Event) (back : List Event) (channel pair side : ℕ) → event ≢ Tick →
    sounds_back setup (event ∷ back) channel pair side ≡ sounds_back setup back channel pair side
samples_stay setup (Do tag cmd) back channel pair side other = refl
samples_stay setup (Batch tag cmds) back channel pair side other = refl
samples_stay setup Tick back channel pair side other = absurd (other refl)
samples_stay setup (Stop tag) back channel pair side other = refl

last_pixel-other : (setup : Setup) (history : List Event) (event : Event) (channel x y : ℕ) → event ≢ Tick →
    last_pixel setup (history ++ event ∷ []) channel x y ≡ last_pixel setup history channel x y
unfolding last_pixel
last_pixel-other setup history event channel x y other =
    ap (λ (back : List Event). frames_back setup back channel x y) (reverse-append history (event ∷ []))
    ∙ pixels_stay setup event (reverse history) channel x y other

last_sample-other : (setup : Setup) (history : List Event) (event : Event) (channel pair side : ℕ) → event ≢ Tick →
    last_sample setup (history ++ event ∷ []) channel pair side ≡ last_sample setup history channel pair side
unfolding last_sample
last_sample-other setup history event channel pair side other =
    ap (λ (back : List Event). sounds_back setup back channel pair side) (reverse-append history (event ∷ []))
    ∙ samples_stay setup event (reverse history) channel pair side other

-- frames represent a history with one more event that is no tick
pub represents-other : (setup : Setup) (history : List Event) (event : Event) (entries : List Entry) (frames : List FrameView) → event ≢ Tick →
    Represents setup history entries frames → Represents setup (history ++ event ∷ []) entries frames
represents-other setup history event entries frames other is = record {
  pictures = record {
    clips = is.pictures.clips;
    sizes = is.pictures.sizes;
    pixels = λ channel x y configured inside below.
        last_pixel-other setup history event channel x y other ∙ is.pictures.pixels channel x y configured inside below;
  };
  sounds = record {
    clips = is.sounds.clips;
    sizes = is.sounds.sizes;
    samples = λ channel pair side configured below small.
        last_sample-other setup history event channel pair side other ∙ is.sounds.samples channel pair side configured below small;
  };
}

-- the frames of a new renderer
pub represents-first : (setup : Setup) (channels : List ChannelView) (entries : List Entry) → setup.clips ≡ clips_of entries →
    setup.channels ≡ sizes (map zero_frame channels) → Represents setup [] entries (map zero_frame channels)
represents-first setup channels entries clips same = record {
  pictures = first_pictures setup channels entries clips same;
  sounds = first_sounds setup channels entries clips same;
}

-- what a frame that is rendered at a tick shows
shows-frame : (setup : Setup) (history : List Event) (entries : List Entry) (prev next : List FrameView) (channel : ℕ) → Represents setup history entries prev →
    AreRendered prev entries (scenes_after history (length prev)) next → IsConfigured (length prev) channel → Shows (frame_at channel next) (frame_pixel setup history channel)
shows-frame setup history entries prev next channel is made h =
    let layers = scene_at channel (scenes_after history (length prev)) in
    let shown : scene_pixel (pictures_after setup history) (frame_at channel next).size layers ≡ frame_pixel setup history channel =
    λ i x y.
    ((λ k. scene_pixel (pictures_after setup history) (same_size channel prev next made.same_sizes h k) (scene_there history (length prev) channel h k) x y)
    ∙ history_pixel setup history prev entries channel x y is.pictures h) i in
    subst (Shows (frame_at channel next)) shown ((made.each channel h).picture (pictures_after setup history) is.pictures)

-- and what is heard with it
has-sound : (setup : Setup) (history : List Event) (entries : List Entry) (prev next : List FrameView) (channel : ℕ) → Represents setup history entries prev →
    AreRendered prev entries (scenes_after history (length prev)) next → IsConfigured (length prev) channel → HasSound (frame_at channel next) (frame_sample setup history channel)
has-sound setup history entries prev next channel is made h =
    let layers = scene_at channel (scenes_after history (length prev)) in
    let heard : mixed_sample (sounds_after setup history) layers ≡ frame_sample setup history channel =
    λ i pair side.
    ((λ k. mixed_sample (sounds_after setup history) (scene_there history (length prev) channel h k) pair side)
    ∙ sym (frame_sample-scene setup history channel pair side)) i in
    subst (HasSound (frame_at channel next)) heard ((made.each channel h).sound (sounds_after setup history) is.sounds)

-- frames that are rendered at a tick
pub represents-tick : (setup : Setup) (history : List Event) (entries : List Entry) (prev next : List FrameView) → Represents setup history entries prev →
    AreRendered prev entries (scenes_after history (length prev)) next → Represents setup (history ++ Tick ∷ []) entries next
represents-tick setup history entries prev next is made =
    let many = same_many prev next made.same_sizes in
    let channels : setup.channels ≡ map (λ (frame : FrameView). frame.size) next = is.pictures.sizes ∙ sym made.same_sizes in
    record {
      pictures = next_pictures setup history next entries is.pictures.clips channels
          (λ channel h. shows-frame setup history entries prev next channel is made (h.0, omega (arith, h.1, many)));
      sounds = next_sounds setup history next entries is.sounds.clips channels
          (λ channel h. has-sound setup history entries prev next channel is made (h.0, omega (arith, h.1, many)));
    }

-- the frame of a channel at that tick
pub frame_of_tick : (setup : Setup) (history : List Event) (entries : List Entry) (prev next : List FrameView) (channel : ℕ) → Represents setup history entries prev →
    AreRendered prev entries (scenes_after history (length prev)) next → IsConfigured (length prev) channel → HasFrame setup history channel (frame_at channel next)
frame_of_tick setup history entries prev next channel is made h =
    let size_is : (frame_at channel next).size ≡ size setup channel =
    same_size channel prev next made.same_sizes h ∙ sym (size_in_setup setup prev channel h.0 is.pictures.sizes) in
    record {
      size = size_is;
      picture = (shows-frame setup history entries prev next channel is made h).bytes
          ∙ (λ i. frame_bytes (size_is i).width (size_is i).height (frame_pixel setup history channel));
      sound = (has-sound setup history entries prev next channel is made h).sound
          ∙ (λ i. bytes_of_samples (size_is i).pairs (frame_sample setup history channel));
    }
