-- The frames of one tick are the pictures of the next.
use Rattle.std.proofs.Common.{◌≡◌, ℕ, ◌+◌, List, [], ◌∷◌, ◌++◌, ◌*◌, zero, suc, ◌-◌, length, map, get_or, slice_index, replicate, refl, sym, ap, ◌∙◌}
use Rattle.play_types.specs.Config.{ChannelView}
use Rattle.play_types.specs.Scene.{IsConfigured}
use Rattle.play_types.specs.declared.event.Event.{Event}
use Rattle.play_types.specs.declared.event.Event.TheVariants.{Tick}
use Rattle.clip_format.specs.Table.{Entry}
use Rattle.history_model.specs.pictures.Frame.{frame_pixel, last_pixel, pictures_after, scene_pixel}
use Rattle.history_model.specs.pictures.Media.{Setup}
use Rattle.history_model.specs.pictures.Scene.{scene}
use Rattle.history_model.proofs.Frames.{frame_pixel-scene, last_pixel-tick}
use Rattle.play_types.specs.declared.geometry.Geometry.{Geometry}
use Rattle.pixel_math.specs.Pixel.{lowered, transparent}
use Rattle.play_scene.specs.Picture.{clips_of}
use Rattle.play_scene.specs.Frames.{ArePictures, FrameView, Shows, frame_at, no_frame, pixel_in, zero_frame}
use Rattle.play_scene.proofs.Reading.{pixel_in-shown}
use Rattle.play_scene.proofs.Stills.{size-pictures}

-- the pixel of a scene of a history, at the size of the channel's frame
pub history_pixel : (setup : Setup) (history : List Event) (frames : List FrameView) (entries : List Entry) (channel x y : ℕ) →
    ArePictures (pictures_after setup history) frames entries → IsConfigured (length frames) channel →
    scene_pixel (pictures_after setup history) (frame_at channel frames).size (scene history channel) x y ≡ frame_pixel setup history channel x y
history_pixel setup history frames entries channel x y are configured =
    ap (λ (frame : Geometry). scene_pixel (pictures_after setup history) frame (scene history channel) x y)
    (sym (size-pictures (pictures_after setup history) frames entries channel are configured.0))
    ∙ sym (frame_pixel-scene setup history channel x y)

-- before the first tick each frame is transparent
zeros : (n k : ℕ) → slice_index (replicate n 0) k ≡ 0
zeros zero k = refl
zeros (suc n) zero = refl
zeros (suc n) (suc k) = zeros n k

zero_bytes : (channels : List ChannelView) (n k : ℕ) → slice_index (get_or (map zero_frame channels) n no_frame).bytes k ≡ 0
zero_bytes [] n k = refl
zero_bytes (channel ∷ channels) zero k = zeros (4 * channel.width * channel.height) k
zero_bytes (channel ∷ channels) (suc n) k = zero_bytes channels n k

zero_pixel : (channels : List ChannelView) (channel x y : ℕ) → transparent ≡ pixel_in (frame_at channel (map zero_frame channels)) x y
zero_pixel channels channel x y =
    let at = 4 * (y * (frame_at channel (map zero_frame channels)).size.width + x) in
    let byte = zero_bytes channels (channel - 1) in
    sym (λ i. lowered (byte at i) (byte (at + 1) i) (byte (at + 2) i) (byte (at + 3) i))

pub first_pictures : (setup : Setup) (channels : List ChannelView) (entries : List Entry) → setup.clips ≡ clips_of entries →
    setup.channels ≡ map (λ (frame : FrameView). frame.size) (map zero_frame channels) →
    ArePictures (pictures_after setup []) (map zero_frame channels) entries
unfolding last_pixel
first_pictures setup channels entries clips sizes = record {
  clips = clips;
  sizes = sizes;
  pixels = λ channel x y configured h k. zero_pixel channels channel x y;
}

-- after a tick each frame has the pixels of that tick
pub next_pictures : (setup : Setup) (history : List Event) (frames : List FrameView) (entries : List Entry) → setup.clips ≡ clips_of entries →
    setup.channels ≡ map (λ (frame : FrameView). frame.size) frames →
    ((channel : ℕ) → IsConfigured (length frames) channel → Shows (frame_at channel frames) (frame_pixel setup history channel)) →
    ArePictures (pictures_after setup (history ++ Tick ∷ [])) frames entries
next_pictures setup history frames entries clips sizes shows = record {
  clips = clips;
  sizes = sizes;
  pixels = λ channel x y configured h k.
      last_pixel-tick setup history channel x y
      ∙ sym (pixel_in-shown (frame_at channel frames) (frame_pixel setup history channel) x y (shows channel configured) h k);
}
