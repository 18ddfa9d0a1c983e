-- Frames that are made from scenes and from the frames of the tick before.
use Rattle.std.specs.Prelude.{◌≡◌, ℕ, List, length, map}
use Rattle.play_types.specs.Scene.{IsConfigured, scene_at}
use Rattle.play_types.specs.declared.drawn.Drawn.{Drawn}
use Rattle.play_types.specs.declared.geometry.Geometry.{Geometry}
use Rattle.clip_format.specs.Table.{Entry}
use Rattle.history_model.specs.pictures.Frame.{scene_pixel}
use Rattle.history_model.specs.pictures.Raster.{Pictures}
use Rattle.play_scene.specs.Frames.{ArePictures, FrameView, Shows, frame_at}
use Rattle.play_sound.specs.Sounds.{AreSounds, HasSound, Sounds, mixed_sample}

-- the size of each channel's frame
abbrev pub sizes : List FrameView → List Geometry
sizes frames = map (λ frame. frame.size) frames

-- a frame has exactly the pixels and the samples of a scene, by a media table and by the frames and sounds `prev` of the tick before
pub record ShowsScene (prev : List FrameView) (entries : List Entry) (layers : List Drawn) (frame : FrameView) : Type 0 where
  pub picture : (pictures : Pictures) → ArePictures pictures prev entries → Shows frame (scene_pixel pictures frame.size layers)
  pub sound : (sounds : Sounds) → AreSounds sounds prev entries → HasSound frame (mixed_sample sounds layers)

-- the frames `next` have the sizes of `prev`, and that of each channel shows the channel's scene
pub record AreRendered (prev : List FrameView) (entries : List Entry) (scenes : List (List Drawn)) (next : List FrameView) : Type 0 where
  pub same_sizes : sizes next ≡ sizes prev
  pub each : (channel : ℕ) → IsConfigured (length prev) channel
      → ShowsScene prev entries (scene_at channel scenes) (frame_at channel next)
