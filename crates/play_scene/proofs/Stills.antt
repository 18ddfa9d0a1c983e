-- The clips of a media table and the frames of the tick before, as the pictures that stills show.
use Rattle.std.proofs.Common.{◌≡◌, ℕ, zero, suc, ◌+◌, ◌-◌, ◌*◌, ◌<◌, ◌≤◌, List, [], ◌∷◌, length, map, get_or, slice_get, unwrap_or, Option, None, refl, ap, ◌∙◌, arith, div-lt_iff_lt-mul, mul-lt-mul_of_pos_right, mul_comm}
use Rattle.play_types.specs.Scene.{IsConfigured}
use Rattle.play_types.specs.ClipFile.{ClipView}
use Rattle.play_types.specs.declared.geometry.Geometry.{Geometry}
use Rattle.play_types.specs.declared.drawn.Still.TheVariants.{Channel, Frame}
use Rattle.clip_format.specs.Table.{Entry, readable}
use Rattle.clip_format.specs.Table as table
use Rattle.history_model.specs.pictures.Media.{clip_at, no_size, size}
use Rattle.history_model.specs.pictures.Raster.{Pictures, scaled_clip, scaled_to, still_pixel}
use Rattle.play_scene.specs.Picture.{clips_of}
use Rattle.play_scene.specs.Frames.{ArePictures, FrameView, IsFrame, frame_at, no_frame, pixel_in, pictures_of}

-- the clip of a number, by the list of clips and by the table
clip_of_list : (entries : List Entry) (id : ℕ) → unwrap_or (slice_get (clips_of entries) id) None ≡ table.clip_at entries id
clip_of_list [] id = refl
clip_of_list (entry ∷ entries) zero = refl
clip_of_list (entry ∷ entries) (suc id) = clip_of_list entries id

clip-pictures : (pictures : Pictures) (frames : List FrameView) (entries : List Entry) (id : ℕ) → ArePictures pictures frames entries →
    clip_at pictures.setup id ≡ table.clip_at entries id
clip-pictures pictures frames entries id are =
    ap (λ (clips : List (Option ClipView)). unwrap_or (slice_get clips id) None) are.clips ∙ clip_of_list entries id

-- a frame of a clip of the table
pub frame-shown : (pictures : Pictures) (frames : List FrameView) (entries : List Entry) (id frame : ℕ) (raster : Geometry) (x y : ℕ) →
    ArePictures pictures frames entries →
    still_pixel pictures raster (Frame id frame) x y ≡ scaled_clip (table.clip_at entries id) frame raster x y
frame-shown pictures frames entries id frame raster x y are =
    ap (λ (clip : Option ClipView). scaled_clip clip frame raster x y) (clip-pictures pictures frames entries id are)

-- the size of a channel is that of its frame
size_of_list : (frames : List FrameView) (n : ℕ) → unwrap_or (slice_get (map (λ (frame : FrameView). frame.size) frames) n) no_size ≡ (get_or frames n no_frame).size
size_of_list [] n = refl
size_of_list (frame ∷ frames) zero = refl
size_of_list (frame ∷ frames) (suc n) = size_of_list frames n

size_at : (frames : List FrameView) (sizes : List Geometry) (clips : List (Option ClipView)) (channel : ℕ) → 1 ≤ channel →
    sizes ≡ map (λ (frame : FrameView). frame.size) frames →
    size (record { channels = sizes; clips = clips }) channel ≡ (frame_at channel frames).size
size_at frames sizes clips zero h are = absurd (omega (arith, h))
size_at frames sizes clips (suc n) h are =
    let same : n ≡ suc n - 1 = omega arith in
    ap (λ (list : List Geometry). unwrap_or (slice_get list n) no_size) are ∙ size_of_list frames n
    ∙ ap (λ (k : ℕ). (get_or frames k no_frame).size) same

pub size-pictures : (pictures : Pictures) (frames : List FrameView) (entries : List Entry) (channel : ℕ) → ArePictures pictures frames entries → 1 ≤ channel →
    size pictures.setup channel ≡ (frame_at channel frames).size
size-pictures pictures frames entries channel are h = size_at frames pictures.setup.channels pictures.setup.clips channel h are.sizes

-- a column of a raster shows one of the picture's
pub scaled_inside : (pw w x : ℕ) → 0 < pw → x < w → scaled_to pw w x < pw
scaled_inside pw w x some inside =
    let less : (2 * x + 1) * pw < (2 * w) * pw = mul-lt-mul_of_pos_right {k = pw} (omega (arith, inside)) some in
    let turned : (2 * w) * pw ≡ pw * (2 * w) = mul_comm (2 * w) pw in
    (div-lt_iff_lt-mul {k = 2 * w} (omega (arith, inside))).1 (omega (arith, less, turned))

-- the frame of a channel at the tick before
pub channel-shown : (pictures : Pictures) (frames : List FrameView) (entries : List Entry) (channel : ℕ) (raster : Geometry) (x y : ℕ) →
    ArePictures pictures frames entries → IsConfigured (length frames) channel → IsFrame (frame_at channel frames) →
    x < raster.width → y < raster.height →
    still_pixel pictures raster (Channel channel) x y
    ≡ pixel_in (frame_at channel frames)
    (scaled_to (frame_at channel frames).size.width raster.width x) (scaled_to (frame_at channel frames).size.height raster.height y)
channel-shown pictures frames entries channel raster x y are configured is h k =
    let picture = (frame_at channel frames).size in
    ap (λ (at : Geometry). pictures.frames channel (scaled_to at.width raster.width x) (scaled_to at.height raster.height y))
    (size-pictures pictures frames entries channel are configured.0)
    ∙ are.pixels channel (scaled_to picture.width raster.width x) (scaled_to picture.height raster.height y) configured
    (scaled_inside picture.width raster.width x is.size.some_columns h)
    (scaled_inside picture.height raster.height y is.size.some_rows k)

-- the pictures of frames and a table are such ones
pub are_pictures : (frames : List FrameView) (entries : List Entry) → ArePictures (pictures_of frames entries) frames entries
are_pictures frames entries = record { clips = refl; sizes = refl; pixels = λ channel x y configured h k. refl }
