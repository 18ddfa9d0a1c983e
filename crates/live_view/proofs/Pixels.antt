-- The bytes of a picture are those of the pixels of the history.
use Rattle.std.proofs.Common.{◌≡◌, ℕ, zero, suc, ◌+◌, ◌*◌, ◌/◌, ◌<◌, ◌≤◌, min, List, [], ◌∷◌, length, take, drop, slice_index, refl, sym, ap, ◌∙◌, arith}
use Rattle.std.specs.Prelude.{Option}
use Rattle.std.proofs.lemmas.Nat.{mul-le}
use Rattle.play_types.specs.Scene.{IsConfigured}
use Rattle.play_types.specs.declared.event.Event.{Event}
use Rattle.clip_format.specs.Table.{Entry}
use Rattle.pixel_math.specs.Pixel.{pixel_bytes}
use Rattle.history_model.specs.pictures.Frame.{last_pixel, pictures_after}
use Rattle.history_model.specs.pictures.Media.{Setup}
use Rattle.play_scene.specs.Frames.{ArePictures, FrameView, IsFrame, frame_at, pixel_in}
use Rattle.frame_bitmap.specs.Bitmap.{IsBitmap, pixel_at, shown_pixel}
use Rattle.frame_bitmap.specs.Size.{shown, shown_width}
use Rattle.frame_bitmap.specs.declared.dimensions.Size.{Size}
use Rattle.frame_bitmap.proofs.Sizes.{column_inside, no_more_columns, row_inside, some_columns}

-- four bytes of a list
four : (n : ℕ) (bytes : List ℕ) → n + 4 ≤ length bytes
    → take 4 (drop n bytes) ≡ slice_index bytes n ∷ slice_index bytes (n + 1) ∷ slice_index bytes (n + 2) ∷ slice_index bytes (n + 3) ∷ []
four n [] long = absurd (omega (arith, long))
four zero (a ∷ []) long = absurd (omega (arith, long))
four zero (a ∷ b ∷ []) long = absurd (omega (arith, long))
four zero (a ∷ b ∷ c ∷ []) long = absurd (omega (arith, long))
four zero (a ∷ b ∷ c ∷ d ∷ bytes) long = refl
four (suc n) (a ∷ bytes) long =
    let one : suc (n + 1) ≡ suc n + 1 = omega arith in
    let two : suc (n + 2) ≡ suc n + 2 = omega arith in
    let three : suc (n + 3) ≡ suc n + 3 = omega arith in
    four n bytes (omega (arith, long))
    ∙ (λ i. slice_index bytes n ∷ slice_index (a ∷ bytes) (one i) ∷ slice_index (a ∷ bytes) (two i) ∷ slice_index (a ∷ bytes) (three i) ∷ [])

-- a pixel of a frame lies within its bytes
pixel_inside : (width height x y : ℕ) → x < width → y < height → 4 * (y * width + x) + 4 ≤ 4 * width * height
pixel_inside width height x y column row =
    let rows : (y + 1) * width ≤ height * width = mul-le (y + 1) width height width (omega (arith, row)) (omega arith) in
    grind (arith, rows, column)

-- the bytes of a pixel of a frame
pixel_of_frame : (frame : FrameView) (x y : ℕ) → IsFrame frame → x < frame.size.width → y < frame.size.height → pixel_at frame.size.width frame.bytes x y ≡ pixel_bytes (pixel_in frame x y)
pixel_of_frame frame x y is column row =
    let width = frame.size.width in
    let at = 4 * (y * width + x) in
    let inside = pixel_inside width frame.size.height x y column row in
    let long = is.bytes in
    let low = is.lowered (y * width + x) in
    let blue : slice_index frame.bytes at ≡ min (slice_index frame.bytes at) (slice_index frame.bytes (at + 3)) = omega (arith, low.blue) in
    let green : slice_index frame.bytes (at + 1) ≡ min (slice_index frame.bytes (at + 1)) (slice_index frame.bytes (at + 3)) = omega (arith, low.green) in
    let red : slice_index frame.bytes (at + 2) ≡ min (slice_index frame.bytes (at + 2)) (slice_index frame.bytes (at + 3)) = omega (arith, low.red) in
    four at frame.bytes (omega (arith, inside, long))
    ∙ (λ i. blue i ∷ green i ∷ red i ∷ slice_index frame.bytes (at + 3) ∷ [])

-- the file of a picture with equal pixels
pub same_bitmap : (file : List ℕ) (size : Size) (one other : ℕ → ℕ → List ℕ) → ((x y : ℕ) → x < size.width → y < size.height → one x y ≡ other x y)
    → IsBitmap file size one → IsBitmap file size other
same_bitmap file size one other same is = record {
  bytes = is.bytes;
  file_header = is.file_header;
  info_header = is.info_header;
  pixels = λ x y column row. is.pixels x y column row ∙ same x y column row;
}

-- the pixels that are shown of a frame of a channel are those of the history
module _ (setup : Setup) (events : List Event) (entries : List Entry) (frames : List FrameView) (channel : ℕ) (asked : Option ℕ) (are : ArePictures (pictures_after setup events) frames entries)
    (configured : IsConfigured (length frames) channel) (is : IsFrame (frame_at channel frames)) where
  abbrev size : Size
  size = record { width = (frame_at channel frames).size.width; height = (frame_at channel frames).size.height }

  abbrev columns : ℕ
  columns = shown_width size.width asked

  pub shown_of_history : (x y : ℕ) → x < (shown size asked).width → y < (shown size asked).height
      → shown_pixel size.width (frame_at channel frames).bytes columns x y ≡ pixel_bytes (last_pixel setup events channel (x * size.width / columns) (y * size.width / columns))
  shown_of_history x y column row =
      let wide : 1 ≤ size.width = is.size.some_columns in
      let high : 1 ≤ size.height = is.size.some_rows in
      let some = some_columns size.width asked wide in
      let down = no_more_columns size.width asked in
      let across = column_inside size.width columns x some down column in
      let below = row_inside size.width size.height columns y some down high row in
      pixel_of_frame (frame_at channel frames) (x * size.width / columns) (y * size.width / columns) is across below
      ∙ ap pixel_bytes (sym (are.pixels channel (x * size.width / columns) (y * size.width / columns) configured across below))
