-- The bytes of rows and of pictures.
use Rattle.std.proofs.Common.{◌≡◌, ℕ, zero, suc, ◌+◌, ◌*◌, ◌≤◌, List, length, length-append, refl, ◌∙◌, arith}
use Rattle.std.specs.Prelude.{flat_map}
use Rattle.std.specs.List.{range_with_len}
use Rattle.std.proofs.lemmas.Nat.{mul-le}
use Rattle.pixel_math.specs.Pixel.{PixelView, pixel_bytes}
use Rattle.play_types.specs.Geometry.{IsSize}
use Rattle.play_types.specs.declared.geometry.Geometry.{Geometry}
use Rattle.history_model.specs.text.Frames.{frame_bytes}
use Rattle.play_scene.specs.Frames.{picture_length}

-- the bytes of `count` pieces from the one at `first` on, each of one size
pub length-pieces : (f : ℕ → List ℕ) (size first count : ℕ) → ((k : ℕ) → length (f k) ≡ size) → length (flat_map f (range_with_len first count)) ≡ size * count
length-pieces f size first zero each = omega arith
length-pieces f size first (suc count) each =
    length-append (f first) (flat_map f (range_with_len (first + 1) count))
    ∙ rw (each first, length-pieces f size (first + 1) count each) (omega arith)

-- a frame has four bytes a pixel
pub length-frame_bytes : (width height : ℕ) (pixel : ℕ → ℕ → PixelView) → length (frame_bytes width height pixel) ≡ 4 * width * height
length-frame_bytes width height pixel =
    length-pieces (λ y. flat_map (λ x. pixel_bytes (pixel x y)) (range_with_len 0 width)) (4 * width) 0 height
    (λ y. length-pieces (λ x. pixel_bytes (pixel x y)) 4 0 width (λ x. refl))

-- a picture has at most 2 to the 26th bytes
pub picture_small : (size : Geometry) → IsSize size.width size.height size.pairs → picture_length size ≤ 67108864
picture_small size is =
    let wide = is.columns in
    let high = is.rows in
    mul-le (4 * size.width) size.height 16384 4096 (omega (arith, wide)) high
