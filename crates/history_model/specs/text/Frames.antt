-- The lines of a frame in hexadecimal.
use Rattle.std.specs.Prelude.{ℕ, ◌*◌, ◌==◌, if◌then◌else◌, zero, suc, List, [], ◌∷◌, ◌++◌, take, drop, codes, decimal, flat_map}
use Rattle.std.specs.List.{range_with_len}
use Rattle.hex.specs.Hex.{encode_lower}
use Rattle.sha2.specs.Sha256.{sha256}
use Rattle.play_types.specs.declared.geometry.Geometry.{Geometry}
use Rattle.pixel_math.specs.Pixel.{PixelView, pixel_bytes}

-- the bytes of a frame: its rows from the top, each from the left, the pixel at each column and row
abbrev pub frame_bytes : ℕ → ℕ → (ℕ → ℕ → PixelView) → List ℕ
frame_bytes width height pixel =
    flat_map (λ y. flat_map (λ x. pixel_bytes (pixel x y)) (range_with_len 0 width)) (range_with_len 0 height)

-- rows of `row_length` bytes, each in hexadecimal as a line of its own
unfoldable pub row_lines : ℕ → ℕ → List ℕ → List ℕ
row_lines row_length zero bytes = []
row_lines row_length (suc rows) bytes = (encode_lower (take row_length bytes) ++ 10 ∷ []) ++ row_lines row_length rows (drop row_length bytes)

-- the head line of a frame: the channel and the number of the tick, both from 1
unfoldable pub head_line : ℕ → ℕ → List ℕ
head_line channel tick = codes "F " ++ decimal channel ++ 32 ∷ decimal tick ++ 10 ∷ []

-- the line of the sound, if the channel has sound
unfoldable pub sound_line : ℕ → List ℕ → List ℕ
sound_line pairs sound = if pairs == 0 then [] else encode_lower sound ++ 10 ∷ []

-- all lines of a frame
unfoldable pub frame_lines : ℕ → ℕ → Geometry → List ℕ → List ℕ → List ℕ
frame_lines channel tick size frame sound =
    head_line channel tick ++ row_lines (4 * size.width) size.height frame ++ sound_line size.pairs sound

-- the line of a digest: the channel and the number of the tick, both from 1, and the SHA-256 of the bytes of the frame followed
-- by those of the sound, in lower-case hexadecimal
unfoldable pub digest_line : ℕ → ℕ → List ℕ → List ℕ → List ℕ
digest_line channel tick frame sound =
    codes "D " ++ decimal channel ++ 32 ∷ decimal tick ++ 32 ∷ encode_lower (sha256 (frame ++ sound)) ++ 10 ∷ []
