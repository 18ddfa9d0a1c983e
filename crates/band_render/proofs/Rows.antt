-- Rows of frames and their bytes.
use Rattle.std.proofs.Common.{◌≡◌, ℕ, zero, suc, ◌+◌, ◌-◌, ◌*◌, ◌%◌, ◌≤◌, List, [], ◌∷◌, ◌++◌, length, flat_map, refl, sym, ap, ap₂, ◌∙◌, append_assoc, append-nil, length-append, subst, arith}
use Rattle.std.specs.Prelude.{All}
use Rattle.std.specs.List.{range_with_len}
use Rattle.std.proofs.lemmas.List.{get_or-append-add, get_or_append_left}
use Rattle.std.proofs.lemmas.List.Elements.{All-append, All-cons, All-head}
use Rattle.play_types.specs.declared.drawn.Drawn.{Drawn}
use Rattle.play_types.specs.declared.geometry.Geometry.{Geometry}
use Rattle.pixel_math.specs.Pixel.{pixel_bytes}
use Rattle.history_model.specs.pictures.Frame.{scene_pixel}
use Rattle.history_model.specs.pictures.Raster.{Pictures}
use Rattle.play_types.specs.Scene.{IsConfigured, scene_at}
use Rattle.play_scene.proofs.Rows.{length-pieces}
use Rattle.band_render.specs.Rows.{Row, byte_count, row_bytes, rows_from, rows_of_frames}

-- the bytes of rows in two parts
pub byte_count-append : (xs ys : List Row) → byte_count (xs ++ ys) ≡ byte_count xs + byte_count ys
byte_count-append [] ys = omega arith
byte_count-append (x ∷ xs) ys = omega (arith, byte_count-append xs ys)

-- the bytes of rows of a channel
pub byte_count-rows : (channel : ℕ) (size : Geometry) (first count : ℕ) → byte_count (rows_from channel size first count) ≡ 4 * size.width * count
byte_count-rows channel size first zero = omega arith
byte_count-rows channel size first (suc count) =
    let more = byte_count-rows channel size (first + 1) count in
    let product : 4 * size.width * suc count ≡ 4 * size.width + 4 * size.width * count = grind arith in
    omega (arith, more, product)

-- rows are whole pixels
pub byte_count-whole : (rows : List Row) → byte_count rows % 4 ≡ 0
byte_count-whole [] = refl
byte_count-whole (row ∷ rows) = let more = byte_count-whole rows in omega (arith, more)

-- a row of a picture has four bytes a pixel
length-row : (pictures : Pictures) (scenes : List (List Drawn)) (row : Row) → length (row_bytes pictures scenes row) ≡ 4 * row.size.width
length-row pictures scenes row =
    length-pieces (λ x. pixel_bytes (scene_pixel pictures row.size (scene_at row.channel scenes) x row.y)) 4 0 row.size.width (λ x. refl)

pub length-rows : (pictures : Pictures) (scenes : List (List Drawn)) (rows : List Row) → length (flat_map (row_bytes pictures scenes) rows) ≡ byte_count rows
length-rows pictures scenes [] = refl
length-rows pictures scenes (row ∷ rows) =
    length-append (row_bytes pictures scenes row) (flat_map (row_bytes pictures scenes) rows)
    ∙ ap₂ (λ (m n : ℕ). m + n) (length-row pictures scenes row) (length-rows pictures scenes rows)

-- rows of a channel and those below them
pub rows_from-more : (channel : ℕ) (size : Geometry) (first count more : ℕ) →
    rows_from channel size first (count + more) ≡ rows_from channel size first count ++ rows_from channel size (first + count) more
rows_from-more channel size first zero more =
    let all : 0 + more ≡ more = omega arith in
    let here : first ≡ first + 0 = omega arith in
    ap (rows_from channel size first) all ∙ ap (λ (k : ℕ). rows_from channel size k more) here
rows_from-more channel size first (suc count) more =
    let one : suc count + more ≡ suc (count + more) = omega arith in
    let there : first + 1 + count ≡ first + suc count = omega arith in
    ap (rows_from channel size first) one
    ∙ ap (λ (rows : List Row). record { channel = channel; size = size; y = first } ∷ rows)
    (rows_from-more channel size (first + 1) count more
    ∙ ap (λ (k : ℕ). rows_from channel size (first + 1) count ++ rows_from channel size k more) there)

-- the rows of one more frame
pub rows_of_frames-more : (channel last : ℕ) (sizes : List Geometry) (size : Geometry) → channel + length sizes ≡ last →
    rows_of_frames channel (sizes ++ size ∷ []) ≡ rows_of_frames channel sizes ++ rows_from last size 0 size.height
rows_of_frames-more channel last [] size is =
    append-nil (rows_from channel size 0 size.height) ∙ ap (λ (k : ℕ). rows_from k size 0 size.height) (omega (arith, is))
rows_of_frames-more channel last (other ∷ sizes) size is =
    ap (λ (rows : List Row). rows_from channel other 0 other.height ++ rows) (rows_of_frames-more (channel + 1) last sizes size (omega (arith, is)))
    ∙ sym (append_assoc (rows_from channel other 0 other.height) (rows_of_frames (channel + 1) sizes) (rows_from last size 0 size.height))

-- the bytes that a picture's rows of one channel have
pub bytes_of_rows : (pictures : Pictures) (scenes : List (List Drawn)) (channel : ℕ) (size : Geometry) (first count : ℕ) →
    flat_map (row_bytes pictures scenes) (rows_from channel size first count)
    ≡ flat_map (λ y. flat_map (λ x. pixel_bytes (scene_pixel pictures size (scene_at channel scenes) x y)) (range_with_len 0 size.width)) (range_with_len first count)
bytes_of_rows pictures scenes channel size first zero = refl
bytes_of_rows pictures scenes channel size first (suc count) =
    ap (λ (bytes : List ℕ). row_bytes pictures scenes (record { channel = channel; size = size; y = first }) ++ bytes)
    (bytes_of_rows pictures scenes channel size (first + 1) count)

-- what holds of the channel and the size of each frame holds of each row
pub each_row : (P : ℕ → Geometry → Type 0) (channel : ℕ) (size : Geometry) (first count : ℕ) → P channel size →
    All (λ row. P row.channel row.size) (rows_from channel size first count)
each_row P channel size first zero here = λ k d lt. absurd (omega (arith, lt))
each_row P channel size first (suc count) here =
    All-cons (λ (row : Row). P row.channel row.size) (record { channel = channel; size = size; y = first }) (rows_from channel size (first + 1) count)
    here (each_row P channel size (first + 1) count here)

-- a list of which all elements pass, in two parts
pub all_parts : {X : Type 0} (P : X → Type 0) (xs ys : List X) → All P (xs ++ ys) → All P xs × All P ys
all_parts P xs ys all =
    let long = length-append xs ys in (
      (λ k d lt. subst P (get_or_append_left xs ys d k lt) (all k d (omega (arith, lt, long)))),
      (λ k d lt. subst P (get_or-append-add xs ys k d) (all (length xs + k) d (omega (arith, lt, long)))),
    )

pub all_rest : {X : Type 0} (P : X → Type 0) (x : X) (xs : List X) → All P (x ∷ xs) → All P xs
all_rest P x xs all = λ k d lt. all (suc k) d (omega (arith, lt))

-- the rows of frames are of the channels
pub channels_of_rows : (channels channel : ℕ) (sizes : List Geometry) → 1 ≤ channel → channel + length sizes ≤ channels + 1 →
    All (λ row. IsConfigured channels row.channel) (rows_of_frames channel sizes)
channels_of_rows channels channel [] some few = λ k d lt. absurd (omega (arith, lt))
channels_of_rows channels channel (size ∷ sizes) some few =
    All-append (λ row. IsConfigured channels row.channel) (rows_from channel size 0 size.height) (rows_of_frames (channel + 1) sizes)
    (each_row (λ c s. IsConfigured channels c) channel size 0 size.height (some, omega (arith, few)))
    (channels_of_rows channels (channel + 1) sizes (omega arith) (omega (arith, few)))

-- and no wider than the frames
pub widths_of_rows : (most channel : ℕ) (sizes : List Geometry) → All (λ size. size.width ≤ most) sizes →
    All (λ row. row.size.width ≤ most) (rows_of_frames channel sizes)
widths_of_rows most channel [] wide = λ k d lt. absurd (omega (arith, lt))
widths_of_rows most channel (size ∷ sizes) wide =
    All-append (λ (row : Row). row.size.width ≤ most) (rows_from channel size 0 size.height) (rows_of_frames (channel + 1) sizes)
    (each_row (λ c s. s.width ≤ most) channel size 0 size.height (All-head (λ (s : Geometry). s.width ≤ most) size sizes wide))
    (widths_of_rows most (channel + 1) sizes (all_rest (λ (s : Geometry). s.width ≤ most) size sizes wide))

-- the rows of a channel above a row, and those from there to another
pub rows_below : (before : List Row) (channel : ℕ) (size : Geometry) (first y : ℕ) (all now : List Row) → first ≤ y →
    all ≡ before ++ rows_from channel size 0 first → now ≡ all ++ rows_from channel size first (y - first) →
    now ≡ before ++ rows_from channel size 0 y
rows_below before channel size first y all now le is more =
    let place : first ≡ 0 + first = omega arith in
    let end : first + (y - first) ≡ y = omega (arith, le) in
    more
    ∙ ap₂ (λ (xs ys : List Row). xs ++ ys) is (ap (λ (k : ℕ). rows_from channel size k (y - first)) place)
    ∙ append_assoc before (rows_from channel size 0 first) (rows_from channel size (0 + first) (y - first))
    ∙ ap (λ (rows : List Row). before ++ rows) (sym (rows_from-more channel size 0 first (y - first)) ∙ ap (rows_from channel size 0) end)

-- the bytes of frames of at most this many bytes
pub frames_small : (most channel : ℕ) (sizes : List Geometry) → All (λ size. 4 * size.width * size.height ≤ most) sizes →
    byte_count (rows_of_frames channel sizes) ≤ length sizes * most
frames_small most channel [] small = omega arith
frames_small most channel (size ∷ sizes) small =
    let rest = frames_small most (channel + 1) sizes (all_rest (λ (s : Geometry). 4 * s.width * s.height ≤ most) size sizes small) in
    let first = All-head (λ (s : Geometry). 4 * s.width * s.height ≤ most) size sizes small in
    let here = byte_count-rows channel size 0 size.height in
    let whole = byte_count-append (rows_from channel size 0 size.height) (rows_of_frames (channel + 1) sizes) in
    let product : suc (length sizes) * most ≡ most + length sizes * most = grind arith in
    omega (arith, rest, here, whole, first, product)
