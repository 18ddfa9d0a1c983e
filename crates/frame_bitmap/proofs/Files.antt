-- The parts of a BMP file, found at their places.
use Rattle.std.proofs.Common.{◌≡◌, ℕ, suc, ◌+◌, ◌-◌, ◌*◌, ◌/◌, ◌^◌, ◌<◌, ◌≤◌, List, [], ◌∷◌, ◌++◌, length, take, drop, slice_index, codes, refl, sym, ap, ◌∙◌, arith, length-append, length-drop}
use Rattle.std.specs.Int.{w16, w32, to_le_bytes, from_le_bytes}
use Rattle.std.proofs.lemmas.List.{take-append-le, drop-append-le, drop_at, take-take, drop-drop, drop-take, length-take-le}
use Rattle.std.proofs.lemmas.Nat.{from_le_bytes-to_le_bytes_4, mul-le}
use Rattle.frame_bitmap.specs.declared.dimensions.Size.{Size}
use Rattle.frame_bitmap.specs.Bitmap.{IsBitmap, pixel_at, shown_pixel}
use Rattle.frame_bitmap.specs.inner.Parts.{pieces, number_at, header_numbers, header_of, column_of, row_of, shown_row}
use Rattle.frame_bitmap.proofs.Pieces.{pieces_length, pieces_pick, window}
use Rattle.frame_bitmap.proofs.Sizes.{column_inside}

-- a number has four bytes
number_length : (n : ℕ) → length (to_le_bytes w32 n) ≡ 4
number_length n = refl

-- what is read after the signature is read in the rest of the header
read_at : (file head body : List ℕ) (at : ℕ) → file ≡ (codes "BM" ++ head) ++ body → at + 4 ≤ length head → take 4 (drop (2 + at) file) ≡ take 4 (drop at head)
read_at file head body at parts inside =
    let begun : drop 2 file ≡ head ++ body = ap (drop 2) parts in
    let here : at ≤ length head = omega (arith, inside) in
    let rest : 4 ≤ length (drop at head) = omega (arith, length-drop at head, inside) in
    sym (ap (take 4) (drop-drop at 2 file)) ∙ ap (λ (xs : List ℕ). take 4 (drop at xs)) begun
    ∙ ap (take 4) (drop-append-le at head body here) ∙ take-append-le 4 (drop at head) body rest

numbers_length : (numbers : List ℕ) → length (pieces (number_at numbers) 13) ≡ 52
numbers_length numbers = pieces_length (number_at numbers) 4 13 (λ k below. number_length (slice_index numbers k))

-- the bytes of a number of the header
number_read : (file body numbers : List ℕ) → file ≡ (codes "BM" ++ pieces (number_at numbers) 13) ++ body → (k : ℕ) → k < 13
    → take 4 (drop (2 + 4 * k) file) ≡ number_at numbers k
number_read file body numbers parts k below =
    read_at file (pieces (number_at numbers) 13) body (4 * k) parts (omega (arith, numbers_length numbers, below))
    ∙ pieces_pick (number_at numbers) 4 13 k (λ j less. number_length (slice_index numbers j)) below

-- a number of the header
four_read : (file body numbers : List ℕ) → file ≡ (codes "BM" ++ pieces (number_at numbers) 13) ++ body → (k : ℕ) → k < 13
    → slice_index numbers k < 2 ^ 32 → from_le_bytes w32 (take 4 (drop (2 + 4 * k) file)) ≡ slice_index numbers k
four_read file body numbers parts k below small =
    ap (from_le_bytes w32) (number_read file body numbers parts k below) ∙ from_le_bytes-to_le_bytes_4 (slice_index numbers k) small

-- the two halves of four bytes
first_half : (file : List ℕ) (at a b c d : ℕ) → take 4 (drop at file) ≡ a ∷ b ∷ c ∷ d ∷ [] → take 2 (drop at file) ≡ a ∷ b ∷ []
first_half file at a b c d four = sym (take-take 2 4 (drop at file) (omega arith)) ∙ ap (take 2) four

second_half : (file : List ℕ) (at a b c d : ℕ) → take 4 (drop at file) ≡ a ∷ b ∷ c ∷ d ∷ [] → take 2 (drop (at + 2) file) ≡ c ∷ d ∷ []
second_half file at a b c d four =
    sym (ap (take 2) (drop-drop 2 at file)) ∙ sym (drop-take 2 2 (drop at file)) ∙ ap (drop 2) four

-- what is known of a file that was written
pub record IsWritten (file frame : List ℕ) (size shown : Size) : Type 0 where
  pub parts : file ≡ (codes "BM" ++ header_of shown.width shown.height) ++ pieces (shown_row size.width shown.width frame) shown.height
  pub some_columns : 1 ≤ shown.width
  pub down : shown.width ≤ size.width
  pub some_rows : 1 ≤ shown.height
  pub bytes : length frame ≡ 4 * (size.width * size.height)
  pub inside : (y : ℕ) → y < shown.height → y * size.width / shown.width < size.height
  pub fits : 54 + 4 * (shown.width * shown.height) < 2 ^ 32

-- the bytes after the header
body_read : (file frame : List ℕ) (size shown : Size) → IsWritten file frame size shown
    → drop 54 file ≡ pieces (shown_row size.width shown.width frame) shown.height
body_read file frame size shown h =
    let head = header_of shown.width shown.height in
    let body = pieces (shown_row size.width shown.width frame) shown.height in
    let long : length (codes "BM" ++ head) ≡ 54 = ap (λ (n : ℕ). suc (suc n)) (numbers_length (header_numbers shown.width shown.height)) in
    ap (drop 54) h.parts ∙ drop_at (codes "BM" ++ head) body 54 long

-- a row of the frame has as many bytes as its pixels
row_length : (frame : List ℕ) (size shown : Size) (y : ℕ) → length frame ≡ 4 * (size.width * size.height)
    → y * size.width / shown.width < size.height → length (row_of size.width shown.width frame y) ≡ 4 * size.width
row_length frame size shown y bytes inside =
    let row = y * size.width / shown.width in
    let product : (row + 1) * size.width ≤ size.height * size.width = mul-le (row + 1) size.width size.height size.width (omega (arith, inside)) (omega arith) in
    let enough : 4 * size.width ≤ length (drop (4 * size.width * row) frame) = omega (arith, length-drop (4 * size.width * row) frame, bytes, product) in
    length-take-le (4 * size.width) (drop (4 * size.width * row) frame) enough

-- a pixel of a row has four bytes
column_length : (row : List ℕ) (width columns x : ℕ) → length row ≡ 4 * width → 1 ≤ columns → columns ≤ width → x < columns
    → length (column_of width columns row x) ≡ 4
column_length row width columns x bytes some down below =
    let column = x * width / columns in
    let inside : column < width = column_inside width columns x some down below in
    let enough : 4 ≤ length (drop (4 * column) row) = omega (arith, length-drop (4 * column) row, bytes, inside) in
    length-take-le 4 (drop (4 * column) row) enough

-- a row of the picture has four bytes a pixel
shown_length : (file frame : List ℕ) (size shown : Size) → IsWritten file frame size shown → (y : ℕ) → y < shown.height
    → length (shown_row size.width shown.width frame y) ≡ 4 * shown.width
shown_length file frame size shown h y below =
    let row = row_of size.width shown.width frame y in
    let bytes : length row ≡ 4 * size.width = row_length frame size shown y h.bytes (h.inside y below) in
    pieces_length (column_of size.width shown.width row) 4 shown.width
    (λ x less. column_length row size.width shown.width x bytes h.some_columns h.down less)

-- each pixel of the picture is the nearest one of the frame
pixel_read : (file frame : List ℕ) (size shown : Size) → IsWritten file frame size shown → (x y : ℕ) → x < shown.width → y < shown.height
    → pixel_at shown.width (drop 54 file) x y ≡ shown_pixel size.width frame shown.width x y
pixel_read file frame size shown h x y x_below y_below =
    let width = size.width in
    let columns = shown.width in
    let column = x * width / columns in
    let row = y * width / columns in
    let body = pieces (shown_row width columns frame) shown.height in
    let bytes : length (row_of width columns frame y) ≡ 4 * width = row_length frame size shown y h.bytes (h.inside y y_below) in
    let place : 4 * (y * columns + x) ≡ 4 * columns * y + 4 * x = omega arith in
    let in_row : 4 * x + 4 ≤ 4 * columns = omega (arith, x_below) in
    let in_frame : 4 * column + 4 ≤ 4 * width = omega (arith, column_inside width columns x h.some_columns h.down x_below) in
    let its_row : take (4 * columns) (drop (4 * columns * y) body) ≡ shown_row width columns frame y =
    pieces_pick (shown_row width columns frame) (4 * columns) shown.height y (shown_length file frame size shown h) y_below in
    let its_column : take 4 (drop (4 * x) (shown_row width columns frame y)) ≡ column_of width columns (row_of width columns frame y) x =
    pieces_pick (column_of width columns (row_of width columns frame y)) 4 columns x
    (λ k less. column_length (row_of width columns frame y) width columns k bytes h.some_columns h.down less) x_below in
    let source : 4 * width * row + 4 * column ≡ 4 * (row * width + column) = omega arith in
    ap (λ (xs : List ℕ). take 4 (drop (4 * (y * columns + x)) xs)) (body_read file frame size shown h)
    ∙ ap (λ (k : ℕ). take 4 (drop k body)) place
    ∙ sym (window body (4 * x) (4 * columns * y) (4 * columns) in_row)
    ∙ ap (λ (xs : List ℕ). take 4 (drop (4 * x) xs)) its_row
    ∙ its_column
    ∙ window frame (4 * column) (4 * width * row) (4 * width) in_frame
    ∙ ap (λ (k : ℕ). take 4 (drop k frame)) source

-- the length of the file
file_length : (file frame : List ℕ) (size shown : Size) → IsWritten file frame size shown
    → length file ≡ 54 + 4 * (shown.width * shown.height)
file_length file frame size shown h =
    let head = header_of shown.width shown.height in
    let body = pieces (shown_row size.width shown.width frame) shown.height in
    let long : length (codes "BM" ++ head) ≡ 54 = ap (λ (n : ℕ). suc (suc n)) (numbers_length (header_numbers shown.width shown.height)) in
    let rows : length body ≡ 4 * shown.width * shown.height =
    pieces_length (shown_row size.width shown.width frame) (4 * shown.width) shown.height (shown_length file frame size shown h) in
    ap length h.parts ∙ length-append (codes "BM" ++ head) body ∙ omega (arith, long, rows)

-- what was written is the file of the picture
pub written_bitmap : (file frame : List ℕ) (size shown : Size) → IsWritten file frame size shown
    → IsBitmap file shown (shown_pixel size.width frame shown.width)
written_bitmap file frame size shown h =
    let body = pieces (shown_row size.width shown.width frame) shown.height in
    let numbers = header_numbers shown.width shown.height in
    let long = file_length file frame size shown h in
    let product : shown.width * 1 ≤ shown.width * shown.height = mul-le shown.width 1 shown.width shown.height (omega arith) h.some_rows in
    let narrow : shown.width < 2 ^ 32 = omega (arith, product, h.fits) in
    let area : 4 * (shown.width * shown.height) < 2 ^ 32 = omega (arith, h.fits) in
    let minus : 2 ^ 32 - shown.height < 2 ^ 32 = omega (arith, h.some_rows) in
    let planes = number_read file body numbers h.parts 6 (omega arith) in
    record {
      bytes = long;
      file_header = record {
        signature = ap (take 2) h.parts;
        file_bytes = four_read file body numbers h.parts 0 (omega arith) h.fits ∙ sym long;
        reserved = four_read file body numbers h.parts 1 (omega arith) (omega arith);
        pixels_begin = four_read file body numbers h.parts 2 (omega arith) (omega arith);
      };
      info_header = record {
        info_bytes = four_read file body numbers h.parts 3 (omega arith) (omega arith);
        width = four_read file body numbers h.parts 4 (omega arith) narrow;
        height = four_read file body numbers h.parts 5 (omega arith) minus;
        planes = ap (from_le_bytes w16) (first_half file 26 1 0 32 0 planes);
        bits = ap (from_le_bytes w16) (second_half file 26 1 0 32 0 planes);
        compression = four_read file body numbers h.parts 7 (omega arith) (omega arith);
        pixel_bytes = four_read file body numbers h.parts 8 (omega arith) area;
        across = four_read file body numbers h.parts 9 (omega arith) (omega arith);
        down = four_read file body numbers h.parts 10 (omega arith) (omega arith);
        colours = four_read file body numbers h.parts 11 (omega arith) (omega arith);
        important_colours = four_read file body numbers h.parts 12 (omega arith) (omega arith);
      };
      pixels = pixel_read file frame size shown h;
    }
