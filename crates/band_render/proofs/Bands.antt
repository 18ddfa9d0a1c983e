-- Bands and their rows.
use Rattle.std.proofs.Common.{◌≡◌, ℕ, zero, suc, ◌+◌, ◌*◌, ◌<◌, ◌≤◌, List, [], ◌∷◌, ◌++◌, length, take, drop, get_or, flat_map, sym, ap, ◌∙◌, append-nil, take-append-drop, subst, arith}
use Rattle.std.specs.Prelude.{All}
use Rattle.std.proofs.lemmas.Grind.{flat_map-append}
use Rattle.std.proofs.lemmas.List.Elements.{All-cons, All-head}
use Rattle.std.proofs.Math.Nat.{mul-le-mul_left}
use Rattle.std.proofs.Math.Seq.{take-suc}
use Rattle.play_types.specs.Scene.{IsConfigured}
use Rattle.play_types.specs.declared.geometry.Geometry.{Geometry}
use Rattle.band_render.specs.declared.band.Band.{Band}
use Rattle.band_render.specs.Rows.{AreOfChannels, Row, byte_count, rows_from, rows_of, rows_of_bands, rows_of_frames}
use Rattle.band_render.specs.inner.Rooms.{AreWide}
use Rattle.band_render.proofs.Rows.{all_parts, byte_count-append, channels_of_rows, widths_of_rows}

-- one more piece of a list's elements
pub flat_map-take : {X Y : Type 0} (f : X → List Y) (xs : List X) (at : ℕ) (x : X) → at < length xs → x ≡ get_or xs at x →
    flat_map f (take (at + 1) xs) ≡ flat_map f (take at xs) ++ f x
flat_map-take {Y = Y} f xs at x lt is =
    let one : at + 1 ≡ suc at = omega arith in
    ap (λ (n : ℕ). flat_map f (take n xs)) one
    ∙ ap (flat_map f) (take-suc xs at x lt)
    ∙ flat_map-append f (take at xs) (get_or xs at x ∷ [])
    ∙ ap (λ (ys : List Y). flat_map f (take at xs) ++ ys) (append-nil (f (get_or xs at x)) ∙ ap f (sym is))

-- the rows of the first bands have no more bytes than all
pub rows_taken : {X : Type 0} (f : X → List Row) (xs : List X) (n : ℕ) → byte_count (flat_map f (take n xs)) ≤ byte_count (flat_map f xs)
rows_taken f xs n =
    let whole : byte_count (flat_map f xs) ≡ byte_count (flat_map f (take n xs)) + byte_count (flat_map f (drop n xs)) =
    ap (λ l. byte_count (flat_map f l)) (sym (take-append-drop n xs))
    ∙ ap byte_count (flat_map-append f (take n xs) (drop n xs))
    ∙ byte_count-append (flat_map f (take n xs)) (flat_map f (drop n xs)) in
    omega (arith, whole)

-- a band has a row of its channel and of its size
row_of_band : (P : ℕ → Geometry → Type 0) (channel : ℕ) (size : Geometry) (first rows : ℕ) → 0 < rows →
    All (λ row. P row.channel row.size) (rows_from channel size first rows) → P channel size
row_of_band P channel size first zero some all = absurd (omega (arith, some))
row_of_band P channel size first (suc rows) some all =
    All-head (λ (row : Row). P row.channel row.size) (record { channel = channel; size = size; y = first }) (rows_from channel size (first + 1) rows) all

-- what holds of the channel and the size of each row holds of each band
each_band : (P : ℕ → Geometry → Type 0) (bands : List Band) → All (λ row. P row.channel row.size) (rows_of_bands bands) →
    All (λ band. P band.channel band.size) bands
each_band P [] all = λ k d lt. absurd (omega (arith, lt))
each_band P (band ∷ bands) all =
    let parts = all_parts (λ (row : Row). P row.channel row.size) (rows_of band) (rows_of_bands bands) all in
    All-cons (λ (b : Band). P b.channel b.size) band bands
    (row_of_band P band.channel band.size band.first band.rows band.some parts.0)
    (each_band P bands parts.1)

-- bands that have the rows of frames are of their channels
pub bands_of_channels : (channels : ℕ) (sizes : List Geometry) (bands : List Band) → rows_of_bands bands ≡ rows_of_frames 1 sizes →
    length sizes ≡ channels → AreOfChannels channels bands
bands_of_channels channels sizes bands rows many =
    each_band (λ c s. IsConfigured channels c) bands
    (subst (All (λ (row : Row). IsConfigured channels row.channel)) (sym rows)
    (channels_of_rows channels 1 sizes (omega arith) (omega (arith, many))))

-- and no wider than these
bands_within : (most : ℕ) (sizes : List Geometry) (bands : List Band) → rows_of_bands bands ≡ rows_of_frames 1 sizes →
    All (λ size. size.width ≤ most) sizes → All (λ band. band.size.width ≤ most) bands
bands_within most sizes bands rows wide =
    each_band (λ c s. s.width ≤ most) bands
    (subst (All (λ (row : Row). row.size.width ≤ most)) (sym rows) (widths_of_rows most 1 sizes wide))

pub bands_in_rooms : (sizes : List Geometry) (bands : List Band) (rooms : List ℕ) → rows_of_bands bands ≡ rows_of_frames 1 sizes →
    All (λ room. All (λ size. size.width ≤ room) sizes) rooms → AreWide bands rooms
bands_in_rooms sizes bands rooms rows wide = λ k d lt. bands_within (get_or rooms k d) sizes bands rows (wide k d lt)

-- the bytes of bands in two parts
pub bytes_of_parts : (bands first last : List Band) → first ++ last ≡ bands →
    byte_count (rows_of_bands bands) ≡ byte_count (rows_of_bands first) + byte_count (rows_of_bands last)
bytes_of_parts bands first last is =
    ap (λ (l : List Band). byte_count (rows_of_bands l)) (sym is)
    ∙ ap byte_count (flat_map-append rows_of first last)
    ∙ byte_count-append (rows_of_bands first) (rows_of_bands last)

-- the bytes of the pieces of one element more
pub bytes_taken : {X : Type 0} (f : X → List Row) (xs : List X) (at : ℕ) (x : X) → at < length xs → x ≡ get_or xs at x →
    byte_count (flat_map f (take (at + 1) xs)) ≡ byte_count (flat_map f (take at xs)) + byte_count (f x)
bytes_taken f xs at x lt is = ap byte_count (flat_map-take f xs at x lt is) ∙ byte_count-append (flat_map f (take at xs)) (f x)

-- one more row of a width lies within those that there are
pub row_within : (width rows at : ℕ) → at < rows → 4 * width * at + 4 * width ≤ 4 * width * rows
row_within width rows at lt =
    let product : 4 * width * (at + 1) ≡ 4 * width * at + 4 * width = grind arith in
    let less : 4 * width * (at + 1) ≤ 4 * width * rows = mul-le-mul_left (4 * width) (omega (arith, lt)) in
    omega (arith, product, less)
