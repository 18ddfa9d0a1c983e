-- The bands of channels, one more at a time.
use Rattle.std.proofs.Common.{◌≡◌, ℕ, zero, suc, ◌+◌, ◌-◌, ◌*◌, ◌^◌, ◌<◌, ◌≤◌, List, [], ◌∷◌, ◌++◌, Option, Some, length, map, take, get_or, slice_get, unwrap_or, refl, sym, ap, ◌∙◌, length-take-le, subst, arith}
use Rattle.std.specs.Prelude.{All, min}
use Rattle.std.proofs.Math.Seq.{take-suc}
use Rattle.std.proofs.lemmas.List.{length-map, map-append}
use Rattle.std.proofs.lemmas.List.Elements.{All-append, All-cons, All-map, All-take}
use Rattle.play_types.specs.Config.{ChannelView, IsChannel}
use Rattle.play_types.specs.declared.geometry.Geometry.{Geometry}
use Rattle.play_scene.specs.Frames.{FrameView, frame_at, no_frame, zero_frame}
use Rattle.play_scene.proofs.Rows.{picture_small}
use Rattle.band_render.specs.Plans.{pixel_count, row_count}
use Rattle.band_render.specs.Rendered.{sizes}
use Rattle.band_render.specs.Rows.{Row, byte_count, rows_from, rows_of_frames, size_of}
use Rattle.band_render.specs.inner.Numbers.{fewest_bands}
use Rattle.band_render.proofs.Rows.{frames_small, rows_of_frames-more}

-- what a list has at a place
unwrap_get : {X : Type 0} (xs : List X) (n : ℕ) (d : X) → unwrap_or (slice_get xs n) d ≡ get_or xs n d
unwrap_get [] n d = refl
unwrap_get (x ∷ xs) zero d = refl
unwrap_get (x ∷ xs) (suc n) d = unwrap_get xs n d

some_there : {X : Type 0} (xs : List X) (n : ℕ) (x : X) → slice_get xs n ≡ Some x → x ≡ get_or xs n x
some_there {X = X} xs n x is = ap (λ (o : Option X). unwrap_or o x) (sym is) ∙ unwrap_get xs n x

-- the sizes of one more channel
pub channel_sizes_more : (channels : List ChannelView) (at : ℕ) (channel : ChannelView) → at < length channels → slice_get channels at ≡ Some channel →
    map size_of (take (at + 1) channels) ≡ map size_of (take at channels) ++ size_of channel ∷ []
channel_sizes_more channels at channel lt there =
    let one : suc at ≡ at + 1 = omega arith in
    ap (λ (n : ℕ). map size_of (take n channels)) (sym one)
    ∙ ap (map size_of) (take-suc channels at channel lt ∙ ap (λ (c : ChannelView). take at channels ++ c ∷ []) (sym (some_there channels at channel there)))
    ∙ map-append size_of (take at channels) (channel ∷ [])

-- the bands of one more channel
pub channels_more : (channels : List ChannelView) (at : ℕ) (channel : ChannelView) (before now : List Row) → at < length channels →
    slice_get channels at ≡ Some channel → before ≡ rows_of_frames 1 (map size_of (take at channels)) →
    now ≡ before ++ rows_from (at + 1) (size_of channel) 0 channel.height → now ≡ rows_of_frames 1 (map size_of (take (at + 1) channels))
channels_more channels at channel before now lt there rows is =
    let first = map size_of (take at channels) in
    let long = length-map (take at channels) size_of ∙ length-take-le at channels (omega (arith, lt)) in
    is
    ∙ ap (λ (l : List Row). l ++ rows_from (at + 1) (size_of channel) 0 channel.height) rows
    ∙ sym (rows_of_frames-more 1 (at + 1) first (size_of channel) (omega (arith, long)))
    ∙ ap (rows_of_frames 1) (sym (channel_sizes_more channels at channel lt there))

-- the rows and the pixels of one more frame
row_count-more : (sizes : List Geometry) (size : Geometry) → row_count (sizes ++ size ∷ []) ≡ row_count sizes + size.height
row_count-more [] size = omega arith
row_count-more (other ∷ sizes) size = omega (arith, row_count-more sizes size)

pixel_count-more : (sizes : List Geometry) (size : Geometry) → pixel_count (sizes ++ size ∷ []) ≡ pixel_count sizes + size.height * size.width
pixel_count-more [] size = omega arith
pixel_count-more (other ∷ sizes) size = omega (arith, pixel_count-more sizes size)

pub rows_more : (channels : List ChannelView) (at : ℕ) (channel : ChannelView) → at < length channels → slice_get channels at ≡ Some channel →
    row_count (map size_of (take (at + 1) channels)) ≡ row_count (map size_of (take at channels)) + channel.height
rows_more channels at channel lt there =
    ap row_count (channel_sizes_more channels at channel lt there) ∙ row_count-more (map size_of (take at channels)) (size_of channel)

pub pixels_more : (channels : List ChannelView) (at : ℕ) (channel : ChannelView) → at < length channels → slice_get channels at ≡ Some channel →
    pixel_count (map size_of (take (at + 1) channels)) ≡ pixel_count (map size_of (take at channels)) + channel.height * channel.width
pixels_more channels at channel lt there =
    ap pixel_count (channel_sizes_more channels at channel lt there) ∙ pixel_count-more (map size_of (take at channels)) (size_of channel)

-- frames without rows have no pixels
pub no_rows : (sizes : List Geometry) → row_count sizes ≡ 0 → pixel_count sizes ≡ 0
no_rows [] is = refl
no_rows (size ∷ sizes) is =
    let here : size.height ≡ 0 = omega (arith, is) in
    let rest = no_rows sizes (omega (arith, is)) in
    let none : 0 * size.width ≡ 0 = omega arith in
    let product : size.height * size.width ≡ 0 = ap (λ (n : ℕ). n * size.width) here ∙ none in
    omega (arith, product, rest)

-- the sizes of one more frame
sizes_more : (frames : List FrameView) (at : ℕ) (size : Geometry) → at < length frames → size ≡ (frame_at (at + 1) frames).size →
    sizes (take (at + 1) frames) ≡ sizes (take at frames) ++ size ∷ []
sizes_more frames at size lt there =
    let one : suc at ≡ at + 1 = omega arith in
    let place : at + 1 - 1 ≡ at = omega arith in
    let first = sizes (take at frames) in
    let here : (get_or frames at no_frame).size ≡ size = ap (λ (n : ℕ). (get_or frames n no_frame).size) (sym place) ∙ sym there in
    ap (λ (n : ℕ). sizes (take n frames)) (sym one)
    ∙ ap sizes (take-suc frames at no_frame lt)
    ∙ map-append (λ (frame : FrameView). frame.size) (take at frames) (get_or frames at no_frame ∷ [])
    ∙ ap (λ (s : Geometry). first ++ s ∷ []) here

-- the bands of one more frame
pub frames_more : (frames : List FrameView) (at : ℕ) (size : Geometry) (before now : List Row) → at < length frames →
    size ≡ (frame_at (at + 1) frames).size → before ≡ rows_of_frames 1 (sizes (take at frames)) →
    now ≡ before ++ rows_from (at + 1) size 0 size.height → now ≡ rows_of_frames 1 (sizes (take (at + 1) frames))
frames_more frames at size before now lt there rows is =
    let first = sizes (take at frames) in
    let long = length-map (take at frames) (λ (frame : FrameView). frame.size) ∙ length-take-le at frames (omega (arith, lt)) in
    is
    ∙ ap (λ (l : List Row). l ++ rows_from (at + 1) size 0 size.height) rows
    ∙ sym (rows_of_frames-more 1 (at + 1) first size (omega (arith, long)))
    ∙ ap (rows_of_frames 1) (sym (sizes_more frames at size lt there))

-- the fewest bands of one more frame
fewest_bands-more : (workers : ℕ) (sizes : List Geometry) (size : Geometry) →
    fewest_bands workers (sizes ++ size ∷ []) ≡ fewest_bands workers sizes + min workers size.height
fewest_bands-more workers [] size = omega arith
fewest_bands-more workers (other ∷ sizes) size = omega (arith, fewest_bands-more workers sizes size)

pub enough_more : (workers : ℕ) (frames : List FrameView) (at : ℕ) (size : Geometry) (before now : ℕ) → at < length frames →
    size ≡ (frame_at (at + 1) frames).size → fewest_bands workers (sizes (take at frames)) ≤ before → before + min workers size.height ≤ now →
    fewest_bands workers (sizes (take (at + 1) frames)) ≤ now
enough_more workers frames at size before now lt there enough more =
    let sum = ap (fewest_bands workers) (sizes_more frames at size lt there) ∙ fewest_bands-more workers (sizes (take at frames)) size in
    omega (arith, sum, enough, more)

-- the pictures of the first channels are less than 2 to the 64th bytes
pub plan_small : (channels : List ChannelView) (at : ℕ) (rows : List Row) → All IsChannel channels → length channels ≤ 16 → at ≤ length channels →
    rows ≡ rows_of_frames 1 (map size_of (take at channels)) → byte_count rows < 2 ^ 64
plan_small channels at rows each few le is =
    let first = take at channels in
    let all : All (λ (s : Geometry). 4 * s.width * s.height ≤ 67108864) (map size_of first) =
    All-map (λ (s : Geometry). 4 * s.width * s.height ≤ 67108864) size_of first
    (λ k d lt. picture_small (size_of (get_or first k d)) (All-take IsChannel at channels each k d lt).size) in
    let most = frames_small 67108864 1 (map size_of first) all in
    let long = length-map first size_of ∙ length-take-le at channels le in
    let same = ap byte_count is in
    omega (arith, most, long, same, few, le)

-- the sizes of new frames are those of the channels
pub sizes_of_new : (channels : List ChannelView) → sizes (map zero_frame channels) ≡ map size_of channels
sizes_of_new [] = refl
sizes_of_new (channel ∷ channels) = ap (λ (l : List Geometry). size_of channel ∷ l) (sizes_of_new channels)

-- no channel of the first ones is wider than this, and one more
pub widest_more : (channels : List ChannelView) (at : ℕ) (channel : ChannelView) (before now : ℕ) → at < length channels →
    slice_get channels at ≡ Some channel → before ≤ now → channel.width ≤ now →
    All (λ c. c.width ≤ before) (take at channels) → All (λ c. c.width ≤ now) (take (at + 1) channels)
widest_more channels at channel before now lt there more wide all =
    let one : at + 1 ≡ suc at = omega arith in
    let here : get_or channels at channel ≡ channel = sym (some_there channels at channel there) in
    let last : All (λ (c : ChannelView). c.width ≤ now) (get_or channels at channel ∷ []) =
    All-cons (λ (c : ChannelView). c.width ≤ now) (get_or channels at channel) [] (subst (λ (c : ChannelView). c.width ≤ now) (sym here) wide)
    (λ k d small. absurd (omega (arith, small))) in
    subst (All (λ (c : ChannelView). c.width ≤ now)) (sym (ap (λ (n : ℕ). take n channels) one ∙ take-suc channels at channel lt))
    (All-append (λ (c : ChannelView). c.width ≤ now) (take at channels) (get_or channels at channel ∷ [])
    (λ k d small. let old = all k d small in omega (arith, old, more)) last)

-- rooms for rows of channels are for rows of their frames
pub rooms_of_sizes : (channels : List ChannelView) (rooms : List ℕ) (sizes : List Geometry) → sizes ≡ map size_of channels →
    All (λ room. All (λ channel. channel.width ≤ room) channels) rooms → All (λ room. All (λ size. size.width ≤ room) sizes) rooms
rooms_of_sizes channels rooms sizes is wide = λ k d lt.
    subst (All (λ (s : Geometry). s.width ≤ get_or rooms k d)) (sym is)
    (All-map (λ (s : Geometry). s.width ≤ get_or rooms k d) size_of channels (λ n c small. wide k d lt n c small))
