-- The parts of frames, and the pixels that each has of those of all.
use Rattle.std.proofs.Common.{◌≡◌, ℕ, zero, suc, ◌+◌, ◌-◌, ◌*◌, ◌%◌, ◌<◌, ◌≤◌, List, [], ◌∷◌, ◌++◌, length, map, take, drop, set, get_or, slice_index, replicate, refl, sym, subst, ap, ap₂, ◌∙◌, append_assoc, length-drop, length-take-le, take-append-drop, take_at, drop_at, drop-drop, ⊎_elim, arith}
use Rattle.std.proofs.lemmas.Bool.{cases_lt}
use Rattle.std.proofs.lemmas.List.{nil_from_length, drop-append-le, drop-replicate, get_or-replicate, get_or_past, length-replicate, length_push, map_more, take-append-le, take-replicate}
use Rattle.std.proofs.Math.Seq.{drop-append-add, take-append-add}
use Rattle.play_types.specs.Config.{ChannelView}
use Rattle.play_scene.specs.Frames.{ArePixels, FrameView, IsFrame, no_frame, picture_length, pictures_length, pixels_of, with_piece, with_pixels, zero_frame}
use Rattle.play_scene.specs.Parts.{ArePartsOf, BeginAt, frame_of, frames_of, parts_length, transparent}
use Rattle.play_scene.specs.declared.part.Part.{Part}
use Rattle.play_types.specs.declared.geometry.Geometry.{Geometry}
use Rattle.play_scene.proofs.Pieces.{AreLowered-with_piece, length-with_piece}
use Rattle.play_scene.proofs.Pixels.{ArePixels-drop, ArePixels-take}

-- pictures are whole pixels
pub picture_whole : (size : Geometry) → picture_length size % 4 ≡ 0
picture_whole size =
    let order : 4 * size.width * size.height ≡ 4 * (size.width * size.height) = grind arith in
    omega (arith, order)

pub parts_whole : (parts : List Part) → parts_length parts % 4 ≡ 0
parts_whole [] = refl
parts_whole (part ∷ parts) = omega (arith, picture_whole part.size, parts_whole parts)

-- there are as many frames as parts
pub length-frames_of : (parts : List Part) (pixels : List ℕ) → length (frames_of parts pixels) ≡ length parts
length-frames_of [] pixels = refl
length-frames_of (part ∷ parts) pixels = ap suc (length-frames_of parts (drop (picture_length part.size) pixels))

-- the pixels of a part lie within those of all
pub part_within : (at : ℕ) (parts : List Part) (k : ℕ) (d : Part) → BeginAt at parts → k < length parts →
    (at ≤ (get_or parts k d).start) × ((get_or parts k d).start + picture_length (get_or parts k d).size ≤ at + parts_length parts)
part_within at [] k d from lt = absurd (omega (arith, lt))
part_within at (part ∷ parts) zero d from lt = (omega (arith, from.0), omega (arith, from.0))
part_within at (part ∷ parts) (suc k) d from lt =
    let rest = part_within (at + picture_length part.size) parts k d from.1 (omega (arith, lt)) in
    (omega (arith, rest.0), omega (arith, rest.1))

-- they begin at a pixel
pub part_aligned : (at : ℕ) (parts : List Part) (k : ℕ) (d : Part) → at % 4 ≡ 0 → BeginAt at parts → k < length parts → (get_or parts k d).start % 4 ≡ 0
part_aligned at [] k d whole from lt = absurd (omega (arith, lt))
part_aligned at (part ∷ parts) zero d whole from lt = omega (arith, from.0, whole)
part_aligned at (part ∷ parts) (suc k) d whole from lt =
    part_aligned (at + picture_length part.size) parts k d (omega (arith, whole, picture_whole part.size)) from.1 (omega (arith, lt))

-- the frame of a part
pub frame_there : (at : ℕ) (parts : List Part) (pixels : List ℕ) (k : ℕ) (d : Part) → BeginAt at parts → k < length parts →
    get_or (frames_of parts pixels) k no_frame
    ≡ frame_of (get_or parts k d) (drop ((get_or parts k d).start - at) pixels)
frame_there at [] pixels k d from lt = absurd (omega (arith, lt))
frame_there at (part ∷ parts) pixels zero d from lt =
    let none : 0 ≡ part.start - at = omega (arith, from.0) in
    ap (λ (m : ℕ). frame_of part (drop m pixels)) none
frame_there at (part ∷ parts) pixels (suc k) d from lt =
    let n = picture_length part.size in
    let small : k < length parts = omega (arith, lt) in
    let there = get_or parts k d in
    let within = part_within (at + n) parts k d from.1 small in
    let same : n + (there.start - (at + n)) ≡ there.start - at = omega (arith, within.0) in
    frame_there (at + n) parts (drop n pixels) k d from.1 small
    ∙ ap (frame_of there)
    (drop-drop (there.start - (at + n)) n pixels ∙ ap (λ (m : ℕ). drop m pixels) same)

-- it is a frame
pub part_is_frame : (parts : List Part) (pixels : List ℕ) (k : ℕ) (d : Part) → ArePartsOf pixels parts → k < length parts →
    IsFrame (get_or (frames_of parts pixels) k no_frame)
part_is_frame parts pixels k d are lt =
    let part = get_or parts k d in
    let n = picture_length part.size in
    let within = part_within 0 parts k d are.starts lt in
    let counted = are.counted in
    let place : part.start - 0 ≡ part.start = omega arith in
    let left = length-drop part.start pixels in
    let room : n ≤ length (drop part.start pixels) = omega (arith, left, within.1, counted) in
    let rest = ArePixels-drop part.start pixels (part_aligned 0 parts k d refl are.starts lt) (omega (arith, within.1, counted)) are.pixels in
    subst IsFrame
    (sym (frame_there 0 parts pixels k d are.starts lt
    ∙ ap (λ (m : ℕ). frame_of part (drop m pixels)) place))
    (record {
      size = part.sized;
      bytes = length-take-le n (drop part.start pixels) room;
      sound = part.whole;
      lowered = (ArePixels-take n (drop part.start pixels) (picture_whole part.size) room rest).lowered;
    })

-- a piece within the first of two lists of bytes, and one within the second
with_piece-front : (at : ℕ) (piece front back : List ℕ) → at + length piece ≤ length front →
    with_piece at piece (front ++ back) ≡ with_piece at piece front ++ back
with_piece-front at piece front back fits =
    ap₂ (λ (xs ys : List ℕ). xs ++ (piece ++ ys)) (take-append-le at front back (omega (arith, fits)))
    (drop-append-le (at + length piece) front back fits)
    ∙ ap (λ (xs : List ℕ). take at front ++ xs) (sym (append_assoc piece (drop (at + length piece) front) back))
    ∙ sym (append_assoc (take at front) (piece ++ drop (at + length piece) front) back)

with_piece-back : (n at : ℕ) (piece front back : List ℕ) → length front ≡ n → with_piece (n + at) piece (front ++ back) ≡ front ++ with_piece at piece back
with_piece-back n at piece front back long =
    let start : n + at ≡ length front + at = omega (arith, long) in
    let end : n + at + length piece ≡ length front + (at + length piece) = omega (arith, long) in
    ap₂ (λ (xs ys : List ℕ). xs ++ (piece ++ ys))
    (ap (λ (m : ℕ). take m (front ++ back)) start ∙ take-append-add front back at)
    (ap (λ (m : ℕ). drop m (front ++ back)) end ∙ drop-append-add front back (at + length piece))
    ∙ append_assoc front (take at back) (piece ++ drop (at + length piece) back)

-- a piece that is put into the pixels of a part is put into its frame alone
pub frames_put : (at : ℕ) (parts : List Part) (pixels : List ℕ) (k place : ℕ) (piece : List ℕ) (d : Part) → BeginAt at parts → k < length parts →
    length pixels ≡ parts_length parts → place + length piece ≤ picture_length (get_or parts k d).size →
    frames_of parts (with_piece ((get_or parts k d).start - at + place) piece pixels)
    ≡ set (frames_of parts pixels) k
    (record (get_or (frames_of parts pixels) k no_frame) { bytes = with_piece place piece (get_or (frames_of parts pixels) k no_frame).bytes })
frames_put at [] pixels k place piece d from lt counted fits = absurd (omega (arith, lt))
frames_put at (part ∷ parts) pixels zero place piece d from lt counted fits =
    let n = picture_length part.size in
    let front = take n pixels in
    let back = drop n pixels in
    let long : length front ≡ n = length-take-le n pixels (omega (arith, counted)) in
    let start : part.start - at + place ≡ place = omega (arith, from.0) in
    let room : place + length piece ≤ length front = omega (arith, fits, long) in
    let whole : with_piece (part.start - at + place) piece pixels ≡ with_piece place piece front ++ back =
    ap₂ (λ (m : ℕ) (xs : List ℕ). with_piece m piece xs) start (sym (take-append-drop n pixels)) ∙ with_piece-front place piece front back room in
    let same : length (with_piece place piece front) ≡ n = length-with_piece place piece front room ∙ long in
    ap₂ (λ (xs ys : List ℕ). record { size = part.size; bytes = xs; sound = part.sound.items } ∷ frames_of parts ys)
    (ap (take n) whole ∙ take_at (with_piece place piece front) back n same)
    (ap (drop n) whole ∙ drop_at (with_piece place piece front) back n same)
frames_put at (part ∷ parts) pixels (suc k) place piece d from lt counted fits =
    let n = picture_length part.size in
    let front = take n pixels in
    let back = drop n pixels in
    let small : k < length parts = omega (arith, lt) in
    let there = get_or parts k d in
    let within = part_within (at + n) parts k d from.1 small in
    let long : length front ≡ n = length-take-le n pixels (omega (arith, counted)) in
    let rest : length back ≡ parts_length parts = omega (arith, length-drop n pixels, counted) in
    let moved = there.start - (at + n) + place in
    let start : there.start - at + place ≡ n + moved = omega (arith, within.0) in
    let whole : with_piece (there.start - at + place) piece pixels ≡ front ++ with_piece moved piece back =
    ap₂ (λ (m : ℕ) (xs : List ℕ). with_piece m piece xs) start (sym (take-append-drop n pixels)) ∙ with_piece-back n moved piece front back long in
    ap₂ (λ (xs ys : List ℕ). record { size = part.size; bytes = xs; sound = part.sound.items } ∷ frames_of parts ys)
    (ap (take n) whole ∙ take_at front (with_piece moved piece back) n long)
    (ap (drop n) whole ∙ drop_at front (with_piece moved piece back) n long)
    ∙ ap (λ (frames : List FrameView). frame_of part pixels ∷ frames)
    (frames_put (at + n) parts back k place piece d from.1 small rest fits)

pub parts_put : (parts : List Part) (pixels : List ℕ) (at : ℕ) (piece : List ℕ) → at % 4 ≡ 0 → at + length piece ≤ length pixels → ArePixels piece →
    ArePartsOf pixels parts → ArePartsOf (with_piece at piece pixels) parts
parts_put parts pixels at piece place fits lowered are =
    let long = length-with_piece at piece pixels fits in
    record {
      starts = are.starts;
      counted = long ∙ are.counted;
      pixels = record {
        whole = ap (λ (k : ℕ). k % 4) long ∙ are.pixels.whole;
        lowered = AreLowered-with_piece at piece pixels place fits lowered are.pixels.lowered;
      };
    }

-- a part that is replaced by one of its size and place
pub frames_set : (parts : List Part) (pixels : List ℕ) (k : ℕ) (part d : Part) → k < length parts → part.size ≡ (get_or parts k d).size →
    frames_of (set parts k part) pixels
    ≡ set (frames_of parts pixels) k (record (get_or (frames_of parts pixels) k no_frame) { sound = part.sound.items })
frames_set [] pixels k part d lt size = absurd (omega (arith, lt))
frames_set (old ∷ parts) pixels zero part d lt size =
    ap (λ (s : Geometry). record { size = s; bytes = take (picture_length s) pixels; sound = part.sound.items } ∷ frames_of parts (drop (picture_length s) pixels)) size
frames_set (old ∷ parts) pixels (suc k) part d lt size =
    ap (λ (frames : List FrameView). frame_of old pixels ∷ frames)
    (frames_set parts (drop (picture_length old.size) pixels) k part d (omega (arith, lt)) size)

begin_set : (at : ℕ) (parts : List Part) (k : ℕ) (part d : Part) → k < length parts → part.size ≡ (get_or parts k d).size →
    part.start ≡ (get_or parts k d).start → BeginAt at parts → BeginAt at (set parts k part)
begin_set at [] k part d lt size start from = absurd (omega (arith, lt))
begin_set at (old ∷ parts) zero part d lt size start from =
    (start ∙ from.0, subst (λ (s : Geometry). BeginAt (at + picture_length s) parts) (sym size) from.1)
begin_set at (old ∷ parts) (suc k) part d lt size start from =
    (from.0, begin_set (at + picture_length old.size) parts k part d (omega (arith, lt)) size start from.1)

parts_length-set : (parts : List Part) (k : ℕ) (part d : Part) → k < length parts → part.size ≡ (get_or parts k d).size →
    parts_length (set parts k part) ≡ parts_length parts
parts_length-set [] k part d lt size = absurd (omega (arith, lt))
parts_length-set (old ∷ parts) zero part d lt size = ap (λ (s : Geometry). picture_length s + parts_length parts) size
parts_length-set (old ∷ parts) (suc k) part d lt size =
    ap (λ (n : ℕ). picture_length old.size + n) (parts_length-set parts k part d (omega (arith, lt)) size)

pub parts_set : (parts : List Part) (pixels : List ℕ) (k : ℕ) (part d : Part) → k < length parts → part.size ≡ (get_or parts k d).size →
    part.start ≡ (get_or parts k d).start → ArePartsOf pixels parts → ArePartsOf pixels (set parts k part)
parts_set parts pixels k part d lt size start are = record {
  starts = begin_set 0 parts k part d lt size start are.starts;
  counted = are.counted ∙ sym (parts_length-set parts k part d lt size);
  pixels = are.pixels;
}

-- parts with other pixels
pub frames_exchanged : (parts : List Part) (old now : List ℕ) → frames_of parts now ≡ with_pixels now (frames_of parts old)
frames_exchanged [] old now = refl
frames_exchanged (part ∷ parts) old now =
    let n = picture_length part.size in
    ap (λ (frames : List FrameView). frame_of part now ∷ frames)
    (frames_exchanged parts (drop n old) (drop n now))

pub pixels_there : (parts : List Part) (pixels : List ℕ) → length pixels ≡ parts_length parts → pixels_of (frames_of parts pixels) ≡ pixels
pixels_there [] pixels counted = sym (nil_from_length pixels counted)
pixels_there (part ∷ parts) pixels counted =
    let n = picture_length part.size in
    ap (λ (l : List ℕ). take n pixels ++ l) (pixels_there parts (drop n pixels) (omega (arith, length-drop n pixels, counted)))
    ∙ take-append-drop n pixels

pub length_there : (parts : List Part) (pixels : List ℕ) → pictures_length (frames_of parts pixels) ≡ parts_length parts
length_there [] pixels = refl
length_there (part ∷ parts) pixels =
    let n = picture_length part.size in
    ap (λ (m : ℕ). n + m) (length_there parts (drop n pixels))

pub parts_exchanged : (parts : List Part) (old given now : List ℕ) → now ≡ given → length given ≡ pictures_length (frames_of parts old) → ArePixels given →
    ArePartsOf old parts → ArePartsOf now parts
parts_exchanged parts old given now is counted pixels are =
    subst (λ (list : List ℕ). ArePartsOf list parts) (sym is)
    (record { starts = are.starts; counted = counted ∙ length_there parts old; pixels = pixels })

-- one more part
pub begin_more : (at : ℕ) (parts : List Part) (part : Part) → part.start ≡ at + parts_length parts → BeginAt at parts → BeginAt at (parts ++ part ∷ [])
begin_more at [] part start from = (omega (arith, start), from)
begin_more at (first ∷ parts) part start from =
    (from.0, begin_more (at + picture_length first.size) parts part (omega (arith, start)) from.1)

pub parts_length-more : (parts : List Part) (part : Part) → parts_length (parts ++ part ∷ []) ≡ parts_length parts + picture_length part.size
parts_length-more [] part = omega arith
parts_length-more (first ∷ parts) part = omega (arith, parts_length-more parts part)

-- parts without a pixel that is seen
pub frames_zero : (parts : List Part) → frames_of parts (replicate (parts_length parts) 0) ≡ map transparent parts
frames_zero [] = refl
frames_zero (part ∷ parts) =
    let n = picture_length part.size in
    let m = parts_length parts in
    let left : n + m - n ≡ m = omega arith in
    ap₂ (λ (xs ys : List ℕ). record { size = part.size; bytes = xs; sound = part.sound.items } ∷ frames_of parts ys)
    (take-replicate n (n + m) 0 (omega arith))
    (drop-replicate n (n + m) 0 ∙ ap (λ (k : ℕ). replicate k 0) left)
    ∙ ap (λ (frames : List FrameView). transparent part ∷ frames) (frames_zero parts)

zero_at : (n i : ℕ) → slice_index (replicate n 0) i ≡ 0
zero_at n i =
    ⊎_elim
    (λ (lt : i < n). get_or-replicate n i 0 0 lt)
    (λ (le : n ≤ i). get_or_past (replicate n 0) i 0 (omega (arith, le, length-replicate {A = ℕ} n 0)))
    (cases_lt i n)

parts_of_zeros : (parts : List Part) → BeginAt 0 parts → ArePartsOf (replicate (parts_length parts) 0) parts
parts_of_zeros parts starts =
    let n = parts_length parts in
    record {
      starts = starts;
      counted = length-replicate n 0;
      pixels = record {
        whole = ap (λ (k : ℕ). k % 4) (length-replicate n 0) ∙ parts_whole parts;
        lowered = λ pixel. record {
          blue = omega (arith, zero_at n (4 * pixel));
          green = omega (arith, zero_at n (4 * pixel + 1));
          red = omega (arith, zero_at n (4 * pixel + 2));
        };
      };
    }

pub zero_parts : (parts : List Part) (pixels : List ℕ) (count : ℕ) → pixels ≡ replicate count 0 → count ≡ parts_length parts → BeginAt 0 parts →
    ArePartsOf pixels parts
zero_parts parts pixels count zeros counted starts =
    subst (λ (list : List ℕ). ArePartsOf list parts) (sym (zeros ∙ ap (λ (n : ℕ). replicate n 0) counted)) (parts_of_zeros parts starts)

-- one more frame of a configuration
pub zero_frames-turn : {Y : Type 0} (channels : List ChannelView) (yielded : List Y) (y : Y) (channel : ChannelView) (before after : List FrameView) →
    (length yielded < length channels) × (channel ≡ get_or channels (length yielded) channel) →
    before ≡ map zero_frame (take (length yielded) channels) → after ≡ before ++ zero_frame channel ∷ [] →
    after ≡ map zero_frame (take (length (yielded ++ y ∷ [])) channels)
zero_frames-turn channels yielded y channel before after turn so_far more =
    more ∙ ap₂ (λ (list : List FrameView) (last : ChannelView). list ++ zero_frame last ∷ []) so_far turn.1
    ∙ sym (map_more zero_frame channels (length yielded) channel turn.0)
    ∙ ap (λ (n : ℕ). map zero_frame (take n channels)) (sym (length_push yielded y))
