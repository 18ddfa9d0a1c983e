-- The file of a film is read as the film, and preparing it changes no byte.
use Rattle.std.proofs.Common.{◌≡◌, ℕ, zero, suc, ◌+◌, ◌-◌, ◌*◌, ◌/◌, ◌%◌, ◌<◌, ◌≤◌, min, Bool, true, false, List, [], ◌++◌, get_or, length, length-append, map, slice_index, refl, sym, ap, subst, ◌∙◌, arith, mul_assoc, div-lt_iff_lt-mul}
use Rattle.std.specs.Prelude.{Option, Some, None, Result, Ok, Err, option_map, ◌&&◌, flat_map, nat_lt, if◌then◌else◌, ℤ, pos, negsuc, unwrap_or, slice_get}
use Rattle.std.specs.List.{range_with_len}
use Rattle.std.proofs.lemmas.Bool.{ltb-true}
use Rattle.std.proofs.lemmas.List.{get_or_append_left, get_or-append_right, get_or-map}
use Rattle.std.proofs.lemmas.Option.{get_or_from_slice_get, none-some, same_Some, slice_get-map, slice_get_within, unwrap_or-slice_get}
use Rattle.std.proofs.lemmas.Grind.{same_number_lists}
use Rattle.std.proofs.lemmas.Nat.{div-add-mod'}
use Rattle.std.proofs.Math.Nat.{mod-lt, mul_comm}
use Rattle.pixel_math.specs.Pixel.{PixelView, pixel_bytes}
use Rattle.play_types.specs.ClipFile.{ClipView, IsClip, clip_bytes}
use Rattle.play_types.specs.Config.{ChannelView, ConfigView, IsConfig}
use Rattle.play_types.specs.Scene.{IsConfigured}
use Rattle.play_types.specs.declared.clip_fault.ClipFault.{ClipFault}
use Rattle.play_types.specs.Geometry.{IsSize, frame_bytes}
use Rattle.play_types.specs.declared.clip.TheConstants.{MULTIPLIED}
use Rattle.play_types.specs.declared.event.Event.{Event}
use Rattle.play_types.specs.declared.geometry.Geometry.{Geometry}
use Rattle.clip_format.specs.Preparing.{IsLowered, IsLoweredAt, prepared_clip, prepared_colour, recoloured, recoloured_byte}
use Rattle.clip_format.specs.Recolouring.{made_at}
use Rattle.clip_format.specs.Decoding.{clip_of}
use Rattle.clip_format.specs.Table.{Entry, IsMediaTable, IsReady, readable}
use Rattle.clip_format.proofs.Files.{clip_of-clip_bytes}
use Rattle.clip_format.proofs.Recoloured.{byte-recoloured, four_of, frame_bytes-fours, length-recoloured}
use Rattle.history_model.specs.pictures.Frame.{frame_pixel}
use Rattle.history_model.specs.pictures.Media.{Setup, no_size, size}
use Rattle.history_model.specs.recordings.Film.{Span, before_tick, filmed}
use Rattle.history_model.specs.pictures.Sound.{frame_sample}
use Rattle.play_scene.specs.Picture.{clips_of}
use Rattle.history_model.specs.scripts.History.{channel_size}
use Rattle.play_recorder.specs.Film.{IsFilm}
use Rattle.history_model.specs.scripts.Output.{picture_bytes, raw_frame, sample_bytes, sound_bytes}
use Rattle.history_model.specs.stage.Answer.{pair_samples}
use Rattle.play_recorder.proofs.LowPixels.{AreOfVersion1, IsLow, low_frame_pixel}

-- the bytes of `count` pieces from the one at `first` on, each of one length
length-pieces : (f : ℕ → List ℕ) (one first count : ℕ) → ((k : ℕ) → length (f k) ≡ one) → length (flat_map f (range_with_len first count)) ≡ one * count
length-pieces f one first zero each = omega arith
length-pieces f one first (suc count) each =
    length-append (f first) (flat_map f (range_with_len (first + 1) count))
    ∙ rw (each first, length-pieces f one (first + 1) count each) (omega arith)

-- byte k of piece i, of pieces of one length
piece_at : (f : ℕ → List ℕ) (one first count i k : ℕ) → ((j : ℕ) → length (f j) ≡ one) → i < count → k < one
    → slice_index (flat_map f (range_with_len first count)) (i * one + k) ≡ slice_index (f (first + i)) k
piece_at f one first zero i k each inside small = absurd (omega (arith, inside))
piece_at f one first (suc count) zero k each inside small =
    let rest = flat_map f (range_with_len (first + 1) count) in
    let place : zero * one + k ≡ k = omega arith in
    let here : first ≡ first + zero = omega arith in
    ap (slice_index (f first ++ rest)) place
    ∙ get_or_append_left (f first) rest 0 k (omega (arith, each first, small))
    ∙ ap (λ (n : ℕ). slice_index (f n) k) here
piece_at f one first (suc count) (suc i) k each inside small =
    let rest = flat_map f (range_with_len (first + 1) count) in
    let place : suc i * one + k - one ≡ i * one + k = omega arith in
    let next : first + 1 + i ≡ first + suc i = omega arith in
    get_or-append_right (f first) rest one (suc i * one + k) 0 (each first) (omega arith)
    ∙ ap (slice_index rest) place
    ∙ piece_at f one (first + 1) count i k each (omega (arith, inside)) small
    ∙ ap (λ (n : ℕ). slice_index (f n) k) next

-- if the bytes of a pixel are in other bytes, and no colour byte is above its alpha, neither is one there
low_there : (bytes : List ℕ) (at : ℕ) (p : PixelView) → ((k : ℕ) → k < 4 → slice_index bytes (at + k) ≡ slice_index (pixel_bytes p) k) → IsLow p → IsLoweredAt bytes at
low_there bytes at p same h =
    let here : at + 0 ≡ at = omega arith in
    let blue : slice_index bytes at ≡ p.b = ap (slice_index bytes) (sym here) ∙ same 0 (omega arith) in
    let alpha : slice_index bytes (at + 3) ≡ p.a = same 3 (omega arith) in
    let green : slice_index bytes (at + 1) ≡ p.g = same 1 (omega arith) in
    let red : slice_index bytes (at + 2) ≡ p.r = same 2 (omega arith) in
    record {
      blue = omega (arith, blue, alpha, h.blue);
      green = omega (arith, green, alpha, h.green);
      red = omega (arith, red, alpha, h.red);
    }

length-sample : (sample : ℤ) → length (sample_bytes sample) ≡ 2
length-sample (pos n) = refl
length-sample (negsuc n) = refl

-- a product is above a number only if its first factor is above zero
some_factor : (a b n : ℕ) → n < a * b → 0 < a
some_factor zero b n lt = absurd (omega (arith, lt))
some_factor (suc a) b n lt = omega arith

none_before : (n : ℕ) → 0 + n ≡ n
none_before n = omega arith

fours : (y w : ℕ) → y * (4 * w) ≡ 4 * (y * w)
fours y w = omega arith

module _ (setup : Setup) (history : List Event) (channel : ℕ) where
  abbrev wide : ℕ
  wide = (size setup channel).width

  abbrev high : ℕ
  high = (size setup channel).height

  abbrev row : ℕ → List ℕ
  row y = flat_map (λ x. pixel_bytes (frame_pixel setup history channel x y)) (range_with_len 0 wide)

  -- byte k of the pixel at a column and a row of a picture
  in_picture : (x y k : ℕ) → x < wide → y < high → k < 4
      → slice_index (picture_bytes setup history channel) (y * (4 * wide) + (x * 4 + k)) ≡ slice_index (pixel_bytes (frame_pixel setup history channel x y)) k
  in_picture x y k inside below small =
      piece_at row (4 * wide) 0 high y (x * 4 + k)
      (λ j. length-pieces (λ i. pixel_bytes (frame_pixel setup history channel i j)) 4 0 wide (λ i. refl)) below (omega (arith, inside, small))
      ∙ ap (λ (n : ℕ). slice_index (row n) (x * 4 + k)) (none_before y)
      ∙ piece_at (λ i. pixel_bytes (frame_pixel setup history channel i y)) 4 0 wide x k (λ i. refl) inside small
      ∙ ap (λ (n : ℕ). slice_index (pixel_bytes (frame_pixel setup history channel n y)) k) (none_before x)

  length-picture : length (picture_bytes setup history channel) ≡ 4 * wide * high
  length-picture = length-pieces row (4 * wide) 0 high (λ y. length-pieces (λ x. pixel_bytes (frame_pixel setup history channel x y)) 4 0 wide (λ x. refl))

  length-pair : (pair : ℕ) → length (flat_map sample_bytes (pair_samples setup history channel pair)) ≡ 4
  length-pair pair =
      let left = sample_bytes (frame_sample setup history channel pair 0) in
      let right = sample_bytes (frame_sample setup history channel pair 1) in
      let whole = length-append left (right ++ []) in
      let last = length-append right [] in
      omega (arith, whole, last, length-sample (frame_sample setup history channel pair 0), length-sample (frame_sample setup history channel pair 1))

  length-sound : length (sound_bytes setup history channel) ≡ 4 * (size setup channel).pairs
  length-sound = length-pieces (λ pair. flat_map sample_bytes (pair_samples setup history channel pair)) 4 0 (size setup channel).pairs length-pair

  length-raw_frame : length (raw_frame setup history channel) ≡ frame_bytes (size setup channel)
  unfolding raw_frame
  length-raw_frame =
      length-append (picture_bytes setup history channel) (sound_bytes setup history channel)
      ∙ rw (length-picture, length-sound) refl

  -- byte k of a pixel of a frame
  in_frame : (pixel k : ℕ) → pixel < wide * high → k < 4
      → slice_index (raw_frame setup history channel) (4 * pixel + k) ≡ slice_index (pixel_bytes (frame_pixel setup history channel (pixel % wide) (pixel / wide))) k
  unfolding raw_frame
  in_frame pixel k within small =
      let some : 0 < wide = some_factor wide high pixel within in
      let y = pixel / wide in
      let x = pixel % wide in
      let below : y < high = (div-lt_iff_lt-mul {k = wide} {x = pixel} {y = high} some).1 (omega (arith, within, mul_comm wide high)) in
      let inside : x < wide = mod-lt pixel some in
      let parts : pixel ≡ y * wide + x = sym (div-add-mod' pixel wide) in
      let picture : 4 * pixel + k < 4 * wide * high = omega (arith, mul_assoc 4 wide high) in
      let place : 4 * pixel + k ≡ y * (4 * wide) + (x * 4 + k) = omega (arith, parts, fours y wide) in
      get_or_append_left (picture_bytes setup history channel) (sound_bytes setup history channel) 0 (4 * pixel + k) (omega (arith, picture, length-picture))
      ∙ ap (slice_index (picture_bytes setup history channel)) place
      ∙ in_picture x y k inside below small

-- preparing a clip without a colour byte above its alpha changes no byte
module _ (clip : ClipView) (is : IsClip clip) (low : IsLowered clip) where
  abbrev frame : ℕ
  frame = frame_bytes clip.geometry

  abbrev made : ℕ → ℕ → ℕ
  made colour alpha = min colour alpha

  low_at : (at colour : ℕ) → IsLoweredAt clip.bytes at → colour < 3 → slice_index clip.bytes (at + colour) ≤ slice_index clip.bytes (at + 3)
  low_at at zero h small = let here : at + zero ≡ at = omega arith in subst (λ (k : ℕ). slice_index clip.bytes k ≤ slice_index clip.bytes (at + 3)) (sym here) h.blue
  low_at at (suc zero) h small = h.green
  low_at at (suc (suc zero)) h small = h.red
  low_at at (suc (suc (suc n))) h small = absurd (omega (arith, small))

  kept_colour : (k : ℕ) → k < length clip.bytes → k % frame < 4 * clip.geometry.width * clip.geometry.height → k % 4 < 3 → made_at made clip.bytes k ≡ slice_index clip.bytes k
  kept_colour k within inside colour =
      let size = clip.geometry in
      let some : 0 < frame = omega (arith, inside) in
      let number = k / frame in
      let pixel = k % frame / 4 in
      let units = size.width * size.height + size.pairs in
      let counted : number < clip.frames = (div-lt_iff_lt-mul {k = frame} {x = k} {y = clip.frames} some).1 (omega (arith, within, is.whole)) in
      let picture : pixel < size.width * size.height = omega (arith, inside, mul_assoc 4 size.width size.height) in
      let start : number * frame ≡ number * units * 4 = ap (λ (n : ℕ). number * n) (frame_bytes-fours size) ∙ four_of number units in
      let parts : number * frame + k % frame ≡ k = div-add-mod' k frame in
      let at = number * frame + 4 * pixel in
      let place : k ≡ at + k % 4 = omega (arith, parts, start) in
      let top : k / 4 * 4 + 3 ≡ at + 3 = omega (arith, parts, start) in
      let le = low_at at (k % 4) (low number pixel counted picture) colour in
      let below : slice_index clip.bytes k ≤ slice_index clip.bytes (k / 4 * 4 + 3) = subst (λ (n : ℕ). slice_index clip.bytes n ≤ slice_index clip.bytes (k / 4 * 4 + 3)) (sym place)
      (subst (λ (n : ℕ). slice_index clip.bytes (at + k % 4) ≤ slice_index clip.bytes n) (sym top) le) in
      omega (arith, below)

  kept_byte : (k : ℕ) → k < length clip.bytes → recoloured_byte made clip.geometry clip.bytes k ≡ slice_index clip.bytes k
  kept_byte k within = by_place (nat_lt (k % frame) (4 * clip.geometry.width * clip.geometry.height)) (nat_lt (k % 4) 3) refl refl
    where
      by_place : (inside colour : Bool) → nat_lt (k % frame) (4 * clip.geometry.width * clip.geometry.height) ≡ inside → nat_lt (k % 4) 3 ≡ colour
          → (if inside && colour then made_at made clip.bytes k else slice_index clip.bytes k) ≡ slice_index clip.bytes k
      by_place true true there first = kept_colour k within (ltb-true _ _ there) (ltb-true _ _ first)
      by_place true false there first = refl
      by_place false colour there first = refl

  kept_bytes : recoloured made clip ≡ clip.bytes
  kept_bytes = same_number_lists (recoloured made clip) clip.bytes (length-recoloured made clip)
      (λ k within.
      let below : k < length clip.bytes = omega (arith, within, length-recoloured made clip) in
      byte-recoloured made clip k below ∙ kept_byte k below)

-- preparing a clip of version 1 without a colour byte above its alpha changes nothing
stays_prepared : (clip : ClipView) → IsClip clip → IsLowered clip → clip.version ≡ MULTIPLIED → prepared_clip clip ≡ clip
unfolding prepared_clip
stays_prepared clip is low first =
    let made : recoloured (prepared_colour clip.version) clip ≡ clip.bytes =
    ap (λ (version : ℕ). recoloured (prepared_colour version) clip) first ∙ kept_bytes clip is low in
    λ i. record { version = sym first i; geometry = clip.geometry; frames = clip.frames; bytes = made i }

module _ (setup : Setup) (history : List Event) (span : Span) (film : IsFilm span)
    (sized : IsSize (size setup span.channel).width (size setup span.channel).height (size setup span.channel).pairs) where
  abbrev frame_of : ℕ → List ℕ
  frame_of tick = raw_frame setup (before_tick history tick) span.channel

  abbrev film_bytes : List ℕ
  film_bytes = flat_map frame_of (range_with_len span.first span.frames)

  -- a film is a clip
  film_clip : IsClip (filmed setup history span)
  unfolding filmed
  film_clip = record {
    some_version = omega arith;
    version = omega arith;
    size = sized;
    some_frames = film.some_frames;
    frames = film.frames;
    whole = length-pieces frame_of (frame_bytes (size setup span.channel)) span.first span.frames
        (λ tick. length-raw_frame setup (before_tick history tick) span.channel)
        ∙ mul_comm (frame_bytes (size setup span.channel)) span.frames;
  }

  -- the file of a film is read as the film
  pub film_read : clip_of (clip_bytes (filmed setup history span)) ≡ Ok (filmed setup history span)
  film_read = clip_of-clip_bytes (filmed setup history span) film_clip

  in_film : (number pixel k : ℕ) → number < span.frames → pixel < (size setup span.channel).width * (size setup span.channel).height → k < 4
      → slice_index film_bytes (number * frame_bytes (size setup span.channel) + 4 * pixel + k) ≡ slice_index (frame_of (span.first + number)) (4 * pixel + k)
  in_film number pixel k counted within small =
      let one = frame_bytes (size setup span.channel) in
      let inside : 4 * pixel + k < one = omega (arith, within, small, mul_assoc 4 (size setup span.channel).width (size setup span.channel).height) in
      let place : number * one + 4 * pixel + k ≡ number * one + (4 * pixel + k) = omega arith in
      ap (slice_index film_bytes) place
      ∙ piece_at frame_of one span.first span.frames number (4 * pixel + k) (λ tick. length-raw_frame setup (before_tick history tick) span.channel) counted inside

  film_low : AreOfVersion1 setup.clips → IsLowered (filmed setup history span)
  unfolding filmed
  film_low clips number pixel counted within =
      let past = before_tick history (span.first + number) in
      let wide = (size setup span.channel).width in
      low_there film_bytes (number * frame_bytes (size setup span.channel) + 4 * pixel) (frame_pixel setup past span.channel (pixel % wide) (pixel / wide))
      (λ k small. in_film number pixel k counted within small ∙ in_frame setup past span.channel pixel k within small)
      (low_frame_pixel setup clips past span.channel (pixel % wide) (pixel / wide))

  version_of_film : (filmed setup history span).version ≡ MULTIPLIED
  unfolding filmed
  version_of_film = refl

  -- preparing a film changes no byte
  pub film_prepared : AreOfVersion1 setup.clips → prepared_clip (filmed setup history span) ≡ filmed setup history span
  film_prepared clips = stays_prepared (filmed setup history span) film_clip (film_low clips) version_of_film

-- the clips of a media table are of version 1
module _ (entries : List Entry) (table : IsMediaTable entries) where
  version_of_clip : (clip : ClipView) (kept : Result ClipView ClipFault) → IsReady kept → readable kept ≡ Some clip → clip.version ≡ MULTIPLIED
  version_of_clip clip (Ok other) ready is = ap (λ (one : ClipView). one.version) (sym (same_Some other clip is)) ∙ ready.0
  version_of_clip clip (Err fault) ready is = absurd (none-some clip is)

  pub version_1_of_table : AreOfVersion1 (clips_of entries)
  version_1_of_table id clip is =
      by_entry (slice_get entries id) refl (ap (λ (found : Option (Option ClipView)). unwrap_or found None) (sym (slice_get-map (λ (entry : Entry). readable entry.clip) entries id)) ∙ is)
    where
      by_entry : (found : Option Entry) → slice_get entries id ≡ found → unwrap_or (option_map (λ (entry : Entry). readable entry.clip) found) None ≡ Some clip → clip.version ≡ MULTIPLIED
      by_entry None at none = absurd (none-some clip none)
      by_entry (Some entry) at same = version_of_clip clip entry.clip
          (subst (λ (one : Entry). IsReady one.clip) (get_or_from_slice_get entries id entry entry at) (table.ready id entry (slice_get_within entries id entry at)))
          same

-- a configured channel has a size in range
pub size_in_range : (config : ConfigView) (entries : List Entry) (channel : ℕ) → IsConfig config → IsConfigured (length config.channels) channel
    → let size = size (record { channels = map channel_size config.channels; clips = clips_of entries }) channel in IsSize size.width size.height size.pairs
size_in_range config entries zero is configured = absurd (omega (arith, configured.0))
size_in_range config entries (suc before) is configured =
    let none : ChannelView = record { width = 0; height = 0; pairs = 0; output = [] } in
    let below : before < length config.channels = omega (arith, configured.1) in
    let same : unwrap_or (slice_get (map channel_size config.channels) before) no_size ≡ channel_size (get_or config.channels before none) =
    unwrap_or-slice_get (map channel_size config.channels) before no_size ∙ get_or-map channel_size config.channels before none no_size below in
    subst (λ (size : Geometry). IsSize size.width size.height size.pairs) (sym same) ((is.channels before none below).size)
