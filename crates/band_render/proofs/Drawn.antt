-- Drawn rows in parts.
use Rattle.std.proofs.Common.{◌≡◌, ℕ, ◌+◌, ◌≤◌, List, [], ◌∷◌, ◌++◌, length, take, drop, flat_map, sym, ap, ap₂, ◌∙◌, take_at, drop_at, append-nil, length-append, get_or, subst, ◌<◌, zero, suc, refl, arith}
use Rattle.std.specs.Prelude.{All}
use Rattle.std.proofs.lemmas.Grind.{flat_map-append}
use Rattle.history_model.specs.pictures.Raster.{Pictures}
use Rattle.std.specs.List.{range_with_len}
use Rattle.play_types.specs.Scene.{IsConfigured, scene_at}
use Rattle.play_types.specs.declared.drawn.Drawn.{Drawn}
use Rattle.play_types.specs.declared.geometry.Geometry.{Geometry}
use Rattle.pixel_math.specs.Pixel.{pixel_bytes}
use Rattle.history_model.specs.pictures.Frame.{scene_pixel}
use Rattle.play_scene.specs.Frames.{ArePictures, ArePixels, FrameView, no_frame, picture_length, pictures_length, pictures_of, with_pixels}
use Rattle.play_scene.proofs.Pixels.{ArePixels-append, ArePixels-drop, ArePixels-take}
use Rattle.play_sound.specs.Sounds.{sounds_of}
use Rattle.band_render.specs.Rendered.{ShowsScene, sizes}
use Rattle.band_render.specs.declared.band.Band.{Band}
use Rattle.band_render.specs.declared.drawing.Tick.{Tick}
use Rattle.band_render.specs.Rows.{AreOfChannels, Row, byte_count, row_bytes, rows_from, rows_of, rows_of_bands, rows_of_frames}
use Rattle.band_render.specs.inner.Rooms.{AreWide}
use Rattle.band_render.specs.inner.Drawing.{AreDrawn, CanDraw, HasDrawn, HasSoundOf, ShowsRows}
use Rattle.band_render.proofs.Rows.{all_parts, byte_count-append, byte_count-rows, byte_count-whole, bytes_of_rows, length-rows}
use Rattle.band_render.proofs.Bands.{bytes_of_parts}
use Rattle.band_render.proofs.Writing.{pictures_there, sounds_there}

-- rows and others after them
pub drawn_append : (tick : Tick) (rows more : List Row) (bytes others : List ℕ) → AreDrawn tick rows bytes → AreDrawn tick more others →
    AreDrawn tick (rows ++ more) (bytes ++ others)
drawn_append tick rows more bytes others front back = record {
  picture = λ pictures are.
      ap₂ (λ (xs ys : List ℕ). xs ++ ys) (front.picture pictures are) (back.picture pictures are)
      ∙ sym (flat_map-append (row_bytes pictures tick.scenes.now) rows more);
  pixels = ArePixels-append bytes others front.pixels back.pixels;
}

-- drawn rows have as many bytes as their rows count
pub drawn_long : (tick : Tick) (rows : List Row) (bytes : List ℕ) → AreDrawn tick rows bytes → length bytes ≡ byte_count rows
drawn_long tick rows bytes drawn =
    let pictures = pictures_of tick.prev.now tick.media.now in
    ap length (drawn.picture pictures (pictures_there tick.prev.now tick.media.now)) ∙ length-rows pictures tick.scenes.now rows

-- the first rows, and those after them
pub drawn_take : (tick : Tick) (rows more : List Row) (bytes : List ℕ) (n : ℕ) → AreDrawn tick (rows ++ more) bytes → n ≡ byte_count rows → n ≤ length bytes →
    AreDrawn tick rows (take n bytes)
drawn_take tick rows more bytes n drawn is fits =
    let whole = byte_count-whole rows in
    record {
      picture = λ pictures are.
          let one = flat_map (row_bytes pictures tick.scenes.now) rows in
          let other = flat_map (row_bytes pictures tick.scenes.now) more in
          ap (take n) (drawn.picture pictures are ∙ flat_map-append (row_bytes pictures tick.scenes.now) rows more)
          ∙ take_at one other n (length-rows pictures tick.scenes.now rows ∙ sym is);
      pixels = ArePixels-take n bytes (omega (arith, is, whole)) fits drawn.pixels;
    }

pub drawn_drop : (tick : Tick) (rows more : List Row) (bytes : List ℕ) (n : ℕ) → AreDrawn tick (rows ++ more) bytes → n ≡ byte_count rows → n ≤ length bytes →
    AreDrawn tick more (drop n bytes)
drawn_drop tick rows more bytes n drawn is fits =
    let whole = byte_count-whole rows in
    record {
      picture = λ pictures are.
          let one = flat_map (row_bytes pictures tick.scenes.now) rows in
          let other = flat_map (row_bytes pictures tick.scenes.now) more in
          ap (drop n) (drawn.picture pictures are ∙ flat_map-append (row_bytes pictures tick.scenes.now) rows more)
          ∙ drop_at one other n (length-rows pictures tick.scenes.now rows ∙ sym is);
      pixels = ArePixels-drop n bytes (omega (arith, is, whole)) fits drawn.pixels;
    }

-- one row
pub drawn_row : (tick : Tick) (scene : List Drawn) (channel : ℕ) (size : Geometry) (y : ℕ) (bytes : List ℕ) → scene ≡ scene_at channel tick.scenes.now →
    ((pictures : Pictures) → ArePictures pictures tick.prev.now tick.media.now →
    bytes ≡ flat_map (λ x. pixel_bytes (scene_pixel pictures size scene x y)) (range_with_len 0 size.width)) → ArePixels bytes →
    AreDrawn tick (rows_from channel size y 1) bytes
drawn_row tick scene channel size y bytes is shown pixels = record {
  picture = λ pictures are.
      shown pictures are
      ∙ (λ i. flat_map (λ x. pixel_bytes (scene_pixel pictures size (is i) x y)) (range_with_len 0 size.width))
      ∙ sym (append-nil (row_bytes pictures tick.scenes.now (record { channel = channel; size = size; y = y })));
  pixels = pixels;
}

-- the bands of one of two parts, as many rooms, and their bytes
pub can_draw_parts : (tick : Tick) (bands first last : List Band) (rooms some more : List ℕ) (bytes xs ys : List ℕ) → CanDraw tick bands rooms bytes →
    first ++ last ≡ bands → some ++ more ≡ rooms → xs ++ ys ≡ bytes → 0 < length some → 0 < length more →
    length xs ≡ byte_count (rows_of_bands first) → CanDraw tick first some xs × CanDraw tick last more ys
can_draw_parts tick bands first last rooms some more bytes xs ys can is are parts one two counted =
    let channels = all_parts (λ (b : Band). IsConfigured (length tick.scenes.now) b.channel) first last
    (subst (AreOfChannels (length tick.scenes.now)) (sym is) can.channels) in
    let wide : AreWide (first ++ last) (some ++ more) =
    subst (AreWide (first ++ last)) (sym are) (subst (λ (l : List Band). AreWide l rooms) (sym is) can.wide) in
    let rows = all_parts (λ (room : ℕ). All (λ (b : Band). b.size.width ≤ room) (first ++ last)) some more wide in
    let whole = bytes_of_parts bands first last is in
    let long = sym (length-append xs ys) ∙ ap length parts in
    let small = can.small in (
      record {
        same = can.same;
        channels = channels.0;
        counted = counted;
        small = omega (arith, long, small);
        some = one;
        wide = λ k d lt. (all_parts (λ (b : Band). b.size.width ≤ get_or some k d) first last (rows.0 k d lt)).0;
      },
      record {
        same = can.same;
        channels = channels.1;
        counted = omega (arith, long, counted, whole, can.counted);
        small = omega (arith, long, small);
        some = two;
        wide = λ k d lt. (all_parts (λ (b : Band). b.size.width ≤ get_or more k d) first last (rows.1 k d lt)).1;
      },
    )

-- what was drawn in two parts was drawn in the whole
pub has_drawn_both : (tick : Tick) (bands first last : List Band) (rooms some more : List ℕ) (some_now more_now : List ℕ) (bytes others : List ℕ) →
    first ++ last ≡ bands → some ++ more ≡ rooms → HasDrawn tick first some some_now bytes → HasDrawn tick last more more_now others →
    HasDrawn tick bands rooms (some_now ++ more_now) (bytes ++ others)
has_drawn_both tick bands first last rooms some more some_now more_now bytes others is are one other =
    record {
      drawn = subst (λ (rows : List Row). AreDrawn tick rows (bytes ++ others))
          (sym (flat_map-append rows_of first last) ∙ ap rows_of_bands is)
          (drawn_append tick (rows_of_bands first) (rows_of_bands last) bytes others one.drawn other.drawn);
      rooms = ap₂ (λ (xs ys : List ℕ). xs ++ ys) one.rooms other.rooms ∙ are;
    }

-- the pictures of all frames are as many bytes as their rows
pub pictures_long : (first : ℕ) (frames : List FrameView) → pictures_length frames ≡ byte_count (rows_of_frames first (sizes frames))
pictures_long first [] = refl
pictures_long first (frame ∷ frames) =
    let here = rows_from first frame.size 0 frame.size.height in
    let more = rows_of_frames (first + 1) (sizes frames) in
    omega (arith, byte_count-rows first frame.size 0 frame.size.height, pictures_long (first + 1) frames, byte_count-append here more)

-- other pixels leave the sizes of the frames
pub sizes_with_pixels : (frames : List FrameView) (pixels : List ℕ) → sizes (with_pixels pixels frames) ≡ sizes frames
sizes_with_pixels [] pixels = refl
sizes_with_pixels (frame ∷ frames) pixels =
    ap (λ (list : List Geometry). frame.size ∷ list) (sizes_with_pixels frames (drop (picture_length frame.size) pixels))

-- frames with the pixels of all their rows have each its own picture
pub picture_there : (tick : Tick) (first : ℕ) (frames : List FrameView) (pixels : List ℕ) (k channel : ℕ) → k < length frames → first + k ≡ channel →
    AreDrawn tick (rows_of_frames first (sizes frames)) pixels → ShowsRows tick channel (get_or (with_pixels pixels frames) k no_frame)
picture_there tick first [] pixels k channel lt is drawn = absurd (omega (arith, lt))
picture_there tick first (frame ∷ frames) pixels zero channel lt is drawn =
    let here = rows_from first frame.size 0 frame.size.height in
    let more = rows_of_frames (first + 1) (sizes frames) in
    let n = picture_length frame.size in
    let exact : n ≡ byte_count here = sym (byte_count-rows first frame.size 0 frame.size.height) in
    let fits : n ≤ length pixels = omega (arith, drawn_long tick (here ++ more) pixels drawn, byte_count-append here more, exact) in
    let same : first ≡ channel = omega (arith, is) in
    subst (λ (c : ℕ). AreDrawn tick (rows_from c frame.size 0 frame.size.height) (take n pixels)) same
    (drawn_take tick here more pixels n drawn exact fits)
picture_there tick first (frame ∷ frames) pixels (suc k) channel lt is drawn =
    let here = rows_from first frame.size 0 frame.size.height in
    let more = rows_of_frames (first + 1) (sizes frames) in
    let n = picture_length frame.size in
    let exact : n ≡ byte_count here = sym (byte_count-rows first frame.size 0 frame.size.height) in
    let fits : n ≤ length pixels = omega (arith, drawn_long tick (here ++ more) pixels drawn, byte_count-append here more, exact) in
    picture_there tick (first + 1) frames (drop n pixels) k channel (omega (arith, lt)) (omega (arith, is))
    (drawn_drop tick here more pixels n drawn exact fits)

-- a frame with the picture and the sound of its channel shows the scene
pub scene_shown : (tick : Tick) (channel : ℕ) (frame : FrameView) → ShowsRows tick channel frame → HasSoundOf tick channel frame →
    ShowsScene tick.prev.now tick.media.now (scene_at channel tick.scenes.now) frame
scene_shown tick channel frame drawn heard =
    let prev = tick.prev.now in
    let entries = tick.media.now in
    record {
      picture = λ pictures are. record {
        whole = (heard (sounds_of prev entries) (sounds_there prev entries)).whole;
        bytes = drawn.picture pictures are ∙ bytes_of_rows pictures tick.scenes.now channel frame.size 0 frame.size.height;
      };
      sound = heard;
    }
