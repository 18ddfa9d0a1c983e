-- Clips whose colour bytes are replaced.
use Rattle.std.proofs.Common.{◌≡◌, ℕ, ◌+◌, ◌-◌, ◌*◌, ◌/◌, ◌%◌, ◌<◌, ◌≤◌, List, Bool, true, false, length, refl, sym, ap, ◌∙◌, arith, mul_assoc, mul_comm, inl, inr}
use Rattle.std.specs.Prelude.{◌&&◌, nat_lt, slice_index, if◌then◌else◌}
use Rattle.std.proofs.lemmas.Bool.{lt-ltb, le-ltb, le-leb, lt-leb, cases_lt}
use Rattle.std.proofs.lemmas.List.{get_or_past}
use Rattle.std.proofs.lemmas.Nat.{mod-mul-add, div-mul-add, mul-add-lt}
use Rattle.std.proofs.lemmas.Grind.{same_number_lists}
use Rattle.std.proofs.lemmas.List.FromFn.{get_or-map-range_with_len, length-map-range_with_len}
use Rattle.play_types.specs.declared.geometry.Geometry.{Geometry}
use Rattle.play_types.specs.Geometry.{frame_bytes}
use Rattle.play_types.specs.ClipFile.{ClipView, IsClip}
use Rattle.clip_format.specs.Recolouring.{AreRecoloured, IsRecoloured, made_at}
use Rattle.clip_format.specs.Preparing.{AreBytes, recoloured, recoloured_byte}

-- a number of things of four bytes each
pub four_of : (a x : ℕ) → a * (4 * x) ≡ a * x * 4
four_of a x = omega arith

-- the bytes of a frame are four for each pixel and pair
pub frame_bytes-fours : (size : Geometry) → frame_bytes size ≡ 4 * (size.width * size.height + size.pairs)
frame_bytes-fours size = omega (arith, mul_assoc 4 size.width size.height)

-- as many bytes as some frames have are those of whole pixels
pub bytes-fours : (frames len : ℕ) (size : Geometry) → len ≡ frames * frame_bytes size → len % 4 ≡ 0
bytes-fours frames len size whole =
    let units : frames * frame_bytes size ≡ frames * (size.width * size.height + size.pairs) * 4 = ap (λ n. frames * n) (frame_bytes-fours size) ∙ four_of frames (size.width * size.height + size.pairs) in
    omega (arith, whole, units)

-- the length stays
pub length-recoloured : (made : ℕ → ℕ → ℕ) (clip : ClipView) → length (recoloured made clip) ≡ length clip.bytes
length-recoloured made clip = length-map-range_with_len (recoloured_byte made clip.geometry clip.bytes) 0 (length clip.bytes)

-- a byte of a clip with other colours
pub byte-recoloured : (made : ℕ → ℕ → ℕ) (clip : ClipView) (k : ℕ) → k < length clip.bytes
    → slice_index (recoloured made clip) k ≡ recoloured_byte made clip.geometry clip.bytes k
byte-recoloured made clip k within =
    get_or-map-range_with_len (recoloured_byte made clip.geometry clip.bytes) 0 (length clip.bytes) k k 0 within (omega arith)

-- a clip with other colours is a clip
pub IsClip-recoloured : (made : ℕ → ℕ → ℕ) (version : ℕ) (clip : ClipView) → 1 ≤ version → version ≤ 2 → IsClip clip
    → IsClip (record { version = version; geometry = clip.geometry; frames = clip.frames; bytes = recoloured made clip })
IsClip-recoloured made version clip low high h = record {
  some_version = low;
  version = high;
  size = h.size;
  some_frames = h.some_frames;
  frames = h.frames;
  whole = length-recoloured made clip ∙ h.whole;
}

-- the place of a byte of a pixel in its frame, and the place of the alpha
record IsOfPixel (size : Geometry) (at k : ℕ) : Type 0 where
  pub inside : nat_lt (k % frame_bytes size) (4 * size.width * size.height) ≡ true
  pub alpha : k / 4 * 4 + 3 ≡ at + 3
  pub place : k % 4 ≡ k - at

of_pixel : (size : Geometry) (frame pixel colour : ℕ) → pixel < size.width * size.height → colour < 4
    → IsOfPixel size (frame * frame_bytes size + 4 * pixel) (frame * frame_bytes size + 4 * pixel + colour)
of_pixel size frame pixel colour within four =
    let k = frame * frame_bytes size + 4 * pixel + colour in
    let picture : 4 * pixel + colour < 4 * size.width * size.height = omega (arith, mul_assoc 4 size.width size.height) in
    let in_frame : k ≡ frame * frame_bytes size + (4 * pixel + colour) = omega arith in
    let rest : k % frame_bytes size ≡ 4 * pixel + colour = ap (λ n. n % frame_bytes size) in_frame ∙ mod-mul-add frame (frame_bytes size) (4 * pixel + colour) (omega arith) in
    let units = size.width * size.height + size.pairs in
    let start : frame * frame_bytes size ≡ frame * units * 4 = ap (λ n. frame * n) (frame_bytes-fours size) ∙ four_of frame units in
    let fours : k ≡ (frame * units + pixel) * 4 + colour = omega arith in
    let quarter : k / 4 ≡ frame * units + pixel = ap (λ n. n / 4) fours ∙ div-mul-add (frame * units + pixel) 4 colour four in
    let left : k % 4 ≡ colour = ap (λ n. n % 4) fours ∙ mod-mul-add (frame * units + pixel) 4 colour four in
    record {
      inside = rw rest (lt-ltb _ _ picture);
      alpha = omega (arith, quarter, start);
      place = omega (arith, left);
    }

-- a colour byte of a pixel is made of itself and of the pixel's alpha
pub recoloured_byte-colour : (made : ℕ → ℕ → ℕ) (size : Geometry) (bytes : List ℕ) (frame pixel colour : ℕ) → pixel < size.width * size.height → colour < 3
    → recoloured_byte made size bytes (frame * frame_bytes size + 4 * pixel + colour)
    ≡ made (slice_index bytes (frame * frame_bytes size + 4 * pixel + colour)) (slice_index bytes (frame * frame_bytes size + 4 * pixel + 3))
recoloured_byte-colour made size bytes frame pixel colour within three =
    let is = of_pixel size frame pixel colour within (omega arith) in
    rw (is.inside, lt-ltb ((frame * frame_bytes size + 4 * pixel + colour) % 4) 3 (omega (arith, is.place, within)), is.alpha) refl

-- the alpha of a pixel stays
pub recoloured_byte-alpha : (made : ℕ → ℕ → ℕ) (size : Geometry) (bytes : List ℕ) (frame pixel : ℕ) → pixel < size.width * size.height
    → recoloured_byte made size bytes (frame * frame_bytes size + 4 * pixel + 3) ≡ slice_index bytes (frame * frame_bytes size + 4 * pixel + 3)
recoloured_byte-alpha made size bytes frame pixel within =
    let is = of_pixel size frame pixel 3 within (omega arith) in
    rw (is.inside, le-ltb ((frame * frame_bytes size + 4 * pixel + 3) % 4) 3 (omega (arith, is.place))) refl

-- each colour byte of a pixel is replaced by what `made` gives of it and the alpha, which stays
pub record IsPixelOf (made : ℕ → ℕ → ℕ) (old new : List ℕ) (at : ℕ) : Type 0 where
  pub colour : (k : ℕ) → k < 3 → slice_index new (at + k) ≡ made (slice_index old (at + k)) (slice_index old (at + 3))
  pub alpha : slice_index new (at + 3) ≡ slice_index old (at + 3)

pub pixel-recoloured : (made : ℕ → ℕ → ℕ) (clip : ClipView) (frame pixel : ℕ) → IsClip clip → frame < clip.frames → pixel < clip.geometry.width * clip.geometry.height
    → IsPixelOf made clip.bytes (recoloured made clip) (frame * frame_bytes clip.geometry + 4 * pixel)
pixel-recoloured made clip frame pixel h inside within =
    let size = clip.geometry in
    let at = frame * frame_bytes size + 4 * pixel in
    let picture : 4 * pixel + 3 < frame_bytes size = omega (arith, mul_assoc 4 size.width size.height) in
    let end : frame * frame_bytes size + (4 * pixel + 3) < frame_bytes size * clip.frames = mul-add-lt frame (frame_bytes size) (4 * pixel + 3) clip.frames inside picture in
    let whole : length clip.bytes ≡ frame_bytes size * clip.frames = h.whole ∙ mul_comm clip.frames (frame_bytes size) in record {
      colour = λ k three. byte-recoloured made clip (at + k) (omega (arith, end, whole, three)) ∙ recoloured_byte-colour made size clip.bytes frame pixel k within three;
      alpha = byte-recoloured made clip (at + 3) (omega (arith, end, whole)) ∙ recoloured_byte-alpha made size clip.bytes frame pixel within;
    }

made_byte : (made : ℕ → ℕ → ℕ) (bytes : List ℕ) (k : ℕ) (choice : Bool) → ((colour alpha : ℕ) → alpha < 256 → made colour alpha < 256) → AreBytes bytes
    → (if choice then made_at made bytes k else slice_index bytes k) < 256
made_byte made bytes k true makes fit = makes _ _ (fit (k / 4 * 4 + 3))
made_byte made bytes k false makes fit = fit k

-- bytes whose colours are replaced by bytes are bytes
pub AreBytes-recoloured : (made : ℕ → ℕ → ℕ) (clip : ClipView) → ((colour alpha : ℕ) → alpha < 256 → made colour alpha < 256) → AreBytes clip.bytes → AreBytes (recoloured made clip)
AreBytes-recoloured made clip makes fit k = elim (cases_lt k (length clip.bytes)) [
  | inl lt ↦ rw (byte-recoloured made clip k lt)
      (made_byte made clip.bytes k (nat_lt (k % frame_bytes clip.geometry) (4 * clip.geometry.width * clip.geometry.height) && nat_lt (k % 4) 3) makes fit)
  | inr past ↦ rw (get_or_past (recoloured made clip) k 0 (omega (arith, past, length-recoloured made clip))) (omega arith)
]

-- bytes whose colours were replaced frame by frame are those of the clip with other colours
pub recoloured-frames : (made : ℕ → ℕ → ℕ) (clip : ClipView) (new : List ℕ)
    → AreRecoloured made (4 * clip.geometry.width * clip.geometry.height) (frame_bytes clip.geometry) clip.bytes new → new ≡ recoloured made clip
recoloured-frames made clip new are =
    same_number_lists new (recoloured made clip) (are.len ∙ sym (length-recoloured made clip))
    (λ k within. are.each k (omega (arith, are.len)) ∙ sym (byte-recoloured made clip k (omega (arith, are.len))))

-- two ways of making a colour byte, one after the other, are a third way
abbrev pub AreOneAfterAnother : (ℕ → ℕ → ℕ) → (ℕ → ℕ → ℕ) → (ℕ → ℕ → ℕ) → Type 0
AreOneAfterAnother first second both = (colour alpha : ℕ) → colour < 256 → alpha < 256 → second (first colour alpha) alpha ≡ both colour alpha

both_ways : (made : ℕ → ℕ → ℕ) (bytes : List ℕ) (k : ℕ) (inside colour : Bool) → colour ≡ false
    → (if inside && colour then made_at made bytes k else slice_index bytes k) ≡ slice_index bytes k
both_ways made bytes k true false is = refl
both_ways made bytes k false false is = refl
both_ways made bytes k true true is = cc
both_ways made bytes k false true is = refl

-- the fourth byte of a pixel stays
alpha_stays : (made : ℕ → ℕ → ℕ) (size : Geometry) (bytes : List ℕ) (k : ℕ) → k % 4 ≡ 3 → recoloured_byte made size bytes k ≡ slice_index bytes k
alpha_stays made size bytes k fourth =
    let not : nat_lt (k % 4) 3 ≡ false = le-ltb _ 3 (omega (arith, fourth)) in
    both_ways made bytes k (nat_lt (k % frame_bytes size) (4 * size.width * size.height)) (nat_lt (k % 4) 3) not

twice_at : (first second both : ℕ → ℕ → ℕ) (bytes new : List ℕ) (k : ℕ) (inside colour : Bool) → AreOneAfterAnother first second both → AreBytes bytes
    → nat_lt (k % 4) 3 ≡ colour
    → slice_index new k ≡ (if inside && colour then made_at first bytes k else slice_index bytes k)
    → slice_index new (k / 4 * 4 + 3) ≡ slice_index bytes (k / 4 * 4 + 3)
    → (if inside && colour then made_at second new k else slice_index new k) ≡ (if inside && colour then made_at both bytes k else slice_index bytes k)
twice_at first second both bytes new k true true are fit is now top = rw (now, top) (are _ _ (fit k) (fit (k / 4 * 4 + 3)))
twice_at first second both bytes new k true false are fit is now top = now
twice_at first second both bytes new k false colour are fit is now top = now

-- colours that are replaced twice
pub recoloured-twice : (first second both : ℕ → ℕ → ℕ) (version : ℕ) (clip : ClipView) → AreOneAfterAnother first second both → AreBytes clip.bytes → length clip.bytes % 4 ≡ 0
    → recoloured second (record { version = version; geometry = clip.geometry; frames = clip.frames; bytes = recoloured first clip }) ≡ recoloured both clip
recoloured-twice first second both version clip are fit whole =
    let size = clip.geometry in
    let bytes = clip.bytes in
    let new = recoloured first clip in
    let middle : ClipView = record { version = version; geometry = size; frames = clip.frames; bytes = new } in
    let len = length-recoloured first clip in
    same_number_lists (recoloured second middle) (recoloured both clip)
    (length-recoloured second middle ∙ len ∙ sym (length-recoloured both clip))
    (λ k within.
    let below : k < length bytes = omega (arith, within, length-recoloured second middle, len) in
    let top : k / 4 * 4 + 3 < length bytes = omega (arith, below, whole) in
    let alpha : slice_index new (k / 4 * 4 + 3) ≡ slice_index bytes (k / 4 * 4 + 3) =
    byte-recoloured first clip (k / 4 * 4 + 3) top ∙ alpha_stays first size bytes (k / 4 * 4 + 3) (omega arith) in
    byte-recoloured second middle k (omega (arith, below, len))
    ∙ twice_at first second both bytes new k (nat_lt (k % frame_bytes size) (4 * size.width * size.height)) (nat_lt (k % 4) 3) are fit refl
    (byte-recoloured first clip k below) alpha
    ∙ sym (byte-recoloured both clip k below))

-- bytes after those that were replaced are as they were
pub recoloured-rest : (made : ℕ → ℕ → ℕ) (from to : ℕ) (old new : List ℕ) → IsRecoloured made from to old new → (k : ℕ) → to ≤ k → slice_index new k ≡ slice_index old k
recoloured-rest made from to old new is k le = elim (cases_lt k (length old)) [
  | inl lt ↦ rw (le-ltb k to le) at (is.each k lt)
  | inr past ↦ get_or_past new k 0 (omega (arith, past, is.len)) ∙ sym (get_or_past old k 0 past)
]

-- the colours of one frame more were replaced: a byte of the frames so far
pub recoloured-more : (made : ℕ → ℕ → ℕ) (picture frame number : ℕ) (first old new : List ℕ) → picture ≤ frame
    → length old ≡ length first
    → ((k : ℕ) → k < number * frame → slice_index old k ≡ (if nat_lt (k % frame) picture && nat_lt (k % 4) 3 then made_at made first k else slice_index first k))
    → ((k : ℕ) → number * frame ≤ k → slice_index old k ≡ slice_index first k)
    → IsRecoloured made (number * frame) (number * frame + picture) old new
    → (k : ℕ) → k < length first → k < (number + 1) * frame
    → slice_index new k ≡ (if nat_lt (k % frame) picture && nat_lt (k % 4) 3 then made_at made first k else slice_index first k)
recoloured-more made picture frame number first old new within len done rest is k inside below =
    let start = number * frame in
    let next : (number + 1) * frame ≡ start + frame = grind arith in
    let now = is.each k (omega (arith, inside, len)) in
    elim (cases_lt k start) [
      | inl before ↦
          rw (lt-ltb k (start + picture) (omega (arith, before)), lt-leb start k before) at now ∙ done k before
      | inr from ↦
          let place : k % frame ≡ k - start = ap (λ n. n % frame) (omega (arith, from)) ∙ mod-mul-add number frame (k - start) (omega (arith, below, next)) in
          let top : slice_index old (k / 4 * 4 + 3) ≡ slice_index first (k / 4 * 4 + 3) = rest (k / 4 * 4 + 3) (omega (arith, from)) in
          let there : slice_index old k ≡ slice_index first k = rest k from in
          elim (cases_lt (k - start) picture) [
            | inl lt ↦ rw (place, lt-ltb _ _ lt) (rw (lt-ltb k (start + picture) (omega (arith, lt, from)), le-leb start k from, there, top) at now)
            | inr le ↦ rw (place, le-ltb _ _ le) (rw (le-ltb k (start + picture) (omega (arith, le, from))) at now ∙ there)
          ]
    ]
