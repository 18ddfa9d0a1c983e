-- Rows that are written byte by byte.
use Rattle.std.proofs.Common.{◌≡◌, ℕ, ◌+◌, ◌-◌, ◌*◌, ◌/◌, ◌%◌, ◌<◌, ◌≤◌, List, ◌++◌, length, map, get_or, refl, ap, subst, ◌∙◌, arith, inl, inr}
use Rattle.std.specs.List.{range_with_len}
use Rattle.std.specs.Simd.Lanes.{chunk, put_chunk}
use Rattle.std.proofs.lemmas.Bool.{cases_lt}
use Rattle.std.proofs.lemmas.List.FromFn.{get_or-map-range_with_len, length-map-range_with_len}
use Rattle.std.proofs.lemmas.Simd.{get_or-chunk, get_or-put_chunk_below, get_or-put_chunk_at, get_or-put_chunk_above, length-put_chunk}
use Rattle.pixel_math.specs.Pixel.{PixelView, pixel_bytes, pixel_of, scaled}
use Rattle.pixel_math.specs.Arithmetic.{over, over_byte, fade, fade_byte, key, mix, mix_byte}
use Rattle.pixel_math.proofs.Pixels.{same_pixel}
use Rattle.lane_blend.specs.Rows.{pixel_at, width_of, IsRow, AreLowered}
use Rattle.lane_blend.specs.inner.Lanes.{AreBelowAlpha, alpha_at, key_at, over_at, red_at}
use Rattle.lane_blend.proofs.Rows.{AreLowered-row, byte-le_alpha}
use Rattle.lane_blend.proofs.Bytes.{IsLowered-over, IsLowered-fade, IsLowered-key, IsLowered-mix}

-- the bytes below `at` are those of `byte`, and the others are as they were
pub record IsWrittenTo (byte : ℕ → ℕ) (old new : List ℕ) (at : ℕ) : Type 0 where
  pub len : length new ≡ length old
  pub within : at ≤ length old
  pub before : (k : ℕ) → k < at → get_or new k 0 ≡ byte k
  pub after : (k : ℕ) → at ≤ k → get_or new k 0 ≡ get_or old k 0

-- the bytes below `at` are written, sixteen at a time
pub record IsWrittenBy16 (byte : ℕ → ℕ) (old new : List ℕ) (at : ℕ) : Type 0 where
  pub written : IsWrittenTo byte old new at
  pub aligned : at % 16 ≡ 0

-- sixteen bytes more
pub lanes_more : (byte f : ℕ → ℕ) (old new lanes : List ℕ) (at : ℕ) → IsWrittenBy16 byte old new at → at + 16 ≤ length old
    → lanes ≡ map f (range_with_len 0 16) → ((j : ℕ) → j < 16 → f j ≡ byte (at + j)) → IsWrittenBy16 byte old (put_chunk at new lanes) (at + 16)
lanes_more byte f old new lanes at h room e each =
    let w = h.written in
    let long : length lanes ≡ 16 = ap length e ∙ length-map-range_with_len f 0 16 in
    let same_len = w.len in
    let fits : at + length lanes ≤ length new = omega arith in record {
      written = record {
        len = length-put_chunk at new lanes ∙ w.len;
        within = room;
        before = λ k lt. elim (cases_lt k at) [
          | inl below ↦ get_or-put_chunk_below at new lanes k 0 below ∙ w.before k below
          | inr from ↦ here k from lt fits long
        ];
        after = λ k ge. get_or-put_chunk_above at new lanes k 0 (omega arith) ∙ w.after k (omega arith);
      };
      aligned = (let a = h.aligned in omega arith);
    }
  where
    here : (k : ℕ) → at ≤ k → k < at + 16 → at + length lanes ≤ length new → length lanes ≡ 16 → get_or (put_chunk at new lanes) k 0 ≡ byte k
    here k from lt fits long =
        let j = k - at in
        let place : at + j ≡ k = omega arith in
        let low : j < 16 = omega arith in
        let got : get_or (put_chunk at new lanes) (at + j) 0 ≡ get_or lanes j 0 = get_or-put_chunk_at at new lanes j 0 (omega arith) fits in
        let lane : get_or lanes j 0 ≡ f j = ap (λ l. get_or l j 0) e ∙ get_or-map-range_with_len f 0 16 j j 0 low (omega arith) in
        subst (λ (i : ℕ). get_or (put_chunk at new lanes) i 0 ≡ byte i) place (got ∙ (lane ∙ each j low))

-- sixteen bytes from the one at `at` on have the alphas and reds of their pixels
alpha_in_chunk : (row : List ℕ) (at j : ℕ) → at % 16 ≡ 0 → j < 16 → alpha_at (chunk at 16 row) j ≡ alpha_at row (at + j)
alpha_in_chunk row at j aligned low =
    let place : at + (j / 4 * 4 + 3) ≡ (at + j) / 4 * 4 + 3 = omega arith in
    get_or-chunk at 16 row (j / 4 * 4 + 3) 0 (omega arith) ∙ ap (λ k. get_or row k 0) place

red_in_chunk : (row : List ℕ) (at j : ℕ) → at % 16 ≡ 0 → j < 16 → red_at (chunk at 16 row) j ≡ red_at row (at + j)
red_in_chunk row at j aligned low =
    let place : at + (j / 4 * 4 + 2) ≡ (at + j) / 4 * 4 + 2 = omega arith in
    get_or-chunk at 16 row (j / 4 * 4 + 2) 0 (omega arith) ∙ ap (λ k. get_or row k 0) place

-- none of them is above the alpha of its pixel
pub chunk_below_alpha : (row : List ℕ) (at : ℕ) → at % 16 ≡ 0 → AreLowered row → AreBelowAlpha (chunk at 16 row)
chunk_below_alpha row at aligned h j low =
    let here : get_or (chunk at 16 row) j 0 ≡ get_or row (at + j) 0 = get_or-chunk at 16 row j 0 low in
    let alpha : alpha_at (chunk at 16 row) j ≡ alpha_at row (at + j) = alpha_in_chunk row at j aligned low in
    omega (arith, byte-le_alpha row (at + j) h)

-- a lane is the byte of its place
pub over_lane : (src old new : List ℕ) (at j : ℕ) → IsWrittenBy16 (over_at src old) old new at → j < 16
    → over_at (chunk at 16 src) (chunk at 16 new) j ≡ over_at src old (at + j)
over_lane src old new at j h low =
    let s : get_or (chunk at 16 src) j 0 ≡ get_or src (at + j) 0 = get_or-chunk at 16 src j 0 low in
    let d : get_or (chunk at 16 new) j 0 ≡ get_or old (at + j) 0 = get_or-chunk at 16 new j 0 low ∙ h.written.after (at + j) (omega arith) in
    let a : alpha_at (chunk at 16 src) j ≡ alpha_at src (at + j) = alpha_in_chunk src at j h.aligned low in
    rw (s, d, a)

pub key_lane : (old keys new : List ℕ) (at j : ℕ) → IsWrittenBy16 (key_at old keys) old new at → j < 16
    → key_at (chunk at 16 new) (chunk at 16 keys) j ≡ key_at old keys (at + j)
key_lane old keys new at j h low =
    let d : get_or (chunk at 16 new) j 0 ≡ get_or old (at + j) 0 = get_or-chunk at 16 new j 0 low ∙ h.written.after (at + j) (omega arith) in
    let r : red_at (chunk at 16 keys) j ≡ red_at keys (at + j) = red_in_chunk keys at j h.aligned low in
    rw (d, r)

-- the byte at k of a row at an opacity
abbrev pub fade_at : List ℕ → ℕ → ℕ → ℕ
fade_at old opacity k = fade_byte (get_or old k 0) opacity

-- the byte at k of a mix of two rows
abbrev pub mix_at : List ℕ → List ℕ → ℕ → ℕ → ℕ → ℕ
mix_at old new j d k = mix_byte (get_or old k 0) (get_or new k 0) j d

-- the byte at k of a row of one pixel
abbrev pub filled_at : PixelView → ℕ → ℕ
filled_at p k = get_or (pixel_bytes p) (k % 4) 0

-- the bytes of four such pixels
abbrev pub four_pixels : PixelView → List ℕ
four_pixels p = pixel_bytes p ++ (pixel_bytes p ++ (pixel_bytes p ++ pixel_bytes p))

-- a row that is written to its end has the pixels of its bytes
row_written : (byte : ℕ → ℕ) (old new : List ℕ) (at : ℕ) → IsWrittenTo byte old new at → length old ≤ at → length old % 4 ≡ 0
    → IsRow (width_of old) (λ i. pixel_of (byte (4 * i)) (byte (4 * i + 1)) (byte (4 * i + 2)) (byte (4 * i + 3))) new
row_written byte old new at h end whole = record {
  len = (let len = h.len in omega arith);
  pixels = λ i lt.
      same_pixel _ _
      (h.before (4 * i) (omega arith))
      (h.before (4 * i + 1) (omega arith))
      (h.before (4 * i + 2) (omega arith))
      (h.before (4 * i + 3) (omega arith));
}

-- a row that is written to its end, by what the four bytes of each pixel are together
row_of_pixels : (byte : ℕ → ℕ) (pixel : ℕ → PixelView) (old new : List ℕ) (at : ℕ) → IsWrittenTo byte old new at → length old ≤ at → length old % 4 ≡ 0
    → ((i : ℕ) → pixel_of (byte (4 * i)) (byte (4 * i + 1)) (byte (4 * i + 2)) (byte (4 * i + 3)) ≡ pixel i)
    → IsRow (width_of old) pixel new
row_of_pixels byte pixel old new at h end whole e =
    let w = row_written byte old new at h end whole in record { len = w.len; pixels = λ i lt. w.pixels i lt ∙ e i }

-- a row over another, a row keyed by another, a row at an opacity, and a mix of rows
pub row_over : (src old new : List ℕ) (at : ℕ) → IsWrittenTo (over_at src old) old new at → length old ≤ at → length old % 4 ≡ 0
    → IsRow (width_of old) (λ i. over (pixel_at src i) (pixel_at old i)) new
row_over src old new at h end whole =
    row_of_pixels (over_at src old) (λ i. over (pixel_at src i) (pixel_at old i)) old new at h end whole (λ i. same_pixel _ _ (byte i (4 * i) (omega arith)) (byte i (4 * i + 1) (omega arith)) (byte i (4 * i + 2) (omega arith)) (byte i (4 * i + 3) (omega arith)))
  where
    byte : (i k : ℕ) → k / 4 ≡ i → over_at src old k ≡ over_byte (get_or src k 0) (get_or old k 0) (get_or src (4 * i + 3) 0)
    byte i k e =
        let place : k / 4 * 4 + 3 ≡ 4 * i + 3 = omega arith in
        ap (λ (a : ℕ). over_byte (get_or src k 0) (get_or old k 0) (get_or src a 0)) place

pub row_key : (old keys new : List ℕ) (at : ℕ) → IsWrittenTo (key_at old keys) old new at → length old ≤ at → length old % 4 ≡ 0
    → IsRow (width_of old) (λ i. key (pixel_at old i) (pixel_at keys i).r) new
row_key old keys new at h end whole =
    row_of_pixels (key_at old keys) (λ i. key (pixel_at old i) (pixel_at keys i).r) old new at h end whole (λ i. same_pixel _ _ (byte i (4 * i) (omega arith)) (byte i (4 * i + 1) (omega arith)) (byte i (4 * i + 2) (omega arith)) (byte i (4 * i + 3) (omega arith)))
  where
    byte : (i k : ℕ) → k / 4 ≡ i → key_at old keys k ≡ scaled (get_or old k 0) (get_or keys (4 * i + 2) 0)
    byte i k e =
        let place : k / 4 * 4 + 2 ≡ 4 * i + 2 = omega arith in
        ap (λ (a : ℕ). scaled (get_or old k 0) (get_or keys a 0)) place

pub row_fade : (old new : List ℕ) (opacity at : ℕ) → IsWrittenTo (fade_at old opacity) old new at → length old ≤ at → length old % 4 ≡ 0
    → IsRow (width_of old) (λ i. fade (pixel_at old i) opacity) new
row_fade old new opacity at h end whole =
    row_of_pixels (fade_at old opacity) (λ i. fade (pixel_at old i) opacity) old new at h end whole (λ i. refl)

pub row_mix : (old below new : List ℕ) (j d at : ℕ) → IsWrittenTo (mix_at old below j d) old new at → length old ≤ at → length old % 4 ≡ 0
    → IsRow (width_of old) (λ i. mix (pixel_at old i) (pixel_at below i) j d) new
row_mix old below new j d at h end whole =
    row_of_pixels (mix_at old below j d) (λ i. mix (pixel_at old i) (pixel_at below i) j d) old new at h end whole (λ i. refl)

pub row_fill : (p : PixelView) (old new : List ℕ) (at : ℕ) → IsWrittenTo (filled_at p) old new at → length old ≤ at → length old % 4 ≡ 0
    → IsRow (width_of old) (λ i. p) new
row_fill p old new at h end whole =
    row_of_pixels (filled_at p) (λ i. p) old new at h end whole (λ i. same_pixel _ _ (byte (4 * i) 0 (omega arith)) (byte (4 * i + 1) 1 (omega arith)) (byte (4 * i + 2) 2 (omega arith)) (byte (4 * i + 3) 3 (omega arith)))
  where
    byte : (k c : ℕ) → k % 4 ≡ c → filled_at p k ≡ get_or (pixel_bytes p) c 0
    byte k c e = ap (λ (n : ℕ). get_or (pixel_bytes p) n 0) e

-- none of them has a colour byte above its alpha
pub lowered_over : (src old new : List ℕ) → IsRow (width_of old) (λ i. over (pixel_at src i) (pixel_at old i)) new → AreLowered src → AreLowered old → AreLowered new
lowered_over src old new h upper lower = AreLowered-row _ _ new h (λ i lt. IsLowered-over _ _ (upper i) (lower i))

pub lowered_key : (old keys new : List ℕ) → IsRow (width_of old) (λ i. key (pixel_at old i) (pixel_at keys i).r) new → AreLowered old → AreLowered new
lowered_key old keys new h lower = AreLowered-row _ _ new h (λ i lt. IsLowered-key _ _ (lower i))

pub lowered_fade : (old new : List ℕ) (opacity : ℕ) → IsRow (width_of old) (λ i. fade (pixel_at old i) opacity) new → AreLowered old → AreLowered new
lowered_fade old new opacity h lower = AreLowered-row _ _ new h (λ i lt. IsLowered-fade _ opacity (lower i))

pub lowered_mix : (old below new : List ℕ) (j d : ℕ) → j < d → IsRow (width_of old) (λ i. mix (pixel_at old i) (pixel_at below i) j d) new → AreLowered old → AreLowered below
    → AreLowered new
lowered_mix old below new j d lt h before after = AreLowered-row _ _ new h (λ i l. IsLowered-mix _ _ j d lt (before i) (after i))
