-- The samples of a sound that was written are those that were written.
use Rattle.std.proofs.Common.{◌≡◌, ℕ, zero, suc, ◌+◌, ◌-◌, ◌*◌, ◌<◌, List, [], ◌++◌, slice_index, ap, ◌∙◌, arith, to_z, append-nil}
use Rattle.std.specs.Prelude.{flat_map, ℤ, pos, negsuc, ◌≤ℤ◌, FitsSigned}
use Rattle.std.specs.List.{range_with_len}
use Rattle.std.specs.Int.{w16, to_le_bytes}
use Rattle.std.proofs.lemmas.Int.{clamps, ints, to_z-of_z, to_z_pos}
use Rattle.std.proofs.lemmas.List.{get_or_append_left, get_or-append_right}
use Rattle.history_model.specs.pictures.Media.{sample_of_bytes}
use Rattle.history_model.specs.pictures.Sound.{held_to_sample}
use Rattle.history_model.specs.scripts.Output.{sample_bytes}
use Rattle.play_scene.specs.Frames.{FrameView}
use Rattle.play_sound.specs.Sounds.{HasSound, pair_bytes, sample_in}
use Rattle.play_sound.proofs.Bytes.{length-pair, length-sample}

-- a number from -32768 to 32767 is one of 16 bits
fits_between : (z : ℤ) → negsuc 32767 ≤ℤ z → z ≤ℤ pos 32767 → FitsSigned w16 z
fits_between (pos n) low high = record { sfits = omega (arith, ints) }
fits_between (negsuc n) low high = record { sfits = omega (arith, ints) }

pub held_fits : (sum : ℤ) → FitsSigned w16 (held_to_sample sum)
held_fits sum = fits_between (held_to_sample sum) (omega (arith, ints, clamps)) (omega (arith, ints, clamps))

-- the two bytes of a number of 16 bits
two_bytes : (n : ℕ) → n < 65536 → slice_index (to_le_bytes w16 n) 0 + 256 * slice_index (to_le_bytes w16 n) 1 ≡ n
two_bytes n small = omega arith

-- a sample of 16 bits by its bytes
sample_back : (s : ℤ) → FitsSigned w16 s → sample_of_bytes (sample_bytes s) 0 ≡ s
sample_back (pos n) fits =
    let small : n < 32768 = fits.sfits in
    ap (to_z w16) (two_bytes n (omega arith)) ∙ to_z_pos w16 n small
sample_back (negsuc n) fits =
    let small : n < 32768 = fits.sfits in
    let same : 65535 - n ≡ 65536 - suc n = omega arith in
    ap (to_z w16) (two_bytes (65535 - n) (omega arith) ∙ same) ∙ to_z-of_z w16 (negsuc n) fits

one_more : (k j : ℕ) → 4 * suc k + j ≡ 4 * k + j + 4
one_more k j = omega arith

-- a byte of a sound, by its pair and its place there
byte_of_pair : (sample : ℕ → ℕ → ℤ) (first count k j : ℕ) → k < count → j < 4 →
    slice_index (flat_map (pair_bytes sample) (range_with_len first count)) (4 * k + j) ≡ slice_index (pair_bytes sample (first + k)) j
byte_of_pair sample first zero k j h small = absurd (omega (arith, h))
byte_of_pair sample first (suc count) zero j h small =
    let rest = flat_map (pair_bytes sample) (range_with_len (first + 1) count) in
    let place : 4 * 0 + j ≡ j = omega arith in
    let same : first ≡ first + 0 = omega arith in
    ap (slice_index (pair_bytes sample first ++ rest)) place
    ∙ get_or_append_left (pair_bytes sample first) rest 0 j (omega (arith, length-pair sample first, small))
    ∙ ap (λ (n : ℕ). slice_index (pair_bytes sample n) j) same
byte_of_pair sample first (suc count) (suc k) j h small =
    let rest = flat_map (pair_bytes sample) (range_with_len (first + 1) count) in
    let step = one_more k j in
    let back : 4 * suc k + j - 4 ≡ 4 * k + j = omega (arith, step) in
    let same : first + 1 + k ≡ first + suc k = omega arith in
    get_or-append_right (pair_bytes sample first) rest 4 (4 * suc k + j) 0 (length-pair sample first) (omega (arith, step))
    ∙ ap (slice_index rest) back
    ∙ byte_of_pair sample (first + 1) count k j (omega (arith, h)) small
    ∙ ap (λ (n : ℕ). slice_index (pair_bytes sample n) j) same

-- the bytes of a side of a pair
left_byte : (sample : ℕ → ℕ → ℤ) (pair j : ℕ) → j < 2 → slice_index (pair_bytes sample pair) j ≡ slice_index (sample_bytes (sample pair 0)) j
left_byte sample pair j small =
    get_or_append_left (sample_bytes (sample pair 0)) (sample_bytes (sample pair 1) ++ []) 0 j (omega (arith, length-sample (sample pair 0), small))

right_byte : (sample : ℕ → ℕ → ℤ) (pair j : ℕ) → slice_index (pair_bytes sample pair) (2 + j) ≡ slice_index (sample_bytes (sample pair 1)) j
right_byte sample pair j =
    let back : 2 + j - 2 ≡ j = omega arith in
    get_or-append_right (sample_bytes (sample pair 0)) (sample_bytes (sample pair 1) ++ []) 2 (2 + j) 0 (length-sample (sample pair 0)) (omega arith)
    ∙ ap (slice_index (sample_bytes (sample pair 1) ++ [])) back
    ∙ ap (λ (bytes : List ℕ). slice_index bytes j) (append-nil (sample_bytes (sample pair 1)))

-- a byte of a frame's sound
byte_in : (frame : FrameView) (sample : ℕ → ℕ → ℤ) (pair j : ℕ) → HasSound frame sample → pair < frame.size.pairs → j < 4 →
    slice_index frame.sound (4 * pair + j) ≡ slice_index (pair_bytes sample pair) j
byte_in frame sample pair j has below small =
    let place : 0 + pair ≡ pair = omega arith in
    ap (λ (bytes : List ℕ). slice_index bytes (4 * pair + j)) has.sound
    ∙ byte_of_pair sample 0 frame.size.pairs pair j below small
    ∙ ap (λ (n : ℕ). slice_index (pair_bytes sample n) j) place

-- a frame with a sound has its samples
pub sample_in-sound : (frame : FrameView) (sample : ℕ → ℕ → ℤ) (pair side : ℕ) → HasSound frame sample →
    ((n k : ℕ) → FitsSigned w16 (sample n k)) → pair < frame.size.pairs → side < 2 → sample_in frame pair side ≡ sample pair side
sample_in-sound frame sample pair zero has fits below small =
    let low : 4 * pair + 2 * 0 ≡ 4 * pair + 0 = omega arith in
    let high : 4 * pair + 2 * 0 + 1 ≡ 4 * pair + 1 = omega arith in
    let first : slice_index frame.sound (4 * pair + 2 * 0) ≡ slice_index (sample_bytes (sample pair 0)) 0 =
    ap (slice_index frame.sound) low ∙ byte_in frame sample pair 0 has below (omega arith) ∙ left_byte sample pair 0 (omega arith) in
    let second : slice_index frame.sound (4 * pair + 2 * 0 + 1) ≡ slice_index (sample_bytes (sample pair 0)) 1 =
    ap (slice_index frame.sound) high ∙ byte_in frame sample pair 1 has below (omega arith) ∙ left_byte sample pair 1 (omega arith) in
    (λ i. to_z w16 (first i + 256 * second i)) ∙ sample_back (sample pair 0) (fits pair 0)
sample_in-sound frame sample pair (suc zero) has fits below small =
    let low : 4 * pair + 2 * 1 ≡ 4 * pair + 2 = omega arith in
    let high : 4 * pair + 2 * 1 + 1 ≡ 4 * pair + 3 = omega arith in
    let first : slice_index frame.sound (4 * pair + 2 * 1) ≡ slice_index (sample_bytes (sample pair 1)) 0 =
    ap (slice_index frame.sound) low ∙ byte_in frame sample pair 2 has below (omega arith) ∙ right_byte sample pair 0 in
    let second : slice_index frame.sound (4 * pair + 2 * 1 + 1) ≡ slice_index (sample_bytes (sample pair 1)) 1 =
    ap (slice_index frame.sound) high ∙ byte_in frame sample pair 3 has below (omega arith) ∙ right_byte sample pair 1 in
    (λ i. to_z w16 (first i + 256 * second i)) ∙ sample_back (sample pair 1) (fits pair 1)
sample_in-sound frame sample pair (suc (suc side)) has fits below small = absurd (omega (arith, small))
