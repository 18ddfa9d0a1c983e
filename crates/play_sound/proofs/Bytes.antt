-- The bytes of a sound, pair by pair.
use Rattle.std.proofs.Common.{◌≡◌, ℕ, zero, suc, ◌+◌, ◌*◌, ◌<◌, List, [], ◌∷◌, ◌++◌, length, take, drop, refl, sym, ap, ap₂, ◌∙◌, add-one, append_assoc, append-nil, arith, length-append}
use Rattle.std.specs.Prelude.{flat_map, ℤ, pos, negsuc}
use Rattle.std.specs.List.{range_with_len}
use borrow.Rule.Slice.PartMut.{put_mid}
use Rattle.std.proofs.lemmas.Grind.{flat_map-append}
use Rattle.std.proofs.lemmas.List.{take_at, drop_all, drop_at, drop-drop}
use Rattle.history_model.specs.scripts.Output.{sample_bytes}
use Rattle.play_scene.specs.Frames.{with_piece}
use Rattle.play_sound.specs.Sounds.{bytes_of_samples, pair_bytes}

-- one more number at the end of a range
range_more : (a n : ℕ) → range_with_len a (suc n) ≡ range_with_len a n ++ (a + n) ∷ []
range_more a zero = ap (λ (k : ℕ). k ∷ []) (omega arith)
range_more a (suc n) =
    ap (λ (l : List ℕ). a ∷ l) (range_more (a + 1) n ∙ ap (λ (k : ℕ). range_with_len (a + 1) n ++ k ∷ []) (omega arith))

-- one more pair
pub bytes-more : (sample : ℕ → ℕ → ℤ) (n : ℕ) → bytes_of_samples (n + 1) sample ≡ bytes_of_samples n sample ++ pair_bytes sample n
bytes-more sample n =
    ap (λ (k : ℕ). bytes_of_samples k sample) (add-one n)
    ∙ ap (flat_map (pair_bytes sample)) (range_more 0 n)
    ∙ flat_map-append (pair_bytes sample) (range_with_len 0 n) ((0 + n) ∷ [])
    ∙ ap (λ (l : List ℕ). bytes_of_samples n sample ++ l) (append-nil (pair_bytes sample (0 + n)))
    ∙ ap (λ (k : ℕ). bytes_of_samples n sample ++ pair_bytes sample k) (omega arith)

pub length-sample : (s : ℤ) → length (sample_bytes s) ≡ 2
length-sample (pos n) = refl
length-sample (negsuc n) = refl

pub length-pair : (sample : ℕ → ℕ → ℤ) (n : ℕ) → length (pair_bytes sample n) ≡ 4
length-pair sample n =
    let left = sample_bytes (sample n 0) in
    let right = sample_bytes (sample n 1) in
    let whole = length-append left (right ++ []) in
    let last = length-append right [] in
    omega (arith, whole, last, length-sample (sample n 0), length-sample (sample n 1))

pub length-bytes : (sample : ℕ → ℕ → ℤ) (n : ℕ) → length (bytes_of_samples n sample) ≡ 4 * n
length-bytes sample zero = refl
length-bytes sample (suc n) =
    let step = ap (λ (k : ℕ). length (bytes_of_samples k sample)) (sym (add-one n)) ∙ ap length (bytes-more sample n) in
    omega (arith, step, length-append (bytes_of_samples n sample) (pair_bytes sample n), length-bytes sample n, length-pair sample n)

-- a piece that is put behind what is done
put_behind : (done rest piece : List ℕ) (at : ℕ) → length done ≡ at →
    with_piece at piece (done ++ rest) ≡ (done ++ piece) ++ drop (length piece) rest
put_behind done rest piece at len =
    let dropped : drop (at + length piece) (done ++ rest) ≡ drop (length piece) rest =
    sym (drop-drop (length piece) at (done ++ rest)) ∙ ap (drop (length piece)) (drop_at done rest at len) in
    ap₂ (λ (xs ys : List ℕ). xs ++ (piece ++ ys)) (take_at done rest at len) dropped
    ∙ sym (append_assoc done piece (drop (length piece) rest))

-- the two samples of a pair that are put behind those of the pairs before it
pub pair_put : (sample : ℕ → ℕ → ℤ) (n : ℕ) (out : List ℕ) →
    with_piece (4 * n + 2) (sample_bytes (sample n 1)) (with_piece (4 * n) (sample_bytes (sample n 0)) (bytes_of_samples n sample ++ drop (4 * n) out))
    ≡ bytes_of_samples (n + 1) sample ++ drop (4 * (n + 1)) out
pair_put sample n out =
    let done = bytes_of_samples n sample in
    let left = sample_bytes (sample n 0) in
    let right = sample_bytes (sample n 1) in
    let rest = drop (4 * n) out in
    let len = length-bytes sample n in
    let both : length (done ++ left) ≡ 4 * n + 2 = omega (arith, length-append done left, len, length-sample (sample n 0)) in
    let lists : (done ++ left) ++ right ≡ bytes_of_samples (n + 1) sample =
    append_assoc done left right
    ∙ ap (λ (l : List ℕ). done ++ (left ++ l)) (sym (append-nil right))
    ∙ sym (bytes-more sample n) in
    let places : 4 * n + (length left + length right) ≡ 4 * (n + 1) = omega (arith, length-sample (sample n 0), length-sample (sample n 1)) in
    let drops : drop (length right) (drop (length left) rest) ≡ drop (4 * (n + 1)) out =
    drop-drop (length right) (length left) rest
    ∙ drop-drop (length left + length right) (4 * n) out
    ∙ ap (λ (k : ℕ). drop k out) places in
    ap (with_piece (4 * n + 2) right) (put_behind done rest left (4 * n) len)
    ∙ put_behind (done ++ left) (drop (length left) rest) right (4 * n + 2) both
    ∙ ap₂ (λ (xs ys : List ℕ). xs ++ ys) lists drops

-- all pairs, if no bytes are left
pub bytes-all : (sample : ℕ → ℕ → ℤ) (n : ℕ) (out : List ℕ) → length out ≡ 4 * n → bytes_of_samples n sample ++ drop (4 * n) out ≡ bytes_of_samples n sample
bytes-all sample n out whole =
    ap (λ (rest : List ℕ). bytes_of_samples n sample ++ rest) (drop_all (4 * n) out (omega (arith, whole)))
    ∙ append-nil (bytes_of_samples n sample)

-- equal samples have equal bytes
same_range : (f g : ℕ → ℕ → ℤ) (first count : ℕ) → ((pair side : ℕ) → pair < first + count → side < 2 → f pair side ≡ g pair side) →
    flat_map (pair_bytes f) (range_with_len first count) ≡ flat_map (pair_bytes g) (range_with_len first count)
same_range f g first zero same = refl
same_range f g first (suc count) same =
    ap₂ (λ (xs ys : List ℕ). xs ++ ys)
    (ap₂ (λ (a b : ℤ). flat_map sample_bytes (a ∷ b ∷ [])) (same first 0 (omega arith) (omega arith)) (same first 1 (omega arith) (omega arith)))
    (same_range f g (first + 1) count (λ pair side below small. same pair side (omega (arith, below)) small))

pub same_bytes_below : (f g : ℕ → ℕ → ℤ) (n : ℕ) → ((pair side : ℕ) → pair < n → side < 2 → f pair side ≡ g pair side) →
    bytes_of_samples n f ≡ bytes_of_samples n g
same_bytes_below f g n same = same_range f g 0 n (λ pair side below small. same pair side (omega (arith, below)) small)

pub same_bytes : (f g : ℕ → ℕ → ℤ) (n : ℕ) → ((pair side : ℕ) → side < 2 → f pair side ≡ g pair side) →
    bytes_of_samples n f ≡ bytes_of_samples n g
same_bytes f g n same = same_bytes_below f g n (λ pair side below small. same pair side small)

-- a part of the bytes that is written
pub put_part : (at count : ℕ) (bytes piece : List ℕ) → length piece ≡ count → put_mid at count bytes piece ≡ with_piece at piece bytes
put_part at count bytes piece long =
    ap (λ (l : List ℕ). take at bytes ++ (piece ++ l)) (drop-drop count at bytes ∙ ap (λ (n : ℕ). drop (at + n) bytes) (sym long))

-- a row of pairs behind those before it
pub row_behind : (sample : ℕ → ℕ → ℤ) (first count : ℕ) →
    bytes_of_samples first sample ++ bytes_of_samples count (λ pair side. sample (first + pair) side) ≡ bytes_of_samples (first + count) sample
row_behind sample first zero = append-nil (bytes_of_samples first sample) ∙ ap (λ (n : ℕ). bytes_of_samples n sample) (omega arith)
row_behind sample first (suc count) =
    let shifted : ℕ → ℕ → ℤ = λ pair side. sample (first + pair) side in
    let done = bytes_of_samples first sample in
    ap (λ (n : ℕ). done ++ bytes_of_samples n shifted) (sym (add-one count))
    ∙ ap (λ (l : List ℕ). done ++ l) (bytes-more shifted count)
    ∙ sym (append_assoc done (bytes_of_samples count shifted) (pair_bytes shifted count))
    ∙ ap (λ (l : List ℕ). l ++ pair_bytes sample (first + count)) (row_behind sample first count)
    ∙ sym (bytes-more sample (first + count))
    ∙ ap (λ (n : ℕ). bytes_of_samples n sample) (omega arith)

pub row_put : (sample : ℕ → ℕ → ℤ) (first count : ℕ) (out row : List ℕ) → row ≡ bytes_of_samples count (λ pair side. sample (first + pair) side) →
    with_piece (4 * first) row (bytes_of_samples first sample ++ drop (4 * first) out) ≡ bytes_of_samples (first + count) sample ++ drop (4 * (first + count)) out
row_put sample first count out row is =
    let shifted : ℕ → ℕ → ℤ = λ pair side. sample (first + pair) side in
    let done = bytes_of_samples first sample in
    let long : length row ≡ 4 * count = ap length is ∙ length-bytes shifted count in
    let places : 4 * first + length row ≡ 4 * (first + count) = omega (arith, long) in
    put_behind done (drop (4 * first) out) row (4 * first) (length-bytes sample first)
    ∙ ap₂ (λ (xs ys : List ℕ). xs ++ ys)
    (ap (λ (l : List ℕ). done ++ l) is ∙ row_behind sample first count)
    (drop-drop (length row) (4 * first) out ∙ ap (λ (k : ℕ). drop k out) places)
