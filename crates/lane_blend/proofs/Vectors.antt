-- The steps on sixteen bytes, lane by lane.
use Rattle.std.proofs.Common.{◌≡◌, ℕ, ◌+◌, ◌-◌, ◌*◌, ◌/◌, ◌%◌, ◌<◌, ◌≤◌, List, [], ◌∷◌, ◌++◌, length, map, get_or, refl, ap, ap₂, sym, subst, ◌∙◌, arith, Fits, w8, w16, w32, zero, suc, mul-le-mul_right}
use Rattle.std.specs.Prelude.{replicate}
use Rattle.std.specs.List.{range_with_len}
use Rattle.std.specs.Simd.Lanes.{zip2, Each1, Each2, pick_l, number_l, digits_l}
use Rattle.std.proofs.Math.Nat.{mul-le-mul}
use Rattle.std.proofs.Math.ListN.{get_or-append}
use Rattle.std.proofs.lemmas.List.{get_or-append_right}
use Rattle.std.proofs.lemmas.Simd.{Each1-all, Each1-weaker, Each1-zip2, Each2-of, Each2-splat, zip2_of_maps, pick_l_whole}
use Rattle.pixel_math.specs.Pixel.{scaled}
use Rattle.lane_blend.specs.inner.Lanes.{AreBelowAlpha, AreBytes, alpha_at, key_at, over_at, scaled_at}

abbrev pub same : ℕ → ℕ
same x = x

-- lanes that are made wider or narrower
map_same : (row : List ℕ) → map same row ≡ row
map_same [] = refl
map_same (x ∷ row) = ap (λ k. x ∷ k) (map_same row)

-- the steps of a multiplication by 255ths
abbrev pub products : List ℕ → List ℕ → List ℕ
products values by = zip2 (λ x y. x * y) values by

abbrev pub rounded : ℕ → List ℕ → List ℕ → List ℕ
rounded n values by = zip2 (λ x y. x + y) (products values by) (replicate n 128)

abbrev pub shares : ℕ → List ℕ → List ℕ → List ℕ
shares n values by = zip2 (λ x y. x * y) (map same (rounded n values by)) (replicate n 257)

abbrev pub quotients : ℕ → List ℕ → List ℕ → List ℕ
quotients n values by = zip2 (λ x y. x / y) (shares n values by) (replicate n 65536)

byte_product : (x y : ℕ) → x ≤ 255 → y ≤ 255 → x * y ≤ 65025
byte_product x y a b = grind (arith, mul-le-mul)

-- a 255th of a product, rounded, by a multiplication and a division by a power of two
share_is : (p : ℕ) → p ≤ 65025 → (p + 128) * 257 / 65536 ≡ (p + 127) / 255
share_is p low = omega (arith, low)

-- they give the scaled bytes
pub scaled_is : (n : ℕ) (values by : List ℕ) → length values ≡ n → length by ≡ n → AreBytes values → AreBytes by →
    map same (quotients n values by) ≡ zip2 scaled values by
scaled_is n [] by l m v b = refl
scaled_is n (x ∷ values) [] l m v b = absurd (omega arith)
scaled_is zero (x ∷ values) (y ∷ by) l m v b = absurd (omega arith)
scaled_is (suc n) (x ∷ values) (y ∷ by) l m v b =
    ap₂ (λ (k : ℕ) (rest : List ℕ). k ∷ rest) (share_is (x * y) (byte_product x y v.0 b.0)) (scaled_is n values by (omega arith) (omega arith) v.1 b.1)

-- the bytes of a vector
pub are_bytes : (row : List ℕ) → Each1 (Fits w8) row → AreBytes row
are_bytes row h = Each1-weaker (Fits w8) (λ (x : ℕ). x ≤ 255) (λ x p. omega arith) row h

module _ (values by : List ℕ) (v : AreBytes values) (b : AreBytes by) where
  pub product_fits : Each2 (λ x y. Fits w16 (x * y)) values by
  product_fits =
      Each2-of (λ (x : ℕ). x ≤ 255) (λ (x : ℕ). x ≤ 255) (λ x y. Fits w16 (x * y)) (λ x y p q. let low = byte_product x y p q in record { fits = omega arith }) values by v b

  products_low : Each1 (λ p. p ≤ 65025) (products values by)
  products_low =
      Each1-zip2 (λ (x y : ℕ). x * y) (λ p. p ≤ 65025) values by (Each2-of (λ (x : ℕ). x ≤ 255) (λ (x : ℕ). x ≤ 255) (λ x y. x * y ≤ 65025) byte_product values by v b)

  pub rounded_fits : Each2 (λ x y. Fits w16 (x + y)) (products values by) (replicate 8 128)
  rounded_fits =
      Each2-splat (λ (x y : ℕ). Fits w16 (x + y)) (products values by) 8 128
      (Each1-weaker (λ (p : ℕ). p ≤ 65025) (λ p. Fits w16 (p + 128)) (λ p low. record { fits = omega arith }) (products values by) products_low)

  rounded_low : Each1 (λ p. p ≤ 65153) (map same (rounded 8 values by))
  rounded_low =
      subst (Each1 (λ p. p ≤ 65153)) (sym (map_same (rounded 8 values by)))
      (Each1-zip2 (λ (x y : ℕ). x + y) (λ p. p ≤ 65153) (products values by) (replicate 8 128)
      (Each2-splat (λ (x y : ℕ). x + y ≤ 65153) (products values by) 8 128
      (Each1-weaker (λ (p : ℕ). p ≤ 65025) (λ p. p + 128 ≤ 65153) (λ p low. omega arith) (products values by) products_low)))

  pub rounded_wide : Each1 (Fits w32) (rounded 8 values by)
  rounded_wide =
      Each1-weaker (λ (p : ℕ). p ≤ 65153) (Fits w32) (λ p low. record { fits = omega arith }) (rounded 8 values by)
      (subst (Each1 (λ p. p ≤ 65153)) (map_same (rounded 8 values by)) rounded_low)

  pub shares_fit : Each2 (λ x y. Fits w32 (x * y)) (map same (rounded 8 values by)) (replicate 8 257)
  shares_fit =
      Each2-splat (λ (x y : ℕ). Fits w32 (x * y)) (map same (rounded 8 values by)) 8 257
      (Each1-weaker (λ (p : ℕ). p ≤ 65153) (λ p. Fits w32 (p * 257)) (λ p low. record { fits = omega arith }) (map same (rounded 8 values by)) rounded_low)

  pub divides : Each2 (λ (x y : ℕ). 0 < y) (shares 8 values by) (replicate 8 65536)
  divides = Each2-splat (λ (x y : ℕ). 0 < y) (shares 8 values by) 8 65536 (Each1-all (λ (x : ℕ). 0 < 65536) (λ x. omega arith) (shares 8 values by))

  shares_low : Each1 (λ p. p ≤ 16744321) (shares 8 values by)
  shares_low =
      Each1-zip2 (λ (x y : ℕ). x * y) (λ p. p ≤ 16744321) (map same (rounded 8 values by)) (replicate 8 257)
      (Each2-splat (λ (x y : ℕ). x * y ≤ 16744321) (map same (rounded 8 values by)) 8 257
      (Each1-weaker (λ (p : ℕ). p ≤ 65153) (λ p. p * 257 ≤ 16744321) (λ p low. omega arith) (map same (rounded 8 values by)) rounded_low))

  pub quotient_fits : Each1 (Fits w16) (quotients 8 values by)
  quotient_fits =
      Each1-zip2 (λ (x y : ℕ). x / y) (Fits w16) (shares 8 values by) (replicate 8 65536)
      (Each2-splat (λ (x y : ℕ). Fits w16 (x / y)) (shares 8 values by) 8 65536
      (Each1-weaker (λ (p : ℕ). p ≤ 16744321) (λ p. Fits w16 (p / 65536)) (λ p low. record { fits = omega arith }) (shares 8 values by) shares_low))

  -- and each of them is a byte
  scaled_bytes : AreBytes (zip2 scaled values by)
  scaled_bytes =
      Each1-zip2 scaled (λ (x : ℕ). x ≤ 255) values by
      (Each2-of (λ (x : ℕ). x ≤ 255) (λ (x : ℕ). x ≤ 255) (λ x y. scaled x y ≤ 255) (λ x y p q. let low = byte_product x y p q in omega (arith, low)) values by v b)

-- ---- by place

abbrev pub places : List ℕ
places = range_with_len 0 16

abbrev pub byte_at : List ℕ → ℕ → ℕ
byte_at row k = get_or row k 0

-- the lanes of a vector
row_is : (row : List ℕ) → length row ≡ 16 → row ≡ map (byte_at row) places
row_is row len = sym (pick_l_whole 0 row 16 len)

pairs_are : (by : List ℕ) → length by ≡ 8 → by ≡ map (byte_at by) (range_with_len 0 8)
pairs_are by len = sym (pick_l_whole 0 by 8 len)

byte_low : (row : List ℕ) → AreBytes row → (k : ℕ) → byte_at row k ≤ 255
byte_low [] h k = omega arith
byte_low (x ∷ row) h zero = h.0
byte_low (x ∷ row) h (suc k) = byte_low row h.1 k

each1_range : (P : ℕ → Type 0) (g : ℕ → ℕ) (a n : ℕ) → ((k : ℕ) → P (g k)) → Each1 P (map g (range_with_len a n))
each1_range P g a zero f = tt
each1_range P g a (suc n) f = (f a, each1_range P g (a + 1) n f)

each2_range : (R : ℕ → ℕ → Type 0) (g h : ℕ → ℕ) (a n : ℕ) → ((k : ℕ) → a ≤ k → k < a + n → R (g k) (h k)) → Each2 R (map g (range_with_len a n)) (map h (range_with_len a n))
each2_range R g h a zero f = tt
each2_range R g h a (suc n) f = (f a (omega arith) (omega arith), each2_range R g h (a + 1) n (λ k le lt. f k (omega arith) (omega arith)))

-- ---- two bytes in a lane

-- these places, each with that of a zero after it
abbrev pub with_zeros : List ℕ → List ℕ
with_zeros [] = []
with_zeros (j ∷ places) = j ∷ 16 ∷ with_zeros places

-- lanes of a byte and a zero
abbrev pub widened : List ℕ → List ℕ → List ℕ
widened row places = digits_l 65536 (length places) (number_l 256 (pick_l 0 (row ++ replicate 16 0) (with_zeros places)))

one_wide : (x n : ℕ) (rest : List ℕ) → x ≤ 255 → digits_l 65536 (suc n) (number_l 256 (x ∷ 0 ∷ rest)) ≡ x ∷ digits_l 65536 n (number_l 256 rest)
one_wide x n rest low =
    let r = number_l 256 rest in
    let here : (x + 256 * (0 + 256 * r)) % 65536 ≡ x = omega (arith, low) in
    let there : (x + 256 * (0 + 256 * r)) / 65536 ≡ r = omega (arith, low) in
    ap₂ (λ (d v : ℕ). d ∷ digits_l 65536 n v) here there

-- are the bytes
pub widened_is : (row : List ℕ) → length row ≡ 16 → AreBytes row → (places : List ℕ) → Each1 (λ (j : ℕ). j < 16) places →
    widened row places ≡ map (byte_at row) places
widened_is row len fits [] h = refl
widened_is row len fits (j ∷ places) h =
    let n = length places in
    let rest = pick_l 0 (row ++ replicate 16 0) (with_zeros places) in
    let here : get_or (row ++ replicate 16 0) j 0 ≡ byte_at row j = get_or-append row (replicate 16 0) 0 j (omega (arith, len, h.0)) in
    let zero_after : get_or (row ++ replicate 16 0) 16 0 ≡ 0 = get_or-append_right row (replicate 16 0) 16 16 0 len (omega arith) in
    ap₂ (λ (x y : ℕ). digits_l 65536 (suc n) (number_l 256 (x ∷ y ∷ rest))) here zero_after
    ∙ one_wide (byte_at row j) n rest (byte_low row fits j)
    ∙ ap (λ (l : List ℕ). byte_at row j ∷ l) (widened_is row len fits places h.1)

each_picked : (row : List ℕ) → AreBytes row → (places : List ℕ) → AreBytes (map (byte_at row) places)
each_picked row fits [] = tt
each_picked row fits (j ∷ places) = (byte_low row fits j, each_picked row fits places)

pub widened_bytes : (row : List ℕ) → length row ≡ 16 → AreBytes row → (places : List ℕ) → Each1 (λ (j : ℕ). j < 16) places → AreBytes (widened row places)
widened_bytes row len fits places h = subst AreBytes (sym (widened_is row len fits places h)) (each_picked row fits places)

abbrev twice : ℕ → ℕ
twice zero = zero
twice (suc n) = suc (suc (twice n))

two_narrow : (e o n : ℕ) (rest : List ℕ) → e ≤ 255 → o ≤ 255 →
    digits_l 256 (suc (suc n)) (number_l 65536 ((e + o * 256) ∷ rest)) ≡ e ∷ o ∷ digits_l 256 n (number_l 65536 rest)
two_narrow e o n rest low high =
    let r = number_l 65536 rest in
    let whole = (e + o * 256) + 65536 * r in
    let one : whole % 256 ≡ e = omega (arith, low, high) in
    let left : whole / 256 ≡ o + 256 * r = omega (arith, low, high) in
    let two : (o + 256 * r) % 256 ≡ o = omega (arith, high) in
    let last : (o + 256 * r) / 256 ≡ r = omega (arith, high) in
    ap₂ (λ (d v : ℕ). d ∷ v % 256 ∷ digits_l 256 n (v / 256)) one left ∙ ap₂ (λ (d v : ℕ). e ∷ d ∷ digits_l 256 n v) two last

-- lanes of two bytes, as bytes again
narrowed : (f : ℕ → ℕ) → ((k : ℕ) → f k ≤ 255) → (a m : ℕ) →
    digits_l 256 (twice m) (number_l 65536 (map (λ j. f (2 * j) + f (2 * j + 1) * 256) (range_with_len a m))) ≡ map f (range_with_len (2 * a) (twice m))
narrowed f low a zero = refl
narrowed f low a (suc m) =
    let next : 2 * (a + 1) ≡ 2 * a + 1 + 1 = omega arith in
    two_narrow (f (2 * a)) (f (2 * a + 1)) (twice m) (map (λ j. f (2 * j) + f (2 * j + 1) * 256) (range_with_len (a + 1) m)) (low (2 * a)) (low (2 * a + 1))
    ∙ ap (λ (l : List ℕ). f (2 * a) ∷ f (2 * a + 1) ∷ l)
    (narrowed f low (a + 1) m ∙ ap (λ (b : ℕ). map f (range_with_len b (twice m))) next)

abbrev pub even_places : List ℕ
even_places = 0 ∷ 2 ∷ 4 ∷ 6 ∷ 8 ∷ 10 ∷ 12 ∷ 14 ∷ []

abbrev pub odd_places : List ℕ
odd_places = 1 ∷ 3 ∷ 5 ∷ 7 ∷ 9 ∷ 11 ∷ 13 ∷ 15 ∷ []

abbrev pub alpha_places : List ℕ
alpha_places = 3 ∷ 3 ∷ 7 ∷ 7 ∷ 11 ∷ 11 ∷ 15 ∷ 15 ∷ []

abbrev pub red_places : List ℕ
red_places = 2 ∷ 2 ∷ 6 ∷ 6 ∷ 10 ∷ 10 ∷ 14 ∷ 14 ∷ []

abbrev AreLow : List ℕ → Type 0
AreLow = Each1 (λ (j : ℕ). j < 16)

even_low : AreLow even_places
even_low = (omega arith, (omega arith, (omega arith, (omega arith, (omega arith, (omega arith, (omega arith, (omega arith, tt))))))))

odd_low : AreLow odd_places
odd_low = (omega arith, (omega arith, (omega arith, (omega arith, (omega arith, (omega arith, (omega arith, (omega arith, tt))))))))

alpha_low : AreLow alpha_places
alpha_low = (omega arith, (omega arith, (omega arith, (omega arith, (omega arith, (omega arith, (omega arith, (omega arith, tt))))))))

red_low : AreLow red_places
red_low = (omega arith, (omega arith, (omega arith, (omega arith, (omega arith, (omega arith, (omega arith, (omega arith, tt))))))))

scaled-le_by : (v by : ℕ) → v ≤ 255 → scaled v by ≤ by
scaled-le_by v by low = let p : v * by ≤ 255 * by = mul-le-mul_right by low in omega arith

-- ---- bytes by the 255ths of each two

module _ (values by : List ℕ) (l : length values ≡ 16) (m : length by ≡ 8) (v : AreBytes values) (b : AreBytes by) where
  pub evens_bytes : AreBytes (widened values even_places)
  evens_bytes = widened_bytes values l v even_places even_low

  pub odds_bytes : AreBytes (widened values odd_places)
  odds_bytes = widened_bytes values l v odd_places odd_low

  scaled_low : (k : ℕ) → scaled_at values by k ≤ 255
  scaled_low k =
      let le = scaled-le_by (byte_at values k) (byte_at by (k / 2)) (byte_low values v k) in
      omega (arith, le, byte_low by b (k / 2))

  abbrev even_at : ℕ → ℕ
  even_at j = scaled_at values by (2 * j)

  abbrev odd_at : ℕ → ℕ
  odd_at j = scaled_at values by (2 * j + 1)

  firsts_are : (first : List ℕ) → first ≡ zip2 scaled (widened values even_places) by → first ≡ map even_at (range_with_len 0 8)
  firsts_are first is = is ∙ ap₂ (zip2 scaled) (widened_is values l v even_places even_low) (pairs_are by m)

  seconds_are : (second : List ℕ) → second ≡ zip2 scaled (widened values odd_places) by → second ≡ map odd_at (range_with_len 0 8)
  seconds_are second is = is ∙ ap₂ (zip2 scaled) (widened_is values l v odd_places odd_low) (pairs_are by m)

  module _ (first second : List ℕ) (f : first ≡ zip2 scaled (widened values even_places) by) (s : second ≡ zip2 scaled (widened values odd_places) by) where
    pub high_fits : Each2 (λ x y. Fits w16 (x * y)) second (replicate 8 256)
    high_fits =
        subst (λ (l : List ℕ). Each2 (λ x y. Fits w16 (x * y)) l (replicate 8 256)) (sym (seconds_are second s))
        (Each2-splat (λ (x y : ℕ). Fits w16 (x * y)) (map odd_at (range_with_len 0 8)) 8 256
        (each1_range (λ x. Fits w16 (x * 256)) odd_at 0 8 (λ k. let low = scaled_low (2 * k + 1) in record { fits = omega (arith, low) })))

    pub both_fit : Each2 (λ x y. Fits w16 (x + y)) first (zip2 (λ x y. x * y) second (replicate 8 256))
    both_fit =
        subst (λ (l : List ℕ). Each2 (λ x y. Fits w16 (x + y)) l (zip2 (λ x y. x * y) second (replicate 8 256))) (sym (firsts_are first f))
        (subst (λ (l : List ℕ). Each2 (λ x y. Fits w16 (x + y)) (map even_at (range_with_len 0 8)) (zip2 (λ x y. x * y) l (replicate 8 256))) (sym (seconds_are second s))
        (each2_range (λ x y. Fits w16 (x + y)) even_at (λ k. odd_at k * 256) 0 8
        (λ k le lt. let low = scaled_low (2 * k) in let high = scaled_low (2 * k + 1) in record { fits = omega (arith, low, high) })))

    pub pairs_scaled :
        digits_l 256 16 (number_l 65536 (zip2 (λ x y. x + y) first (zip2 (λ x y. x * y) second (replicate 8 256)))) ≡ map (scaled_at values by) places
    pairs_scaled =
        ap₂ (λ (l n : List ℕ). digits_l 256 16 (number_l 65536 (zip2 (λ x y. x + y) l (zip2 (λ x y. x * y) n (replicate 8 256))))) (firsts_are first f) (seconds_are second s)
        ∙ narrowed (scaled_at values by) scaled_low 0 8

-- ---- keyed, and laid over

pub reds_bytes : (keys : List ℕ) → length keys ≡ 16 → AreBytes keys → AreBytes (widened keys red_places)
reds_bytes keys len fits = widened_bytes keys len fits red_places red_low

-- the keyed lanes
pub keyed_is : (row keys : List ℕ) → length keys ≡ 16 → AreBytes keys → map (scaled_at row (widened keys red_places)) places ≡ map (key_at row keys) places
keyed_is row keys len fits = ap (λ (l : List ℕ). map (scaled_at row l) places) (widened_is keys len fits red_places red_low)

-- what each alpha leaves free
abbrev pub rests : List ℕ → List ℕ
rests src = zip2 (λ x y. x - y) (replicate 8 255) (widened src alpha_places)

module _ (src dst : List ℕ) (ls : length src ≡ 16) (ld : length dst ≡ 16) (s : AreBytes src) (d : AreBytes dst) where
  alphas_are : widened src alpha_places ≡ map (byte_at src) alpha_places
  alphas_are = widened_is src ls s alpha_places alpha_low

  pub rests_fit : Each2 (λ x y. y ≤ x) (replicate 8 255) (widened src alpha_places)
  rests_fit = subst (Each2 (λ (x y : ℕ). y ≤ x) (replicate 8 255)) (sym alphas_are) (each_picked src s alpha_places)

  pub rests_bytes : AreBytes (rests src)
  rests_bytes =
      subst (λ (l : List ℕ). AreBytes (zip2 (λ x y. x - y) (replicate 8 255) l)) (sym alphas_are)
      (each1_range (λ (x : ℕ). x ≤ 255) (λ j. 255 - byte_at src (j / 2 * 4 + 3)) 0 8 (λ k. omega arith))

  belows_are : (below : List ℕ) → below ≡ map (scaled_at dst (rests src)) places → below ≡ map (λ k. scaled (byte_at dst k) (255 - alpha_at src k)) places
  belows_are below is =
      is ∙ ap (λ (l : List ℕ). map (scaled_at dst (zip2 (λ x y. x - y) (replicate 8 255) l)) places) alphas_are

  module _ (below : List ℕ) (is : below ≡ map (scaled_at dst (rests src)) places) where
    -- the lanes of one vector over another
    pub over_is : zip2 (λ x y. x + y) src below ≡ map (over_at src dst) places
    over_is = zip2_of_maps (λ (x y : ℕ). x + y) (byte_at src) (λ k. scaled (byte_at dst k) (255 - alpha_at src k)) places (row_is src ls) (belows_are below is)

    module _ (low : AreBelowAlpha src) where
      over_fits : (k : ℕ) → k < 16 → Fits w8 (byte_at src k + scaled (byte_at dst k) (255 - alpha_at src k))
      over_fits k lt =
          let a : alpha_at src k ≤ 255 = byte_low src s (k / 4 * 4 + 3) in
          let b : scaled (byte_at dst k) (255 - alpha_at src k) ≤ 255 - alpha_at src k = scaled-le_by (byte_at dst k) (255 - alpha_at src k) (byte_low dst d k) in
          let c : byte_at src k ≤ alpha_at src k = low k lt in
          let whole : byte_at src k + scaled (byte_at dst k) (255 - alpha_at src k) ≤ 255 = sum_low _ _ _ a b c in
          record { fits = omega arith }
        where
          sum_low : (x y a : ℕ) → a ≤ 255 → y ≤ 255 - a → x ≤ a → x + y ≤ 255
          sum_low x y a p q r = omega arith

      pub sum_fits : Each2 (λ x y. Fits w8 (x + y)) src below
      sum_fits =
          subst (λ (l : List ℕ). Each2 (λ x y. Fits w8 (x + y)) l below) (sym (row_is src ls))
          (subst (λ (l : List ℕ). Each2 (λ x y. Fits w8 (x + y)) (map (byte_at src) places) l) (sym (belows_are below is))
          (each2_range (λ x y. Fits w8 (x + y)) (byte_at src) (λ k. scaled (byte_at dst k) (255 - alpha_at src k)) 0 16 (λ k le lt. over_fits k (omega arith))))
