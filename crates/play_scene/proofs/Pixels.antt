-- Pixels in parts.
use Rattle.std.proofs.Common.{◌≡◌, ℕ, ◌+◌, ◌-◌, ◌*◌, ◌/◌, ◌%◌, ◌<◌, ◌≤◌, List, ◌++◌, length, take, drop, slice_index, refl, sym, ap, ◌∙◌, ⊎_elim, length-append, length-drop, length-take-le, arith}
use Rattle.std.proofs.lemmas.Bool.{cases_lt}
use Rattle.std.proofs.lemmas.List.{get_or_append_left, get_or-append_right, get_or-take, get_or-drop, get_or_past}
use Rattle.clip_format.specs.Preparing.{IsLoweredAt}
use Rattle.play_scene.specs.Frames.{ArePixels}

-- a pixel each byte of which is in other bytes too
pub lowered_alike : (xs ys : List ℕ) (i j : ℕ) → ((k : ℕ) → k < 4 → slice_index ys (j + k) ≡ slice_index xs (i + k)) → IsLoweredAt xs i → IsLoweredAt ys j
lowered_alike xs ys i j same h =
    let here : j + 0 ≡ j = omega arith in
    let there : i + 0 ≡ i = omega arith in
    let blue : slice_index ys j ≡ slice_index xs i = ap (slice_index ys) (sym here) ∙ same 0 (omega arith) ∙ ap (slice_index xs) there in
    let alpha = same 3 (omega arith) in
    record {
      blue = omega (arith, blue, alpha, h.blue);
      green = omega (arith, same 1 (omega arith), alpha, h.green);
      red = omega (arith, same 2 (omega arith), alpha, h.red);
    }

-- beyond the bytes there is no colour
lowered_past : (xs : List ℕ) (i : ℕ) → length xs ≤ i → IsLoweredAt xs i
lowered_past xs i past =
    let b = get_or_past xs i 0 past in
    let g = get_or_past xs (i + 1) 0 (omega (arith, past)) in
    let r = get_or_past xs (i + 2) 0 (omega (arith, past)) in
    record { blue = omega (arith, b); green = omega (arith, g); red = omega (arith, r) }

-- pixels and others behind them
pub ArePixels-append : (xs ys : List ℕ) → ArePixels xs → ArePixels ys → ArePixels (xs ++ ys)
ArePixels-append xs ys front back =
    let whole = front.whole in
    let more = back.whole in
    let long = length-append xs ys in
    record {
      whole = omega (arith, whole, more, long);
      lowered = λ pixel.
          ⊎_elim
          (λ (lt : 4 * pixel < length xs).
          lowered_alike xs (xs ++ ys) (4 * pixel) (4 * pixel)
          (λ k small. get_or_append_left xs ys 0 (4 * pixel + k) (omega (arith, lt, whole, small)))
          (front.lowered pixel))
          (λ (le : length xs ≤ 4 * pixel).
          lowered_alike ys (xs ++ ys) (4 * (pixel - length xs / 4)) (4 * pixel)
          (λ k small.
          get_or-append_right xs ys (length xs) (4 * pixel + k) 0 refl (omega (arith, le))
          ∙ ap (slice_index ys) (omega (arith, le, whole)))
          (back.lowered (pixel - length xs / 4)))
          (cases_lt (4 * pixel) (length xs));
    }

-- the first of pixels, and those after them
pub ArePixels-take : (n : ℕ) (xs : List ℕ) → n % 4 ≡ 0 → n ≤ length xs → ArePixels xs → ArePixels (take n xs)
ArePixels-take n xs place fits all =
    let long = length-take-le n xs fits in
    record {
      whole = ap (λ (k : ℕ). k % 4) long ∙ place;
      lowered = λ pixel.
          ⊎_elim
          (λ (lt : 4 * pixel < n).
          lowered_alike xs (take n xs) (4 * pixel) (4 * pixel)
          (λ k small. get_or-take n xs (4 * pixel + k) 0 (omega (arith, lt, place, small)))
          (all.lowered pixel))
          (λ (le : n ≤ 4 * pixel). lowered_past (take n xs) (4 * pixel) (omega (arith, le, long)))
          (cases_lt (4 * pixel) n);
    }

pub ArePixels-drop : (n : ℕ) (xs : List ℕ) → n % 4 ≡ 0 → n ≤ length xs → ArePixels xs → ArePixels (drop n xs)
ArePixels-drop n xs place fits all =
    let long = length-drop n xs in
    let whole = all.whole in
    record {
      whole = omega (arith, long, whole, place, fits);
      lowered = λ pixel.
          lowered_alike xs (drop n xs) (4 * (n / 4 + pixel)) (4 * pixel)
          (λ k small. get_or-drop n xs (4 * pixel + k) 0 ∙ ap (slice_index xs) (omega (arith, place)))
          (all.lowered (n / 4 + pixel));
    }
