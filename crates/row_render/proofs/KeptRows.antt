-- Rows that are kept in the first bytes of a list.
use Rattle.std.proofs.Common.{◌≡◌, ℕ, ◌+◌, ◌*◌, ◌≤◌, List, ◌++◌, length, take, drop, Vec, ap, sym, ◌∙◌, arith, take_at}
use Rattle.std.specs.Vec.{with_items}
use Rattle.lane_blend.specs.Rows.{IsRow, pixel_at}
use Rattle.play_scene.proofs.Pieces.{copied_piece}
use Rattle.row_render.specs.inner.Sources.{scaled_pixel}

-- the bytes that were written in the place of the first ones
pub front_is : {Z : Type 0} (list : Vec ℕ Z) (count n : ℕ) (copied piece bytes : List ℕ) → bytes ≡ list.items → copied ≡ piece → n ≡ length piece →
    count ≡ length piece → 0 + length piece ≤ length list.items →
    take count (with_items list (take 0 bytes ++ (copied ++ drop n (drop 0 bytes)))).items ≡ piece
front_is list count n copied piece bytes are same counted all fits =
    ap (take count) (copied_piece list 0 n copied piece bytes are same counted fits)
    ∙ take_at piece (drop (0 + length piece) list.items) count (sym all)

-- a row of a picture at the width of a raster, where both are kept
pub kept_row : (source kept row made : List ℕ) (width n : ℕ) → kept ≡ source → made ≡ row → n ≡ width →
    IsRow n (λ i. scaled_pixel source width (0 + i)) row → IsRow width (scaled_pixel kept width) made
kept_row source kept row made width n same written wide is = record {
  len = ap length written ∙ is.len ∙ ap (λ (k : ℕ). 4 * k) wide;
  pixels = λ i lt.
      (let start : 0 + i ≡ i = omega arith in
      ap (λ (l : List ℕ). pixel_at l i) written ∙ is.pixels i (omega (arith, lt, wide)) ∙ ap (scaled_pixel source width) start
      ∙ sym (ap (λ (l : List ℕ). scaled_pixel l width i) same));
}
