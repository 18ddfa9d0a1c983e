-- Rows of rasters, laid into the frame by a run of columns.
use Rattle.std.proofs.Common.{◌≡◌, ℕ, ◌+◌, ◌-◌, ◌*◌, ◌/◌, ◌<◌, ◌≤◌, ◌⊎◌, inl, inr, List, length, sym, ap, subst, ◌∙◌, arith}
use Rattle.std.specs.Prelude.{Some, None}
use Rattle.std.proofs.lemmas.Bool.{cases_lt}
use Rattle.play_types.specs.declared.drawn.Drawn.{Drawn}
use Rattle.pixel_math.specs.Pixel.{transparent}
use Rattle.history_model.specs.pictures.Placing.{visible_column}
use Rattle.lane_blend.specs.Rows.{IsRow, pixel_at, width_of}
use Rattle.row_render.specs.inner.Rasters.{placed_at, shown_pixel}
use Rattle.row_render.specs.declared.shown.ShownRun.{ShownRun}

-- no column is shown
pub placed_none : (layer : Drawn) (width : ℕ) (raster row clear : List ℕ) → length row ≡ 4 * width → IsRow (width_of row) (λ i. transparent) clear →
    ((x : ℕ) → x < width → visible_column width layer.fill layer.clip 0 x ≡ None) → IsRow width (placed_at layer width (pixel_at raster)) clear
placed_none layer width raster row clear long made hidden = record {
  len = omega (arith, made.len, long);
  pixels = λ x lt. made.pixels x (omega (arith, lt, long)) ∙ sym (ap (shown_pixel (pixel_at raster)) (hidden x lt));
}

-- the columns of a run are
pub placed_run : (layer : Drawn) (width : ℕ) (raster row clear new : List ℕ) (run : ShownRun) → length row ≡ 4 * width → length new ≡ length clear →
    IsRow (width_of row) (λ i. transparent) clear →
    ((x : ℕ) → x < width → (x < run.from) ⊎ (run.to ≤ x) → visible_column width layer.fill layer.clip 0 x ≡ None) →
    ((i : ℕ) → run.from + i < run.to → visible_column width layer.fill layer.clip 0 (run.from + i) ≡ Some ((run.number + i * 2000000) / run.divisor)) →
    ((i : ℕ) → run.from + i < run.to → pixel_at new (run.from + i) ≡ pixel_at raster ((run.number + i * 2000000) / run.divisor)) →
    ((x : ℕ) → (x < run.from) ⊎ (run.to ≤ x) → pixel_at new x ≡ pixel_at clear x) →
    IsRow width (placed_at layer width (pixel_at raster)) new
placed_run layer width raster row clear new run long same made hidden shown there others = record {
  len = omega (arith, same, made.len, long);
  pixels = λ x lt. by x lt;
}
  where
    outside : (x : ℕ) → x < width → (x < run.from) ⊎ (run.to ≤ x) → pixel_at new x ≡ placed_at layer width (pixel_at raster) x
    outside x lt out =
        others x out ∙ made.pixels x (omega (arith, lt, long)) ∙ sym (ap (shown_pixel (pixel_at raster)) (hidden x lt out))

    by : (x : ℕ) → x < width → pixel_at new x ≡ placed_at layer width (pixel_at raster) x
    by x lt = elim (cases_lt x run.from) [
      | inl low ↦ outside x lt (inl low)
      | inr from ↦ elim (cases_lt x run.to) [
        | inr high ↦ outside x lt (inr high)
        | inl to ↦
            (let place : run.from + (x - run.from) ≡ x = omega (arith, from) in
            let inside : run.from + (x - run.from) < run.to = omega (arith, from, to) in
            subst (λ (k : ℕ). pixel_at new k ≡ placed_at layer width (pixel_at raster) k) place
            (there (x - run.from) inside ∙ sym (ap (shown_pixel (pixel_at raster)) (shown (x - run.from) inside))))
      ]
    ]
