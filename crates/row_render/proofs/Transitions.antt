-- The row of a raster while a transition runs, and after it.
use Rattle.std.proofs.Common.{◌≡◌, ◌⊎◌, ℕ, zero, suc, ◌+◌, ◌-◌, ◌*◌, ◌<◌, ◌≤◌, Bool, true, false, List, [], ◌∷◌, ◌++◌, length, take, drop, inl, inr, sym, subst, ap, ◌∙◌, lt-ltb, le-ltb, arith, length-drop, length-take-le}
use Rattle.std.specs.Prelude.{All, Option, Some, None}
use Rattle.std.specs.Option.{option_to_list}
use Rattle.std.proofs.lemmas.Bool.{cases_lt}
use Rattle.play_types.specs.Columns.{pick}
use Rattle.play_types.specs.declared.drawn.Drawn.{Drawn}
use Rattle.play_types.specs.declared.geometry.Geometry.{Geometry}
use Rattle.play_transitions.specs.Runs.{AreAdjacent, run_column}
use Rattle.play_transitions.specs.declared.row.Run.{Run}
use Rattle.pixel_math.specs.Pixel.{PixelView}
use Rattle.history_model.specs.pictures.Raster.{Pictures, raster_pixel, still_pixel}
use Rattle.lane_blend.specs.Rows.{IsRow, pixel_at, width_of}
use Rattle.row_render.specs.inner.Rasters.{IsOutside, moving_pixel}

-- what holds of each run of a list
none : (P : Run → Type 0) → All P []
none P = λ k d lt. absurd (omega (arith, lt))

head : (P : Run → Type 0) (run : Run) (runs : List Run) → All P (run ∷ runs) → P run
head P run runs h = h 0 run (omega arith)

tail : (P : Run → Type 0) (run : Run) (runs : List Run) → All P (run ∷ runs) → All P runs
tail P run runs h = λ k d lt. h (suc k) d (omega (arith, lt))

both : (P : Run → Type 0) (run : Run) (runs : List Run) → P run → All P runs → All P (run ∷ runs)
both P run runs here rest zero d lt = here
both P run runs here rest (suc k) d lt = rest k d (omega (arith, lt))

-- what holds of a run that is there
pub only : (P : Run → Type 0) (o : Option Run) (run : Run) → o ≡ Some run → All P (option_to_list o) → P run
only P o run e h = head P run [] (subst (λ (r : Option Run). All P (option_to_list r)) e h)

pub only-back : (P : Run → Type 0) (o : Option Run) (run : Run) → o ≡ Some run → P run → All P (option_to_list o)
only-back P o run e h = subst (λ (r : Option Run). All P (option_to_list r)) (sym e) (both P run [] h (none P))

-- the bytes of a part of a row are as many as its columns have
pub part_long : (a b : ℕ) (row piece : List ℕ) → a ≤ b → 4 * b ≤ length row → length piece ≡ length (take (4 * b - 4 * a) (drop (4 * a) row)) →
    length piece ≡ 4 * b - 4 * a
part_long a b row piece order fits long =
    let rest = length-drop (4 * a) row in
    long ∙ length-take-le (4 * b - 4 * a) (drop (4 * a) row) (omega (arith, rest, order, fits))

-- a column outside of a run, by equal ends
pub outside_along : (x a b from to : ℕ) → a ≡ from → b ≡ to → (x < from) ⊎ (to ≤ x) → (x < a) ⊎ (b ≤ x)
outside_along x a b from to e f (inl lt) = inl (omega (arith, lt, e))
outside_along x a b from to e f (inr le) = inr (omega (arith, le, f))

-- the raster while the transition runs
raster-running : (pictures : Pictures) (size : Geometry) (layer : Drawn) (x y : ℕ) → layer.step < layer.trans.duration →
    raster_pixel pictures size layer x y
    ≡ moving_pixel pictures size layer y (pick layer.trans.kind layer.trans.leftward layer.step layer.trans.duration size.width x)
raster-running pictures size layer x y h =
    let one = moving_pixel pictures size layer y (pick layer.trans.kind layer.trans.leftward layer.step layer.trans.duration size.width x) in
    let other = still_pixel pictures size layer.still x y in
    ap (λ (t : Bool). elim t as (λ _. PixelView) [ true ↦ one | false ↦ other ]) (lt-ltb layer.step layer.trans.duration h)

-- and after it
pub raster-ended : (pictures : Pictures) (size : Geometry) (layer : Drawn) (x y : ℕ) → layer.trans.duration ≤ layer.step →
    raster_pixel pictures size layer x y ≡ still_pixel pictures size layer.still x y
raster-ended pictures size layer x y h =
    let one = moving_pixel pictures size layer y (pick layer.trans.kind layer.trans.leftward layer.step layer.trans.duration size.width x) in
    let other = still_pixel pictures size layer.still x y in
    ap (λ (t : Bool). elim t as (λ _. PixelView) [ true ↦ one | false ↦ other ]) (le-ltb layer.step layer.trans.duration h)

pub ended_row : (pictures : Pictures) (size : Geometry) (layer : Drawn) (y : ℕ) (row new : List ℕ) → length row ≡ 4 * size.width →
    layer.trans.duration ≤ layer.step → IsRow (width_of row) (λ i. still_pixel pictures size layer.still (0 + i) y) new →
    IsRow size.width (λ x. raster_pixel pictures size layer x y) new
ended_row pictures size layer y row new long ended made = record {
  len = omega (arith, made.len, long);
  pixels = λ i lt.
      (let start : 0 + i ≡ i = omega arith in
      made.pixels i (omega (arith, lt, long)) ∙ ap (λ (k : ℕ). still_pixel pictures size layer.still k y) start ∙ sym (raster-ended pictures size layer i y ended));
}

-- what a row shows at the columns of a run
abbrev pub ShowsRun : (List ℕ) → (ℕ → Run → PixelView) → Run → Type 0
ShowsRun row pixel run = (x : ℕ) → run.from ≤ x → x < run.to → pixel_at row x ≡ pixel x run

-- what a run has at each of its columns
abbrev HasColumns : (ℕ → Run → PixelView) → (ℕ → PixelView) → Run → Type 0
HasColumns pixel shown run = (x : ℕ) → run.from ≤ x → x < run.to → pixel x run ≡ shown x

-- the columns of two runs that follow one another
in_runs : (pixel : ℕ → Run → PixelView) (shown : ℕ → PixelView) (width : ℕ) (first second : Option Run) (before after : List ℕ) →
    AreAdjacent 0 width (option_to_list first ++ option_to_list second) →
    All (HasColumns pixel shown) (option_to_list first ++ option_to_list second) →
    All (ShowsRun before pixel) (option_to_list first) →
    ((x : ℕ) → All (IsOutside x) (option_to_list second) → pixel_at after x ≡ pixel_at before x) →
    All (ShowsRun after pixel) (option_to_list second) →
    (x : ℕ) → x < width → pixel_at after x ≡ shown x
in_runs pixel shown width None None before after cover columns one others two x lt = absurd (omega (arith, cover, lt))
in_runs pixel shown width None (Some run) before after cover columns one others two x lt =
    let low = cover.0 in
    let high = cover.2 in
    head (ShowsRun after pixel) run [] two x (omega (arith, low)) (omega (arith, high, lt))
    ∙ head (HasColumns pixel shown) run [] columns x (omega (arith, low)) (omega (arith, high, lt))
in_runs pixel shown width (Some run) None before after cover columns one others two x lt =
    let low = cover.0 in
    let high = cover.2 in
    others x (none (IsOutside x))
    ∙ head (ShowsRun before pixel) run [] one x (omega (arith, low)) (omega (arith, high, lt))
    ∙ head (HasColumns pixel shown) run [] columns x (omega (arith, low)) (omega (arith, high, lt))
in_runs pixel shown width (Some run) (Some next) before after cover columns one others two x lt =
    let low = cover.0 in
    let seam = cover.2.0 in
    let high = cover.2.2 in
    elim (cases_lt x run.to) [
      | inl below ↦
          others x (both (IsOutside x) next [] (inl (omega (arith, below, seam))) (none (IsOutside x)))
          ∙ head (ShowsRun before pixel) run [] one x (omega (arith, low)) below
          ∙ head (HasColumns pixel shown) run (next ∷ []) columns x (omega (arith, low)) below
      | inr from ↦
          head (ShowsRun after pixel) next [] two x (omega (arith, from, seam)) (omega (arith, high, lt))
          ∙ head (HasColumns pixel shown) next [] (tail (HasColumns pixel shown) run (next ∷ []) columns) x (omega (arith, from, seam)) (omega (arith, high, lt))
    ]

-- the row of a raster whose transition runs, by its runs
pub running_row : (pictures : Pictures) (size : Geometry) (layer : Drawn) (y : ℕ) (first second : Option Run) (before after : List ℕ) →
    layer.step < layer.trans.duration → length after ≡ 4 * size.width →
    AreAdjacent 0 size.width (option_to_list first ++ option_to_list second) →
    All (λ (run : Run). (x : ℕ) → run.from ≤ x → x < run.to →
    run_column run x ≡ pick layer.trans.kind layer.trans.leftward layer.step layer.trans.duration size.width x) (option_to_list first ++ option_to_list second) →
    All (ShowsRun before (λ (x : ℕ) (run : Run). moving_pixel pictures size layer y (run_column run x))) (option_to_list first) →
    ((x : ℕ) → All (IsOutside x) (option_to_list second) → pixel_at after x ≡ pixel_at before x) →
    All (ShowsRun after (λ (x : ℕ) (run : Run). moving_pixel pictures size layer y (run_column run x))) (option_to_list second) →
    IsRow size.width (λ x. raster_pixel pictures size layer x y) after
running_row pictures size layer y first second before after running long cover columns one others two = record {
  len = long;
  pixels = λ x lt.
      in_runs (λ (x : ℕ) (run : Run). moving_pixel pictures size layer y (run_column run x)) (λ (x : ℕ). raster_pixel pictures size layer x y) size.width first second before after
      cover
      (λ k d lt_k at low high. ap (moving_pixel pictures size layer y) (columns k d lt_k at low high) ∙ sym (raster-running pictures size layer at y running))
      one others two x lt;
}
