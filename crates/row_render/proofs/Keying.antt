-- Layers over one another, row by row.
use Rattle.std.proofs.Common.{◌≡◌, ℕ, ◌+◌, ◌*◌, ◌/◌, ◌<◌, Bool, true, false, List, [], ◌∷◌, length, take, get_or, reverse, refl, sym, ap, ap₂, ◌∙◌, arith, add-one, if◌then◌else◌}
use Rattle.std.proofs.Math.Seq.{take-suc}
use Rattle.std.proofs.lemmas.List.{reverse-append}
use Rattle.play_types.specs.declared.drawn.Drawn.{Drawn}
use Rattle.pixel_math.specs.Pixel.{PixelView, scaled, transparent}
use Rattle.pixel_math.specs.Arithmetic.{key, over, over_byte}
use Rattle.pixel_math.proofs.Pixels.{over_transparent_lower, same_pixel}
use Rattle.history_model.specs.pictures.Frame.{composed_pixel, keyed_pixel}
use Rattle.lane_blend.specs.Rows.{IsRow, pixel_at, width_of}
use Rattle.row_render.specs.inner.Keying.{IsLaid, Keys, keyed_pixel_by}

-- one more layer, the uppermost first
pub reverse-take : (layers : List Drawn) (i : ℕ) (d : Drawn) → i < length layers → reverse (take (i + 1) layers) ≡ get_or layers i d ∷ reverse (take i layers)
reverse-take layers i d lt =
    ap (λ (k : ℕ). reverse (take k layers)) (add-one i)
    ∙ ap reverse (take-suc layers i d lt)
    ∙ reverse-append (take i layers) (get_or layers i d ∷ [])

-- a pixel keyed by the row of keys is keyed by the layer below
keyed-pixel : (placed : ℕ → Drawn → PixelView) (width : ℕ) (below : List Drawn) (keyed : Bool) (keys : List ℕ) (x : ℕ) (s : PixelView) →
    Keys placed width below keyed keys → x < width → keyed_pixel_by keyed s (pixel_at keys x) ≡ keyed_pixel (placed x) below s
keyed-pixel placed width [] keyed keys x s h lt = ap (λ (k : Bool). keyed_pixel_by k s (pixel_at keys x)) h
keyed-pixel placed width (next ∷ below) keyed keys x s h lt =
    ap (λ (k : Bool). keyed_pixel_by k s (pixel_at keys x)) h.0 ∙ by next.keyer (λ e. (h.1 e).pixels x lt)
  where
    by : (k : Bool) → (k ≡ true → pixel_at keys x ≡ placed x next) →
        keyed_pixel_by k s (pixel_at keys x) ≡ (if k then key s (placed x next).r else s)
    by true e = ap (λ (p : PixelView). key s p.r) (e refl)
    by false e = refl

-- a layer over those below
pub composed-more : (placed : Drawn → PixelView) (layer : Drawn) (below : List Drawn) → layer.keyer ≡ false →
    over (keyed_pixel placed below (placed layer)) (composed_pixel placed below) ≡ composed_pixel placed (layer ∷ below)
composed-more placed layer below e =
    let under = composed_pixel placed below in
    sym (ap (λ (k : Bool). if k then under else over (keyed_pixel placed below (placed layer)) under) e)

-- a keyer is not shown
composed-keyer : (placed : Drawn → PixelView) (layer : Drawn) (below : List Drawn) → layer.keyer ≡ true →
    composed_pixel placed below ≡ composed_pixel placed (layer ∷ below)
composed-keyer placed layer below e =
    let under = composed_pixel placed below in
    sym (ap (λ (k : Bool). if k then under else over (keyed_pixel placed below (placed layer)) under) e)

-- a transparent pixel stays transparent whatever keys it
pub key-nothing : (k : ℕ) → key transparent k ≡ transparent
key-nothing k =
    let none : scaled 0 k ≡ 0 = (let no : 0 * k ≡ 0 = omega arith in ap (λ (n : ℕ). (n + 127) / 255) no) in
    same_pixel _ _ none none none none

keyed-nothing : (placed : Drawn → PixelView) (below : List Drawn) → keyed_pixel placed below transparent ≡ transparent
keyed-nothing placed [] = refl
keyed-nothing placed (next ∷ below) = by next.keyer
  where
    by : (k : Bool) → (if k then key transparent (placed next).r else transparent) ≡ transparent
    by true = key-nothing (placed next).r
    by false = refl

-- and over another leaves that one
under-nothing : (byte : ℕ) → over_byte 0 byte 0 ≡ byte
under-nothing byte = omega arith

pub over_transparent : (p : PixelView) → over transparent p ≡ p
over_transparent p = same_pixel _ _ (under-nothing p.b) (under-nothing p.g) (under-nothing p.r) (under-nothing p.a)

-- a layer that shows nothing leaves the pixel below
hidden_pixel : (placed : Drawn → PixelView) (layer : Drawn) (below : List Drawn) → layer.keyer ≡ false → placed layer ≡ transparent →
    composed_pixel placed below ≡ composed_pixel placed (layer ∷ below)
hidden_pixel placed layer below shown nothing =
    let lower = composed_pixel placed below in
    sym (ap (λ (p : PixelView). over (keyed_pixel placed below p) lower) nothing
    ∙ ap (λ (p : PixelView). over p lower) (keyed-nothing placed below)
    ∙ over_transparent lower)
    ∙ composed-more placed layer below shown

-- rows of layers whose pixels are the same
laid_same : (blank : Bool) (width : ℕ) (pixel other : ℕ → PixelView) (row : List ℕ) → ((x : ℕ) → pixel x ≡ other x) →
    IsLaid blank width pixel row → IsLaid blank width other row
laid_same blank width pixel other row same laid = record {
  nothing = λ e x. sym (same x) ∙ laid.nothing e x;
  shown = λ e. record { len = (laid.shown e).len; pixels = λ x lt. (laid.shown e).pixels x lt ∙ same x };
}

-- such a layer leaves the row below
pub hidden_over : (placed : ℕ → Drawn → PixelView) (width : ℕ) (layer : Drawn) (below : List Drawn) (blank : Bool) (row : List ℕ) → layer.keyer ≡ false →
    ((x : ℕ) → placed x layer ≡ transparent) →
    IsLaid blank width (λ x. composed_pixel (placed x) below) row → IsLaid blank width (λ x. composed_pixel (placed x) (layer ∷ below)) row
hidden_over placed width layer below blank row shown nothing =
    laid_same blank width (λ x. composed_pixel (placed x) below) (λ x. composed_pixel (placed x) (layer ∷ below)) row
    (λ x. hidden_pixel (placed x) layer below shown (nothing x))

-- so does a keyer
pub keyer_over : (placed : ℕ → Drawn → PixelView) (width : ℕ) (layer : Drawn) (below : List Drawn) (blank : Bool) (row : List ℕ) → layer.keyer ≡ true →
    IsLaid blank width (λ x. composed_pixel (placed x) below) row → IsLaid blank width (λ x. composed_pixel (placed x) (layer ∷ below)) row
keyer_over placed width layer below blank row e =
    laid_same blank width (λ x. composed_pixel (placed x) below) (λ x. composed_pixel (placed x) (layer ∷ below)) row
    (λ x. composed-keyer (placed x) layer below e)

-- a row that is written
written : (width : ℕ) (pixel : ℕ → PixelView) (row : List ℕ) → IsRow width pixel row → IsLaid false width pixel row
written width pixel row is = record { nothing = λ e x. cc; shown = λ e. is }

-- the row of one more layer over the rows below
pub layer_over : (placed : ℕ → Drawn → PixelView) (width : ℕ) (layer : Drawn) (below : List Drawn) (keyed : Bool) (keys own old new : List ℕ) →
    layer.keyer ≡ false → Keys placed width below keyed keys →
    IsRow width (λ x. placed x layer) own →
    IsRow width (λ x. composed_pixel (placed x) below) old →
    IsRow (width_of old) (λ x. over (keyed_pixel_by keyed (pixel_at own x) (pixel_at keys x)) (pixel_at old x)) new →
    IsLaid false width (λ x. composed_pixel (placed x) (layer ∷ below)) new
layer_over placed width layer below keyed keys own old new shown h made under laid = written width _ new (record {
  len = omega (arith, laid.len, under.len);
  pixels = λ x lt.
      laid.pixels x (omega (arith, lt, under.len))
      ∙ ap₂ over
      (ap (λ (p : PixelView). keyed_pixel_by keyed p (pixel_at keys x)) (made.pixels x lt)
      ∙ keyed-pixel placed width below keyed keys x (placed x layer) h lt)
      (under.pixels x lt)
      ∙ composed-more (placed x) layer below shown;
})

-- and over nothing
pub first_layer : (placed : ℕ → Drawn → PixelView) (width : ℕ) (layer : Drawn) (below : List Drawn) (keyed : Bool) (keys own new : List ℕ) →
    layer.keyer ≡ false → Keys placed width below keyed keys →
    IsRow width (λ x. placed x layer) own →
    ((x : ℕ) → composed_pixel (placed x) below ≡ transparent) →
    IsRow (width_of own) (λ x. keyed_pixel_by keyed (pixel_at own x) (pixel_at keys x)) new →
    IsLaid false width (λ x. composed_pixel (placed x) (layer ∷ below)) new
first_layer placed width layer below keyed keys own new shown h made nothing keying = written width _ new (record {
  len = omega (arith, keying.len, made.len);
  pixels = λ x lt.
      (let upper = keyed_pixel (placed x) below (placed x layer) in
      keying.pixels x (omega (arith, lt, made.len)) ∙ ap (λ (p : PixelView). keyed_pixel_by keyed p (pixel_at keys x)) (made.pixels x lt)
      ∙ keyed-pixel placed width below keyed keys x (placed x layer) h lt
      ∙ sym (ap (over upper) (nothing x) ∙ over_transparent_lower upper)
      ∙ composed-more (placed x) layer below shown);
})
