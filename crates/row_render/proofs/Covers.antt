-- Layers that hide all layers below them.
use Rattle.std.proofs.Common.{◌≡◌, ℕ, ◌+◌, ◌<◌, ◌≤◌, Bool, false, List, [], ◌∷◌, ◌++◌, length, take, drop, get_or, reverse, refl, sym, ap, ◌∙◌, arith, if◌then◌else◌, ℤ, pos, nat_abs}
use Rattle.std.specs.Prelude.{Some}
use Rattle.std.proofs.lemmas.List.{drop_more, reverse-append, take-append-drop}
use Rattle.play_types.specs.declared.drawn.Drawn.{Drawn}
use Rattle.play_types.specs.declared.drawn.Still.{Still}
use Rattle.play_types.specs.declared.drawn.Still.TheVariants.{Nothing, Colour, Frame, Channel}
use Rattle.play_types.specs.declared.geometry.Geometry.{Geometry}
use Rattle.pixel_math.specs.Pixel.{PixelView, transparent}
use Rattle.pixel_math.specs.Arithmetic.{fade, key, over, over_byte}
use Rattle.pixel_math.proofs.Pixels.{fade_whole, same_pixel}
use Rattle.history_model.specs.pictures.Frame.{composed_pixel, keyed_pixel, layer_pixel, placement_of}
use Rattle.history_model.specs.pictures.Placing.{visible_column}
use Rattle.history_model.specs.pictures.Raster.{Pictures, raster_pixel, still_pixel}
use Rattle.play_scene.proofs.Fills.{placed-shown}
use Rattle.row_render.specs.inner.Sources.{plain_pixel}
use Rattle.row_render.proofs.Keying.{composed-more}
use Rattle.row_render.proofs.Transitions.{raster-ended}

-- whether the layer above these, the uppermost first, is keyed
abbrev pub is_keyed : List Drawn → Bool
is_keyed [] = false
is_keyed (next ∷ below) = next.keyer

unkeyed : (placed : Drawn → PixelView) (below : List Drawn) (s : PixelView) → is_keyed below ≡ false → keyed_pixel placed below s ≡ s
unkeyed placed [] s alone = refl
unkeyed placed (next ∷ below) s alone = ap (λ (k : Bool). if k then key s (placed next).r else s) alone

-- an opaque pixel over another hides it
over-opaque_byte : (upper lower alpha : ℕ) → alpha ≡ 255 → over_byte upper lower alpha ≡ upper
over-opaque_byte upper lower alpha e = ap (over_byte upper lower) e ∙ omega arith

over-opaque : (p q : PixelView) → p.a ≡ 255 → over p q ≡ p
over-opaque p q e =
    same_pixel _ _ (over-opaque_byte p.b q.b p.a e) (over-opaque_byte p.g q.g p.a e) (over-opaque_byte p.r q.r p.a e) (over-opaque_byte p.a q.a p.a e)

-- a layer keyed by the one below it, which is the same in both
same_key : (placed : Drawn → PixelView) (above : List Drawn) (cover : Drawn) (below : List Drawn) (s : PixelView) →
    keyed_pixel placed ((above ++ cover ∷ []) ++ below) s ≡ keyed_pixel placed (above ++ cover ∷ []) s
same_key placed [] cover below s = refl
same_key placed (next ∷ above) cover below s = refl

-- layers above one that covers those below it
composed-cut : (placed : Drawn → PixelView) (above : List Drawn) (cover : Drawn) (below : List Drawn) → cover.keyer ≡ false → is_keyed below ≡ false →
    (placed cover).a ≡ 255 → composed_pixel placed ((above ++ cover ∷ []) ++ below) ≡ composed_pixel placed (above ++ cover ∷ [])
composed-cut placed [] cover below shown alone opaque =
    let lower = composed_pixel placed below in
    sym (composed-more placed cover below shown)
    ∙ ap (λ (p : PixelView). over p lower) (unkeyed placed below (placed cover) alone)
    ∙ over-opaque (placed cover) lower opaque
    ∙ sym (over-opaque (placed cover) transparent opaque)
    ∙ composed-more placed cover [] shown
composed-cut placed (next ∷ above) cover below shown alone opaque =
    let rest = composed-cut placed above cover below shown alone opaque in
    let keyed = same_key placed above cover below (placed next) in
    λ i. if next.keyer then rest i else over (keyed i) (rest i)

-- the layers from one on that covers those below it
pub composed-from : (placed : Drawn → PixelView) (layers : List Drawn) (at : ℕ) (cover : Drawn) → at < length layers → cover ≡ get_or layers at cover →
    cover.keyer ≡ false → is_keyed (reverse (take at layers)) ≡ false → (placed cover).a ≡ 255 →
    composed_pixel placed (reverse (drop at layers)) ≡ composed_pixel placed (reverse layers)
composed-from placed layers at cover lt here shown alone opaque =
    let rest = drop (at + 1) layers in
    let below = reverse (take at layers) in
    let from : drop at layers ≡ cover ∷ rest = drop_more layers at cover lt ∙ ap (λ (l : Drawn). l ∷ rest) (sym here) in
    let upper : reverse (drop at layers) ≡ reverse rest ++ cover ∷ [] = ap reverse from ∙ reverse-append (cover ∷ []) rest in
    let whole : reverse layers ≡ (reverse rest ++ cover ∷ []) ++ below =
    ap reverse (sym (take-append-drop at layers)) ∙ reverse-append (take at layers) (drop at layers) ∙ ap (λ (l : List Drawn). l ++ below) upper in
    ap (composed_pixel placed) upper ∙ sym (composed-cut placed (reverse rest) cover below shown alone opaque) ∙ sym (ap (composed_pixel placed) whole)

-- a still whose plain pixel is opaque
opaque_still : (pictures : Pictures) (size : Geometry) (still : Still) (x y : ℕ) → (plain_pixel still).a ≡ 255 → (still_pixel pictures size still x y).a ≡ 255
opaque_still pictures size Nothing x y e = absurd (omega (arith, e))
opaque_still pictures size (Colour value) x y e = e
opaque_still pictures size (Frame id frame) x y e = absurd (omega (arith, e))
opaque_still pictures size (Channel channel) x y e = absurd (omega (arith, e))

-- an opaque layer in its place
pub opaque_layer : (pictures : Pictures) (size : Geometry) (layer : Drawn) (x y : ℕ) → visible_column size.width layer.fill layer.clip 0 x ≡ Some x →
    visible_column size.height layer.fill layer.clip 1 y ≡ Some y → layer.opacity ≡ pos 1000000 → layer.trans.duration ≤ layer.step →
    (plain_pixel layer.still).a ≡ 255 → (layer_pixel pictures size x y layer).a ≡ 255
opaque_layer pictures size layer x y across down whole ended opaque =
    let raster = raster_pixel pictures size layer in
    ap (λ (p : PixelView). p.a)
    (placed-shown size (placement_of layer) raster x y x y across down
    ∙ ap (λ (o : ℤ). fade (raster x y) (nat_abs o)) whole
    ∙ fade_whole (raster x y)
    ∙ raster-ended pictures size layer x y ended)
    ∙ opaque_still pictures size layer.still x y opaque
