-- The picture and the sound of a scene depend only on the frames and the samples of the channels that it shows.
use Rattle.std.proofs.Common.{◌≡◌, ℕ, Bool, true, false, cond, List, [], ◌∷◌, ◌++◌, reverse, refl, sym, ap, ap₂, subst, nat_lt}
use Rattle.std.specs.Prelude.{ℤ, pos, ◌+ℤ◌, ◌*ℤ◌, int_div}
use Rattle.std.specs.List.{AllByRecursion}
use Rattle.std.proofs.lemmas.List.{reverse-append}
use Rattle.play_types.specs.Columns.{Column, Old, New, Both, pick}
use Rattle.play_types.specs.declared.drawn.Drawn.{Drawn}
use Rattle.play_types.specs.declared.drawn.Still.{Still}
use Rattle.play_types.specs.declared.drawn.Still.TheVariants.{Nothing, Colour, Frame, Channel}
use Rattle.play_types.specs.declared.geometry.Geometry.{Geometry}
use Rattle.play_types.specs.declared.setting.TheConstants.{MICROS_PER_UNIT}
use Rattle.pixel_math.specs.Pixel.{PixelView}
use Rattle.pixel_math.specs.Arithmetic.{key, mix, over}
use Rattle.history_model.specs.pictures.Frame.{composed_pixel, keyed_pixel, layer_pixel, placement_of, scene_pixel}
use Rattle.history_model.specs.pictures.Media.{Setup, size}
use Rattle.history_model.specs.pictures.Placing.{placed_pixel}
use Rattle.history_model.specs.pictures.Raster.{Pictures, column_pixel, raster_pixel, scaled_to, still_pixel}
use Rattle.history_model.specs.pictures.Sound.{held_to_sample, mixed_sample, sample_sum, scene_sample, still_sample, transition_sample}
use Rattle.needed_frames.specs.Depth.{channel_of, layer_channels, shown_channels}

-- what holds for each element of two joined lists holds for each of both, and the other way round
pub all_first : {A : Type 0} (P : A → Type 0) (xs ys : List A) → AllByRecursion P (xs ++ ys) → AllByRecursion P xs
all_first P [] ys all = tt
all_first P (x ∷ xs) ys all = (all.0, all_first P xs ys all.1)

pub all_second : {A : Type 0} (P : A → Type 0) (xs ys : List A) → AllByRecursion P (xs ++ ys) → AllByRecursion P ys
all_second P [] ys all = all
all_second P (x ∷ xs) ys all = all_second P xs ys all.1

pub all_both : {A : Type 0} (P : A → Type 0) (xs ys : List A) → AllByRecursion P xs → AllByRecursion P ys → AllByRecursion P (xs ++ ys)
all_both P [] ys first second = second
all_both P (x ∷ xs) ys first second = (first.0, all_both P xs ys first.1 second)

-- and in the other order
all_reversed : {A : Type 0} (P : A → Type 0) (xs : List A) → AllByRecursion P xs → AllByRecursion P (reverse xs)
all_reversed P [] all = tt
all_reversed P (x ∷ xs) all =
    subst (AllByRecursion P) (sym (reverse-append (x ∷ []) xs)) (all_both P (reverse xs) (x ∷ []) (all_reversed P xs all.1) (all.0, tt))

-- a channel has the same frame in both
abbrev pub IsSameFrame : (ℕ → ℕ → ℕ → PixelView) → (ℕ → ℕ → ℕ → PixelView) → ℕ → Type 0
IsSameFrame one other channel = (x y : ℕ) → one channel x y ≡ other channel x y

module _ (setup : Setup) (one other : ℕ → ℕ → ℕ → PixelView) where
  abbrev pub in_one : Pictures
  in_one = record { setup = setup; frames = one }

  abbrev pub in_other : Pictures
  in_other = record { setup = setup; frames = other }

  same_still : (raster : Geometry) (still : Still) (x y : ℕ) → AllByRecursion (IsSameFrame one other) (channel_of still)
      → still_pixel in_one raster still x y ≡ still_pixel in_other raster still x y
  same_still raster Nothing x y same = refl
  same_still raster (Colour value) x y same = refl
  same_still raster (Frame id frame) x y same = refl
  same_still raster (Channel channel) x y same =
      same.0 (scaled_to (size setup channel).width raster.width x) (scaled_to (size setup channel).height raster.height y)

  same_column : (column : Column) (old old2 new new2 : ℕ → PixelView) (j d : ℕ) → ((x : ℕ) → old x ≡ old2 x) → ((x : ℕ) → new x ≡ new2 x)
      → column_pixel column old new j d ≡ column_pixel column old2 new2 j d
  same_column (Old x) old old2 new new2 j d olds news = olds x
  same_column (New x) old old2 new new2 j d olds news = news x
  same_column (Both x) old old2 new new2 j d olds news = ap₂ (λ a b. mix a b j d) (olds x) (news x)

  same_raster : (raster : Geometry) (layer : Drawn) (x y : ℕ) → AllByRecursion (IsSameFrame one other) (layer_channels layer)
      → raster_pixel in_one raster layer x y ≡ raster_pixel in_other raster layer x y
  same_raster raster layer x y same = by_test (nat_lt layer.step layer.trans.duration) same
    where
      by_test : (b : Bool) → AllByRecursion (IsSameFrame one other) (cond b (channel_of layer.old ++ channel_of layer.still) (channel_of layer.still))
          → ◌≡◌ {A = PixelView}
          (elim b [
            | true ↦
                column_pixel (pick layer.trans.kind layer.trans.leftward layer.step layer.trans.duration raster.width x)
                (λ (column : ℕ). still_pixel in_one raster layer.old column y) (λ (column : ℕ). still_pixel in_one raster layer.still column y)
                layer.step layer.trans.duration
            | false ↦ still_pixel in_one raster layer.still x y
          ])
          (elim b [
            | true ↦
                column_pixel (pick layer.trans.kind layer.trans.leftward layer.step layer.trans.duration raster.width x)
                (λ (column : ℕ). still_pixel in_other raster layer.old column y) (λ (column : ℕ). still_pixel in_other raster layer.still column y)
                layer.step layer.trans.duration
            | false ↦ still_pixel in_other raster layer.still x y
          ])
      by_test true all =
          same_column (pick layer.trans.kind layer.trans.leftward layer.step layer.trans.duration raster.width x)
          (λ (column : ℕ). still_pixel in_one raster layer.old column y) (λ (column : ℕ). still_pixel in_other raster layer.old column y)
          (λ (column : ℕ). still_pixel in_one raster layer.still column y) (λ (column : ℕ). still_pixel in_other raster layer.still column y)
          layer.step layer.trans.duration
          (λ column. same_still raster layer.old column y (all_first (IsSameFrame one other) (channel_of layer.old) (channel_of layer.still) all))
          (λ column. same_still raster layer.still column y (all_second (IsSameFrame one other) (channel_of layer.old) (channel_of layer.still) all))
      by_test false all = same_still raster layer.still x y all

  -- pixel (x, y) of a frame of this size
  module _ (frame : Geometry) (x y : ℕ) where
    abbrev IsSameLayer : Drawn → Type 0
    IsSameLayer layer = layer_pixel in_one frame x y layer ≡ layer_pixel in_other frame x y layer

    same_layer : (layer : Drawn) → AllByRecursion (IsSameFrame one other) (layer_channels layer) → IsSameLayer layer
    same_layer layer same = λ i. placed_pixel frame (placement_of layer) (λ column row. same_raster frame layer column row same i) x y

    same_layers : (layers : List Drawn) → AllByRecursion (IsSameFrame one other) (shown_channels layers) → AllByRecursion IsSameLayer layers
    same_layers [] same = tt
    same_layers (layer ∷ layers) same = (
      same_layer layer (all_first (IsSameFrame one other) (layer_channels layer) (shown_channels layers) same),
      same_layers layers (all_second (IsSameFrame one other) (layer_channels layer) (shown_channels layers) same),
    )

    same_keyed : (below : List Drawn) (s s2 : PixelView) → AllByRecursion IsSameLayer below → s ≡ s2
        → keyed_pixel (layer_pixel in_one frame x y) below s ≡ keyed_pixel (layer_pixel in_other frame x y) below s2
    same_keyed [] s s2 same is = is
    same_keyed (next ∷ below) s s2 same is = λ i. cond next.keyer (key (is i) (same.0 i).r) (is i)

    same_composed : (layers : List Drawn) → AllByRecursion IsSameLayer layers
        → composed_pixel (layer_pixel in_one frame x y) layers ≡ composed_pixel (layer_pixel in_other frame x y) layers
    same_composed [] same = refl
    same_composed (layer ∷ below) same =
        let under = same_composed below same.1 in
        let own = same_keyed below (layer_pixel in_one frame x y layer) (layer_pixel in_other frame x y layer) same.1 same.0 in
        λ i. cond layer.keyer (under i) (over (own i) (under i))

    pub same_pixel : (layers : List Drawn) → AllByRecursion (IsSameFrame one other) (shown_channels layers)
        → scene_pixel in_one frame layers x y ≡ scene_pixel in_other frame layers x y
    same_pixel layers same = same_composed (reverse layers) (all_reversed IsSameLayer layers (same_layers layers same))

-- a channel has the same sound in both
abbrev pub IsSameSound : (ℕ → ℕ → ℕ → ℤ) → (ℕ → ℕ → ℕ → ℤ) → ℕ → Type 0
IsSameSound one other channel = (pair side : ℕ) → one channel pair side ≡ other channel pair side

module _ (setup : Setup) (one other : ℕ → ℕ → ℕ → ℤ) (pair side : ℕ) where
  same_still_sample : (still : Still) → AllByRecursion (IsSameSound one other) (channel_of still)
      → still_sample setup one pair side still ≡ still_sample setup other pair side still
  same_still_sample Nothing same = refl
  same_still_sample (Colour value) same = refl
  same_still_sample (Frame id frame) same = refl
  same_still_sample (Channel channel) same =
      λ i. elim (nat_lt pair (size setup channel).pairs) [
        | true ↦ same.0 pair side i
        | false ↦ pos 0
      ]

  same_transition : (layer : Drawn) → AllByRecursion (IsSameSound one other) (layer_channels layer)
      → transition_sample (still_sample setup one pair side) layer ≡ transition_sample (still_sample setup other pair side) layer
  same_transition layer same = by_test (nat_lt layer.step layer.trans.duration) same
    where
      by_test : (b : Bool) → AllByRecursion (IsSameSound one other) (cond b (channel_of layer.old ++ channel_of layer.still) (channel_of layer.still))
          → ◌≡◌ {A = ℤ}
          (elim b [
            | true ↦ mixed_sample (still_sample setup one pair side layer.old) (still_sample setup one pair side layer.still) layer.step layer.trans.duration
            | false ↦ still_sample setup one pair side layer.still
          ])
          (elim b [
            | true ↦ mixed_sample (still_sample setup other pair side layer.old) (still_sample setup other pair side layer.still) layer.step layer.trans.duration
            | false ↦ still_sample setup other pair side layer.still
          ])
      by_test true all =
          ap₂ (λ old new. mixed_sample old new layer.step layer.trans.duration)
          (same_still_sample layer.old (all_first (IsSameSound one other) (channel_of layer.old) (channel_of layer.still) all))
          (same_still_sample layer.still (all_second (IsSameSound one other) (channel_of layer.old) (channel_of layer.still) all))
      by_test false all = same_still_sample layer.still all

  same_sum : (layers : List Drawn) → AllByRecursion (IsSameSound one other) (shown_channels layers)
      → sample_sum (still_sample setup one pair side) layers ≡ sample_sum (still_sample setup other pair side) layers
  same_sum [] same = refl
  same_sum (layer ∷ layers) same =
      let own = same_transition layer (all_first (IsSameSound one other) (layer_channels layer) (shown_channels layers) same) in
      let rest = same_sum layers (all_second (IsSameSound one other) (layer_channels layer) (shown_channels layers) same) in
      λ i. int_div (own i *ℤ layer.volume) MICROS_PER_UNIT +ℤ rest i

  pub same_sample : (layers : List Drawn) → AllByRecursion (IsSameSound one other) (shown_channels layers)
      → scene_sample setup one layers pair side ≡ scene_sample setup other layers pair side
  same_sample layers same = ap held_to_sample (same_sum layers same)
