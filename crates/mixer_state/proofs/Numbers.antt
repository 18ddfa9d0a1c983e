-- The four numbers of a course.
use Rattle.std.proofs.Common.{◌≡◌, ℕ, zero, suc, ◌<◌, ◌≤◌, List, [], ◌∷◌, ℤ, pos, length, arith, refl, sym, ap₂, ◌∙◌, subst, inl, inr, ◌⊎◌}
use Rattle.std.specs.Prelude.{All}
use Rattle.std.proofs.lemmas.Int.{ints, clamps}
use Rattle.std.proofs.lemmas.List.Elements.{All-cons, All-get_or, All-head, All-nil, All-tail}
use Rattle.play_types.specs.Curve.{along, IsBetween}
use Rattle.play_types.specs.Setting.{AreValues, IsSetting, IsWide, IsWithin, SettingView, duration_of, number_at, values_of}
use Rattle.play_types.specs.declared.transition.Curve.{Curve}
use Rattle.play_types.specs.declared.setting.Prop.{Prop}
use Rattle.play_types.specs.declared.setting.Prop.TheVariants.{Opacity, Fill, Clip, Volume, Keyer}
use Rattle.play_types.specs.declared.setting.TheConstants.{MICROS_PER_UNIT}
use Rattle.play_types.proofs.Tweens.{IsBetween-along, along-end}
use Rattle.history_model.specs.stage.Value.{all_along, default_of, four}
use Rattle.mixer_state.specs.Ranges.{AreNumbers}

-- four numbers are their four numbers
pub four_numbers : (xs : List ℤ) → length xs ≡ 4 → xs ≡ four (number_at xs 0) (number_at xs 1) (number_at xs 2) (number_at xs 3)
four_numbers [] e = absurd (omega (arith, e))
four_numbers (a ∷ []) e = absurd (omega (arith, e))
four_numbers (a ∷ b ∷ []) e = absurd (omega (arith, e))
four_numbers (a ∷ b ∷ c ∷ []) e = absurd (omega (arith, e))
four_numbers (a ∷ b ∷ c ∷ d ∷ []) e = refl
four_numbers (a ∷ b ∷ c ∷ d ∷ x ∷ more) e = absurd (omega (arith, e))

-- a number of a list in which all are within minus 1000 to 1000
pub wide_at : (xs : List ℤ) (i : ℕ) → All IsWide xs → i < length xs → IsWide (number_at xs i)
wide_at xs i wide within = All-get_or IsWide xs i (pos 0) within wide

pub length-all_along : (curve : Curve) (xs ys : List ℤ) (j d : ℕ) → length xs ≡ length ys → length (all_along curve xs ys j d) ≡ length xs
length-all_along curve [] ys j d e = refl
length-all_along curve (x ∷ xs) [] j d e = absurd (omega (arith, e))
length-all_along curve (x ∷ xs) (y ∷ ys) j d e =
    let rest : length xs ≡ length ys = omega (arith, e) in
    omega (arith, length-all_along curve xs ys j d rest)

-- the numbers of a course of no ticks are at its end
pub all_along-once : (curve : Curve) (xs ys : List ℤ) (j : ℕ) → length xs ≡ length ys → all_along curve xs ys j 0 ≡ ys
all_along-once curve [] [] j e = refl
all_along-once curve [] (y ∷ ys) j e = absurd (omega (arith, e))
all_along-once curve (x ∷ xs) [] j e = absurd (omega (arith, e))
all_along-once curve (x ∷ xs) (y ∷ ys) j e =
    let rest : length xs ≡ length ys = omega (arith, e) in
    ap₂ (λ (v : ℤ) (vs : List ℤ). v ∷ vs) (along-end curve x y j 0 (omega arith)) (all_along-once curve xs ys j rest)

pub number_at-all_along : (curve : Curve) (xs ys : List ℤ) (i j d : ℕ) → i < length xs → length xs ≡ length ys →
    number_at (all_along curve xs ys j d) i ≡ along curve (number_at xs i) (number_at ys i) j d
number_at-all_along curve [] ys i j d within e = absurd (omega (arith, within))
number_at-all_along curve (x ∷ xs) [] i j d within e = absurd (omega (arith, e))
number_at-all_along curve (x ∷ xs) (y ∷ ys) zero j d within e = refl
number_at-all_along curve (x ∷ xs) (y ∷ ys) (suc i) j d within e =
    let rest : length xs ≡ length ys = omega (arith, e) in
    let less : i < length xs = omega (arith, within) in
    number_at-all_along curve xs ys i j d less rest

-- what lies between two numbers of a range is in the range
pub within-between : (low high a b value : ℤ) → IsWithin low high a → IsWithin low high b → IsBetween a b value → IsWithin low high value
within-between low high a b value of_a of_b between = (omega (arith, ints, clamps), omega (arith, ints, clamps))

along_within : (curve : Curve) (low high a b : ℤ) (j d : ℕ) → IsWithin low high a → IsWithin low high b → IsWithin low high (along curve a b j d)
along_within curve low high a b j d of_a of_b = within-between low high a b (along curve a b j d) of_a of_b (IsBetween-along curve a b j d)

pub wide_all_along : (curve : Curve) (xs ys : List ℤ) (j d : ℕ) → All IsWide xs → All IsWide ys → All IsWide (all_along curve xs ys j d)
wide_all_along curve [] ys j d wide_xs wide_ys = All-nil IsWide
wide_all_along curve (x ∷ xs) [] j d wide_xs wide_ys = All-nil IsWide
wide_all_along curve (x ∷ xs) (y ∷ ys) j d wide_xs wide_ys =
    All-cons IsWide (along curve x y j d) (all_along curve xs ys j d)
    (along_within curve _ _ x y j d (All-head IsWide x xs wide_xs) (All-head IsWide y ys wide_ys))
    (wide_all_along curve xs ys j d (All-tail IsWide x xs wide_xs) (All-tail IsWide y ys wide_ys))

-- numbers in the range of a property
module _ (curve : Curve) (prop : Prop) (from to : List ℤ) (j d : ℕ) where
  number_is : AreNumbers prop from → AreNumbers prop to → (i : ℕ) → i < 4 →
      along curve (number_at from i) (number_at to i) j d ≡ number_at (all_along curve from to j d) i
  number_is of_from of_to i within =
      let few : i < length from = omega (arith, of_from.four) in
      sym (number_at-all_along curve from to i j d few (of_from.four ∙ sym of_to.four))

  number_within : (low high : ℤ) → AreNumbers prop from → AreNumbers prop to → (i : ℕ) → i < 4 →
      IsWithin low high (number_at from i) → IsWithin low high (number_at to i) →
      IsWithin low high (number_at (all_along curve from to j d) i)
  number_within low high of_from of_to i within start end =
      subst (IsWithin low high) (number_is of_from of_to i within) (along_within curve low high (number_at from i) (number_at to i) j d start end)

values_along : (curve : Curve) (prop : Prop) (from to : List ℤ) (j d : ℕ) → AreNumbers prop from → AreNumbers prop to → duration_of prop d ≡ d →
    AreValues prop (all_along curve from to j d)
values_along curve Opacity from to j d f t e =
    number_within curve Opacity from to j d _ _ f t 0 (omega arith) f.in_range t.in_range
values_along curve Volume from to j d f t e =
    number_within curve Volume from to j d _ _ f t 0 (omega arith) f.in_range t.in_range
values_along curve Fill from to j d f t e = (
  number_within curve Fill from to j d _ _ f t 0 (omega arith) f.in_range.0 t.in_range.0,
  number_within curve Fill from to j d _ _ f t 1 (omega arith) f.in_range.1 t.in_range.1,
  number_within curve Fill from to j d _ _ f t 2 (omega arith) f.in_range.2 t.in_range.2,
  number_within curve Fill from to j d _ _ f t 3 (omega arith) f.in_range.3 t.in_range.3,
)
values_along curve Clip from to j d f t e = (
  number_within curve Clip from to j d _ _ f t 0 (omega arith) f.in_range.0 t.in_range.0,
  number_within curve Clip from to j d _ _ f t 1 (omega arith) f.in_range.1 t.in_range.1,
  number_within curve Clip from to j d _ _ f t 2 (omega arith) f.in_range.2 t.in_range.2,
  number_within curve Clip from to j d _ _ f t 3 (omega arith) f.in_range.3 t.in_range.3,
)
values_along curve Keyer from to j d f t e =
    let none : d ≤ j = omega (arith, e) in
    let is : number_at to 0 ≡ number_at (all_along curve from to j d) 0 =
    sym (along-end curve (number_at from 0) (number_at to 0) j d none) ∙ number_is curve Keyer from to j d f t 0 (omega arith) in
    subst (λ (z : ℤ). (z ≡ pos 0) ⊎ (z ≡ MICROS_PER_UNIT)) is t.in_range

-- the numbers of a course are in the range in which they begin and end
pub AreNumbers-all_along : (curve : Curve) (prop : Prop) (from to : List ℤ) (j d : ℕ) → AreNumbers prop from → AreNumbers prop to →
    duration_of prop d ≡ d → AreNumbers prop (all_along curve from to j d)
AreNumbers-all_along curve prop from to j d f t e = record {
  four = length-all_along curve from to j d (f.four ∙ sym t.four) ∙ f.four;
  wide = wide_all_along curve from to j d f.wide t.wide;
  in_range = values_along curve prop from to j d f t e;
}

all_four : (P : ℤ → Type 0) (a b c d : ℤ) → P a → P b → P c → P d → All P (four a b c d)
all_four P a b c d of_a of_b of_c of_d =
    All-cons P a (b ∷ c ∷ d ∷ []) of_a
    (All-cons P b (c ∷ d ∷ []) of_b (All-cons P c (d ∷ []) of_c (All-cons P d [] of_d (All-nil P))))

wide_zero : IsWide (pos 0)
wide_zero = (omega (arith, ints), omega (arith, ints))

wide_unit : IsWide MICROS_PER_UNIT
wide_unit = (omega (arith, ints), omega (arith, ints))

-- so are the defaults
pub AreNumbers-default : (prop : Prop) → AreNumbers prop (default_of prop)
AreNumbers-default Opacity = record {
  four = refl;
  wide = all_four IsWide MICROS_PER_UNIT (pos 0) (pos 0) (pos 0) wide_unit wide_zero wide_zero wide_zero;
  in_range = (omega (arith, ints), omega (arith, ints));
}
AreNumbers-default Volume = record {
  four = refl;
  wide = all_four IsWide MICROS_PER_UNIT (pos 0) (pos 0) (pos 0) wide_unit wide_zero wide_zero wide_zero;
  in_range = (omega (arith, ints), omega (arith, ints));
}
AreNumbers-default Fill = record {
  four = refl;
  wide = all_four IsWide (pos 0) (pos 0) MICROS_PER_UNIT MICROS_PER_UNIT wide_zero wide_zero wide_unit wide_unit;
  in_range = (wide_zero, wide_zero, wide_unit, wide_unit);
}
AreNumbers-default Clip = record {
  four = refl;
  wide = all_four IsWide (pos 0) (pos 0) MICROS_PER_UNIT MICROS_PER_UNIT wide_zero wide_zero wide_unit wide_unit;
  in_range = (wide_zero, wide_zero, wide_unit, wide_unit);
}
AreNumbers-default Keyer = record {
  four = refl;
  wide = all_four IsWide (pos 0) (pos 0) (pos 0) (pos 0) wide_zero wide_zero wide_zero wide_zero;
  in_range = inl refl;
}

one_wide : (value : ℤ) (values : List ℤ) → IsWide value → value ∷ pos 0 ∷ pos 0 ∷ pos 0 ∷ [] ≡ values → All IsWide values
one_wide value values wide e =
    subst (All IsWide) e (all_four IsWide value (pos 0) (pos 0) (pos 0) wide wide_zero wide_zero wide_zero)

four_wide : (values : List ℤ) → length values ≡ 4 →
    IsWide (number_at values 0) × IsWide (number_at values 1) × IsWide (number_at values 2) × IsWide (number_at values 3) → All IsWide values
four_wide values e wide =
    subst (All IsWide) (sym (four_numbers values e))
    (all_four IsWide (number_at values 0) (number_at values 1) (number_at values 2) (number_at values 3) wide.0 wide.1 wide.2 wide.3)

keyer_wide : (value : ℤ) → (value ≡ pos 0) ⊎ (value ≡ MICROS_PER_UNIT) → IsWide value
keyer_wide value (inl e) = subst IsWide (sym e) wide_zero
keyer_wide value (inr e) = subst IsWide (sym e) wide_unit

values_wide : (prop : Prop) (values : List ℤ) → length values ≡ 4 → AreValues prop values → values_of prop values ≡ values → All IsWide values
values_wide Opacity values e in_range kept = one_wide (number_at values 0) values (omega (arith, ints, in_range.0), omega (arith, ints, in_range.1)) kept
values_wide Volume values e in_range kept = one_wide (number_at values 0) values (omega (arith, ints, in_range.0), omega (arith, ints, in_range.1)) kept
values_wide Fill values e in_range kept = four_wide values e in_range
values_wide Clip values e in_range kept = four_wide values e in_range
values_wide Keyer values e in_range kept = one_wide (number_at values 0) values (keyer_wide (number_at values 0) in_range) kept

-- and the numbers of a setting
pub AreNumbers-setting : (setting : SettingView) → IsSetting setting → length setting.values ≡ 4 → AreNumbers setting.prop setting.values
AreNumbers-setting setting is_setting e = record {
  four = e;
  wide = values_wide setting.prop setting.values e is_setting.in_range is_setting.values;
  in_range = is_setting.in_range;
}

-- the four numbers of a course, one by one
pub all_along-four : (curve : Curve) (from to : List ℤ) (j d : ℕ) → length from ≡ 4 → length to ≡ 4 →
    all_along curve from to j d
    ≡ four (along curve (number_at from 0) (number_at to 0) j d) (along curve (number_at from 1) (number_at to 1) j d)
    (along curve (number_at from 2) (number_at to 2) j d) (along curve (number_at from 3) (number_at to 3) j d)
all_along-four curve from to j d e f =
    ap₂ (λ (xs ys : List ℤ). all_along curve xs ys j d) (four_numbers from e) (four_numbers to f)

pub four_same : {a b c d w x y z : ℤ} → a ≡ w → b ≡ x → c ≡ y → d ≡ z → four a b c d ≡ four w x y z
four_same e f g h = cc
