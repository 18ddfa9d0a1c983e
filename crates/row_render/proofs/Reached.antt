-- Which columns of the frame show a raster.
use Rattle.std.proofs.Common.{◌≡◌, ℕ, zero, suc, ◌+◌, ◌*◌, ◌/◌, ◌<◌, ◌≤◌, ◌⊎◌, inl, inr, Bool, true, false, ◌&&◌, refl, sym, ap, subst, ◌∙◌, lt-ltb, le-ltb, if◌then◌else◌, ℤ, pos, negsuc, ◌+ℤ◌, ◌-ℤ◌, ◌<ℤ◌, ◌≤ℤ◌, nat_abs, min, max, to_z, of_z, w64, arith}
use Rattle.std.specs.Prelude.{Some, None, int_le, int_lt}
use Rattle.std.proofs.lemmas.Bool.{cases_lt}
use Rattle.std.proofs.lemmas.Int.{ints, to_z-of_z, fits_signed_from_abs}
use Rattle.play_types.specs.Setting.{IsWide}
use Rattle.std.proofs.Math.Nat.{div-lt_iff_lt-mul}
use Rattle.history_model.specs.pictures.Placing.{column_in, filled_column, floor_div, is_kept, twice_middle, twice_part}
use Rattle.row_render.specs.inner.Shown.{IsShownRun, column_by}
use Rattle.row_render.specs.declared.shown.ShownRun.{ShownRun}

-- a number of columns whose middles are to the left of a place
pub record AreBefore (width : ℕ) (place : ℤ) (count : ℕ) : Type 0 where
  pub before : (x : ℕ) → x < count → twice_middle x <ℤ twice_part width place
  pub after : (x : ℕ) → x < width → count ≤ x → twice_part width place ≤ℤ twice_middle x

-- the answers of tests of signed numbers
le_true : (a b : ℤ) → a ≤ℤ b → int_le a b ≡ true
le_true a b h = by (int_le a b) refl
  where
    by : (t : Bool) → int_le a b ≡ t → int_le a b ≡ true
    by true e = e
    by false e = absurd (omega (arith, ints))

le_false : (a b : ℤ) → b <ℤ a → int_le a b ≡ false
le_false a b h = by (int_le a b) refl
  where
    by : (t : Bool) → int_le a b ≡ t → int_le a b ≡ false
    by true e = absurd (omega (arith, ints))
    by false e = e

lt_true : (a b : ℤ) → a <ℤ b → int_lt a b ≡ true
lt_true a b h = by (int_lt a b) refl
  where
    by : (t : Bool) → int_lt a b ≡ t → int_lt a b ≡ true
    by true e = e
    by false e = absurd (omega (arith, ints))

lt_false : (a b : ℤ) → b ≤ℤ a → int_lt a b ≡ false
lt_false a b h = by (int_lt a b) refl
  where
    by : (t : Bool) → int_lt a b ≡ t → int_lt a b ≡ false
    by true e = absurd (omega (arith, ints))
    by false e = e

-- a part of the frame, from a place that is moved to the right
part-is : (w e b : ℕ) (z : ℤ) → pos e ≡ z +ℤ pos b → twice_part w z +ℤ pos (2 * w * b) ≡ pos (2 * w * e)
part-is w e b (pos a) is =
    let sum : a + b ≡ e = omega (arith, ints) in
    let out : 2 * w * a + 2 * w * b ≡ 2 * w * (a + b) = grind arith in
    ap pos (out ∙ ap (λ (n : ℕ). 2 * w * n) sum)
part-is w e b (negsuc a) is =
    let sum : e + suc a ≡ b = omega (arith, ints) in
    let out : 2 * w * e + 2 * w * suc a ≡ 2 * w * (e + suc a) = grind arith in
    let whole : 2 * w * e + 2 * w * suc a ≡ 2 * w * b = out ∙ ap (λ (n : ℕ). 2 * w * n) sum in
    omega (arith, ints, whole)

part-sum : (w : ℕ) (f : ℤ) (m : ℕ) → twice_part w (f +ℤ pos m) ≡ twice_part w f +ℤ pos (2 * w * m)
part-sum w (pos a) m = (let out : 2 * w * (a + m) ≡ 2 * w * a + 2 * w * m = grind arith in ap pos out)
part-sum w (negsuc a) m =
    let is = part-is w m (suc a) (negsuc a +ℤ pos m) (omega (arith, ints)) in
    omega (arith, ints, is)

-- a column that the clip does not keep
kept_not : (width : ℕ) (f s k e : ℤ) (x : ℕ) → is_kept width k e x ≡ false → column_by width f s k e x ≡ None
kept_not width f s k e x cut = ap (λ (t : Bool). if t then filled_column width f s x else None) cut

cut_left : (width : ℕ) (f s k e : ℤ) (x : ℕ) → twice_middle x <ℤ twice_part width k → column_by width f s k e x ≡ None
cut_left width f s k e x lt =
    kept_not width f s k e x
    (ap (λ (t : Bool). t && int_lt (twice_middle x) (twice_part width (k +ℤ e))) (le_false (twice_part width k) (twice_middle x) lt))

and_false : (t : Bool) → (t && false) ≡ false
and_false true = refl
and_false false = refl

cut_right : (width : ℕ) (f s k e : ℤ) (x : ℕ) → twice_part width (k +ℤ e) ≤ℤ twice_middle x → column_by width f s k e x ≡ None
cut_right width f s k e x le =
    let kept = int_le (twice_part width k) (twice_middle x) in
    kept_not width f s k e x
    (ap (λ (t : Bool). kept && t) (lt_false (twice_middle x) (twice_part width (k +ℤ e)) le) ∙ and_false kept)

-- a column that the fill does not reach
filled_not : (width : ℕ) (f s k e : ℤ) (x : ℕ) → filled_column width f s x ≡ None → column_by width f s k e x ≡ None
filled_not width f s k e x none = by (is_kept width k e x)
  where
    by : (t : Bool) → (if t then filled_column width f s x else None) ≡ None
    by true = none
    by false = refl

below : (width m : ℕ) (z : ℤ) → z <ℤ pos 0 → column_in width (floor_div z (pos (2 * suc m))) ≡ None
below width m (pos n) lt = absurd (omega (arith, ints))
below width m (negsuc n) lt = refl

reached_left : (width : ℕ) (f s k e : ℤ) (x : ℕ) → pos 0 <ℤ s → twice_middle x <ℤ twice_part width f → column_by width f s k e x ≡ None
reached_left width f (pos zero) k e x some lt = absurd (omega (arith, ints))
reached_left width f (negsuc m) k e x some lt = absurd (omega (arith, ints))
reached_left width f (pos (suc m)) k e x some lt =
    filled_not width f (pos (suc m)) k e x (below width m (twice_middle x -ℤ twice_part width f) (omega (arith, ints)))

beyond : (width m : ℕ) (z : ℤ) → pos (width * (2 * suc m)) ≤ℤ z → column_in width (floor_div z (pos (2 * suc m))) ≡ None
beyond width m (negsuc n) le = absurd (omega (arith, ints))
beyond width m (pos n) le =
    let many : width * (2 * suc m) ≤ n = omega (arith, ints) in
    let d = 2 * suc m in
    ap (λ (t : Bool). if t then Some (n / d) else None) (le-ltb (n / d) width (above many))
  where
    above : width * (2 * suc m) ≤ n → width ≤ n / (2 * suc m)
    above many = elim (cases_lt (n / (2 * suc m)) width) [
      | inr ge ↦ ge
      | inl lt ↦ (let few = (div-lt_iff_lt-mul {k = 2 * suc m} (omega arith)).0 lt in absurd (omega (arith, few, many)))
    ]

reached_right : (width : ℕ) (f s k e : ℤ) (x : ℕ) → pos 0 <ℤ s → twice_part width (f +ℤ s) ≤ℤ twice_middle x → column_by width f s k e x ≡ None
reached_right width f (pos zero) k e x some le = absurd (omega (arith, ints))
reached_right width f (negsuc m) k e x some le = absurd (omega (arith, ints))
reached_right width f (pos (suc m)) k e x some le =
    let sum = part-sum width f (suc m) in
    let out : 2 * width * suc m ≡ width * (2 * suc m) = grind arith in
    filled_not width f (pos (suc m)) k e x (beyond width m (twice_middle x -ℤ twice_part width f) (omega (arith, ints, sum, out)))

-- a column that is kept and reached
pub shown_at : (width : ℕ) (f s k e : ℤ) (x n : ℕ) → pos 0 <ℤ s → twice_part width k ≤ℤ twice_middle x → twice_middle x <ℤ twice_part width (k +ℤ e) →
    pos n ≡ twice_middle x -ℤ twice_part width f → twice_middle x <ℤ twice_part width (f +ℤ s) →
    (column_by width f s k e x ≡ Some (n / (2 * nat_abs s))) × (n / (2 * nat_abs s) < width)
shown_at width f (pos zero) k e x n some from to is below = absurd (omega (arith, ints))
shown_at width f (negsuc m) k e x n some from to is below = absurd (omega (arith, ints))
shown_at width f (pos (suc m)) k e x n some from to is below =
    let d = 2 * suc m in
    let sum = part-sum width f (suc m) in
    let out : 2 * width * suc m ≡ width * (2 * suc m) = grind arith in
    let few : n < width * (2 * suc m) = omega (arith, ints, sum, out) in
    let lt : n / d < width = (div-lt_iff_lt-mul {k = 2 * suc m} (omega arith)).1 few in
    let kept : is_kept width k e x ≡ true =
    ap (λ (t : Bool). t && int_lt (twice_middle x) (twice_part width (k +ℤ e))) (le_true (twice_part width k) (twice_middle x) from)
    ∙ lt_true (twice_middle x) (twice_part width (k +ℤ e)) to in (
      ap (λ (t : Bool). if t then filled_column width f (pos (suc m)) x else None) kept
          ∙ ap (λ (z : ℤ). column_in width (floor_div z (pos d))) (sym is)
          ∙ ap (λ (t : Bool). if t then Some (n / d) else None) (lt-ltb (n / d) width lt),
      lt,
    )

-- the columns outside of both
pub hidden_at : (width : ℕ) (f s k e : ℤ) (cf ct ff ft from to x : ℕ) → pos 0 <ℤ s →
    AreBefore width k cf → AreBefore width (k +ℤ e) ct → AreBefore width f ff → AreBefore width (f +ℤ s) ft →
    from ≡ max cf ff → to ≡ min ct ft → x < width → (x < from) ⊎ (to ≤ x) → column_by width f s k e x ≡ None
hidden_at width f s k e cf ct ff ft start end x some left right first last from to lt out =
    elim (cases_lt x cf) [
      | inl low ↦ cut_left width f s k e x (left.before x low)
      | inr kept ↦ elim (cases_lt x ff) [
        | inl low ↦ reached_left width f s k e x some (first.before x low)
        | inr reached ↦ elim (cases_lt x ct) [
          | inr high ↦ cut_right width f s k e x (right.after x lt high)
          | inl inside ↦ elim (cases_lt x ft) [
            | inr high ↦ reached_right width f s k e x some (last.after x lt high)
            | inl within ↦ absurd (omega (arith, out, from, to, kept, reached, inside, within))
          ]
        ]
      ]
    ]

-- the number of a further column
number_more : (width : ℕ) (f : ℤ) (from number i : ℕ) → pos number ≡ twice_middle from -ℤ twice_part width f →
    pos (number + i * 2000000) ≡ twice_middle (from + i) -ℤ twice_part width f
number_more width f from number i is = omega (arith, ints)

-- the columns of both
pub IsShownRun-both : (width : ℕ) (f s k e : ℤ) (cf ct ff ft : ℕ) (run : ShownRun) → pos 0 <ℤ s → nat_abs s ≤ 1000000000 →
    AreBefore width k cf → AreBefore width (k +ℤ e) ct → AreBefore width f ff → AreBefore width (f +ℤ s) ft → ct ≤ width →
    run.from ≡ max cf ff → run.to ≡ min ct ft → run.from < run.to → pos run.number ≡ twice_middle run.from -ℤ twice_part width f →
    run.divisor ≡ 2 * nat_abs s → IsShownRun width f s k e run
IsShownRun-both width f s k e cf ct ff ft run some small left right first last within from to order is by =
    let shown = λ (i : ℕ) (lt : run.from + i < run.to).
    shown_at width f s k e (run.from + i) (run.number + i * 2000000) some
    (left.after (run.from + i) (omega (arith, to, within, lt)) (omega (arith, from)))
    (right.before (run.from + i) (omega (arith, to, lt)))
    (number_more width f run.from run.number i is)
    (last.before (run.from + i) (omega (arith, to, lt))) in
    record {
      order = omega (arith, order);
      inside = omega (arith, to, within);
      some = omega (arith, ints, by);
      few = omega (arith, by, small);
      hidden = λ x lt out. hidden_at width f s k e cf ct ff ft run.from run.to x some left right first last from to lt out;
      shown = λ i lt. (shown i lt).0 ∙ ap (λ (d : ℕ). Some ((run.number + i * 2000000) / d)) (sym by);
      within = λ i lt. subst (λ (d : ℕ). (run.number + i * 2000000) / d < width) (sym by) ((shown i lt).1);
    }

-- the numbers of fills and clips as numbers of 64 bits
pub wide_small : (z : ℤ) → IsWide z → nat_abs z ≤ 1000000000
wide_small z h = let low = h.0 in let high = h.1 in omega (arith, ints)

pub wide_is : (z : ℤ) → IsWide z → to_z w64 (of_z w64 z) ≡ z
wide_is z h = let small = wide_small z h in to_z-of_z w64 z (fits_signed_from_abs w64 z (omega (arith, small)))

pub sum_is : (a b : ℤ) → IsWide a → IsWide b → to_z w64 (of_z w64 (to_z w64 (of_z w64 a) +ℤ to_z w64 (of_z w64 b))) ≡ a +ℤ b
sum_is a b one other =
    let small = wide_small a one in
    let few = wide_small b other in
    let sum : nat_abs (a +ℤ b) ≤ 2000000000 = omega (arith, ints, small, few) in
    (λ i. to_z w64 (of_z w64 (wide_is a one i +ℤ wide_is b other i))) ∙ to_z-of_z w64 (a +ℤ b) (fits_signed_from_abs w64 (a +ℤ b) (omega (arith, sum)))

pub AreBefore-at : (width : ℕ) (z place : ℤ) (count : ℕ) → z ≡ place → ((x : ℕ) → x < count → twice_middle x <ℤ twice_part width z) →
    ((x : ℕ) → x < width → count ≤ x → twice_part width z ≤ℤ twice_middle x) → AreBefore width place count
AreBefore-at width z place count e before after =
    subst (λ (p : ℤ). AreBefore width p count) e (record { before = λ x lt. before x lt; after = λ x lt ge. after x lt ge })
