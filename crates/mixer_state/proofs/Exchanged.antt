-- Places, and places that are exchanged.
use Rattle.std.proofs.Common.{◌≡◌, ℕ, ◌==◌, true, false, refl, sym, ap, ap₂, ◌∙◌, eqb-true, eq-eqb, if◌then◌else◌}
use Rattle.std.proofs.lemmas.Bool.{and_parts, and_from, cond-true, cond-false, cond_both}
use Rattle.play_types.specs.Place.{PlaceView}
use Rattle.play_types.specs.Scene.{IsConfigured}
use Rattle.play_types.specs.Setting.{is_same_prop, prop_number}
use Rattle.play_types.specs.declared.setting.Prop.{Prop}
use Rattle.play_types.specs.declared.setting.Prop.TheVariants.{Opacity, Fill, Clip, Volume, Keyer}
use Rattle.history_model.specs.stage.Trail.{channel_swapped_place, same_place, swapped_place}

-- places that pass the test are one
pub same_place-true : (a b : PlaceView) → same_place a b ≡ true → a ≡ b
same_place-true a b e =
    let parts = and_parts (a.channel == b.channel) (a.layer == b.layer) e in
    ap₂ (λ (c l : ℕ). let p : PlaceView = record { channel = c; layer = l } in p)
    (eqb-true a.channel b.channel parts.0) (eqb-true a.layer b.layer parts.1)

pub same_place-same : (a : PlaceView) → same_place a a ≡ true
same_place-same a =
    and_from (a.channel == a.channel) (a.layer == a.layer) (eq-eqb a.channel a.channel refl) (eq-eqb a.layer a.layer refl)

-- the property of a number
prop_with : ℕ → Prop
prop_with n = if n == 0 then Opacity else (if n == 1 then Fill else (if n == 2 then Clip else (if n == 3 then Volume else Keyer)))

prop_with-number : (prop : Prop) → prop_with (prop_number prop) ≡ prop
unfolding prop_with
prop_with-number Opacity = refl
prop_with-number Fill = refl
prop_with-number Clip = refl
prop_with-number Volume = refl
prop_with-number Keyer = refl

-- properties that pass the test are one
pub same_prop-true : (a b : Prop) → is_same_prop a b ≡ true → a ≡ b
same_prop-true a b e =
    sym (prop_with-number a) ∙ ap prop_with (eqb-true (prop_number a) (prop_number b) e) ∙ prop_with-number b

pub swapped-first : (a b place : PlaceView) → same_place place a ≡ true → swapped_place a b place ≡ b
swapped-first a b place e = cond-true (same_place place a) b _ e

pub swapped-second : (a b place : PlaceView) → same_place place a ≡ false → same_place place b ≡ true → swapped_place a b place ≡ a
swapped-second a b place n e = cond-false (same_place place a) b _ n ∙ cond-true (same_place place b) a place e

pub swapped-other : (a b place : PlaceView) → same_place place a ≡ false → same_place place b ≡ false → swapped_place a b place ≡ place
swapped-other a b place n m = cond-false (same_place place a) b _ n ∙ cond-false (same_place place b) a place m

abbrev on : PlaceView → ℕ → PlaceView
on place channel = record place { channel = channel }

-- places are exchanged with places of configured channels
pub configured-swapped : (n : ℕ) (a b place : PlaceView) → IsConfigured n a.channel → IsConfigured n b.channel →
    IsConfigured n place.channel → IsConfigured n (swapped_place a b place).channel
configured-swapped n a b place of_a of_b of_place =
    let P : PlaceView → Type 0 = λ p. IsConfigured n p.channel in
    cond_both (same_place place a) b (if same_place place b then a else place) P (λ _. of_b)
    (λ _. cond_both (same_place place b) a place P (λ _. of_a) (λ _. of_place))

pub configured-channel_swapped : (n a b : ℕ) (place : PlaceView) → IsConfigured n a → IsConfigured n b →
    IsConfigured n place.channel → IsConfigured n (channel_swapped_place a b place).channel
configured-channel_swapped n a b place of_a of_b of_place =
    let P : PlaceView → Type 0 = λ p. IsConfigured n p.channel in
    cond_both (place.channel == a) (on place b) (if place.channel == b then on place a else place) P (λ _. of_b)
    (λ _. cond_both (place.channel == b) (on place a) place P (λ _. of_a) (λ _. of_place))
