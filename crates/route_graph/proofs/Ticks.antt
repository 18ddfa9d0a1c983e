-- What is kept of a tick, as it begins and as its places show pictures.
use Rattle.std.proofs.Common.{◌≡◌, ℕ, ◌-◌, ◌<◌, ◌≤◌, ◌≢◌, ◌&&◌, true, false, cond, eqb, List, [], ◌∷◌, length, get_or, set, replicate, Option, Some, None, refl, sym, ap, ◌∙◌, inl, inr, arith}
use Rattle.std.proofs.lemmas.Bool.{cases_eq}
use Rattle.std.proofs.lemmas.Bool.Decides.{nat_tests}
use Rattle.std.proofs.lemmas.Grind.{get_or-set_at}
use Rattle.std.proofs.lemmas.List.{get_or-replicate, get_or-set_other}
use Rattle.play_types.specs.Place.{PlaceView}
use Rattle.play_types.specs.Scene.{IsConfigured}
use Rattle.route_graph.specs.Shown.{Picture, Pictures, ShownLayers, layers_of, shown_at, shown_on, with_picture, with_shown}
use Rattle.route_graph.specs.Routes.{nothing_shown}
use Rattle.route_graph.specs.Past.{KeepsTick, no_pictures, showing}
use Rattle.route_graph.proofs.ShownLayers.{shown_on-other, shown_on-same}

-- a tick at which nothing is shown
pub keeps_nothing : (channels : ℕ) → KeepsTick channels (Some (nothing_shown channels)) (Some no_pictures)
keeps_nothing channels place configured =
    let within : place.channel - 1 < channels = omega (arith, configured.0, configured.1) in
    ap (λ layers. shown_on layers place.layer) (get_or-replicate channels (place.channel - 1) [] [] within)

-- the layers of a channel once a place shows a picture
pub layers_of-same : (place : PlaceView) (picture : Picture) (tick : List ShownLayers) (channel : ℕ) →
    IsConfigured (length tick) place.channel → channel ≡ place.channel →
    layers_of channel (with_picture place picture tick) ≡ with_shown place.layer picture (layers_of place.channel tick)
layers_of-same place picture tick channel configured same =
    get_or-set_at tick (place.channel - 1) (channel - 1) (with_shown place.layer picture (layers_of place.channel tick)) []
    (ap (λ n. n - 1) same) (omega (arith, configured.0, configured.1))

pub layers_of-other : (place : PlaceView) (picture : Picture) (tick : List ShownLayers) (channel : ℕ) →
    1 ≤ place.channel → 1 ≤ channel → channel ≢ place.channel →
    layers_of channel (with_picture place picture tick) ≡ layers_of channel tick
layers_of-other place picture tick channel one from_one differs =
    get_or-set_other tick (place.channel - 1) (channel - 1) (with_shown place.layer picture (layers_of place.channel tick)) []
    (λ same. differs (omega (arith, same)))

-- what each place shows then
shown_there : (place : PlaceView) (picture : Picture) (tick : List ShownLayers) (pictures : Pictures) (other : PlaceView) →
    IsConfigured (length tick) place.channel → 1 ≤ other.channel → shown_at tick other ≡ pictures other →
    shown_at (with_picture place picture tick) other ≡ showing place picture pictures other
shown_there place picture tick pictures other configured from_one before =
    elim (cases_eq other.channel place.channel) [
      | inl same ↦ elim (cases_eq other.layer place.layer) [
        | inl here ↦
            ap (λ layers. shown_on layers other.layer) (layers_of-same place picture tick other.channel configured same)
            ∙ ap (λ (n : ℕ). shown_on (with_shown place.layer picture (layers_of place.channel tick)) n) here
            ∙ shown_on-same place.layer picture (layers_of place.channel tick)
            ∙ sym (grind (arith, nat_tests, same, here))
        | inr there ↦
            ap (λ layers. shown_on layers other.layer) (layers_of-same place picture tick other.channel configured same)
            ∙ shown_on-other place.layer picture (layers_of place.channel tick) other.layer there
            ∙ ap (λ (n : ℕ). shown_on (layers_of n tick) other.layer) (sym same)
            ∙ before
            ∙ sym (grind (arith, nat_tests, there))
      ]
      | inr differs ↦
          ap (λ layers. shown_on layers other.layer) (layers_of-other place picture tick other.channel configured.0 from_one differs)
          ∙ before
          ∙ sym (grind (arith, nat_tests, differs))
    ]

pub keeps_show : (channels : ℕ) (place : PlaceView) (picture : Picture) (tick : List ShownLayers) (pictures : Pictures) →
    length tick ≡ channels → IsConfigured channels place.channel → KeepsTick channels (Some tick) (Some pictures) →
    KeepsTick channels (Some (with_picture place picture tick)) (Some (showing place picture pictures))
keeps_show channels place picture tick pictures whole configured keeps other within =
    shown_there place picture tick pictures other (configured.0, omega (arith, whole, configured.1)) within.0 (keeps other within)
