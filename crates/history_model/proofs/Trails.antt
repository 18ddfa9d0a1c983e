-- Trails: a command that does not touch a place does not change its trail.
use Rattle.std.proofs.Common.{◌≡◌, ℕ, Bool, false, ◌==◌, List, [], ◌∷◌, refl, ap, ◌∙◌, if◌then◌else◌}
use Rattle.std.proofs.lemmas.Bool.{or_parts}
use Rattle.play_types.specs.Place.{PlaceView}
use Rattle.play_types.specs.declared.command.Cmd.{Cmd}
use Rattle.play_types.specs.declared.command.Cmd.TheVariants.{Load, LoadBg, Play, PlayTake, Pause, Resume, StopLayer, ClearLayer, ClearChannel, SwapLayers, SwapChannels, Set, CommitMixer, ResetLayer, ResetChannel, AddFile, RemoveFile, Value, Info}
use Rattle.history_model.specs.stage.Act.{Act}
use Rattle.history_model.specs.stage.Trail.{same_place, swapped_place, channel_swapped_place, content_origin, acts_on_content, acts_along, trail}
use Rattle.history_model.specs.stage.Touched.{touches, some_touches}

-- an act that neither acts on the place nor moves it
acts_along-skip : (acts_on : Cmd → PlaceView → Bool) (origin : Cmd → PlaceView → PlaceView) (act : Act) (before : List Act) (place : PlaceView) →
    acts_on act.cmd place ≡ false → origin act.cmd place ≡ place →
    acts_along acts_on origin (act ∷ before) place ≡ acts_along acts_on origin before place
acts_along-skip acts_on origin act before place off still =
    ap (λ (on : Bool). let earlier = acts_along acts_on origin before (origin act.cmd place) in if on then act ∷ earlier else earlier) off
    ∙ ap (acts_along acts_on origin before) still

-- a place that is neither of two swapped places stays
swapped_place-other : (a b place : PlaceView) → same_place place a ≡ false → same_place place b ≡ false → swapped_place a b place ≡ place
swapped_place-other a b place not_a not_b =
    ap (λ (t : Bool). if t then b else (if same_place place b then a else place)) not_a
    ∙ ap (λ (t : Bool). if t then a else place) not_b

channel_swapped_place-other : (a b : ℕ) (place : PlaceView) → (place.channel == a) ≡ false → (place.channel == b) ≡ false →
    channel_swapped_place a b place ≡ place
channel_swapped_place-other a b place not_a not_b =
    ap (λ (t : Bool). if t then record place { channel = b } else (if place.channel == b then record place { channel = a } else place)) not_a
    ∙ ap (λ (t : Bool). if t then record place { channel = a } else place) not_b

-- a command that does not touch a place does not act on its content
pub acts_on_content-other : (cmd : Cmd) (place : PlaceView) → touches cmd place ≡ false → acts_on_content cmd place ≡ false
acts_on_content-other (Load at take) place e = e
acts_on_content-other (LoadBg at take) place e = e
acts_on_content-other (Play at) place e = e
acts_on_content-other (PlayTake at take) place e = e
acts_on_content-other (Pause at) place e = e
acts_on_content-other (Resume at) place e = e
acts_on_content-other (StopLayer at) place e = e
acts_on_content-other (ClearLayer at) place e = e
acts_on_content-other (ClearChannel channel) place e = e
acts_on_content-other (SwapLayers a b transforms) place e = refl
acts_on_content-other (SwapChannels a b transforms) place e = refl
acts_on_content-other (Set setting) place e = refl
acts_on_content-other (CommitMixer channel) place e = refl
acts_on_content-other (ResetLayer at) place e = refl
acts_on_content-other (ResetChannel channel) place e = refl
acts_on_content-other (AddFile marked name) place e = refl
acts_on_content-other (RemoveFile marked) place e = refl
acts_on_content-other (Value at prop) place e = refl
acts_on_content-other Info place e = refl

-- a command that does not touch a place does not move its content
pub content_origin-other : (cmd : Cmd) (place : PlaceView) → touches cmd place ≡ false → content_origin cmd place ≡ place
content_origin-other (Load at take) place e = refl
content_origin-other (LoadBg at take) place e = refl
content_origin-other (Play at) place e = refl
content_origin-other (PlayTake at take) place e = refl
content_origin-other (Pause at) place e = refl
content_origin-other (Resume at) place e = refl
content_origin-other (StopLayer at) place e = refl
content_origin-other (ClearLayer at) place e = refl
content_origin-other (ClearChannel channel) place e = refl
content_origin-other (SwapLayers a b transforms) place e =
    let apart = or_parts (same_place place a) _ e in swapped_place-other a b place apart.0 apart.1
content_origin-other (SwapChannels a b transforms) place e =
    let apart = or_parts (place.channel == a) _ e in channel_swapped_place-other a b place apart.0 apart.1
content_origin-other (Set setting) place e = refl
content_origin-other (CommitMixer channel) place e = refl
content_origin-other (ResetLayer at) place e = refl
content_origin-other (ResetChannel channel) place e = refl
content_origin-other (AddFile marked name) place e = refl
content_origin-other (RemoveFile marked) place e = refl
content_origin-other (Value at prop) place e = refl
content_origin-other Info place e = refl

-- an act that does not touch a place does not change its trail
pub trail-other : (act : Act) (before : List Act) (place : PlaceView) → touches act.cmd place ≡ false →
    trail (act ∷ before) place ≡ trail before place
trail-other act before place e =
    acts_along-skip acts_on_content content_origin act before place
    (acts_on_content-other act.cmd place e) (content_origin-other act.cmd place e)

-- a place that no act touches has an empty trail
pub trail-untouched : (acts : List Act) (place : PlaceView) → some_touches acts place ≡ false → trail acts place ≡ []
trail-untouched [] place e = refl
trail-untouched (act ∷ before) place e =
    let apart = or_parts (touches act.cmd place) _ e in
    trail-other act before place apart.0 ∙ trail-untouched before place apart.1
