-- A frame is made of its scene and of the frames of the tick before it. One more event, and its acts.
use Rattle.std.proofs.Common.{◌≡◌, ℕ, List, [], ◌∷◌, ◌++◌, reverse, ap, ◌∙◌, refl, unwrap_or}
use Rattle.std.proofs.lemmas.List.{reverse-append}
use Rattle.play_types.specs.History.{ticks}
use Rattle.play_types.specs.declared.event.Event.{Event}
use Rattle.play_types.specs.declared.event.Event.TheVariants.{Tick}
use Rattle.history_model.specs.stage.Acts.{acts, acts_back, with_event}
use Rattle.history_model.specs.pictures.Media.{Setup, size}
use Rattle.history_model.specs.pictures.Scene.{scene}
use Rattle.history_model.specs.pictures.Frame.{scene_pixel, frames_back, frame_pixel, last_pixel, pictures_after}
use Rattle.history_model.specs.pictures.Sound.{scene_sample, sounds_back, frame_sample, last_sample}
use Rattle.history_model.proofs.Events.{ticks-reverse}

-- a pixel of the next tick is that of its scene over the frames of the last one, and so is a sample
pub frame_pixel-scene : (setup : Setup) (history : List Event) (channel x y : ℕ) →
    frame_pixel setup history channel x y
    ≡ scene_pixel (pictures_after setup history) (size setup channel) (scene history channel) x y
unfolding frame_pixel last_pixel scene
frame_pixel-scene setup history channel x y = refl

pub frame_sample-scene : (setup : Setup) (history : List Event) (channel pair side : ℕ) →
    frame_sample setup history channel pair side
    ≡ scene_sample setup (last_sample setup history) (scene history channel) pair side
unfolding frame_sample last_sample scene
frame_sample-scene setup history channel pair side = refl

-- after a tick the last frames are those of that tick
pub last_pixel-tick : (setup : Setup) (history : List Event) (channel x y : ℕ) →
    last_pixel setup (history ++ Tick ∷ []) channel x y ≡ frame_pixel setup history channel x y
unfolding frame_pixel last_pixel
last_pixel-tick setup history channel x y = ap (λ back. frames_back setup back channel x y) (reverse-append history (Tick ∷ []))

pub last_sample-tick : (setup : Setup) (history : List Event) (channel pair side : ℕ) →
    last_sample setup (history ++ Tick ∷ []) channel pair side ≡ frame_sample setup history channel pair side
unfolding frame_sample last_sample
last_sample-tick setup history channel pair side =
    ap (λ back. sounds_back setup back channel pair side) (reverse-append history (Tick ∷ []))

-- the acts of one event more are those before it with its own, or those before it if it is refused
pub acts-one_more : (history : List Event) (event : Event) →
    acts (history ++ event ∷ []) ≡ unwrap_or (with_event (acts history) (ticks history) event) (acts history)
unfolding acts
acts-one_more history event =
    ap acts_back (reverse-append history (event ∷ []))
    ∙ ap (λ now. unwrap_or (with_event (acts_back (reverse history)) now event) (acts_back (reverse history))) (ticks-reverse history)
