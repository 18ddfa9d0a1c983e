-- Which places are live, and which are drawn. Lists of acts have the last act first.
use Rattle.std.specs.Prelude.{ℕ, ◌==◌, Bool, ◌||◌, List, [], ◌∷◌, nat_lt, is_some, filter, if◌then◌else◌, Option}
use Rattle.play_types.specs.Place.{PlaceView}
use Rattle.play_types.specs.Shape.{shape_of}
use Rattle.play_types.specs.declared.command.Cmd.{Cmd}
use Rattle.play_types.specs.declared.shape.CommandShape.TheVariants as shape
use Rattle.history_model.specs.stage.Act.{Act}
use Rattle.history_model.specs.stage.Trail.{trail}
use Rattle.history_model.specs.stage.Life.{Life, Foreground, life, ready}

-- a rising list with a number added, unless it has it already
abbrev pub with_number : ℕ → List ℕ → List ℕ
with_number n [] = n ∷ []
with_number n (m ∷ more) =
    let rest = with_number n more in
    if n == m then m ∷ more else (if nat_lt n m then n ∷ m ∷ more else m ∷ rest)

-- the layers, with those added to which a command can bring content: a swap of channels keeps content on its layer
abbrev pub with_layers_of : Cmd → List ℕ → List ℕ
with_layers_of cmd layers = elim (shape_of cmd) [
  | shape.Take at take ↦ with_number at.layer layers
  | shape.Change at ↦ layers
  | shape.ClearChannel channel ↦ layers
  | shape.SwapLayers a b transforms ↦ with_number a.layer (with_number b.layer layers)
  | shape.SwapChannels a b transforms ↦ layers
  | shape.Set setting ↦ layers
  | shape.CommitMixer channel ↦ layers
  | shape.Reset target ↦ layers
  | shape.Record mark ↦ layers
  | shape.Ask query ↦ layers
]

-- the layers that acts loaded or swapped, on any channel, in rising number: no other layer can hold content
abbrev pub layers : List Act → List ℕ
layers [] = []
layers (act ∷ before) = with_layers_of act.cmd (layers before)

-- what a place holds after the acts, when `ticks` ticks have passed since the history began
abbrev pub state : List Act → ℕ → PlaceView → Life
state acts ticks place = life (trail acts place) ticks

-- whether a place holds a foreground or a background
abbrev pub is_live : Life → Bool
is_live s = is_some s.foreground || is_some s.background

-- the live layers of a channel, in rising number
abbrev pub live_layers : List Act → ℕ → ℕ → List ℕ
live_layers acts ticks channel =
    filter (λ layer. is_live (state acts ticks (record { channel = channel; layer = layer }))) (layers acts)

-- the foreground that the next tick shows at a place
abbrev pub foreground_at : List Act → ℕ → PlaceView → Option Foreground
foreground_at acts ticks place = (ready (state acts ticks place)).foreground

-- the layers of a channel that the next tick draws, in rising number
abbrev pub drawn_layers : List Act → ℕ → ℕ → List ℕ
drawn_layers acts ticks channel =
    filter (λ layer. is_some (foreground_at acts ticks (record { channel = channel; layer = layer }))) (layers acts)
