-- Which past a layer represents: the acts on its place, the last one first, and the ticks since the history began.
use Rattle.std.specs.Prelude.{◌≡◌, ℕ, ◌≤◌, List, [], ◌∷◌}
use Rattle.play_types.specs.declared.command.Cmd.{Cmd}
use Rattle.history_model.specs.stage.Act.{Act, act_after}
use Rattle.history_model.specs.stage.Life.{Life, life}

-- acts that came one after another, the last one first, and none after `ticks` ticks
abbrev pub IsPast : List Act → ℕ → Type 0
IsPast [] ticks = Unit {0}
IsPast (act ∷ before) ticks = (act.ticks ≤ ticks) × IsPast before act.ticks

-- the acts are a past of `ticks` ticks, and a layer is what they have made of its place by then
pub record Represents (layer : Life) (acts : List Act) (ticks : ℕ) : Type 0 where
  pub past : IsPast acts ticks
  pub state : layer ≡ life acts ticks

-- a layer that represented a past before represents it afterwards with this command at its end
abbrev pub TakesCommand : Cmd → Life → Life → Type 0
TakesCommand cmd before after =
    (acts : List Act) (ticks : ℕ) → Represents before acts ticks → Represents after (act_after ticks cmd ∷ acts) ticks
