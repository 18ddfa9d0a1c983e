-- How a recording begins and goes on, mark by mark.
use Rattle.std.specs.Prelude.{ℕ, ◌==◌, ◌&&◌, if◌then◌else◌, Option, Some, None, option_map, is_none, List, [], ◌∷◌}
use Rattle.play_types.specs.Commands.{mark_of}
use Rattle.play_types.specs.Shape.{recording_channel}
use Rattle.play_types.specs.declared.command.Cmd.{Cmd}
use Rattle.play_types.specs.declared.shape.Recording.{Recording}
use Rattle.history_model.specs.recordings.Film.{Begun, begun_on}
use Rattle.play_recorder.specs.Finder.{FinderView}

-- the recording of a name that a mark begins after `ticks` ticks
abbrev pub begun_at : List ℕ → ℕ → Recording → Option Begun
begun_at name ticks mark = option_map (λ channel. record { channel = channel; first = ticks; end = None }) (begun_on name mark)

-- a recording after a mark that comes after `ticks` ticks
abbrev pub marked : ℕ → Recording → Begun → Begun
marked ticks mark begun =
    if is_none begun.end && (recording_channel mark == begun.channel) then record begun { end = Some ticks } else begun

-- the recording of a finder after a mark
abbrev pub begun_next : FinderView → Recording → Option Begun
begun_next finder mark = elim finder.begun [
  | None ↦ begun_at finder.name finder.ticks mark
  | Some begun ↦ Some (marked finder.ticks mark begun)
]

-- a finder after a command that is not refused
abbrev pub followed : FinderView → Cmd → FinderView
followed finder cmd = elim (mark_of cmd) [
  | None ↦ finder
  | Some mark ↦ record finder { begun = begun_next finder mark }
]

-- a finder after commands that are not refused
abbrev pub followed_all : FinderView → List Cmd → FinderView
followed_all finder [] = finder
followed_all finder (cmd ∷ cmds) = followed_all (followed finder cmd) cmds
