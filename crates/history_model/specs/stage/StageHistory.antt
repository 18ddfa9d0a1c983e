-- For proofs: the state of the stage after a history. Laws prove that it agrees with the acts of the history.
use Rattle.std.specs.Prelude.{ℕ, List, length, Option, filter_map, map}
use Rattle.play_types.specs.Setting.{SettingView}
use Rattle.play_types.specs.declared.answer.Status.{Status}
use Rattle.play_types.specs.declared.event.Event.{Event}
use Rattle.history_model.specs.stage.Acts.{acts}
use Rattle.history_model.specs.stage.Answer.{channel_numbers, status_of}
use Rattle.history_model.specs.stage.Life.{Foreground, Life}
use Rattle.history_model.specs.stage.Places.{Places, places}
use Rattle.history_model.specs.stage.Resolved.{waiting_settings}
use Rattle.history_model.specs.stage.StageState.{StageState}
use Rattle.history_model.specs.pictures.Media.{Setup}

-- the settings that wait on a channel after a history, the last one first
unfoldable pub waiting : List Event → ℕ → List SettingView
waiting history channel = waiting_settings (acts history) channel

-- the stage after a history
abbrev pub stage_after : List Event → StageState
stage_after history = record { places = places history; waiting = λ channel. length (waiting history channel) }

-- the foreground of a layer, given with what it holds
abbrev pub foreground_of : ℕ × Life → Option Foreground
foreground_of place = place.1.foreground

-- the status of each channel, by its live places
abbrev pub statuses_of : Setup → (ℕ → Places) → List Status
statuses_of setup places =
    map (λ channel. status_of (filter_map foreground_of (places channel))) (channel_numbers setup)
