-- A worked history: a setting that waits, ticks, a batch, the commit of the setting, a tick, and the server's own stop; and its
-- connection.
use Rattle.std.specs.Prelude.{ℕ, List, [], ◌∷◌, pos, codes}
use Rattle.play_types.specs.declared.command.Cmd.TheVariants.{ClearLayer, CommitMixer, Pause}
use Rattle.play_types.specs.declared.event.Event.{Event}
use Rattle.play_types.specs.declared.event.Event.TheVariants.{Stop, Tick}
use Rattle.play_types.specs.declared.event.Tag.{Tag}
use Rattle.play_types.specs.declared.setting.Prop.TheVariants.{Opacity}
use Rattle.history_model.specs.Worked.{ask, at, batch, defers, number, plays, red}
use Rattle.history_model.specs.scripts.History.{server}

-- the connection: session 1 of worker 1
abbrev pub worked_tag : Tag
worked_tag = record { worker = 1; session = 1 }

-- the events
abbrev pub worked_history : List Event
worked_history =
    plays (at 1 0) red
    ∷ defers (at 1 0) Opacity (number (pos 500000))
    ∷ Tick
    ∷ Tick
    ∷ batch (Pause (at 1 0) ∷ ClearLayer (at 1 5) ∷ [])
    ∷ ask (CommitMixer 1)
    ∷ Tick
    ∷ Stop server
    ∷ []

-- their text
abbrev pub worked_text : List ℕ
worked_text = codes "1.1 PLAY 1-0 #FFFF0000\n1.1 MIXER 1-0 OPACITY 0.5 0 LINEAR DEFER\nT 2\n1.1 BEGIN\n1.1 PAUSE 1-0\n1.1 CLEAR 1-5\n1.1 COMMIT\n1.1 MIXER 1 COMMIT\nT 1\nX\n"
