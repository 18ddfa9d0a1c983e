-- The events of a text are such as a script can ask for.
use Rattle.std.proofs.Common.{◌≡◌, ℕ, Bool, false, List, [], ◌∷◌, ◌++◌, map, refl, sym, ap, ◌∙◌, subst, append-nil}
use Rattle.std.specs.Prelude.{All}
use Rattle.std.proofs.lemmas.List.{map-append}
use Rattle.std.proofs.lemmas.List.Elements.{All-cons, All-head, All-nil, All-tail}
use Rattle.play_types.specs.declared.command.Cmd.{Cmd}
use Rattle.play_types.specs.declared.event.Event.{Event}
use Rattle.play_types.specs.declared.event.Event.TheVariants.{Do, Batch, Tick, Stop}
use Rattle.history_model.specs.scripts.Input.{ended_lines, unended}
use Rattle.history_model.specs.scripts.Line.{ScriptLine, meaning}
use Rattle.history_model.specs.scripts.History.{Playout, script_events}
use Rattle.history_model.specs.scripts.Memory.{lines_played, with_memory}
use Rattle.history_model.proofs.Parts.{last_line, lines-ended}
use Rattle.history_replay.specs.Replay.{IsAskedFor, IsBatchedCommand, IsWritten, NamesConnection}
use Rattle.history_replay.proofs.Named.{text_named}
use Rattle.history_replay.proofs.Pieces.{all_first}
use Rattle.history_replay.proofs.Written.{script_events-written}
use Rattle.server_setup.specs.declared.setup.ServerSetup.{ServerSetup}
use Rattle.script_player.specs.Playouts.{playout_of}
use Rattle.history_reader.specs.HistoryText.{text_events, text_lines}
use Rattle.history_reader.proofs.Stopped.{before_stop_first}

-- lines that are played with memory are the lines that were said
said_lines : (lines : List ScriptLine) → lines_played (map with_memory lines) ≡ lines
said_lines [] = refl
said_lines (line ∷ lines) = ap (λ later. line ∷ later) (said_lines lines)

-- a line of a connection in a text names a connection
lines_named : (text : List ℕ) → All NamesConnection (lines_played (text_lines text))
lines_named text =
    let first = map meaning (ended_lines text) in
    let last = map meaning (last_line (unended text)) in
    let same = ap (map meaning) (lines-ended text) ∙ map-append meaning (ended_lines text) (last_line (unended text)) in
    subst (All NamesConnection) (sym (said_lines first)) (all_first NamesConnection first last (subst (All NamesConnection) same (text_named text)))

-- what holds of each event of a text holds of those before the stop
pub first_of_text : (playout : Playout) (text : List ℕ) → (rest : List Event) × (script_events playout (text_lines text) ≡ text_events playout text ++ rest)
first_of_text playout text =
    let all = script_events playout (text_lines text) in
    let front = before_stop_first all [] in
    (front.0, sym (front.1 ∙ append-nil all))

-- the events of a text are such as a script can ask for
text_written : (playout : Playout) (text : List ℕ) → All (IsWritten playout) (text_events playout text)
text_written playout text =
    let front = first_of_text playout text in
    all_first (IsWritten playout) (text_events playout text) front.0
    (subst (All (IsWritten playout)) front.1 (script_events-written playout (text_lines text) (lines_named text)))

-- and so they are if frames are written as digests
module _ (setup : ServerSetup) (digests : Bool) where
  asked_as : (cmd : Cmd) → IsAskedFor (playout_of setup false) cmd → IsAskedFor (playout_of setup digests) cmd
  asked_as cmd asked = record { words = asked.words; ask = asked.ask }

  batched_as : (cmds : List Cmd) → All (IsBatchedCommand (playout_of setup false)) cmds → All (IsBatchedCommand (playout_of setup digests)) cmds
  batched_as [] all = All-nil (IsBatchedCommand (playout_of setup digests))
  batched_as (cmd ∷ cmds) all =
      let first = All-head (IsBatchedCommand (playout_of setup false)) cmd cmds all in
      All-cons (IsBatchedCommand (playout_of setup digests)) cmd cmds (record { asked = asked_as cmd first.asked; acts = first.acts })
      (batched_as cmds (All-tail (IsBatchedCommand (playout_of setup false)) cmd cmds all))

  event_as : (event : Event) → IsWritten (playout_of setup false) event → IsWritten (playout_of setup digests) event
  event_as (Do tag cmd) written = (written.0, asked_as cmd written.1)
  event_as (Batch tag cmds) written = (written.0, written.1, batched_as cmds written.2)
  event_as Tick written = tt
  event_as (Stop tag) written = written

  events_as : (events : List Event) → All (IsWritten (playout_of setup false)) events → All (IsWritten (playout_of setup digests)) events
  events_as [] all = All-nil (IsWritten (playout_of setup digests))
  events_as (event ∷ events) all =
      All-cons (IsWritten (playout_of setup digests)) event events (event_as event (All-head (IsWritten (playout_of setup false)) event events all))
      (events_as events (All-tail (IsWritten (playout_of setup false)) event events all))

  pub text_written_as : (text : List ℕ) → All (IsWritten (playout_of setup digests)) (text_events (playout_of setup false) text)
  text_written_as text = events_as (text_events (playout_of setup false) text) (text_written (playout_of setup false) text)
