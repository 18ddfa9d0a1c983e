-- A run of a text in which memory did not run out is a run with memory for what it asks.
use Rattle.std.proofs.Common.{◌≡◌, ℕ, true, List, [], ◌∷◌, map, refl, sym, ap, ◌∙◌, subst}
use Rattle.play_types.specs.declared.event.Event.{Event}
use Rattle.history_model.specs.text.History.{history_text, joined_events, log_text}
use Rattle.history_model.specs.scripts.History.{PlayedLine, Playout, script_events}
use Rattle.history_model.specs.scripts.Memory.{AreLines, HasMemory, lines_played, with_memory}
use Rattle.history_model.specs.scripts.Output.{script_output}
use Rattle.history_model.proofs.OneLines.{AreLines-input}
use Rattle.history_model.proofs.Runs.{events-unmarked, output-unmarked}
use Rattle.history_model.proofs.Unmarked.{unmarked}
use Rattle.history_replay.specs.Replay.{IsReplayable, script_of}
use Rattle.history_replay.specs.ReplayOutput.{history_output}
use Rattle.history_replay.proofs.Pieces.{log_plays, text_plays}

-- lines without their marks are played with memory
unmarked-played : (played : List PlayedLine) → map unmarked played ≡ map with_memory (lines_played played)
unmarked-played [] = refl
unmarked-played (one ∷ played) = ap (λ rest. unmarked one ∷ rest) (unmarked-played played)

-- of any text
module _ (playout : Playout) (text : List ℕ) (played : List PlayedLine) (same : lines_played played ≡ script_of text) (without : HasMemory playout played) where
  are_lines : AreLines (lines_played played)
  are_lines = subst AreLines (sym same) (AreLines-input text true)

  as_text : map unmarked played ≡ map with_memory (script_of text)
  as_text = unmarked-played played ∙ ap (map with_memory) same

  pub played_events : script_events playout played ≡ script_events playout (map with_memory (script_of text))
  played_events = events-unmarked playout played are_lines without ∙ ap (script_events playout) as_text

  pub played_output : script_output playout played ≡ script_output playout (map with_memory (script_of text))
  played_output = output-unmarked playout played are_lines without ∙ ap (script_output playout) as_text

-- of the text of a history
module _ (playout : Playout) (history : List Event) (played : List PlayedLine) (h : IsReplayable playout history) (same : lines_played played ≡ script_of (history_text playout.names history)) (without : HasMemory playout played) where
  pub replay_events : script_events playout played ≡ history
  replay_events = played_events playout (history_text playout.names history) played same without ∙ (text_plays playout history h).made

  pub replay_output : script_output playout played ≡ history_output playout history
  replay_output = played_output playout (history_text playout.names history) played same without ∙ (text_plays playout history h).wrote

-- of a log
module _ (playout : Playout) (pieces : List (List Event)) (played : List PlayedLine) (h : IsReplayable playout (joined_events pieces)) (same : lines_played played ≡ script_of (log_text playout.names pieces)) (without : HasMemory playout played) where
  pub log_events : script_events playout played ≡ joined_events pieces
  log_events = played_events playout (log_text playout.names pieces) played same without ∙ (log_plays playout pieces h).made

  pub log_output : script_output playout played ≡ history_output playout (joined_events pieces)
  log_output = played_output playout (log_text playout.names pieces) played same without ∙ (log_plays playout pieces h).wrote
