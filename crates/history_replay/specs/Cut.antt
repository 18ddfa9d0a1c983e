-- What is left of a log that was cut anywhere, as by a server that was killed.
use Rattle.std.specs.Prelude.{◌≡◌, ◌⊎◌, ℕ, if◌then◌else◌, List, [], ◌∷◌, ◌++◌, flat_map, codes}
use Rattle.std.specs.List.{list_any}
use Rattle.amcp_text.specs.Lines.{is_line_end}
use Rattle.play_types.specs.Media.{MediaNameView}
use Rattle.play_types.specs.declared.command.Cmd.{Cmd}
use Rattle.play_types.specs.declared.event.Event.{Event}
use Rattle.play_types.specs.declared.event.Event.TheVariants.{Batch}
use Rattle.play_types.specs.declared.event.Tag.{Tag}
use Rattle.history_model.specs.text.History.{command_line, connection_line, joined_events, log_text}

-- the whole lines of a text: each byte that is a line feed or has one after it
abbrev pub whole_lines : List ℕ → List ℕ
whole_lines [] = []
whole_lines (byte ∷ text) = if list_any is_line_end (byte ∷ text) then byte ∷ whole_lines text else []

-- the lines of a batch that has these commands so far, and is not closed
abbrev pub open_lines : List MediaNameView → Tag → List Cmd → List ℕ
open_lines media tag cmds = connection_line tag (codes "BEGIN") ++ flat_map (command_line media tag) cmds

-- a text of the first lines of a batch, without its COMMIT: the batch is the first of these events
pub record IsBatchCut (media : List MediaNameView) (events : List Event) (text : List ℕ) : Type 0 where
  pub tag : Tag
  -- its commands in the text, and those that are lost
  pub first : List Cmd
  pub others : List Cmd
  -- the events after it
  pub later : List Event
  pub batch : events ≡ Batch tag (first ++ others) ∷ later
  pub lines : text ≡ open_lines media tag first

-- a text of whole lines that is left of a log of a history: a log of first events of it, and then nothing, or the first lines of the
-- batch that is the next event
pub record IsCutLog (media : List MediaNameView) (history : List Event) (text : List ℕ) : Type 0 where
  -- the pieces of the log, and the events after theirs
  pub kept : List (List Event)
  pub lost : List Event
  pub whole : history ≡ joined_events kept ++ lost
  -- the text after the log
  pub opened : List ℕ
  pub lines : text ≡ log_text media kept ++ opened
  pub within : (opened ≡ []) ⊎ IsBatchCut media lost opened
