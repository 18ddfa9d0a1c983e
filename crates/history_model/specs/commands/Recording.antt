-- ADD and REMOVE, the marks of recordings: position 1 is the channel, position 2 FILE, and position 3 the name of an ADD.
use Rattle.std.specs.Prelude.{ℕ, Bool, if◌then◌else◌, Option, Some, None, Result, Ok, Err, List, codes}
use Rattle.std.specs.List.{list_any}
use Rattle.play_types.specs.Media.{MediaNameView}
use Rattle.play_types.specs.RecNames.{rec_name_of}
use Rattle.play_types.specs.Words.{is_same_name}
use Rattle.play_types.specs.declared.command.Cmd.{Cmd}
use Rattle.play_types.specs.declared.command.Cmd.TheVariants as cmd
use Rattle.play_types.specs.declared.parsed.Refusal.{Refusal}
use Rattle.play_types.specs.declared.parsed.Refusal.TheVariants.{Illegal}
use Rattle.history_model.specs.commands.Line.{Line, ◌>>=◌, ended, legal, stands_at, word_at}
use Rattle.history_model.specs.commands.Places.{area_at}

-- the channel, if no layer is written
abbrev pub whole_channel : ℕ → Option ℕ → Option ℕ
whole_channel channel None = Some channel
whole_channel channel (Some layer) = None

-- the channel at a position, with no layer
abbrev pub channel_at : Line → ℕ → Result ℕ Refusal
channel_at line at = do
  area ← area_at line at
  legal line at (whole_channel area.channel area.layer)

-- accepts this fixed word at a position: another word, or none, is refused as Illegal
abbrev pub fixed_at : Line → ℕ → List ℕ → Result (Unit {0}) Refusal
fixed_at line at fixed = if stands_at line at fixed then Ok tt else Err (Illegal line.name at)

-- whether a word is the name of a clip of the media table, which may be unreadable
abbrev pub names_clip : List MediaNameView → List ℕ → Bool
names_clip media word = list_any (λ (clip : MediaNameView). is_same_name clip.name word) media

-- the name of a recording that a word writes, if it may be one and no clip has that name
abbrev pub free_name : List MediaNameView → List ℕ → Option (List ℕ)
free_name media word = if names_clip media word then None else rec_name_of word

-- the name of a recording at a position
abbrev pub rec_name_at : Line → ℕ → Result (List ℕ) Refusal
rec_name_at line at = do
  word ← word_at line at
  legal line at (free_name line.media word)

-- the channel at position 1, if the word at position 2 is FILE
abbrev pub file_channel : Line → Result ℕ Refusal
file_channel line = do
  channel ← channel_at line 1
  file ← fixed_at line 2 (codes "FILE")
  Ok channel

-- the command of an ADD
unfoldable pub add_file : Line → Result Cmd Refusal
add_file line = do
  channel ← file_channel line
  name ← rec_name_at line 3
  ended line 4 (cmd.AddFile channel name)

-- the command of a REMOVE
unfoldable pub remove_file : Line → Result Cmd Refusal
remove_file line = do
  channel ← file_channel line
  ended line 3 (cmd.RemoveFile channel)
