-- What the words of a client's line ask for.
use Rattle.std.specs.Prelude.{ℕ, ◌==◌, nat_lt, Bool, if◌then◌else◌, Option, Some, None, Result, Ok, Err, List, length, slice_get, ok_or, codes}
use Rattle.play_types.specs.Place.{PlaceView}
use Rattle.play_types.specs.Config.{ConfigView}
use Rattle.play_types.specs.Media.{MediaNameView}
use Rattle.play_types.specs.Take.{loaded, played}
use Rattle.play_types.specs.Words.{name_of}
use Rattle.play_types.specs.declared.command.Cmd.{Cmd}
use Rattle.play_types.specs.declared.command.Cmd.TheVariants as cmd
use Rattle.play_types.specs.declared.reply.Name.{Name}
use Rattle.play_types.specs.declared.reply.Name.TheVariants.{LoadBg, Load, Play, Pause, Resume, Stop, Clear, Swap, Mixer, Add, Remove, Begin, Commit, Discard, Info, Cls, Version, Bye, Kill, Req}
use Rattle.play_types.specs.declared.parsed.Parsed.{Parsed}
use Rattle.play_types.specs.declared.parsed.Parsed.TheVariants as asked
use Rattle.play_types.specs.declared.parsed.Refusal.{Refusal}
use Rattle.play_types.specs.declared.parsed.Refusal.TheVariants.{Unknown, Missing}
use Rattle.history_model.specs.commands.Line.{Line, ◌>>=◌, legal, ended, flag_at}
use Rattle.history_model.specs.commands.Places.{Area, place_of, area_at}
use Rattle.history_model.specs.commands.Producer.{take_at}
use Rattle.history_model.specs.commands.Mixer.{mixer}
use Rattle.history_model.specs.commands.Recording.{add_file, remove_file}

-- the least number of words that a command needs after its name
abbrev pub least_words : Name → ℕ
least_words LoadBg = 2
least_words Load = 2
least_words Play = 1
least_words Pause = 1
least_words Resume = 1
least_words Stop = 1
least_words Clear = 1
least_words Swap = 2
least_words Mixer = 2
least_words Add = 3
least_words Remove = 2
least_words Begin = 0
least_words Commit = 0
least_words Discard = 0
least_words Info = 0
least_words Cls = 0
least_words Version = 0
least_words Bye = 0
least_words Kill = 0
least_words Req = 0

-- the place of a command that has no other argument
abbrev pub only_place : Line → Result PlaceView Refusal
only_place line = do
  area ← area_at line 1
  ended line 2 (place_of area)

-- a command whose only argument is a place
abbrev pub place_command : Line → (PlaceView → Cmd) → Result Cmd Refusal
place_command line command = do
  place ← only_place line
  Ok (command place)

-- PLAY: without a producer it starts what is in the background
unfoldable pub play : Line → Result Cmd Refusal
play line = do
  area ← area_at line 1
  if length line.words == 2 then Ok (cmd.Play (place_of area))
      else (do
        take ← take_at line 2
        Ok (cmd.PlayTake (place_of area) (played take)))

unfoldable pub load_bg : Line → Result Cmd Refusal
load_bg line = do
  area ← area_at line 1
  take ← take_at line 2
  Ok (cmd.LoadBg (place_of area) take)

unfoldable pub load : Line → Result Cmd Refusal
load line = do
  area ← area_at line 1
  take ← take_at line 2
  Ok (cmd.Load (place_of area) (loaded take))

-- CLEAR of all layers of a channel, or of one layer
abbrev pub cleared : ℕ → Option ℕ → Cmd
cleared channel None = cmd.ClearChannel channel
cleared channel (Some layer) = cmd.ClearLayer (record { channel = channel; layer = layer })

unfoldable pub clear : Line → Result Cmd Refusal
clear line = do
  area ← area_at line 1
  ended line 2 (cleared area.channel area.layer)

-- the swap of two channels, or of two layers: none for a channel and a layer. Its last argument is whether the mixer values are
-- exchanged too
abbrev pub swapped : Area → Area → Option ℕ → Option ℕ → Option (Bool → Cmd)
swapped one other None None = Some (cmd.SwapChannels one.channel other.channel)
swapped one other (Some layer) (Some layer') = Some (cmd.SwapLayers (place_of one) (place_of other))
swapped one other None (Some layer') = None
swapped one other (Some layer) None = None

unfoldable pub swap : Line → Result Cmd Refusal
swap line = do
  one ← area_at line 1
  other ← area_at line 2
  command ← legal line 2 (swapped one other one.layer other.layer)
  transforms ← flag_at line 3 (codes "TRANSFORMS")
  Ok (command transforms)

-- a command of the stage
abbrev pub staged : Result Cmd Refusal → Result Parsed Refusal
staged command = do
  cmd ← command
  Ok (asked.Stage cmd)

-- VERSION, alone or followed by SERVER
abbrev pub version : Line → Result Parsed Refusal
version line = do
  named ← flag_at line 1 (codes "SERVER")
  Ok asked.Version

-- what the words of a line with this name ask for; REQ is no command's name
abbrev pub meaning_by_name : Line → Name → Result Parsed Refusal
meaning_by_name line LoadBg = staged (load_bg line)
meaning_by_name line Load = staged (load line)
meaning_by_name line Play = staged (play line)
meaning_by_name line Pause = staged (place_command line cmd.Pause)
meaning_by_name line Resume = staged (place_command line cmd.Resume)
meaning_by_name line Stop = staged (place_command line cmd.StopLayer)
meaning_by_name line Clear = staged (clear line)
meaning_by_name line Swap = staged (swap line)
meaning_by_name line Mixer = staged (mixer line)
meaning_by_name line Add = staged (add_file line)
meaning_by_name line Remove = staged (remove_file line)
meaning_by_name line Begin = ended line 1 asked.Begin
meaning_by_name line Commit = ended line 1 asked.Commit
meaning_by_name line Discard = ended line 1 asked.Discard
meaning_by_name line Info = ended line 1 (asked.Stage cmd.Info)
meaning_by_name line Cls = ended line 1 asked.Cls
meaning_by_name line Version = version line
meaning_by_name line Bye = ended line 1 asked.Bye
meaning_by_name line Kill = ended line 1 asked.Kill
meaning_by_name line Req = Err Unknown

-- what the words of a line ask for, or its first refusal: first its places, then its other words, both from the left, and the
-- producer last
abbrev pub meaning : Line → Result Parsed Refusal
meaning line = meaning_by_name line line.name

-- what the words of a line ask for, refused as Missing if they are too few for its command
abbrev pub enough : Line → Result Parsed Refusal
enough line =
    if nat_lt (least_words line.name) (length line.words) then meaning line else Err (Missing line.name)

-- what the words of a line ask for, or its first refusal: an unknown name, too few words, or the refusal of its command
unfoldable pub parsed : ConfigView → List MediaNameView → List (List ℕ) → Result Parsed Refusal
parsed config media words = do
  word ← ok_or (slice_get words 0) Unknown
  name ← ok_or (name_of word) Unknown
  enough (record { name = name; words = words; config = config; media = media })
