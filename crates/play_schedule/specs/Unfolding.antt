-- The script of a sheet.
use Rattle.std.specs.Prelude.{ℕ, ◌+◌, ◌*◌, ◌==◌, nat_lt, if◌then◌else◌, List, [], ◌∷◌, ◌++◌, map, flat_map, count_by, sum_by, replicate}
use Rattle.std.specs.List.{range_with_len}
use Rattle.history_model.specs.scripts.Line.{ScriptLine, Comment, Ticks, Said, Stop, Rejected}
use Rattle.play_schedule.specs.declared.cue.Cue.{Cue}
use Rattle.play_schedule.specs.SheetView.{SheetView}

-- the moments of the copies of a cue: the first's, and each `interval` ticks after the one before
abbrev pub moments_of : Cue → List ℕ
moments_of cue = map (λ k. cue.moment + k * cue.copies.interval) (range_with_len 0 cue.copies.count)

-- how many copies of a cue are due at a moment
abbrev pub copies_at : ℕ → Cue → ℕ
copies_at moment cue = count_by (λ m. m == moment) (moments_of cue)

-- the lines of a cue at a moment: its text for each of its copies that is due then
abbrev pub cue_lines : ℕ → Cue → List ScriptLine
cue_lines moment cue = replicate (copies_at moment cue) (Said cue.tag cue.text)

-- the script at a moment: the lines of each cue in order, and then, before the end, one tick
abbrev pub lines_at : SheetView → ℕ → List ScriptLine
lines_at sheet moment =
    flat_map (cue_lines moment) sheet.cues ++ (if nat_lt moment sheet.ticks then Ticks 1 ∷ [] else [])

-- the moments from 0 to the end of a sheet
abbrev pub moments : SheetView → List ℕ
moments sheet = range_with_len 0 (sheet.ticks + 1)

-- the script of a sheet, moment by moment
abbrev pub script_of : SheetView → List ScriptLine
script_of sheet = flat_map (lines_at sheet) (moments sheet)

-- the lines of the script, each with its moment
abbrev pub timed : SheetView → List (ℕ × ScriptLine)
timed sheet = flat_map (λ moment. map (λ (line : ScriptLine). (moment, line)) (lines_at sheet moment)) (moments sheet)

-- the number of ticks of a line of a script
abbrev pub ticks_of : ScriptLine → ℕ
ticks_of Comment = 0
ticks_of (Ticks count) = count
ticks_of (Said tag text) = 0
ticks_of Stop = 0
ticks_of Rejected = 0

-- the number of ticks of lines
abbrev pub ticks_in : List ScriptLine → ℕ
ticks_in lines = sum_by ticks_of lines
