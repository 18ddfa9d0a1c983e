-- The steps of a sheet.
use Rattle.std.specs.Prelude.{◌≡◌, ◌≤◌, Option, Some, None, List, [], ◌∷◌, ◌++◌, replicate}
use Rattle.history_model.specs.scripts.Line.{ScriptLine, Said}
use Rattle.history_model.specs.scripts.Line as script
use Rattle.history_model.specs.declared.limits.TheConstants.{MAX_TICKS_PER_LINE}
use Rattle.play_schedule.specs.declared.steps.SheetStep.{SheetStep}
use Rattle.play_schedule.specs.declared.steps.SheetStep.TheVariants.{Ticks, Line}

-- the step that is taken of the lines that are left, with a line for each tick: none if no line is left, ticks that come next,
-- at least one and at most as many as a line of a script may ask for, or the next line
abbrev pub TakesStep : List ScriptLine → Option SheetStep → List ScriptLine → Type 0
TakesStep old None new = (old ≡ []) × (new ≡ [])
TakesStep old (Some (Ticks count)) new =
    (1 ≤ count) × ((count ≤ MAX_TICKS_PER_LINE) × (old ≡ replicate count (script.Ticks 1) ++ new))
TakesStep old (Some (Line tag text)) new = old ≡ Said tag text ∷ new
