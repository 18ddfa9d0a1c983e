-- What the code's lines denote.
use Rattle.history_model.specs.scripts.Line.{ScriptLine}
use Rattle.history_model.specs.scripts.Line as script
use Rattle.script_player.specs.declared.line.ScriptLine as code
use Rattle.script_player.specs.declared.line.ScriptLine.TheVariants.{Comment, Ticks, Said, Stop, Rejected}

-- a line, with its text as bytes
abbrev pub line_view : code.ScriptLine → ScriptLine
line_view Comment = script.Comment
line_view (Ticks count) = script.Ticks count
line_view (Said tag text) = script.Said tag text.now
line_view Stop = script.Stop
line_view Rejected = script.Rejected
