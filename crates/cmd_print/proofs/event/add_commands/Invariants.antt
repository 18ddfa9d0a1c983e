use Rattle.std.proofs.Common.{◌++◌, take}
use Rattle.std.specs.List.{flat_map}
use Rattle.play_outside.specs.Gathered.{Gathered}
use Rattle.history_model.specs.text.History.{command_line}
use Rattle.cmd_print.proofs.event.add_commands.Given as goal

-- the lines of the commands before this one were added
abbrev pub invariant-loop-cmd : goal.invariant-loop-cmd
invariant-loop-cmd g l =
    Gathered (l.initial.text ++ flat_map (command_line l.media l.tag) (take l.cmd-index l.cmds)) l.text
    (g.K.Sink.state l.initial.to) (g.K.Sink.state l.to)
