-- What a list of commands keeps.
use Rattle.std.specs.Prelude.{List, [], ◌∷◌}
use Rattle.play_types.specs.declared.command.Cmd.{Cmd}
use Rattle.play_types.specs.declared.command.Kept.{Kept}
use Rattle.play_types.specs.declared.command.Kept.TheVariants.{Alone, Several}

-- its commands in order
abbrev pub commands_in : Kept → List Cmd
commands_in (Alone cmd) = cmd ∷ []
commands_in (Several cmds) = cmds.items
