-- Words for the worked examples.
use Rattle.std.specs.Prelude.{[], ◌∷◌}
use Rattle.play_types.specs.declared.command.Cmd.{Cmd}
use Rattle.play_types.specs.declared.event.Event.TheVariants.{Do, Tick}
use Rattle.play_types.specs.declared.event.Tag.{Tag}
use Rattle.stage_lock.specs.Views.{Sizes}

-- what does not change of a stage that was shared with a command and a tick
abbrev pub with_two_events : Tag → Cmd → Sizes
with_two_events tag cmd = record { limit = 8; channels = 1; passes = 2; given = Do tag cmd ∷ Tick ∷ [] }
