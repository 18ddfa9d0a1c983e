-- The outcome of a command line, before the line of its fault is written.
use Rattle.std.specs.Prelude.{◌≡◌, ◌⊎◌, Result, Ok, Err, List, ℕ}
use Rattle.history_model.specs.scripts.History.{Playout}
use Rattle.server_setup.specs.declared.setup.ServerSetup.{ServerSetup}
use Rattle.server_setup.specs.declared.fault.RunFault.{RunFault}
use Rattle.server_setup.specs.Setup.{SetsUp}
use Rattle.script_player.specs.declared.ending.Ending.{Ending}
use Rattle.script_player.specs.Ending.{fault_in, fault_of}
use Rattle.run_script.specs.CommandLine.{CommandLine, Plain, Configured, Generated, Converted, Planned, Recorded}
use Rattle.made_script.specs.Generating.{Generates}
use Rattle.run_script.specs.Converting.{Converts}
use Rattle.cue_player.specs.Planning.{PlaysPlan}
use Rattle.script_film.specs.Recording.{RecordsFilm}
use Rattle.script_player.specs.Run.{Streams, RunsScript}
use Rattle.run_script.specs.Program.{Outside, streams_of}
use Rattle.script_film.specs.Recording.{film_of}
use Rattle.script_player.specs.Playouts.{plain_playout, playout_of}
use Rattle.script_player.specs.Shown.{Shown, Frames}

-- a script was run, with this outcome
pub record HasRun (shown : Shown) (playout : Playout) (outcome : Result (Unit {0}) RunFault) (before after : Streams) : Type 0 where
  pub ending : Ending
  pub fault : fault_in outcome ≡ fault_of ending
  pub run : RunsScript shown playout ending before after

-- nothing was set up from the configuration of this path, and nothing else was read or written
abbrev pub RefusesPath : List ℕ → Result (Unit {0}) RunFault → Outside → Outside → Type 0
RefusesPath path (Ok done) before after = ⊥
RefusesPath path (Err fault) before after =
    SetsUp path (Err fault) before.media after.media × (after.input ≡ before.input) × (after.out ≡ before.out)

-- a command line was set up and run, or could not be set up
abbrev pub PlaysCommandLine : CommandLine → Result (Unit {0}) RunFault → Outside → Outside → Type 0
PlaysCommandLine (Plain size) outcome before after =
    (after.media ≡ before.media) × HasRun Frames (plain_playout size) outcome (streams_of before) (streams_of after)
PlaysCommandLine (Configured shown path digests) outcome before after =
    RefusesPath path outcome before after
    ⊎ ((setup : ServerSetup) × SetsUp path (Ok setup) before.media after.media
    × HasRun shown (playout_of setup digests) outcome (streams_of before) (streams_of after))
PlaysCommandLine (Generated seed steps) outcome before after =
    (after.media ≡ before.media) × (after.input ≡ before.input) × Generates seed steps (fault_in outcome) before.out after.out
PlaysCommandLine Converted outcome before after =
    (after.media ≡ before.media) × Converts (fault_in outcome) (streams_of before) (streams_of after)
PlaysCommandLine (Planned path digests) outcome before after =
    RefusesPath path outcome before after
    ⊎ ((setup : ServerSetup) × SetsUp path (Ok setup) before.media after.media
    × PlaysPlan (playout_of setup digests) (fault_in outcome) (streams_of before) (streams_of after))
PlaysCommandLine (Recorded path name) outcome before after =
    RefusesPath path outcome before after
    ⊎ ((setup : ServerSetup) × SetsUp path (Ok setup) before.media after.media
    × RecordsFilm (film_of setup name) (fault_in outcome) (streams_of before) (streams_of after))
