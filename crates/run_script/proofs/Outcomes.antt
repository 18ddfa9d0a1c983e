-- The line of a fault after what a command line did.
use Rattle.std.proofs.Common.{◌≡◌, inl, inr, ℕ, List, refl, sym, ap, subst}
use Rattle.std.specs.Prelude.{Some, None, Result, Ok, Err, IsErrAnd}
use Rattle.play_outside.specs.SinkState.{SinkState}
use Rattle.history_model.specs.scripts.History.{Playout}
use Rattle.server_setup.specs.declared.fault.RunFault.{RunFault}
use Rattle.server_setup.specs.declared.fault.RunFault.TheVariants.{OutOfMemory}
use Rattle.server_setup.specs.Setup.{SetsUp}
use Rattle.script_player.specs.declared.ending.Ending.{Ending}
use Rattle.script_player.specs.declared.ending.Ending.TheVariants.{Memory}
use Rattle.script_player.specs.Ending.{exit_status, fault_in, fault_of, last_line}
use Rattle.run_script.specs.CommandLine.{CommandLine, Plain, Configured, Generated, Converted, Planned, Recorded}
use Rattle.script_player.specs.Run.{Streams, RunsScript}
use Rattle.script_player.specs.Shown.{Shown, Frames}
use Rattle.run_script.specs.Program.{Outside, EndsRun, RunsCommandLine, WritesFaultLine, streams_of}
use Rattle.script_player.specs.Playouts.{plain_playout, playout_of}
use Rattle.run_script.specs.inner.Outcome.{HasRun, PlaysCommandLine, RefusesPath}
use Rattle.script_player.proofs.Progress.{nothing_read}

-- a script was run, and then the line of its fault was written
run_ended : (shown : Shown) (playout : Playout) (outcome : Result (Unit {0}) RunFault) (before between : Streams) (after : SinkState) → HasRun shown playout outcome before between
    → WritesFaultLine (last_line (fault_in outcome)) between.out after
    → EndsRun shown playout (exit_status (fault_in outcome)) before (record { input = between.input; out = after })
run_ended shown playout outcome before between after ran said = record {
  ending = ran.ending;
  outcome = ap exit_status ran.fault;
  between = between.out;
  run = ran.run;
  said = subst (λ f. WritesFaultLine (last_line f) between.out after) ran.fault said;
}

-- a script was run on an equal playout
pub ran_on : (shown : Shown) (setup playout : Playout) (outcome : Result (Unit {0}) RunFault) (ending : Ending) (before after : Streams) → setup ≡ playout
    → fault_in outcome ≡ fault_of ending → RunsScript shown setup ending before after → HasRun shown playout outcome before after
ran_on shown setup playout outcome ending before after same fault run =
    record { ending = ending; fault = fault; run = subst (λ (p : Playout). RunsScript shown p ending before after) same run }

-- memory ran out before anything was read
pub out_of_memory : (shown : Shown) (playout : Playout) (outcome : Result (Unit {0}) RunFault) (before : Streams) → IsErrAnd outcome (λ fault. fault ≡ OutOfMemory) → HasRun shown playout outcome before before
out_of_memory shown playout (Ok done) before is = absurd is
out_of_memory shown playout (Err fault) before is = record { ending = Memory; fault = ap Some is; run = nothing_read shown playout before }

-- the outcome is the fault for which nothing was set up
pub path_refused : (path : List ℕ) (fault : RunFault) (outcome : Result (Unit {0}) RunFault) (before after : Outside) → SetsUp path (Err fault) before.media after.media
    → after.input ≡ before.input → after.out ≡ before.out → IsErrAnd outcome (λ other. other ≡ fault) → RefusesPath path outcome before after
path_refused path fault (Ok done) before after sets unread unwritten is = absurd is
path_refused path fault (Err other) before after sets unread unwritten is =
    (subst (λ (f : RunFault). SetsUp path (Err f) before.media after.media) (sym is) sets, unread, unwritten)

-- a command line was executed, and then the line of its fault was written
line_ended : (line : CommandLine) (outcome : Result (Unit {0}) RunFault) (before between : Outside) (after : SinkState) → PlaysCommandLine line outcome before between
    → WritesFaultLine (last_line (fault_in outcome)) between.out after
    → RunsCommandLine line (exit_status (fault_in outcome)) before (record between { out = after })
line_ended (Plain size) outcome before between after plays said =
    (plays.0, run_ended Frames (plain_playout size) outcome (streams_of before) (streams_of between) after plays.1 said)
line_ended (Configured shown path digests) (Ok done) before between after plays said =
    elim plays [
      | inl refused ↦ absurd refused
      | inr ran ↦ inr (record {
        setup = ran.0;
        set_up = ran.1;
        run = run_ended shown (playout_of ran.0 digests) (Ok done) (streams_of before) (streams_of between) after ran.2 said;
      })
    ]
line_ended (Configured shown path digests) (Err fault) before between after plays said =
    elim plays [
      | inl refused ↦ inl (record {
        fault = fault;
        outcome = refl;
        refused = refused.0;
        unread = refused.1;
        said = subst (λ s. WritesFaultLine (last_line (Some fault)) s after) refused.2 said;
      })
      | inr ran ↦ inr (record {
        setup = ran.0;
        set_up = ran.1;
        run = run_ended shown (playout_of ran.0 digests) (Err fault) (streams_of before) (streams_of between) after ran.2 said;
      })
    ]
line_ended (Generated seed steps) outcome before between after plays said = record {
  fault = fault_in outcome;
  outcome = refl;
  between = between.out;
  made = plays.2;
  said = said;
  media = plays.0;
  unread = plays.1;
}
line_ended Converted outcome before between after plays said = record {
  fault = fault_in outcome;
  outcome = refl;
  between = between.out;
  made = plays.1;
  said = said;
  media = plays.0;
}
line_ended (Planned path digests) (Ok done) before between after plays said =
    elim plays [
      | inl refused ↦ absurd refused
      | inr ran ↦ inr (record {
        setup = ran.0;
        set_up = ran.1;
        run = record { fault = None; outcome = refl; between = between.out; plan = ran.2; said = said };
      })
    ]
line_ended (Planned path digests) (Err fault) before between after plays said =
    elim plays [
      | inl refused ↦ inl (record {
        fault = fault;
        outcome = refl;
        refused = refused.0;
        unread = refused.1;
        said = subst (λ s. WritesFaultLine (last_line (Some fault)) s after) refused.2 said;
      })
      | inr ran ↦ inr (record {
        setup = ran.0;
        set_up = ran.1;
        run = record { fault = Some fault; outcome = refl; between = between.out; plan = ran.2; said = said };
      })
    ]
line_ended (Recorded path name) (Ok done) before between after plays said =
    elim plays [
      | inl refused ↦ absurd refused
      | inr ran ↦ inr (record {
        setup = ran.0;
        set_up = ran.1;
        run = record { fault = None; outcome = refl; between = between.out; recording = ran.2; said = said };
      })
    ]
line_ended (Recorded path name) (Err fault) before between after plays said =
    elim plays [
      | inl refused ↦ inl (record {
        fault = fault;
        outcome = refl;
        refused = refused.0;
        unread = refused.1;
        said = subst (λ s. WritesFaultLine (last_line (Some fault)) s after) refused.2 said;
      })
      | inr ran ↦ inr (record {
        setup = ran.0;
        set_up = ran.1;
        run = record { fault = Some fault; outcome = refl; between = between.out; recording = ran.2; said = said };
      })
    ]

-- and the status is that of the fault
pub status_ended : (line : CommandLine) (outcome : Result (Unit {0}) RunFault) (status : ℕ) (before between : Outside) (after : SinkState)
    → PlaysCommandLine line outcome before between → status ≡ exit_status (fault_in outcome) → WritesFaultLine (last_line (fault_in outcome)) between.out after
    → RunsCommandLine line status before (record between { out = after })
status_ended line outcome status before between after plays is said =
    subst (λ (s : ℕ). RunsCommandLine line s before (record between { out = after })) (sym is) (line_ended line outcome before between after plays said)
