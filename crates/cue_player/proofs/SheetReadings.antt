-- A cue sheet that is read, and how it is played.
use Rattle.std.proofs.Common.{◌≡◌, inl, inr, ℕ, ◌≤◌, refl, sym, ap, ◌∙◌, subst, arith}
use Rattle.std.specs.Prelude.{Option, Some, None, Result, Ok, Err, IsErrAnd}
use Rattle.std.specs.Global.{Vec}
use Rattle.play_outside.specs.SourceState.{SourceState}
use Rattle.play_outside.specs.SinkState.{SinkState}
use Rattle.history_model.specs.scripts.History.{Playout}
use Rattle.history_model.specs.scripts.Memory.{AreLines}
use Rattle.play_schedule.specs.declared.limits.TheConstants.{MAX_MOMENT, MAX_SHEET_BYTES}
use Rattle.play_schedule.specs.declared.sheet.SheetFault.{SheetFault}
use Rattle.play_schedule.specs.declared.sheet.SheetFault.TheVariants as sheet_fault
use Rattle.play_schedule.specs.SheetView.{SheetView}
use Rattle.play_schedule.specs.Sheet.{IsReadAs, sheet_of}
use Rattle.play_schedule.specs.Unfolding.{script_of, ticks_in}
use Rattle.play_schedule.proofs.EarlyEnds.{ticks-early}
use Rattle.play_schedule.proofs.OneLines.{AreLines-script}
use Rattle.play_schedule.proofs.Timed.{ticks_in-script}
use Rattle.server_setup.specs.declared.fault.RunFault.{RunFault}
use Rattle.server_setup.specs.declared.fault.RunFault.TheVariants as faults
use Rattle.script_player.specs.Shown.{Frames}
use Rattle.script_player.specs.Ending.{fault_in}
use Rattle.cue_player.specs.Planning.{PlaysPlan}
use Rattle.script_player.specs.Run.{Streams}
use Rattle.cue_player.specs.inner.Planned.{ReadsSheet, SheetEnds, fault_of_sheet}
use Rattle.script_player.specs.Reading.{ReadsInput}
use Rattle.cue_player.proofs.PlayedLines.{nothing_written_of}

module _ (rate : ℕ) (before after : SourceState) where
  -- all of the input was read, and it is a sheet
  pub sheet_read : (held : Vec ℕ) (sheet : SheetView) → ReadsInput MAX_SHEET_BYTES (Ok held) before after → sheet_of rate held.items ≡ Ok sheet
      → ReadsSheet rate (Ok sheet) before after
  sheet_read held sheet reads is = record {
    bytes = reads.bytes;
    gives = reads.gives;
    ends = (record { at_end = reads.ends.1; quiet = reads.ends.2; few = reads.ends.3 }, ap (sheet_of rate) (sym reads.ends.0) ∙ is);
  }

  -- all of the input was read, and it is no sheet
  pub sheet_refused : (held : Vec ℕ) (fault : SheetFault) → ReadsInput MAX_SHEET_BYTES (Ok held) before after → IsReadAs (sheet_of rate held.items) (Err fault)
      → ReadsSheet rate (Err (fault_of_sheet fault)) before after
  sheet_refused held (sheet_fault.Line at) reads is = record {
    bytes = reads.bytes;
    gives = reads.gives;
    ends = (record { at_end = reads.ends.1; quiet = reads.ends.2; few = reads.ends.3 }, ap (sheet_of rate) (sym reads.ends.0) ∙ is);
  }
  sheet_refused held sheet_fault.NoEnd reads is = record {
    bytes = reads.bytes;
    gives = reads.gives;
    ends = (record { at_end = reads.ends.1; quiet = reads.ends.2; few = reads.ends.3 }, ap (sheet_of rate) (sym reads.ends.0) ∙ is);
  }
  sheet_refused held sheet_fault.OutOfMemory reads is = record {
    bytes = reads.bytes;
    gives = reads.gives;
    ends = (reads.ends.3, reads.ends.2);
  }

  read_fails : (fault : RunFault) → ReadsInput MAX_SHEET_BYTES (Err fault) before after → ReadsSheet rate (Err fault) before after
  read_fails faults.InputTooLong reads = record { bytes = reads.bytes; gives = reads.gives; ends = reads.ends }
  read_fails faults.Device reads = record { bytes = reads.bytes; gives = reads.gives; ends = reads.ends }
  read_fails faults.OutOfMemory reads = record { bytes = reads.bytes; gives = reads.gives; ends = reads.ends }
  read_fails faults.Usage reads = absurd reads.ends
  read_fails faults.ConfigText reads = absurd reads.ends
  read_fails (faults.ConfigKey key) reads = absurd reads.ends
  read_fails (faults.BadLine number) reads = absurd reads.ends
  read_fails (faults.Plan number) reads = absurd reads.ends
  read_fails faults.PlanEnd reads = absurd reads.ends
  read_fails (faults.Record name) reads = absurd reads.ends
  read_fails (faults.Resume number) reads = absurd reads.ends
  read_fails (faults.Clip fault) reads = absurd reads.ends
  read_fails (faults.MediaTwice name) reads = absurd reads.ends
  read_fails (faults.MediaTotal sum) reads = absurd reads.ends

  -- the fault of reading is returned
  pub read_failed : (fault : RunFault) (result : Result SheetView RunFault) → ReadsInput MAX_SHEET_BYTES (Err fault) before after
      → IsErrAnd result (λ other. other ≡ fault) → ReadsSheet rate result before after
  read_failed fault (Ok sheet) reads is = absurd is
  read_failed fault (Err other) reads is = subst (λ (f : RunFault). ReadsSheet rate (Err f) before after) (sym is) (read_fails fault reads)

  -- the script of a sheet that was read has few ticks, and its texts are lines
  pub script_short : (sheet : SheetView) → ReadsSheet rate (Ok sheet) before after → ticks_in (script_of sheet) ≤ MAX_MOMENT
  script_short sheet reads =
      let few = ticks-early rate reads.bytes sheet reads.ends.1 in
      let all = ticks_in-script sheet in
      omega (arith, few, all)

  pub script_lines : (sheet : SheetView) → ReadsSheet rate (Ok sheet) before after → AreLines (script_of sheet)
  script_lines sheet reads = AreLines-script rate reads.bytes sheet reads.ends.1

-- there was no memory for playing the sheet
pub sheet_unplayed : (playout : Playout) (sheet : SheetView) (result : Result (Unit {0}) RunFault) (state : SinkState)
    → IsErrAnd result (λ fault. fault ≡ faults.OutOfMemory) → SheetEnds playout sheet (fault_in result) state state
sheet_unplayed playout sheet (Ok done) state is = absurd is
sheet_unplayed playout sheet (Err fault) state is =
    subst (λ (f : RunFault). SheetEnds playout sheet (Some f) state state) (sym is)
    (nothing_written_of (record { playout = playout; shown = Frames; first = state }) (script_of sheet))

module _ (playout : Playout) (before : Streams) (after : SourceState) where
  plan_fails : (fault : RunFault) → ReadsSheet playout.config.rate (Err fault) before.input after
      → PlaysPlan playout (Some fault) before (record { input = after; out = before.out })
  plan_fails faults.InputTooLong reads = record { bytes = reads.bytes; gives = reads.gives; ends = (reads.ends.0, reads.ends.1, refl) }
  plan_fails (faults.Plan number) reads = record {
    bytes = reads.bytes;
    gives = reads.gives;
    ends = record {
      whole = record { at_end = reads.ends.0.at_end; quiet = reads.ends.0.quiet; few = reads.ends.0.few };
      refuses = reads.ends.1;
      unwritten = refl;
    };
  }
  plan_fails faults.PlanEnd reads = record {
    bytes = reads.bytes;
    gives = reads.gives;
    ends = record {
      whole = record { at_end = reads.ends.0.at_end; quiet = reads.ends.0.quiet; few = reads.ends.0.few };
      refuses = reads.ends.1;
      unwritten = refl;
    };
  }
  plan_fails (faults.Record name) reads = absurd reads.ends
  plan_fails (faults.Resume number) reads = absurd reads.ends
  plan_fails faults.Device reads = record { bytes = reads.bytes; gives = reads.gives; ends = (reads.ends.0, inl (reads.ends.1, refl)) }
  plan_fails faults.OutOfMemory reads = record { bytes = reads.bytes; gives = reads.gives; ends = (reads.ends.0, reads.ends.1, inl refl) }
  plan_fails faults.Usage reads = absurd reads.ends
  plan_fails faults.ConfigText reads = absurd reads.ends
  plan_fails (faults.ConfigKey key) reads = absurd reads.ends
  plan_fails (faults.BadLine number) reads = absurd reads.ends
  plan_fails (faults.Clip fault) reads = absurd reads.ends
  plan_fails (faults.MediaTwice name) reads = absurd reads.ends
  plan_fails (faults.MediaTotal sum) reads = absurd reads.ends

  -- the input is no sheet, and nothing was played
  pub plan_refused : (rate : ℕ) (fault : RunFault) (result : Result (Unit {0}) RunFault) → rate ≡ playout.config.rate → ReadsSheet rate (Err fault) before.input after
      → IsErrAnd result (λ other. other ≡ fault) → PlaysPlan playout (fault_in result) before (record { input = after; out = before.out })
  plan_refused rate fault (Ok done) same reads is = absurd is
  plan_refused rate fault (Err other) same reads is =
      subst (λ (f : RunFault). PlaysPlan playout (Some f) before (record { input = after; out = before.out })) (sym is)
      (plan_fails fault (subst (λ n. ReadsSheet n (Err fault) before.input after) same reads))

  module _ (sheet : SheetView) (out : SinkState) (reads : ReadsSheet playout.config.rate (Ok sheet) before.input after) where
    plan_ends : (fault : Option RunFault) → SheetEnds playout sheet fault before.out out → PlaysPlan playout fault before (record { input = after; out = out })
    plan_ends None plays = record {
      bytes = reads.bytes;
      gives = reads.gives;
      ends = (
        sheet,
        record { whole = record { at_end = reads.ends.0.at_end; quiet = reads.ends.0.quiet; few = reads.ends.0.few }; reads = reads.ends.1 },
        plays,
      );
    }
    plan_ends (Some faults.Device) plays = record {
      bytes = reads.bytes;
      gives = reads.gives;
      ends = (
        reads.ends.0.few,
        inr (
          sheet,
          record { whole = record { at_end = reads.ends.0.at_end; quiet = reads.ends.0.quiet; few = reads.ends.0.few }; reads = reads.ends.1 },
          plays,
        ),
      );
    }
    plan_ends (Some faults.OutOfMemory) plays = record {
      bytes = reads.bytes;
      gives = reads.gives;
      ends = (
        reads.ends.0.few,
        reads.ends.0.quiet,
        inr (
          sheet,
          record { whole = record { at_end = reads.ends.0.at_end; quiet = reads.ends.0.quiet; few = reads.ends.0.few }; reads = reads.ends.1 },
          plays,
        ),
      );
    }
    plan_ends (Some faults.Usage) plays = absurd plays
    plan_ends (Some faults.ConfigText) plays = absurd plays
    plan_ends (Some (faults.ConfigKey key)) plays = absurd plays
    plan_ends (Some (faults.BadLine number)) plays = absurd plays
    plan_ends (Some faults.InputTooLong) plays = absurd plays
    plan_ends (Some (faults.Plan number)) plays = absurd plays
    plan_ends (Some faults.PlanEnd) plays = absurd plays
    plan_ends (Some (faults.Record name)) plays = absurd plays
    plan_ends (Some (faults.Resume number)) plays = absurd plays
    plan_ends (Some (faults.Clip fault)) plays = absurd plays
    plan_ends (Some (faults.MediaTwice name)) plays = absurd plays
    plan_ends (Some (faults.MediaTotal sum)) plays = absurd plays

  -- the sheet was read and played
  pub plan_played : (rate : ℕ) (sheet : SheetView) (fault : Option RunFault) (out : SinkState) → rate ≡ playout.config.rate → ReadsSheet rate (Ok sheet) before.input after
      → SheetEnds playout sheet fault before.out out → PlaysPlan playout fault before (record { input = after; out = out })
  plan_played rate sheet fault out same reads plays = plan_ends sheet out (subst (λ n. ReadsSheet n (Ok sheet) before.input after) same reads) fault plays
