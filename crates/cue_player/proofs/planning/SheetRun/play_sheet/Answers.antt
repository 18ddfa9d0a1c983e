use Rattle.std.proofs.Common.{refl, rules}
use Rattle.script_player.specs.Ending.{fault_in}
use Rattle.script_player.specs.Playouts.{playout_of}
use Rattle.script_player.specs.Script.{Run}
use Rattle.script_player.specs.Shown.{Frames}
use Rattle.script_player.proofs.Ticked.{first_shown}
use Rattle.cue_player.proofs.PlayedLines.{never_rejected, none_played}
use Rattle.cue_player.proofs.SheetMoments.{sheet_ended}
use Rattle.cue_player.proofs.SheetReadings.{sheet_unplayed}
use Rattle.cue_player.proofs.planning.SheetRun.play_sheet.Goals as goal

pub returns-in_err-player : goal.returns-in_err-player
returns-in_err-player g c = sheet_unplayed _ _ c.from_residual-in_err-player.result _ c.from_residual-in_err-player.ensures.1

pub returns-in_err-display : goal.returns-in_err-display
returns-in_err-display g c = sheet_unplayed _ _ c.from_residual.result _ c.from_residual.ensures.1

pub returns-in_err-steps : goal.returns-in_err-steps
returns-in_err-steps g c = sheet_unplayed _ _ c.from_residual-in_err-steps.result _ c.from_residual-in_err-steps.ensures.1

pub outcome-requires : goal.outcome-requires
outcome-requires g c =
    let run : Run = record { playout = playout_of c.args.self.setup c.args.self.options.digests; shown = Frames; first = g.K.Sink.state c.args.out.now } in
    never_rejected run _ c.play_steps-played.result c.play_steps-played.new.self.player _
    (c.play_steps-played.ensures run (none_played run c.in_ok-player.player (c.in_ok-player.ensures.represents Frames refl)))

pub returns : goal.returns
returns g c =
    let run : Run = record { playout = playout_of c.args.self.setup c.args.self.options.digests; shown = Frames; first = g.K.Sink.state c.args.out.now } in
    sheet_ended run.playout c.args.sheet.now c.play_steps-played.result (fault_in c.outcome.result) c.play_steps-played.new.self.player _ _ c.outcome.ensures
    (rw c.in_ok-steps.ensures at (c.play_steps-played.ensures run (none_played run c.in_ok-player.player (c.in_ok-player.ensures.represents Frames refl))))

pub play_steps-played-requires-clause-shown : goal.play_steps-played-requires-clause-shown
play_steps-played-requires-clause-shown g c =
    first_shown _ _ c.in_ok-player.player _ c.in_ok-player.ensures.setup c.in_ok-player.ensures.empty (search rules, c.in_ok-display.ensures.frames) c.in_ok-display.ensures.none_waits
