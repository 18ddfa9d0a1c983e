use Rattle.std.proofs.Common.{rules}
use Rattle.std.proofs.lemmas.Result.{err_from_is_err_and}
use Rattle.history_model.specs.scripts.Generator.{generated_run}
use Rattle.script_player.proofs.Ticked.{first_shown}
use Rattle.made_script.proofs.MadeScripts.{ended_by_memory, well_played}
use Rattle.made_script.proofs.generating.generate.Goals as goal

pub returns : goal.returns
returns g c =
    (rw c.in_ok-send_summary.ensures at c.send_summary.ensures) (generated_run c.args.seed c.args.steps)
    (well_played c.args.seed c.args.steps c.play.result c.play.new.run c.in_ok-outcome.ensures c.play.ensures)

pub returns-in_err-send_summary : goal.returns-in_err-send_summary
returns-in_err-send_summary g c =
    let p = err_from_is_err_and c.from_residual-in_err-send_summary.result c.from_residual-in_err-send_summary.ensures.1 in
    rw (p.1, p.2)
    ((rw c.in_err-send_summary.ensures at c.send_summary.ensures) (generated_run c.args.seed c.args.steps)
    (well_played c.args.seed c.args.steps c.play.result c.play.new.run c.in_ok-outcome.ensures c.play.ensures))

pub returns-in_err-outcome : goal.returns-in_err-outcome
returns-in_err-outcome g c =
    let p = err_from_is_err_and c.from_residual-in_err-outcome.result c.from_residual-in_err-outcome.ensures.1 in
    rw (p.1, p.2) (ended_by_memory c.args.seed c.args.steps c.play.result c.in_err-outcome.field-0.0 (g.K.Sink.state c.args.out.now) c.in_err-outcome.ensures)

pub play-requires-clause-shown : goal.play-requires-clause-shown
play-requires-clause-shown g c =
    first_shown _ _ _ _ c.in_ok-run.ensures.setup c.in_ok-run.ensures.empty (search rules, c.in_ok-display.ensures.frames) c.in_ok-display.ensures.none_waits
