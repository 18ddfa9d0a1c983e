use Rattle.std.proofs.Common.{◌-◌, ◌++◌, length, true, refl, sym, ap, subst, arith}
use Rattle.std.specs.Prelude.{Err}
use Rattle.script_player.specs.Taken.{HasTaken}
use Rattle.live_view.specs.View.{HasPlayed, log_run, state_of}
use Rattle.live_view.proofs.Taking.{goes_on, handed_on, has_stopped, was_refused, was_stopped}
use Rattle.live_view.proofs.Views.{view_goes_on}
use Rattle.live_view.proofs.view.LiveView.play.Goals as goal

pub returns-in_err-outcome-in-Err-clause-fault : goal.returns-in_err-outcome-in-Err-clause-fault
returns-in_err-outcome-in-Err-clause-fault g c = λ playout bytes is.
    let on = view_goes_on playout bytes (state_of c.args.self) is c.requires.going in
    let all = bytes ++ c.args.piece.now in
    let takes = c.in-Err.ensures.takes (log_run playout) bytes refl (subst (HasTaken (log_run playout) c.args.self.script bytes) (sym c.new.ensures) on.taken) in
    handed_on playout all c.in_err-outcome-in-Err.field-0.0 c.from_residual.result c.from_residual.ensures.1
    (was_refused playout all c.take-taken.new.self.script c.in-Err.ending _ refl takes c.in_err-outcome-in-Err.field-0.0 c.in_err-outcome-in-Err.ensures)

pub returns-in-Ok-clause-takes : goal.returns-in-Ok-clause-takes
returns-in-Ok-clause-takes g c = λ playout bytes is.
    let old = state_of c.args.self in
    let new = record old {
      script = c.take-taken.new.self.script;
      left = c.args.self.left - length c.args.piece.now;
      fresh = c.take-taken.new.self.display.is_fresh;
      frames = c.take-taken.new.self.display.renderer;
    } in
    let all = bytes ++ c.args.piece.now in
    let on = view_goes_on playout bytes old is c.requires.going in
    let takes = c.in-Ok.ensures.takes (log_run playout) bytes refl (subst (HasTaken (log_run playout) c.args.self.script bytes) (sym c.new.ensures) on.taken) in
    let few = c.requires.few in
    record {
      played = subst (λ b. HasPlayed b playout all new) (sym c.requires.going)
          (goes_on playout bytes c.args.piece.now old new _ on c.in-Ok.ensures.ready c.in-Ok.ensures.ticks c.take-taken.ensures.lines (omega (arith, few)) takes);
      frames = c.in-Ok.ensures.shown.last.1;
      workers = is.workers;
    }

pub returns-in-Ok-clause-view : goal.returns-in-Ok-clause-view
returns-in-Ok-clause-view g c = (
  c.requires.view.0,
  c.requires.view.1 ++ c.args.piece.now,
  returns-in-Ok-clause-takes g c c.requires.view.0 c.requires.view.1 c.requires.view.2,
)

pub returns-in_ok-outcome-in-Err-clause-takes : goal.returns-in_ok-outcome-in-Err-clause-takes
returns-in_ok-outcome-in-Err-clause-takes g c = λ playout bytes is.
    let old = state_of c.args.self in
    let new = record old {
      script = c.take-taken.new.self.script;
      stopped = true;
      fresh = c.take-taken.new.self.display.is_fresh;
      frames = c.take-taken.new.self.display.renderer;
    } in
    let all = bytes ++ c.args.piece.now in
    let on = view_goes_on playout bytes old is c.requires.going in
    let takes = c.in-Err.ensures.takes (log_run playout) bytes refl (subst (HasTaken (log_run playout) c.args.self.script bytes) (sym c.new.ensures) on.taken) in
    let good = sym c.in_ok-outcome-in-Err.ensures in
    let ended = c.in-Err.ensures.stopped (ap Err (was_stopped playout all c.take-taken.new.self.script c.in-Err.ending _ refl takes good)) in
    record {
      played = has_stopped playout all c.take-taken.new.self.script c.in-Err.ending _ refl takes new refl good ended.channels;
      frames = ended.shown.last.1;
      workers = is.workers;
    }

pub returns-in_ok-outcome-in-Err-clause-view : goal.returns-in_ok-outcome-in-Err-clause-view
returns-in_ok-outcome-in-Err-clause-view g c = (
  c.requires.view.0,
  c.requires.view.1 ++ c.args.piece.now,
  returns-in_ok-outcome-in-Err-clause-takes g c c.requires.view.0 c.requires.view.1 c.requires.view.2,
)
