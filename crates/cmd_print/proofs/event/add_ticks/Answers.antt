use Rattle.std.proofs.Common.{append-nil}
use Rattle.play_outside.proofs.Gathering.{Gathered-none}
use Rattle.cmd_print.proofs.Ticks.{ticks_left, ticks_more, ticks_last}
use Rattle.cmd_print.proofs.event.add_ticks.Goals as goal

pub loop-turn-init : goal.loop-turn-init
loop-turn-init g c = rw append-nil (Gathered-none c.args.text.now (g.K.Sink.state c.args.to.now))

pub returns-in_err-add_tick_line : goal.returns-in_err-add_tick_line
returns-in_err-add_tick_line g c =
    rw c.from_residual.ensures
    (ticks_left c.args.times c.loop-turn._turn _ _ _ _ _ _ c.loop-turn.invariant c.requires (rw c.from-most.ensures at c.loop-turn-test.true)
    (rw (c.from-most.ensures, c.in_err-add_tick_line.ensures) at c.add_tick_line.ensures))

pub loop-turn-preserved : goal.loop-turn-preserved
loop-turn-preserved g c =
    ticks_more c.args.times c.loop-turn._turn _ _ _ _ _ _ c.loop-turn.invariant (rw c.from-most.ensures at c.loop-turn-test.true)
    (rw (c.from-most.ensures, c.in_ok-add_tick_line.ensures) at c.add_tick_line.ensures)

pub returns : goal.returns
returns g c =
    ticks_last c.args.times c.loop-turn._turn _ _ _ _ _ _ c.loop-turn.invariant c.add_tick_line-2.result c.requires (rw c.from-most.ensures at c.loop-turn-test.false)
    (rw c.from-most.ensures at c.add_tick_line-2.ensures)
