use Rattle.std.proofs.Common.{◌≡◌, take, arith, append-nil}
use Rattle.std.proofs.lemmas.List.{take_all}
use Rattle.play_outside.proofs.Gathering.{Gathered-none, Gathered-turn, Adds-turn}
use Rattle.osc_status.proofs.Formed.{formed-kept}
use Rattle.osc_status.proofs.text.add_part.Goals as goal

pub loop-byte-init : goal.loop-byte-init
loop-byte-init g c = rw append-nil (Gathered-none c.args.pieces.now (g.K.Sink.state c.args.to.now))

pub returns-in_err-add_byte : goal.returns-in_err-add_byte
returns-in_err-add_byte g c =
    rw (c.from_residual.ensures, ← formed-kept c.args.form c.args.part.now)
    (Adds-turn _ _ _ _ _ _ _ _ _ _ c.loop-byte-test.true c.loop-byte.invariant (rw c.in_err-add_byte.ensures at c.add_byte.ensures))

pub loop-byte-preserved : goal.loop-byte-preserved
loop-byte-preserved g c = Gathered-turn _ _ _ _ _ _ _ _ _ _ c.loop-byte-test.true c.loop-byte.invariant (rw c.in_ok-add_byte.ensures at c.add_byte.ensures)

pub returns : goal.returns
returns g c =
    let all : take c.loop-byte.byte-index c.args.part.now ≡ c.args.part.now = take_all c.loop-byte.byte-index c.args.part.now (omega (arith, c.loop-byte-test.false)) in
    rw (← formed-kept c.args.form c.args.part.now) (rw all at c.loop-byte.invariant)
