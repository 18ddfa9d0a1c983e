use Rattle.std.proofs.Common.{append-nil, [], ◌∷◌, pos}
use Rattle.play_outside.proofs.Gathering.{Gathered-none, Gathered-turn, Adds-turn}
use Rattle.osc_status.specs.declared.arg.OscArg.TheVariants as arg
use Rattle.osc_status.specs.Message.{letter}
use Rattle.osc_status.specs.Written.{arg_value}
use Rattle.osc_status.proofs.writing.add_each_letter.Goals as goal

pub loop-arg-init : goal.loop-arg-init
loop-arg-init g c = rw append-nil (Gathered-none c.args.pieces.now (g.K.Sink.state c.args.to.now))

pub returns-in_err-add : goal.returns-in_err-add
returns-in_err-add g c =
    rw c.from_residual.ensures
    (Adds-turn _ (λ arg. letter (arg_value arg) ∷ []) _ _ (arg.Int (pos 0)) _ _ _ _ _ c.loop-arg-test.true c.loop-arg.invariant (rw (c.letter_of.ensures, c.in_err-add.ensures) at c.add.ensures.adds))

pub loop-arg-preserved : goal.loop-arg-preserved
loop-arg-preserved g c = Gathered-turn _ (λ arg. letter (arg_value arg) ∷ []) _ _ (arg.Int (pos 0)) _ _ _ _ _ c.loop-arg-test.true c.loop-arg.invariant (rw (c.letter_of.ensures, c.in_ok-add.ensures) at c.add.ensures.adds)
