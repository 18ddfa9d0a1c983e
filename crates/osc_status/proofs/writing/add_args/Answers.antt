use Rattle.std.proofs.Common.{ℕ, ◌<◌, zero, suc, List, [], ◌∷◌, length, map, take, get_or, pos, append-nil, add-one, arith}
use Rattle.std.specs.List.{AllByRecursion}
use Rattle.play_outside.proofs.Gathering.{Gathered-none, Gathered-turn, Adds-turn}
use Rattle.osc_status.specs.declared.arg.OscArg.{OscArg}
use Rattle.osc_status.specs.declared.arg.OscArg.TheVariants as arg
use Rattle.osc_status.specs.Message.{IsArg, value_bytes}
use Rattle.osc_status.specs.Written.{arg_value}
use Rattle.osc_status.proofs.writing.add_args.Goals as goal

-- one argument more that a message may have
fit-more : (args : List OscArg) (at : ℕ) (d : OscArg) → at < length args → AllByRecursion IsArg (map arg_value (take at args)) → IsArg (arg_value (get_or args at d))
    → AllByRecursion IsArg (map arg_value (take (suc at) args))
fit-more [] at d within fit next = absurd (omega (arith, within))
fit-more (first ∷ args) zero d within fit next = (next, tt)
fit-more (first ∷ args) (suc at) d within fit next = (fit.0, fit-more args at d (omega (arith, within)) fit.1 next)

pub loop-arg-init : goal.loop-arg-init
loop-arg-init g c = record {
  fit = tt;
  added = rw append-nil (Gathered-none c.args.pieces.now (g.K.Sink.state c.args.to.now));
}

pub returns-in_err-add_arg-clause-adds : goal.returns-in_err-add_arg-clause-adds
returns-in_err-add_arg-clause-adds g c =
    rw c.from_residual.ensures
    (Adds-turn _ (λ arg. value_bytes (arg_value arg)) _ _ (arg.Int (pos 0)) _ _ _ _ _ c.loop-arg-test.true c.loop-arg.invariant.added (rw c.in_err-add_arg.ensures at c.add_arg.ensures.adds))

pub loop-arg-preserved : goal.loop-arg-preserved
loop-arg-preserved g c = record {
  fit = rw add-one (fit-more c.args.args.now c.loop-arg.arg-index (arg.Int (pos 0)) c.loop-arg-test.true c.loop-arg.invariant.fit c.add_arg.ensures.fits);
  added = Gathered-turn _ (λ arg. value_bytes (arg_value arg)) _ _ (arg.Int (pos 0)) _ _ _ _ _ c.loop-arg-test.true c.loop-arg.invariant.added (rw c.in_ok-add_arg.ensures at c.add_arg.ensures.adds);
}
