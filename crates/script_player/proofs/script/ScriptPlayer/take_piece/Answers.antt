use Rattle.std.proofs.Common.{◌++◌, false, refl, sym, subst, length-append, arith}
use Rattle.std.proofs.lemmas.List.{take_all}
use Rattle.std.proofs.lemmas.Result.{err_from_is_err_and}
use Rattle.history_model.specs.declared.limits.TheConstants.{MAX_INPUT_BYTES}
use Rattle.history_model.specs.scripts.Input.{received}
use Rattle.script_player.specs.Script.{IsDone}
use Rattle.script_player.proofs.Endings.{taken_done, piece_halted, cut_at_limit}
use Rattle.script_player.proofs.script.ScriptPlayer.take_piece.Goals as goal

pub returns-in_err-take-clause-reads : goal.returns-in_err-take-clause-reads
returns-in_err-take-clause-reads g c = λ run bytes told taken exact.
    let p = err_from_is_err_and c.from_residual.result c.from_residual.ensures.1 in
    rw (p.1, p.2)
    (piece_halted run c.take.new.self.script c.in_err-take.field-0.0 (bytes ++ c.args.piece.now) _ _ (cut_at_limit bytes c.args.piece.now c.args.left exact)
    (c.in_err-take.ensures.takes run bytes told taken))

pub returns-then-piece-left-clause-reads : goal.returns-then-piece-left-clause-reads
returns-then-piece-left-clause-reads g c = λ run bytes told taken exact.
    let piece = c.args.piece.now in
    let takes = c.in_ok-take.ensures.takes run bytes told taken in (
      (
        omega (arith, length-append bytes piece, exact, c.if-piece-left.true),
        subst (λ text. IsDone run (received text false) (g.K.Sink.state c.take.new.out)) (sym (cut_at_limit bytes piece c.args.left exact))
            (taken_done run c.take.new.self.script _ _ takes),
      ),
      λ faults. refl,
    )

pub returns-in_err-take-2-clause-reads : goal.returns-in_err-take-2-clause-reads
returns-in_err-take-2-clause-reads g c = λ run bytes told taken exact.
    let p = err_from_is_err_and c.from_residual-in_err-take-2.result c.from_residual-in_err-take-2.ensures.1 in
    let piece = c.args.piece.now in
    rw (p.1, p.2)
    (piece_halted run c.take-2.new.self.script c.in_err-take-2.field-0.0 (bytes ++ piece) _ _
    (take_all MAX_INPUT_BYTES (bytes ++ piece) (omega (arith, length-append bytes piece, exact, c.if-piece-left.false)))
    (c.in_err-take-2.ensures.takes run bytes told taken))

pub returns-clause-reads : goal.returns-clause-reads
returns-clause-reads g c = λ run bytes told taken exact.
    let piece = c.args.piece.now in (
      omega (arith, length-append bytes piece, exact, c.if-piece-left.false),
      c.in_ok-take-2.ensures.takes run bytes told taken,
    )
