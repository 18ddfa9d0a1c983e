use Rattle.std.proofs.Common.{subst, sym}
use Rattle.std.specs.Prelude.{Err}
use Rattle.server_setup.specs.declared.fault.RunFault.{RunFault}
use Rattle.play_viewer.specs.Viewing.{Views}
use Rattle.play_viewer.proofs.Moves.{answered, bytes, ended, failed, handed_on, has_bytes, refused, rested, took, unanswered, unrested}
use Rattle.play_viewer.proofs.viewing.take_step.Goals as goal

pub returns-in_ok-taken-in-Read-clause-goes : goal.returns-in_ok-taken-in-Read-clause-goes
returns-in_ok-taken-in-Read-clause-goes g c = λ viewed before way.
    let is = c.in_ok-taken-in-Read.ensures in
    took viewed before _ _ way _ _ _ c.in-Read.ensures.told.1 (is.takes viewed.playout (bytes viewed before _ _ way) (has_bytes viewed before _ _ way)) is.pictures is.sent

pub returns-in_err-taken-in-Read-clause-goes : goal.returns-in_err-taken-in-Read-clause-goes
returns-in_err-taken-in-Read-clause-goes g c = λ viewed before way.
    handed_on viewed before _ c.in_err-taken-in-Read.field-0.0 _ c.from_residual.ensures.1
    (refused viewed before _ _ way _ _ _ c.in-Read.ensures.told.1
    (c.in_err-taken-in-Read.ensures.fault viewed.playout (bytes viewed before _ _ way) (has_bytes viewed before _ _ way)))

pub returns-in_ok-answer-in-Asked-clause-goes : goal.returns-in_ok-answer-in-Asked-clause-goes
returns-in_ok-answer-in-Asked-clause-goes g c = λ viewed before way.
    let is = c.in_ok-answer-in-Asked.ensures.answers viewed.playout (bytes viewed before _ _ way) (has_bytes viewed before _ _ way) in
    answered viewed before _ _ way _ _ _ c.in-Asked.ensures.told is.0 _ is.1 is.2

pub returns-in_err-answer-in-Asked-clause-goes : goal.returns-in_err-answer-in-Asked-clause-goes
returns-in_err-answer-in-Asked-clause-goes g c = λ viewed before way.
    handed_on viewed before _ _ _ c.from_residual-in_err-answer-in-Asked.ensures.1
    (unanswered viewed before _ _ way _ _ _ c.in-Asked.ensures.told _
    (c.in_err-answer-in-Asked.ensures.answers viewed.playout (bytes viewed before _ _ way) (has_bytes viewed before _ _ way)))

pub returns-in_ok-rested-in-Waits-clause-goes : goal.returns-in_ok-rested-in-Waits-clause-goes
returns-in_ok-rested-in-Waits-clause-goes g c = λ viewed before way.
    let is = c.in_ok-rested-in-Waits.ensures in
    let sends = is.sends viewed.playout (bytes viewed before _ _ way) (has_bytes viewed before _ _ way) in
    rested viewed before _ _ way _ c.in-Waits.ensures.told _ _ (is.of_bytes viewed.playout (bytes viewed before _ _ way) (has_bytes viewed before _ _ way))
    is.pictures sends.0 is.fresh sends.1

pub returns-in_err-rested-in-Waits-clause-goes : goal.returns-in_err-rested-in-Waits-clause-goes
returns-in_err-rested-in-Waits-clause-goes g c = λ viewed before way.
    let sends = c.in_err-rested-in-Waits.ensures.sends viewed.playout (bytes viewed before _ _ way) (has_bytes viewed before _ _ way) in
    handed_on viewed before _ _ _ c.from_residual-in_err-rested-in-Waits.ensures.1
    (subst (λ (f : RunFault). Views viewed (Err f) before (g.D.Desk.state c.send_messages.new.desk)) (sym sends.0)
    (unrested viewed before _ _ way _ c.in-Waits.ensures.told _ sends.1))

pub returns-in-Ended-clause-goes : goal.returns-in-Ended-clause-goes
returns-in-Ended-clause-goes g c = λ viewed before way. ended viewed before _ _ way _ c.in-Ended.ensures.told

pub returns-in-Failed-clause-goes : goal.returns-in-Failed-clause-goes
returns-in-Failed-clause-goes g c = λ viewed before way. failed viewed before _ _ way _ c.in-Failed.ensures.told
