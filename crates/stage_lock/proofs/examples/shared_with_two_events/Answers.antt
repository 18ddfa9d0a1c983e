use Rattle.stage_lock.proofs.examples.shared_with_two_events.Goals as goal

pub returns-clause-number : goal.returns-clause-number
returns-clause-number c = λ tag cmd ticked drawn told. told.tick.number

pub returns-clause-held : goal.returns-clause-held
returns-clause-held c = λ tag cmd ticked drawn told. told.held

pub returns-clause-stop : goal.returns-clause-stop
returns-clause-stop c = λ tag cmd at told. told.position
