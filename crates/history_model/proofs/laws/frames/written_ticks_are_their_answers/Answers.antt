use Rattle.history_model.proofs.WrittenTicks.{picture-answer, sound-answer, tick-answer}
use Rattle.history_model.proofs.laws.frames.written_ticks_are_their_answers.Goals as goal

pub returns-clause-picture : goal.returns-clause-picture
returns-clause-picture c = picture-answer

pub returns-clause-sound : goal.returns-clause-sound
returns-clause-sound c = sound-answer

pub returns-clause-script : goal.returns-clause-script
returns-clause-script c = tick-answer
