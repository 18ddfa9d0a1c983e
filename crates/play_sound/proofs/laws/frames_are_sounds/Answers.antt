use Rattle.play_sound.proofs.Ticks.{first_sounds, next_sounds, sample_of_frame}
use Rattle.play_sound.proofs.laws.frames_are_sounds.Goals as goal

pub returns-clause-sample : goal.returns-clause-sample
returns-clause-sample c = sample_of_frame

pub returns-clause-first : goal.returns-clause-first
returns-clause-first c = first_sounds

pub returns-clause-next : goal.returns-clause-next
returns-clause-next c = next_sounds
