use Rattle.std.proofs.Common.{sym}
use Rattle.history_model.specs.pictures.Media.{size}
use Rattle.history_model.specs.pictures.Scene.{scene}
use Rattle.history_model.specs.pictures.Sound.{frame_sample}
use Rattle.history_model.proofs.Frames.{frame_sample-scene}
use Rattle.play_sound.specs.Sounds.{mixed_sample, sounds_after}
use Rattle.play_sound.proofs.Bytes.{same_bytes}
use Rattle.play_sound.proofs.laws.sounds_of_histories.Goals as goal

pub returns-clause-sample : goal.returns-clause-sample
returns-clause-sample c = λ setup history channel pair side. sym (frame_sample-scene setup history channel pair side)

pub returns-clause-sound : goal.returns-clause-sound
returns-clause-sound c = λ setup history channel.
    same_bytes (mixed_sample (sounds_after setup history) (scene history channel)) (frame_sample setup history channel)
    (size setup channel).pairs (λ pair side small. sym (frame_sample-scene setup history channel pair side))
