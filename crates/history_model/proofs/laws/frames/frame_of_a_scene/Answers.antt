use Rattle.history_model.proofs.Frames.{frame_pixel-scene, frame_sample-scene}
use Rattle.history_model.proofs.laws.frames.frame_of_a_scene.Goals as goal

pub returns-clause-pixel : goal.returns-clause-pixel
returns-clause-pixel c = frame_pixel-scene

pub returns-clause-sample : goal.returns-clause-sample
returns-clause-sample c = frame_sample-scene
