use Rattle.play_scene.proofs.Reading.{pixel_in-shown}
use Rattle.play_scene.proofs.Ticks.{first_pictures, next_pictures}
use Rattle.play_scene.proofs.laws.frames_are_pictures.Goals as goal

pub returns-clause-pixel : goal.returns-clause-pixel
returns-clause-pixel c = pixel_in-shown

pub returns-clause-first : goal.returns-clause-first
returns-clause-first c = first_pictures

pub returns-clause-next : goal.returns-clause-next
returns-clause-next c = next_pictures
