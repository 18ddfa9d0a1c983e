use Rattle.play_scene.proofs.Stills.{are_pictures}
use Rattle.play_scene.proofs.Ticks.{history_pixel}
use Rattle.play_scene.proofs.laws.pixels_of_histories.Goals as goal

pub returns-clause-some : goal.returns-clause-some
returns-clause-some c = are_pictures

pub returns-clause-frame : goal.returns-clause-frame
returns-clause-frame c = history_pixel
