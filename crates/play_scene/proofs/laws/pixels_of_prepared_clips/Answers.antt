use Rattle.play_scene.proofs.Prepared.{clip_pixel-prepared, clip_pixel-straight}
use Rattle.play_scene.proofs.laws.pixels_of_prepared_clips.Goals as goal

pub returns-clause-prepared : goal.returns-clause-prepared
returns-clause-prepared c = clip_pixel-prepared

pub returns-clause-straight : goal.returns-clause-straight
returns-clause-straight c = clip_pixel-straight
