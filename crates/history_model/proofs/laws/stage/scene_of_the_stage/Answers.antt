use Rattle.history_model.proofs.stage.Shown.{length-scene, scene-places}
use Rattle.history_model.proofs.laws.stage.scene_of_the_stage.Goals as goal

pub returns-clause-scene : goal.returns-clause-scene
returns-clause-scene c = scene-places

pub returns-clause-few : goal.returns-clause-few
returns-clause-few c = length-scene
