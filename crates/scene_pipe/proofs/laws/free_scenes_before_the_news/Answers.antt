use Rattle.scene_pipe.proofs.Counting.{few_returned}
use Rattle.scene_pipe.proofs.laws.free_scenes_before_the_news.Goals as goal

pub returns : goal.returns
returns c = few_returned
