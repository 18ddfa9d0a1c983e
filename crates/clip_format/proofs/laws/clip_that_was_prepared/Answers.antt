use Rattle.clip_format.proofs.Prepared.{IsClip-prepared_clip, IsLowered-prepared_clip, version-prepared_clip}
use Rattle.clip_format.proofs.laws.clip_that_was_prepared.Goals as goal

pub returns-clause-clip : goal.returns-clause-clip
returns-clause-clip c = IsClip-prepared_clip

pub returns-clause-version : goal.returns-clause-version
returns-clause-version c = version-prepared_clip

pub returns-clause-lowered : goal.returns-clause-lowered
returns-clause-lowered c = IsLowered-prepared_clip
