use Rattle.clip_format.proofs.Prepared.{IsClip-straight_clip, prepared_clip-straight_clip, version-straight_clip}
use Rattle.clip_format.proofs.laws.clip_that_was_made_straight.Goals as goal

pub returns-clause-clip : goal.returns-clause-clip
returns-clause-clip c = IsClip-straight_clip

pub returns-clause-version : goal.returns-clause-version
returns-clause-version c = version-straight_clip

pub returns-clause-shown : goal.returns-clause-shown
returns-clause-shown c = prepared_clip-straight_clip
