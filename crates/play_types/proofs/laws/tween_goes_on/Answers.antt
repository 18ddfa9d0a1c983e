use Rattle.play_types.proofs.Tweens.{IsBetween-later}
use Rattle.play_types.proofs.laws.tween_goes_on.Goals as goal

pub returns : goal.returns
returns c = IsBetween-later c.args.curve c.args.from c.args.to c.args.tick c.args.later c.args.duration c.requires
