use Rattle.play_types.proofs.Tweens.{IsBetween-along}
use Rattle.play_types.proofs.laws.tween_between.Goals as goal

pub returns : goal.returns
returns c = IsBetween-along c.args.curve c.args.from c.args.to c.args.tick c.args.duration
