use Rattle.play_types.proofs.Tweens.{along-start}
use Rattle.play_types.proofs.laws.tween_at_its_ends.Goals as goal

pub returns-clause-begins : goal.returns-clause-begins
returns-clause-begins c some = along-start c.args.curve c.args.from c.args.to c.args.duration some
