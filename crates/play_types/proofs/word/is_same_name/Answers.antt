use Rattle.play_types.proofs.Letters.{same_in_capitals}
use Rattle.play_types.proofs.word.is_same_name.Goals as goal

pub returns : goal.returns
returns c = same_in_capitals _ c.args.one.now c.args.other.now c.utf8.one c.utf8.other c.eq_ignore_ascii_case.ensures.test
