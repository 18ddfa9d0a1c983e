use Rattle.play_types.proofs.Letters.{is_word_from_bytes}
use Rattle.play_types.proofs.word.is_word.Goals as goal

pub returns : goal.returns
returns c = is_word_from_bytes _ c.args.word.now c.args.fixed.now c.utf8.word c.utf8.fixed c.requires c.eq_ignore_ascii_case.ensures.test
