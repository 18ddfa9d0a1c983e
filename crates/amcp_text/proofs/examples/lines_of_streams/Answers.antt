use Rattle.std.proofs.Common.{refl}
use Rattle.std.specs.Str.{chars, is_utf8}
use lib.Utf8.{encode}
use Rattle.amcp_text.proofs.examples.lines_of_streams.Goals as goal

pub returns-clause-two : goal.returns-clause-two
unfolding chars is_utf8 encode
returns-clause-two c = refl

pub returns-clause-empty : goal.returns-clause-empty
unfolding chars is_utf8 encode
returns-clause-empty c = refl

pub returns-clause-inner_return : goal.returns-clause-inner_return
unfolding chars is_utf8 encode
returns-clause-inner_return c = refl

pub returns-clause-two_returns : goal.returns-clause-two_returns
unfolding chars is_utf8 encode
returns-clause-two_returns c = refl

pub returns-clause-cut_character : goal.returns-clause-cut_character
unfolding chars is_utf8 encode
returns-clause-cut_character c = refl
