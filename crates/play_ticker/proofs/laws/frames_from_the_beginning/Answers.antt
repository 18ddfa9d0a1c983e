use Rattle.std.proofs.Common.{refl}
use Rattle.play_ticker.proofs.Showing.{shows_blank}
use Rattle.play_ticker.proofs.laws.frames_from_the_beginning.Goals as goal

pub returns-clause-whole : goal.returns-clause-whole
returns-clause-whole c = λ setup history channel. refl

pub returns-clause-blank : goal.returns-clause-blank
returns-clause-blank c = λ entries frames blank. shows_blank c.frames_represent_histories.ensures.first entries frames blank
