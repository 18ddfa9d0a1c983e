-- The definitions that are unfolded to compute the values of literal arguments.
use Rattle.std.specs.Prelude.{⊤}
use Rattle.clap.proofs.OnLiterals.{clap_on_literals}

unfoldable pub words_on_literals : ⊤
unfolding clap_on_literals
words_on_literals = tt
