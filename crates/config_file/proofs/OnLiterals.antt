-- What is unfolded to compute the configuration of a text that is written out.
use Rattle.std.specs.Prelude.{⊤}
use Rattle.std.specs.Str.{chars, is_utf8}
use lib.Utf8.{encode}
use Rattle.std.specs.Fmt.{digits}
use Rattle.toml.proofs.OnLiterals.{toml_on_literals}

unfoldable pub config_on_literals : ⊤
unfolding toml_on_literals chars is_utf8 encode digits
config_on_literals = tt
