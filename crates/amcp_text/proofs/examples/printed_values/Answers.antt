use Rattle.std.proofs.Common.{refl}
use Rattle.std.specs.Fmt.{digits}
use Rattle.amcp_text.specs.Micros.{last_digits}
use Rattle.amcp_text.proofs.examples.printed_values.Goals as goal

pub returns-clause-negative : goal.returns-clause-negative
unfolding digits last_digits
returns-clause-negative c = refl

pub returns-clause-whole : goal.returns-clause-whole
unfolding digits last_digits
returns-clause-whole c = refl

pub returns-clause-tenth : goal.returns-clause-tenth
unfolding digits last_digits
returns-clause-tenth c = refl

pub returns-clause-zero : goal.returns-clause-zero
unfolding digits last_digits
returns-clause-zero c = refl
