use Rattle.std.proofs.Common.{◌≡◌, ap, ◌∙◌, refl}
use Rattle.std.specs.Str.Parse.{digits_value}
use Rattle.std.proofs.lemmas.Result.{Ok-from_Ok_iff, OkIff-at_ok}
use Rattle.cmd_parse.proofs.Hexadecimal.{no_plus, hexadecimal_parses, hexadecimal_below}
use Rattle.cmd_parse.proofs.producer.hexadecimal_value.Goals as goal

pub unwrap-requires : goal.unwrap-requires
unwrap-requires c =
    let parses = hexadecimal_parses c.args.digits.now c.requires.digits c.requires.some c.requires.few in
    rw (Ok-from_Ok_iff _ _ _ c.from_str_radix.ensures.value parses) refl

pub returns-clause-range : goal.returns-clause-range
returns-clause-range c =
    let text = c.args.digits.now in
    let value : c.unwrap.result ≡ digits_value 16 text =
    (OkIff-at_ok _ _ _ _ c.from_str_radix.ensures.value c.unwrap.ensures).1 ∙ ap (digits_value 16) (no_plus text c.requires.digits) in
    rw value (hexadecimal_below text c.requires.digits)

pub returns-clause-value : goal.returns-clause-value
returns-clause-value c =
    let text = c.args.digits.now in
    (OkIff-at_ok _ _ _ _ c.from_str_radix.ensures.value c.unwrap.ensures).1 ∙ ap (digits_value 16) (no_plus text c.requires.digits)
