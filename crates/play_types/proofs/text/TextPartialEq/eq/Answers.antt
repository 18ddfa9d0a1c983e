use Rattle.std.proofs.Common.{◌∙◌}
use Rattle.play_types.proofs.Texts.{bytes_eq-chars}
use Rattle.play_types.proofs.text.TextPartialEq.eq.Goals as goal

pub returns : goal.returns
returns c =
    c.eq.ensures
    ∙ (rw (c.as_str.ensures, c.as_str-2.ensures) at (bytes_eq-chars c.as_str.result.now c.as_str-2.result.now c.as_str.utf8 c.as_str-2.utf8))
