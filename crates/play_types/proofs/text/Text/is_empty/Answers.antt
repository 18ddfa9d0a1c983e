use Rattle.std.proofs.Common.{◌==◌, length, ap, ◌∙◌}
use Rattle.play_types.proofs.Texts.{no_bytes}
use Rattle.play_types.proofs.text.Text.is_empty.Goals as goal

pub returns : goal.returns
returns c =
    c.is_empty.ensures ∙ no_bytes c.as_str.result.now c.as_str.utf8 ∙ ap (λ cs. length cs == 0) c.as_str.ensures
