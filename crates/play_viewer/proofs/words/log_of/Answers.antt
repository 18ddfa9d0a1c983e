use Rattle.std.proofs.Common.{◌∙◌, sym, ap, option_map, codes}
use Rattle.clap.specs.Words.{found_of}
use Rattle.clap.proofs.WalkLemmas.{first_value-rows}
use Rattle.play_viewer.proofs.words.log_of.Goals as goal

pub returns : goal.returns
returns c =
    sym (first_value-rows (found_of c.args.matches.now) (codes "log"))
    ∙ (sym c.get_str.ensures ∙ ap (option_map (λ s. s.now)) c.unwrap.ensures)
