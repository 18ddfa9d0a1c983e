use Rattle.std.proofs.Common.{◌≡◌, ◌∙◌, sym, option_map, codes, rules}
use Rattle.clap.specs.Words.{found_of, first_of, rows_of}
use Rattle.clap.proofs.WalkLemmas.{first_value-rows}
use Rattle.play_viewer.proofs.words.listen_of.Goals as goal

pub returns : goal.returns
returns c =
    let path : first_of (codes "listen") (rows_of (found_of c.args.matches.now)) ≡ option_map (λ s. s.now) c.get_str.result =
    sym (first_value-rows (found_of c.args.matches.now) (codes "listen")) ∙ sym c.get_str.ensures in
    rw path (search rules)
