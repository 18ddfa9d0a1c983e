use Rattle.std.proofs.Common.{◌≡◌, ◌∙◌, sym, ap, option_map, codes, None, Some}
use Rattle.clap.specs.Words.{found_of, first_of, rows_of}
use Rattle.clap.proofs.WalkLemmas.{first_value-rows}
use Rattle.play_viewer.proofs.words.pictures_of.Goals as goal

pub returns-in-None : goal.returns-in-None
returns-in-None c =
    let none : first_of (codes "no-pictures") (rows_of (found_of c.args.matches.now)) ≡ None =
    sym (first_value-rows (found_of c.args.matches.now) (codes "no-pictures")) ∙ (sym c.get_str.ensures ∙ ap (option_map (λ s. s.now)) c.in-None.is) in
    rw none

pub returns-in-Some : goal.returns-in-Some
returns-in-Some c =
    let some : first_of (codes "no-pictures") (rows_of (found_of c.args.matches.now)) ≡ Some c.in-Some.text.now =
    sym (first_value-rows (found_of c.args.matches.now) (codes "no-pictures")) ∙ (sym c.get_str.ensures ∙ ap (option_map (λ s. s.now)) c.in-Some.is) in
    rw some c.ne.ensures
