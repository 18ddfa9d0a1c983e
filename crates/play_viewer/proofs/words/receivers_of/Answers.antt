use Rattle.std.proofs.Common.{◌≡◌, ◌∙◌, sym, ap, option_map, codes, None, Some, List, ℕ, map}
use Rattle.std.specs.Borrow.{Bor}
use Rattle.clap.specs.Words.{all_of, found_of, rows_of}
use Rattle.clap.proofs.WalkLemmas.{raw_values-rows}
use Rattle.play_viewer.proofs.words.receivers_of.Goals as goal

pub returns-in-None : goal.returns-in-None
returns-in-None c =
    let none : all_of (codes "osc") (rows_of (found_of c.args.matches.now)) ≡ None =
    sym (raw_values-rows (found_of c.args.matches.now) (codes "osc")) ∙ (sym c.get_strs.ensures ∙ ap (option_map (λ (s : Bor (List (Bor (List ℕ)))). map (λ (v : Bor (List ℕ)). v.now) s.now)) c.in-None.is) in
    rw (none, c.new.ensures.items)

pub returns-in-Some : goal.returns-in-Some
returns-in-Some c =
    let some : all_of (codes "osc") (rows_of (found_of c.args.matches.now)) ≡ Some (map (λ (v : Bor (List ℕ)). v.now) c.in-Some.receivers.now) =
    sym (raw_values-rows (found_of c.args.matches.now) (codes "osc")) ∙ (sym c.get_strs.ensures ∙ ap (option_map (λ (s : Bor (List (Bor (List ℕ)))). map (λ (v : Bor (List ℕ)). v.now) s.now)) c.in-Some.is) in
    rw some c.copies_of.ensures
