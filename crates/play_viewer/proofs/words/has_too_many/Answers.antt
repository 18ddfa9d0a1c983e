use Rattle.std.proofs.Common.{◌≡◌, ◌∙◌, sym, ap, option_map, codes, None, Some, List, ℕ, map}
use Rattle.std.specs.Prelude.{nat_lt}
use Rattle.std.specs.Borrow.{Bor}
use Rattle.std.proofs.lemmas.List.{length-map}
use Rattle.clap.specs.Words.{all_of, found_of, rows_of}
use Rattle.clap.proofs.WalkLemmas.{raw_values-rows}
use Rattle.play_viewer.specs.declared.words.TheConstants.{MAX_RECEIVERS}
use Rattle.play_viewer.proofs.words.has_too_many.Goals as goal

pub returns-in-None : goal.returns-in-None
returns-in-None c =
    let none : all_of (codes "osc") (rows_of (found_of c.args.matches.now)) ≡ None =
    sym (raw_values-rows (found_of c.args.matches.now) (codes "osc")) ∙ (sym c.get_strs.ensures ∙ ap (option_map (λ (s : Bor (List (Bor (List ℕ)))). map (λ (v : Bor (List ℕ)). v.now) s.now)) c.in-None.is) in
    rw none

pub returns-in-Some : goal.returns-in-Some
returns-in-Some c =
    let some : all_of (codes "osc") (rows_of (found_of c.args.matches.now)) ≡ Some (map (λ (v : Bor (List ℕ)). v.now) c.in-Some.receivers.now) =
    sym (raw_values-rows (found_of c.args.matches.now) (codes "osc")) ∙ (sym c.get_strs.ensures ∙ ap (option_map (λ (s : Bor (List (Bor (List ℕ)))). map (λ (v : Bor (List ℕ)). v.now) s.now)) c.in-Some.is) in
    rw some (ap (nat_lt MAX_RECEIVERS) (sym (length-map c.in-Some.receivers.now (λ (v : Bor (List ℕ)). v.now))))
