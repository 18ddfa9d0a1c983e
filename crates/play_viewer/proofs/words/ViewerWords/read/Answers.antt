use Rattle.std.proofs.Common.{◌∙◌, List, ℕ, map, Bor, inr, sym, ap}
use Rattle.clap.specs.Words.{found_of, matches_of, rows_of}
use Rattle.play_viewer.specs.ViewerWords.{has_too_many, playview_app}
use Rattle.play_viewer.proofs.Lines.{named_line}
use Rattle.play_viewer.proofs.words.ViewerWords.read.Goals as goal

pub returns-then-has_too_many : goal.returns-then-has_too_many
returns-then-has_too_many c =
    let line = ap (map (λ (word : Bor (List ℕ)). word.now)) c.as_slice.ensures.value ∙ c.in_ok-line.ensures in
    inr (ap has_too_many (sym (c.in_ok-matches.ensures.accepted.1 ∙ ap (matches_of playview_app) line)) ∙ sym c.if-has_too_many.ensures)

pub returns : goal.returns
returns c =
    let line = ap (map (λ (word : Bor (List ℕ)). word.now)) c.as_slice.ensures.value ∙ c.in_ok-line.ensures in
    named_line _ _ (rows_of (found_of c.in_ok-matches.matches)) c.named.result line c.in_ok-matches.ensures.accepted.1 c.in_ok-matches.ensures.accepted.0
    (sym c.if-has_too_many.ensures) c.named.ensures.words c.named.ensures.memory
