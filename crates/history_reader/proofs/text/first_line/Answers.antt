use Rattle.std.proofs.Common.{◌≡◌, ℕ, false, List, Bor, sym}
use Rattle.std.specs.Prelude.{MatchOption, Option, Some, None, option_map}
use Rattle.std.specs.List.{list_any}
use Rattle.amcp_text.specs.Lines.{is_line_end}
use Rattle.history_model.specs.text.Parts.{parts_at}
use Rattle.history_reader.specs.inner.PlayedText.{IsCutAtFeed}
use Rattle.history_reader.proofs.Texts.{cut_at_feed, no_feed}
use Rattle.history_reader.proofs.text.first_line.Goals as goal

-- what is found at the first line feed
found_cut : (text : List ℕ) (found : Option (Bor (List ℕ) × Bor (List ℕ))) → option_map (λ (parts : Bor (List ℕ) × Bor (List ℕ)). (parts.0.now, parts.1.now)) found ≡ parts_at 10 text
    → MatchOption found (list_any is_line_end text ≡ false) (λ (parts : Bor (List ℕ) × Bor (List ℕ)). IsCutAtFeed text parts.0.now parts.1.now)
found_cut text None is = no_feed text (sym is)
found_cut text (Some parts) is = cut_at_feed text parts.0.now parts.1.now (sym is)

pub returns : goal.returns
returns c = found_cut c.args.text.now c.parts_at.result c.parts_at.ensures
