-- Lines with REQ and a token, and lines without.
use Rattle.std.proofs.Common.{◌≡◌, ℕ, Bool, false, List, [], ◌∷◌, ap}
use Rattle.std.specs.Prelude.{Option, Some, None, Result, Ok, Err, if◌then◌else◌}
use Rattle.play_types.specs.Config.{ConfigView}
use Rattle.play_types.specs.Media.{MediaNameView}
use Rattle.play_types.specs.declared.parsed.Parsed.{Parsed}
use Rattle.play_types.specs.declared.parsed.Refusal.{Refusal}
use Rattle.history_model.specs.commands.Command.{parsed}
use Rattle.history_model.specs.commands.Line.{◌>>=◌}
use Rattle.history_model.specs.sessions.Request.{behind_token, first_token, is_req, requested, token_among, without_token}

-- what a line asks for is what the words of its command ask for
pub requested_by : (config : ConfigView) (media : List MediaNameView) (words : List (List ℕ)) (asked : Parsed) → requested config media words ≡ Ok asked
    → (command : List (List ℕ)) × (parsed config media command ≡ Ok asked)
requested_by config media words asked is = by_words (without_token words) is
  where
    by_words : (found : Result (List (List ℕ)) Refusal) → (found >>= (λ command. parsed config media command)) ≡ Ok asked
        → (command : List (List ℕ)) × (parsed config media command ≡ Ok asked)
    by_words (Ok command) h = (command, h)
    by_words (Err reason) h = absurd cc

-- a line that does not begin with REQ has no token, and asks for what its words ask for
pub requested_plain : (config : ConfigView) (media : List MediaNameView) (word : List ℕ) (words : List (List ℕ)) → is_req word ≡ false
    → requested config media (word ∷ words) ≡ parsed config media (word ∷ words)
requested_plain config media word words plain =
    ap (λ (b : Bool). (if b then behind_token words else Ok (word ∷ words)) >>= (λ command. parsed config media command)) plain

pub token_among_plain : (word : List ℕ) (words : List (List ℕ)) → is_req word ≡ false → token_among (word ∷ words) ≡ None
token_among_plain word words plain = ap (λ (b : Bool). if b then first_token words else None) plain
