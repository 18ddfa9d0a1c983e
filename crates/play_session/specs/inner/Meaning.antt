-- The meaning of a line that was read.
use Rattle.std.specs.Prelude.{ℕ, Bool, false, List, [], ◌∷◌}
use Rattle.history_model.specs.sessions.Request.{is_req}
use Rattle.history_model.specs.sessions.Line as line
use Rattle.play_session.specs.declared.meaning.Meaning.{Meaning}
use Rattle.play_session.specs.declared.meaning.Meaning.TheVariants as meaning

-- the meaning in the definition of sessions
abbrev pub meaning_view : Meaning → line.LineMeaning
meaning_view meaning.Blank = line.Blank
meaning_view (meaning.Wrong answer) = line.Wrong answer
meaning_view (meaning.Asks asked) = line.Asks asked

-- whether REQ is the first word
abbrev pub begins_with_req : List (List ℕ) → Bool
begins_with_req [] = false
begins_with_req (word ∷ words) = is_req word
