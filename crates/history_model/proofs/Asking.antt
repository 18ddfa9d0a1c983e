-- What the steps of a session can be.
use Rattle.std.proofs.Common.{◌≡◌, inl, inr, ℕ, ◌≤◌, Bool, List, [], ◌∷◌, refl, subst, arith}
use Rattle.std.specs.Prelude.{Result, Ok, Err, if◌then◌else◌}
use Rattle.amcp_text.specs.Lines.{Line, Text, TooLong, NotUtf8}
use Rattle.amcp_text.specs.declared.token.TokenFault.{TokenFault}
use Rattle.amcp_text.specs.Tokens.{words_of}
use Rattle.play_types.specs.Config.{ConfigView}
use Rattle.play_types.specs.Media.{MediaNameView}
use Rattle.play_types.specs.declared.command.Cmd.{Cmd}
use Rattle.play_types.specs.declared.parsed.Parsed.{Parsed}
use Rattle.play_types.specs.declared.parsed.Parsed.TheVariants.{Stage}
use Rattle.play_types.specs.declared.parsed.Refusal.{Refusal}
use Rattle.play_types.specs.declared.parsed.Refusal.TheVariants as refusal
use Rattle.history_model.specs.text.Replies.{IsReplyTo, IsRefusalCode}
use Rattle.history_model.specs.commands.Command.{parsed}
use Rattle.history_model.specs.sessions.Request.{requested}
use Rattle.history_model.specs.sessions.Line.{LineMeaning, Blank, Wrong, Asks, line_meaning, meaning_of_words, meaning_of_parsed, refusal_reply}
use Rattle.history_model.specs.sessions.Session.{Step, Local, Ask, AskBatch, KillServer, EndConnection, Skip, step_outside, step_commit, step_inside}
use Rattle.history_model.proofs.EachAsk.{asked-holds}
use Rattle.history_model.proofs.Requests.{requested_by}

-- a reply that a server gives, a request for a command that words ask for, or another step
abbrev pub IsGiven : ConfigView → List MediaNameView → Step → Type 0
IsGiven config media (Local answer) = IsReplyTo config answer
IsGiven config media (Ask command) = (words : List (List ℕ)) × (parsed config media words ≡ Ok (Stage command))
IsGiven config media (AskBatch commands) = Unit {0}
IsGiven config media KillServer = Unit {0}
IsGiven config media EndConnection = Unit {0}
IsGiven config media Skip = Unit {0}

code : {n : ℕ} → 401 ≤ n → n ≤ 404 → IsRefusalCode n
code low high = inl (low, high)

refusal_fits : (config : ConfigView) (line : List ℕ) (reason : Refusal) → IsReplyTo config (refusal_reply line reason)
refusal_fits config line refusal.Unknown = tt
refusal_fits config line (refusal.Channel name) = code (omega arith) (omega arith)
refusal_fits config line (refusal.Missing name) = code (omega arith) (omega arith)
refusal_fits config line (refusal.Illegal name at) = code (omega arith) (omega arith)
refusal_fits config line (refusal.NotFound name) = code (omega arith) (omega arith)
refusal_fits config line (refusal.Unreadable name) = inr (omega arith, omega arith)

-- 403 is one of the codes of refusals
refused : IsRefusalCode 403
refused = code (omega arith) (omega arith)

commit_given : (config : ConfigView) (media : List MediaNameView) (commands : List Cmd) → IsGiven config media (step_commit commands)
commit_given config media [] = tt
commit_given config media (command ∷ commands) = tt

-- what is done for what a line asks for, while this batch is open or none is
pub asked_given : (config : ConfigView) (media : List MediaNameView) (open_now : Bool) (commands : List Cmd) (words : List (List ℕ)) (asked : Parsed) → parsed config media words ≡ Ok asked
    → IsGiven config media (if open_now then step_inside commands asked else step_outside asked)
asked_given config media open_now commands words asked is =
    asked-holds (IsGiven config media)
    (record { done = λ command. tt; refused = λ command. refused; cls = tt; version = tt; kill = tt; ended = tt })
    open_now commands asked (commit_given config media commands)
    (λ command same. (words, subst (λ (a : Parsed). parsed config media words ≡ Ok a) same is))

-- a refusal with a reply that a server gives, or what words ask for
abbrev pub IsMeant : ConfigView → List MediaNameView → LineMeaning → Type 0
IsMeant config media Blank = Unit {0}
IsMeant config media (Wrong answer) = IsReplyTo config answer
IsMeant config media (Asks asked) = (words : List (List ℕ)) × (parsed config media words ≡ Ok asked)

words_meant : (config : ConfigView) (media : List MediaNameView) (line : List ℕ) (words : Result (List (List ℕ)) TokenFault)
    → IsMeant config media (meaning_of_words config media line words)
words_meant config media line (Err fault) = tt
words_meant config media line (Ok []) = tt
words_meant config media line (Ok (word ∷ words)) = by_parsed (requested config media (word ∷ words)) refl
  where
    by_parsed : (result : Result Parsed Refusal) → requested config media (word ∷ words) ≡ result → IsMeant config media (meaning_of_parsed line result)
    by_parsed (Ok asked) is = requested_by config media (word ∷ words) asked is
    by_parsed (Err reason) is = refusal_fits config line reason

-- the meaning of a line is one of these
pub line_meant : (config : ConfigView) (media : List MediaNameView) (line : Line) → IsMeant config media (line_meaning config media line)
unfolding line_meaning
line_meant config media (Text line) = words_meant config media line (words_of line)
line_meant config media TooLong = tt
line_meant config media NotUtf8 = tt
