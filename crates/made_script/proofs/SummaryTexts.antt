-- The four lines of a summary, as they are written part by part.
use Rattle.std.proofs.Common.{◌≡◌, ℕ, List, [], ◌∷◌, ◌++◌, refl, subst, append_assoc}
use Rattle.std.specs.Prelude.{codes, decimal}
use Rattle.hex.specs.Hex.{encode_lower}
use Rattle.sha2.specs.Hashers.{Holds256}
use Rattle.sha2.specs.Sha256.{sha256}
use Rattle.play_outside.specs.SinkState.{SinkState}
use Rattle.play_outside.specs.Sink.{Sends}
use Rattle.play_outside.specs.declared.sink.Sent.{Sent}
use Rattle.play_types.specs.History.{ticks}
use Rattle.history_model.specs.scripts.Generator.{events_besides_ticks, generator_playout, summary}
use Rattle.history_model.specs.scripts.History.{PlayedLine}
use Rattle.history_model.specs.scripts.Output.{script_output}
use Rattle.made_script.specs.declared.made_run.MadeRun.{MadeRun}
use Rattle.made_script.specs.inner.Made.{HasPlayed, SendsSummary}
use Rattle.script_player.specs.Player.{events_in}

-- the words, the numbers and the digest of a summary, however they are grouped
regrouped : (a x n b y c z d w : List ℕ)
    → a ++ (x ++ (n ++ (b ++ (y ++ (n ++ (c ++ (z ++ (n ++ (d ++ (w ++ n))))))))))
    ≡ (a ++ x ++ n) ++ (b ++ y ++ n) ++ (c ++ z ++ n) ++ d ++ w ++ n
regrouped a x n b y c z d w = simp append_assoc refl

-- the parts of a summary
abbrev pub summary_parts : ℕ → ℕ → ℕ → List ℕ → List ℕ
summary_parts commands times refused digits =
    codes "commands " ++ (decimal commands ++ (10 ∷ [] ++ (codes "ticks " ++ (decimal times
    ++ (10 ∷ [] ++ (codes "refused " ++ (decimal refused ++ (10 ∷ [] ++ (codes "digest " ++ (digits ++ 10 ∷ []))))))))))

-- the parts make the summary of the lines that were played
pub summary_sent : (lines : List PlayedLine) (run : MadeRun) (sent : Sent) (commands times : ℕ) (digits : List ℕ) (before after : SinkState)
    → HasPlayed lines run → commands ≡ events_besides_ticks (events_in run.player) → times ≡ ticks (events_in run.player)
    → ((message : List ℕ) → Holds256 run.hasher message → digits ≡ encode_lower (sha256 message))
    → Sends sent (summary_parts commands times run.refused digits) before after → SendsSummary lines sent before after
unfolding summary
summary_sent lines run sent commands times digits before after has commands_are times_are digits_are sends =
    subst (λ text. Sends sent text before after)
    (regrouped (codes "commands ") (decimal _) (10 ∷ []) (codes "ticks ") (decimal _) (codes "refused ") (decimal _) (codes "digest ") _)
    (rw (commands_are, times_are, has.history, has.refused, digits_are (script_output generator_playout lines) has.hashed) at sends)
