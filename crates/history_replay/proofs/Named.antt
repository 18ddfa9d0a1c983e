-- A line of a connection that a text says names a connection.
use Rattle.std.proofs.Common.{◌≡◌, ℕ, ◌==◌, Bool, true, false, cond, List, [], ◌∷◌, length, map, get_or, refl, sym, subst, if◌then◌else◌}
use Rattle.std.specs.Prelude.{Option, Some, None, All, nat_lt, option_and_then, option_map}
use Rattle.std.specs.Str.Lines.{lines}
use Rattle.std.proofs.lemmas.List.Elements.{All-map}
use Rattle.amcp_text.specs.Numbers.{number_within, plain_number_within}
use Rattle.play_types.specs.declared.event.Tag.{Tag}
use Rattle.cmd_print.proofs.Asked.{some_injective}
use Rattle.cmd_print.proofs.Numbers.{IsBetween, number_within-between}
use Rattle.history_model.specs.declared.limits.TheConstants.{MAX_SCRIPT_LINE_BYTES, MAX_SESSION, MAX_TICKS_PER_LINE, MAX_WORKER}
use Rattle.history_model.specs.scripts.Line.{Comment, Rejected, addressed_parts, after_t, after_x, meaning, said_by, said_line, short_meaning, tag_of, ticks_line}
use Rattle.history_model.specs.scripts.History.{PlayedLine, Playout, script_events}
use Rattle.history_model.specs.scripts.Memory.{lines_played, with_memory}
use Rattle.history_model.proofs.Scripts.{script_kept}
use Rattle.history_model.specs.text.History.{history_text}
use Rattle.history_replay.specs.Replay.{IsConnection, IsPlayout, IsReplayable, NamesConnection, NamesShortClips, script_of}
use Rattle.history_replay.proofs.Pieces.{text_plays}
use Rattle.history_replay.proofs.Written.{script_events-written}

-- a number without a leading zero lies between its ends
plain_by : (zero_first : Bool) (most : ℕ) (text : List ℕ) (n : ℕ) → cond zero_first None (number_within 1 most text) ≡ Some n → IsBetween 1 most n
plain_by true most text n is = cc
plain_by false most text n is = number_within-between 1 most text n is

plain_between : (most : ℕ) (text : List ℕ) (n : ℕ) → plain_number_within 1 most text ≡ Some n → IsBetween 1 most n
plain_between most [] n is = cc
plain_between most (c ∷ text) n is = plain_by (c == 48) most (c ∷ text) n is

-- the tag that digits name is a connection
tag_by : (worker session : List ℕ) (w s : Option ℕ) (tag : Tag) → plain_number_within 1 MAX_WORKER worker ≡ w → plain_number_within 1 MAX_SESSION session ≡ s
    → option_and_then (λ (m : ℕ). option_map (λ (n : ℕ). record { worker = m; session = n }) s) w ≡ Some tag → IsConnection tag
tag_by worker session None s tag first last is = cc
tag_by worker session (Some m) None tag first last is = cc
tag_by worker session (Some m) (Some n) tag first last is =
    let a = plain_between MAX_WORKER worker m first in
    let b = plain_between MAX_SESSION session n last in
    subst IsConnection (some_injective (record { worker = m; session = n }) tag is)
    (record { some_worker = a.low; worker = a.high; some_session = b.low; session = b.high })

tag_named : (worker session : List ℕ) (tag : Tag) → tag_of worker session ≡ Some tag → IsConnection tag
tag_named worker session tag is = tag_by worker session (plain_number_within 1 MAX_WORKER worker) (plain_number_within 1 MAX_SESSION session) tag refl refl is

by_tag : (worker session text : List ℕ) (found : Option Tag) → tag_of worker session ≡ found → NamesConnection (said_by text found)
by_tag worker session text None is = tt
by_tag worker session text (Some tag) is = tag_named worker session tag is

said_named : (found : Option (List ℕ × (List ℕ × List ℕ))) → NamesConnection (said_line found)
said_named None = tt
said_named (Some parts) = by_tag parts.0 parts.1.0 parts.1.1 (tag_of parts.0 parts.1.0) refl

-- so does each line
ticks_named : (count : Option ℕ) → NamesConnection (ticks_line count)
ticks_named None = tt
ticks_named (Some count) = tt

t_named : (more : List ℕ) → NamesConnection (after_t more)
t_named [] = tt
t_named (c ∷ digits) = by_blank (c == 32)
  where
    by_blank : (b : Bool) → NamesConnection (if b then ticks_line (number_within 1 MAX_TICKS_PER_LINE digits) else Rejected)
    by_blank true = ticks_named (number_within 1 MAX_TICKS_PER_LINE digits)
    by_blank false = tt

x_named : (more : List ℕ) → NamesConnection (after_x more)
x_named [] = tt
x_named (c ∷ more) = tt

short_named : (one : List ℕ) → NamesConnection (short_meaning one)
short_named [] = tt
short_named (c ∷ more) = by_first (c == 35) (c == 84) (c == 88)
  where
    by_first : (comment ticks stop : Bool)
        → NamesConnection (if comment then Comment else if ticks then after_t more else if stop then after_x more else said_line (addressed_parts (c ∷ more)))
    by_first true ticks stop = tt
    by_first false true stop = t_named more
    by_first false false true = x_named more
    by_first false false false = said_named (addressed_parts (c ∷ more))

meaning_named : (one : List ℕ) → NamesConnection (meaning one)
meaning_named one = by_length (nat_lt MAX_SCRIPT_LINE_BYTES (length one))
  where
    by_length : (b : Bool) → NamesConnection (if b then Rejected else short_meaning one)
    by_length true = tt
    by_length false = short_named one

pub text_named : (text : List ℕ) → All NamesConnection (script_of text)
text_named text = All-map NamesConnection meaning (lines text) (λ k one inside. meaning_named (get_or (lines text) k one))

-- the history of a script
module _ (playout : Playout) (known : IsPlayout playout) where
  pub script_replayable : (played : List PlayedLine) → All NamesConnection (lines_played played) →
      All (NamesShortClips playout.names) (script_events playout played) → IsReplayable playout (script_events playout played)
  script_replayable played named short =
      let kept = script_kept playout played in
      record { on = known; whole = kept.history; written = script_events-written playout played named; named = short; within = kept.within }

  pub script_replayed : (text : List ℕ) (played : List PlayedLine) → lines_played played ≡ script_of text →
      All (NamesShortClips playout.names) (script_events playout played)
      → script_events playout (map with_memory (script_of (history_text playout.names (script_events playout played)))) ≡ script_events playout played
  script_replayed text played same short =
      (text_plays playout (script_events playout played) (script_replayable played (subst (All NamesConnection) (sym same) (text_named text)) short)).made
