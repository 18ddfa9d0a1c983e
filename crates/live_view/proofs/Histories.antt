-- The history of a view is that of its bytes.
use Rattle.std.proofs.Common.{◌≡◌, ◌≢◌, ℕ, ◌+◌, Bool, true, false, List, [], ◌∷◌, ◌++◌, length, map, refl, sym, ap, ◌∙◌, subst, arith, append-nil, append_assoc}
use Rattle.std.specs.Prelude.{nat_le, nat_lt, if◌then◌else◌}
use Rattle.std.proofs.lemmas.Bool.{false≢true}
use Rattle.std.proofs.lemmas.Bool.Decides.{nat_tests}
use Rattle.std.proofs.lemmas.List.{map-append}
use Rattle.history_model.specs.declared.limits.TheConstants.{MAX_SCRIPT_LINE_BYTES}
use Rattle.history_model.specs.scripts.Line.{ScriptLine, Comment, Rejected, meaning, short_meaning}
use Rattle.history_model.specs.scripts.History.{Playout, PlayedLine, ends_at, goes_on, script_events}
use Rattle.history_model.specs.scripts.Input.{ended_lines, overlong, received, unended}
use Rattle.history_model.specs.scripts.Memory.{AreLines, HasMemory, HasMemoryAfter, UnlessEnded, lines_played, with_memory}
use Rattle.history_model.proofs.OneLines.{AreLines-first, AreLines-input}
use Rattle.history_model.proofs.Parts.{ended_lines-more}
use Rattle.history_model.proofs.Replied.{script_events-ended}
use Rattle.history_model.proofs.Runs.{events-equal}
use Rattle.history_model.proofs.WithMemory.{HasMemory-with_memory}

-- the meanings of the ended lines of a log
abbrev said_in : List ℕ → List ScriptLine
said_in bytes = map meaning (ended_lines bytes)

-- no text of these has a line end
said_whole : (bytes : List ℕ) → AreLines (said_in bytes)
said_whole bytes =
    AreLines-first (said_in bytes) (map meaning (overlong (unended bytes)))
    (subst AreLines (map-append meaning (ended_lines bytes) (overlong (unended bytes))) (AreLines-input bytes false))

played_so : (lines : List ScriptLine) → lines_played (map with_memory lines) ≡ lines
played_so [] = refl
played_so (line ∷ lines) = ap (λ (ls : List ScriptLine). line ∷ ls) (played_so lines)

-- the events of the ended lines of a log that were played with memory
pub events_played : (playout : Playout) (bytes : List ℕ) (played : List PlayedLine) → lines_played played ≡ said_in bytes → HasMemory playout played
    → script_events playout played ≡ script_events playout (map with_memory (said_in bytes))
events_played playout bytes played said memory =
    events-equal playout played (map with_memory (said_in bytes)) (subst AreLines (sym said) (said_whole bytes)) (said ∙ sym (played_so (said_in bytes))) memory
    (HasMemory-with_memory playout (said_in bytes))

-- the last of some lines
last_of : List ScriptLine → ScriptLine
last_of [] = Comment
last_of (line ∷ []) = line
last_of (line ∷ next ∷ lines) = last_of (next ∷ lines)

last_of-snoc : (lines : List ScriptLine) (line : ScriptLine) → last_of (lines ++ line ∷ []) ≡ line
unfolding last_of
last_of-snoc [] line = refl
last_of-snoc (first ∷ []) line = refl
last_of-snoc (first ∷ next ∷ lines) line = last_of-snoc (next ∷ lines) line

-- a line that is too long is rejected
too_long : (text : List ℕ) → nat_le (MAX_SCRIPT_LINE_BYTES + 2) (length text) ≡ true → meaning text ≡ Rejected
too_long text long =
    let above : nat_lt MAX_SCRIPT_LINE_BYTES (length text) ≡ true = grind (nat_tests, arith, long) in
    ap (λ (b : Bool). if b then Rejected else short_meaning text) above

-- the lines of a log whose last line is accepted have all ended
module _ (part : List ℕ) (before : List PlayedLine) (last : PlayedLine) (said : lines_played (before ++ last ∷ []) ≡ map meaning (received part false)) (accepted : last.line ≢ Rejected) where
  by_length : (b : Bool) → nat_le (MAX_SCRIPT_LINE_BYTES + 2) (length (unended part)) ≡ b
      → lines_played (before ++ last ∷ []) ≡ map meaning (ended_lines part ++ (if b then unended part ∷ [] else [])) → lines_played (before ++ last ∷ []) ≡ said_in part
  by_length true long is =
      absurd (accepted (
      sym (last_of-snoc (lines_played before) last.line)
      ∙ ap last_of (sym (map-append (λ (one : PlayedLine). one.line) before (last ∷ [])) ∙ is ∙ map-append meaning (ended_lines part) (unended part ∷ []))
      ∙ last_of-snoc (said_in part) (meaning (unended part))
      ∙ too_long (unended part) long))
  by_length false short is = is ∙ ap (map meaning) (append-nil (ended_lines part))

  pub all_ended : lines_played (before ++ last ∷ []) ≡ said_in part
  all_ended = by_length (nat_le (MAX_SCRIPT_LINE_BYTES + 2) (length (unended part))) refl said

-- a claim about the lines after one that follows from another
unless_by : (ends : Bool) (One Other : Type 0) → (One → Other) → UnlessEnded ends One → UnlessEnded ends Other
unless_by true One Other step one = tt
unless_by false One Other step one = step one

ended_so : (ends : Bool) (Later : Type 0) → ends ≡ true → UnlessEnded ends Later
ended_so true Later is = tt
ended_so false Later is = absurd (false≢true is)

-- lines after one that ends the run need no memory
memory_after : (playout : Playout) (past lines : List PlayedLine) (line : PlayedLine) (rest : List PlayedLine) → ends_at playout (past ++ lines) line line.line ≡ true
    → HasMemoryAfter playout past (lines ++ line ∷ []) → HasMemoryAfter playout past (lines ++ line ∷ rest)
memory_after playout past [] line rest ends memory = (
  memory.0,
  ended_so (ends_at playout past line line.line) (HasMemoryAfter playout (past ++ line ∷ []) rest)
      (ap (λ (ls : List PlayedLine). ends_at playout ls line line.line) (sym (append-nil past)) ∙ ends),
)
memory_after playout past (first ∷ lines) line rest ends memory = (
  memory.0,
  unless_by (ends_at playout past first first.line) (HasMemoryAfter playout (past ++ first ∷ []) (lines ++ line ∷ []))
      (HasMemoryAfter playout (past ++ first ∷ []) (lines ++ line ∷ rest))
      (memory_after playout (past ++ first ∷ []) lines line rest
      (ap (λ (ls : List PlayedLine). ends_at playout ls line line.line) (append_assoc past (first ∷ []) lines) ∙ ends))
      memory.1,
)

-- the events of lines that stop the run, whatever follows them
pub events_stopped : (playout : Playout) (part rest : List ℕ) (before : List PlayedLine) (last : PlayedLine) → lines_played (before ++ last ∷ []) ≡ map meaning (received part false)
    → last.line ≢ Rejected → goes_on playout before ≡ true → ends_at playout before last last.line ≡ true → HasMemory playout (before ++ last ∷ [])
    → script_events playout (before ++ last ∷ []) ≡ script_events playout (map with_memory (said_in (part ++ rest)))
events_stopped playout part rest before last said accepted on ends memory =
    let found = ended_lines-more part rest in
    let later : List PlayedLine = map with_memory (map meaning found.0) in
    let all : List PlayedLine = before ++ last ∷ later in
    let assoc : all ≡ (before ++ last ∷ []) ++ later = sym (append_assoc before (last ∷ []) later) in
    let lines : lines_played all ≡ said_in (part ++ rest) =
    ap lines_played assoc ∙ map-append (λ (one : PlayedLine). one.line) (before ++ last ∷ []) later
    ∙ (λ i. all_ended part before last said accepted i ++ played_so (map meaning found.0) i)
    ∙ sym (map-append meaning (ended_lines part) found.0)
    ∙ ap (map meaning) (sym found.1) in
    sym (script_events-ended playout before last later on ends)
    ∙ events_played playout (part ++ rest) all lines (memory_after playout [] before last later ends memory)
