-- Lines that were played without a reply that reports out of memory are played as with memory.
use Rattle.std.proofs.Common.{◌≡◌, ℕ, Bool, true, false, cond, List, [], ◌∷◌, ◌++◌, map, refl, sym, ap, ◌∙◌, subst, append-nil, append_assoc}
use Rattle.std.specs.Prelude.{Option, Some, None}
use Rattle.std.specs.List.{list_any}
use Rattle.std.proofs.lemmas.List.{append_cancel_left, map-append}
use Rattle.amcp_text.specs.Lines.{is_line_end}
use Rattle.play_types.specs.declared.reply.Reply.{Reply}
use Rattle.history_model.specs.scripts.Line.{ScriptLine, meaning}
use Rattle.history_model.specs.scripts.History.{Playout, PlayedLine, ends_at, events_at, goes_on, goes_on_after, script_events}
use Rattle.history_model.specs.scripts.Memory.{AreLines, HadMemoryIfAny, HasMemory, IsOneLine, lines_played, reply_at, with_memory}
use Rattle.history_model.specs.scripts.Replies.{reply_list, script_replies}
use Rattle.history_model.proofs.OneLines.{meaning_one_line}
use Rattle.history_model.proofs.Outputs.{first_goes_on, script_events-snoc}
use Rattle.history_model.proofs.Replied.{HasMemory-snoc, script_replies-snoc}
use Rattle.history_model.proofs.Runs.{events-unmarked, replies-unmarked}
use Rattle.history_model.proofs.Unmarked.{unmarked}
use Rattle.history_reader.specs.HistoryText.{past_of, with_memory_for}
use Rattle.history_reader.proofs.Texts.{lines-more}

-- lines without their marks are played with memory
pub unmarked-played : (played : List PlayedLine) → map unmarked played ≡ map with_memory (lines_played played)
unmarked-played [] = refl
unmarked-played (one ∷ played) = ap (λ rest. unmarked one ∷ rest) (unmarked-played played)

-- one line more has no line end in its text
pub AreLines-snoc : (lines : List ScriptLine) (line : ScriptLine) → AreLines lines → IsOneLine line → AreLines (lines ++ line ∷ [])
AreLines-snoc [] line whole one = (one, tt)
AreLines-snoc (first ∷ lines) line whole one = (whole.0, AreLines-snoc lines line whole.1 one)

-- the run is over after a line at which it ends
goes_on_after-ended : (playout : Playout) (before lines : List PlayedLine) (line : PlayedLine) → goes_on_after playout before lines ≡ true
    → ends_at playout (before ++ lines) line line.line ≡ true → goes_on_after playout before (lines ++ line ∷ []) ≡ false
unfolding goes_on_after
goes_on_after-ended playout before [] line on ends =
    ap (λ (b : Bool). cond b false true) (ap (λ ls. ends_at playout ls line line.line) (sym (append-nil before)) ∙ ends)
goes_on_after-ended playout before (first ∷ lines) line on ends =
    let parts = first_goes_on (ends_at playout before first first.line) (goes_on_after playout (before ++ first ∷ []) lines) on in
    ap (λ (b : Bool). cond b false (goes_on_after playout (before ++ first ∷ []) (lines ++ line ∷ []))) parts.0
    ∙ goes_on_after-ended playout (before ++ first ∷ []) lines line parts.1
    (ap (λ ls. ends_at playout ls line line.line) (append_assoc before (first ∷ []) lines) ∙ ends)

pub goes_on-ended : (playout : Playout) (lines : List PlayedLine) (line : PlayedLine) → goes_on playout lines ≡ true
    → ends_at playout lines line line.line ≡ true → goes_on playout (lines ++ line ∷ []) ≡ false
unfolding goes_on
goes_on-ended playout lines line on ends = goes_on_after-ended playout [] lines line on ends

one_reply : (a b : Option Reply) → reply_list a ≡ reply_list b → a ≡ b
one_reply None None same = refl
one_reply None (Some b) same = absurd (cc)
one_reply (Some a) None same = absurd (cc)
one_reply (Some a) (Some b) same = cc

-- lines as they were played, and their meanings
pub record ArePlayed (playout : Playout) (played : List PlayedLine) (lines : List (List ℕ)) : Type 0 where
  pub said : lines_played played ≡ map meaning lines
  pub whole : AreLines (map meaning lines)
  pub memory : HasMemory playout played

module _ (playout : Playout) (played : List PlayedLine) (lines : List (List ℕ)) (are : ArePlayed playout played lines) where
  plain_is : map unmarked played ≡ with_memory_for lines
  plain_is = unmarked-played played ∙ ap (map with_memory) are.said

  whole_lines : AreLines (lines_played played)
  whole_lines = subst AreLines (sym are.said) are.whole

  pub plain_events : script_events playout played ≡ script_events playout (with_memory_for lines)
  plain_events = events-unmarked playout played whole_lines are.memory ∙ ap (script_events playout) plain_is

  plain_replies : script_replies playout played ≡ script_replies playout (with_memory_for lines)
  plain_replies = replies-unmarked playout played whole_lines are.memory ∙ ap (script_replies playout) plain_is

-- one line more
pub ArePlayed-snoc : (playout : Playout) (played : List PlayedLine) (lines : List (List ℕ)) (last : PlayedLine) (line : List ℕ)
    → ArePlayed playout played lines → last.line ≡ meaning line → list_any is_line_end line ≡ false → goes_on playout played ≡ true
    → HadMemoryIfAny (reply_at playout played last last.line) → ArePlayed playout (played ++ last ∷ []) (lines ++ line ∷ [])
ArePlayed-snoc playout played lines last line are is one on had = record {
  said = map-append (λ (one : PlayedLine). one.line) played (last ∷ [])
      ∙ (λ i. are.said i ++ is i ∷ [])
      ∙ sym (map-append meaning lines (line ∷ []));
  whole = subst AreLines (sym (map-append meaning lines (line ∷ [])))
      (AreLines-snoc (map meaning lines) (meaning line) are.whole (meaning_one_line line one));
  memory = HasMemory-snoc playout played last on are.memory had;
}

-- the events and the reply of a line are those with memory
pub record IsLikeWithMemory (playout : Playout) (played plain : List PlayedLine) (last : PlayedLine) : Type 0 where
  pub events : events_at playout (past_of playout played) last last.line ≡ events_at playout (past_of playout plain) (with_memory last.line) last.line
  pub reply : reply_at playout played last last.line ≡ reply_at playout plain (with_memory last.line) last.line

pub like_with_memory : (playout : Playout) (played : List PlayedLine) (lines : List (List ℕ)) (last : PlayedLine) (line : List ℕ)
    → ArePlayed playout played lines → ArePlayed playout (played ++ last ∷ []) (lines ++ line ∷ []) → last.line ≡ meaning line
    → goes_on playout played ≡ true → goes_on playout (with_memory_for lines) ≡ true
    → IsLikeWithMemory playout played (with_memory_for lines) last
like_with_memory playout played lines last line before after is on goes =
    let plain : List PlayedLine = with_memory_for lines in
    let all : with_memory_for (lines ++ line ∷ []) ≡ plain ++ with_memory last.line ∷ [] =
    lines-more lines (line ∷ []) ∙ ap (λ (l : ScriptLine). plain ++ with_memory l ∷ []) (sym is) in
    record {
      events = append_cancel_left (script_events playout plain) _ _
          (sym (ap (λ es. es ++ events_at playout (past_of playout played) last last.line) (plain_events playout played lines before))
          ∙ sym (script_events-snoc playout played last on)
          ∙ plain_events playout (played ++ last ∷ []) (lines ++ line ∷ []) after
          ∙ ap (script_events playout) all
          ∙ script_events-snoc playout plain (with_memory last.line) goes);
      reply = one_reply _ _ (append_cancel_left (script_replies playout plain) _ _
          (sym (ap (λ (rs : List Reply). rs ++ reply_list (reply_at playout played last last.line)) (plain_replies playout played lines before))
          ∙ sym (script_replies-snoc playout played last on)
          ∙ plain_replies playout (played ++ last ∷ []) (lines ++ line ∷ []) after
          ∙ ap (script_replies playout) all
          ∙ script_replies-snoc playout plain (with_memory last.line) goes));
    }
