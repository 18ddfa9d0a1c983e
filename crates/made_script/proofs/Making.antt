-- A run of a generated script, line by line.
use Rattle.std.proofs.Common.{◌≡◌, ◌≢◌, ℕ, ◌+◌, true, List, [], ◌∷◌, ◌++◌, length, map, refl, sym, ap, ap₂, ◌∙◌, subst, arith, length-append}
use Rattle.std.specs.Prelude.{Option, Some, None, Result, Ok, Err, filter}
use Rattle.std.proofs.lemmas.List.{map-append}
use Rattle.std.proofs.lemmas.List.Elements.{filter-append}
use Rattle.sha2.specs.Hashers.{Holds256}
use Rattle.sha2.specs.declared.Sha256.{Sha256}
use Rattle.play_types.specs.declared.reply.Reply.{Reply}
use Rattle.play_outside.specs.SinkState.{SinkState}
use Rattle.history_model.specs.sessions.Session.{Step, Local, Ask, AskBatch, KillServer, EndConnection, Skip}
use Rattle.history_model.specs.scripts.Generator.{generator_playout}
use Rattle.history_model.specs.scripts.History.{Playout, PlayedLine, Turn, ends_at, is_kill, said_step, script_events, turn_of}
use Rattle.history_model.specs.scripts.Line.{ScriptLine, Comment, Ticks, Said, Stop, Rejected, meaning}
use Rattle.history_model.specs.scripts.Memory.{AreLines, HasMemory, HadMemoryIfAny, lines_played, reply_at, with_memory}
use Rattle.history_model.specs.scripts.Output.{script_output, step_reply}
use Rattle.history_model.specs.scripts.Replies.{is_refusal, reply_list, script_replies}
use Rattle.history_model.proofs.Outputs.{goes_on-none, goes_on-snoc, script_output-ended, script_output-none, script_output-snoc}
use Rattle.history_model.proofs.Replied.{HasMemory-ended, HasMemory-snoc, script_events-ended, script_replies-ended, script_replies-none, script_replies-snoc}
use Rattle.history_model.proofs.Runs.{events-equal, output-equal, replies-equal}
use Rattle.history_model.proofs.WithMemory.{HasMemory-with_memory}
use Rattle.script_player.specs.Script.{meanings}
use Rattle.script_player.specs.declared.ending.Halt.{Halt}
use Rattle.script_player.specs.declared.ending.Halt.TheVariants as halt
use Rattle.vec_sink.proofs.Taken.{text_taken}
use Rattle.made_script.specs.declared.made_run.MadeRun.{MadeRun}
use Rattle.script_player.specs.declared.player.Player.{Player}
use Rattle.made_script.specs.inner.Made.{CountsReply, HasMade, HasPlayed, TakesLine, in_memory, refusals}
use Rattle.script_player.specs.Shown.{Frames}
use Rattle.script_player.specs.Player.{IsLastLine, IsLineDone, NextLine, PlaysLine, Represents, line_text, played_line}

-- no line was played yet
pub none_made : (run : MadeRun) → Represents Frames generator_playout run.player [] → Holds256 run.hasher [] → run.refused ≡ 0 → HasMade [] run
none_made run represents hashed none = record {
  played = [];
  said = refl;
  memory = tt;
  runs_on = goes_on-none generator_playout;
  represents = represents;
  hashed = subst (Holds256 run.hasher) (sym (script_output-none generator_playout)) hashed;
  refused = none ∙ ap refusals (sym (script_replies-none generator_playout));
}

-- the line after those that were played
abbrev next_of : List PlayedLine → List ℕ → NextLine
next_of played line = record { playout = generator_playout; shown = Frames; before = played; line = meaning line }

said-snoc : (played : List PlayedLine) (last : PlayedLine) (lines : List (List ℕ)) (line : List ℕ) → lines_played played ≡ meanings lines → last.line ≡ meaning line
    → lines_played (played ++ last ∷ []) ≡ meanings (lines ++ line ∷ [])
said-snoc played last lines line said is =
    map-append (λ (one : PlayedLine). one.line) played (last ∷ []) ∙ ap₂ (λ front back. front ++ back ∷ []) said is ∙ sym (map-append meaning lines (line ∷ []))

refusals-append : (first last : List Reply) → refusals (first ++ last) ≡ refusals first + refusals last
refusals-append first last = ap length (filter-append is_refusal first last) ∙ length-append (filter is_refusal first) (filter is_refusal last)

-- the reply to a line was counted, if there is one
abbrev pub Counted : Option Reply → ℕ → ℕ → Type 0
Counted replied before after = HadMemoryIfAny replied × (after ≡ before + refusals (reply_list replied))

-- one line more was played
pub line_made : (lines : List (List ℕ)) (line : List ℕ) (old new : MadeRun) (replied : Option Reply) (before after : SinkState)
    → (made : HasMade lines old) → (done : IsLineDone (next_of made.played line) replied new.player before after)
    → Holds256 new.hasher (script_output generator_playout made.played ++ line_text (next_of made.played line) done.marks)
    → Counted replied old.refused new.refused → HasMade (lines ++ line ∷ []) new
line_made lines line old new replied before after made done hashed counted =
    let last = played_line (next_of made.played line) done.marks in
    let one : HadMemoryIfAny (reply_at generator_playout made.played last last.line) = subst HadMemoryIfAny done.replies counted.0 in
    record {
      played = made.played ++ last ∷ [];
      said = said-snoc made.played last lines line made.said refl;
      memory = HasMemory-snoc generator_playout made.played last made.runs_on made.memory one;
      runs_on = goes_on-snoc generator_playout made.played last made.runs_on done.goes_on;
      represents = done.represents;
      hashed = subst (Holds256 new.hasher) (sym (script_output-snoc generator_playout made.played last made.runs_on)) hashed;
      refused =
          counted.1 ∙ ap₂ (λ n r. n + refusals (reply_list r)) made.refused done.replies
          ∙ sym (refusals-append (script_replies generator_playout made.played) (reply_list (reply_at generator_playout made.played last last.line)))
          ∙ ap refusals (sym (script_replies-snoc generator_playout made.played last made.runs_on));
    }

-- lines played with memory have the meanings of the lines
lines-in_memory : (lines : List (List ℕ)) → lines_played (in_memory lines) ≡ meanings lines
lines-in_memory [] = refl
lines-in_memory (line ∷ lines) = ap (λ ls. meaning line ∷ ls) (lines-in_memory lines)

memory-in_memory : (lines : List (List ℕ)) → map with_memory (meanings lines) ≡ in_memory lines
memory-in_memory [] = refl
memory-in_memory (line ∷ lines) = ap (λ ls. with_memory (meaning line) ∷ ls) (memory-in_memory lines)

-- if no reply of a run reports out of memory, the run has the history, output and replies of its lines played with memory
like_in_memory : (lines : List (List ℕ)) (played : List PlayedLine) (run : MadeRun) → AreLines (meanings lines) → lines_played played ≡ meanings lines
    → HasMemory generator_playout played → HasPlayed played run → HasPlayed (in_memory lines) run
like_in_memory lines played run one said memory has =
    let same = said ∙ sym (lines-in_memory lines) in
    let are = subst AreLines (sym said) one in
    let memory' : HasMemory generator_playout (in_memory lines) =
    subst (HasMemory generator_playout) (memory-in_memory lines) (HasMemory-with_memory generator_playout (meanings lines)) in
    record {
      history = has.history ∙ events-equal generator_playout played (in_memory lines) are same memory memory';
      hashed = subst (Holds256 run.hasher) (output-equal generator_playout played (in_memory lines) are same memory memory') has.hashed;
      refused = has.refused ∙ ap refusals (replies-equal generator_playout played (in_memory lines) are same memory memory');
    }

-- all lines were played
pub all_made : (lines : List (List ℕ)) (run : MadeRun) → AreLines (meanings lines) → HasMade lines run → HasPlayed (in_memory lines) run
all_made lines run one made =
    like_in_memory lines made.played run one made.said made.memory
    (record { history = made.represents.history; hashed = made.hashed; refused = made.refused })

-- the reply to a line at which the run ends is no refusal
QuietAt : Option Reply → Type 0
QuietAt replied = HadMemoryIfAny replied × (refusals (reply_list replied) ≡ 0)

quiet_kill : (turn : Turn) (step : Option Step) → is_kill step ≡ true → QuietAt (step_reply turn step)
unfolding QuietAt
quiet_kill turn None ends = cc
quiet_kill turn (Some (Local answer)) ends = cc
quiet_kill turn (Some (Ask command)) ends = cc
quiet_kill turn (Some (AskBatch commands)) ends = cc
quiet_kill turn (Some KillServer) ends = (refl, refl)
quiet_kill turn (Some EndConnection) ends = cc
quiet_kill turn (Some Skip) ends = cc

quiet_end : (playout : Playout) (played : List PlayedLine) (last : PlayedLine) (says : ScriptLine) → says ≢ Rejected → ends_at playout played last says ≡ true
    → QuietAt (reply_at playout played last says)
unfolding QuietAt
quiet_end playout played last Comment accepted ends = cc
quiet_end playout played last (Ticks count) accepted ends = cc
quiet_end playout played last (Said tag text) accepted ends =
    quiet_kill (turn_of playout (script_events playout played) last tag) (said_step playout played last tag) ends
quiet_end playout played last Stop accepted ends = (tt, refl)
quiet_end playout played last Rejected accepted ends = absurd (accepted refl)

-- the run ended at a line, whatever follows
pub last_made : (lines : List (List ℕ)) (line : List ℕ) (rest : List (List ℕ)) (old new : MadeRun) (before after : SinkState)
    → (made : HasMade lines old) → (done : IsLastLine (next_of made.played line) new.player before after)
    → Holds256 new.hasher (script_output generator_playout made.played ++ line_text (next_of made.played line) done.marks)
    → new.refused ≡ old.refused → AreLines (meanings (lines ++ line ∷ rest)) → HasPlayed (in_memory (lines ++ line ∷ rest)) new
unfolding QuietAt
last_made lines line rest old new before after made done hashed counted one =
    let last = played_line (next_of made.played line) done.marks in
    let later : List PlayedLine = in_memory rest in
    let quiet = quiet_end generator_playout made.played last last.line done.accepted done.ends in
    let reply = reply_at generator_playout made.played last last.line in
    like_in_memory (lines ++ line ∷ rest) (made.played ++ last ∷ later) new one
    (map-append (λ (one : PlayedLine). one.line) made.played (last ∷ later)
    ∙ ap₂ (λ front back. front ++ meaning line ∷ back) made.said (lines-in_memory rest)
    ∙ sym (map-append meaning lines (line ∷ rest)))
    (HasMemory-ended generator_playout made.played last later made.runs_on done.ends made.memory quiet.0)
    (record {
      history = done.history.events ∙ sym (script_events-ended generator_playout made.played last later made.runs_on done.ends);
      hashed = subst (Holds256 new.hasher) (sym (script_output-ended generator_playout made.played last later made.runs_on done.ends)) hashed;
      refused =
          counted ∙ made.refused
          ∙ sym (ap refusals (script_replies-ended generator_playout made.played last later made.runs_on done.ends
          ∙ script_replies-snoc generator_playout made.played last made.runs_on)
          ∙ refusals-append (script_replies generator_playout made.played) (reply_list reply)
          ∙ (let none = quiet.1 in omega (arith, none)));
    })

-- a line without a reply
pub none_counted : (lines : List (List ℕ)) (line : List ℕ) (old new : MadeRun) (before after : SinkState) (taken : List ℕ) → HasMade lines old
    → ((made : HasMade lines old) → PlaysLine (next_of made.played line) (Ok None) new.player before after)
    → before.taken ≡ Some [] → after.taken ≡ Some taken → ((message : List ℕ) → Holds256 old.hasher message → Holds256 new.hasher (message ++ taken))
    → new.refused ≡ old.refused → HasMade (lines ++ line ∷ []) new
none_counted lines line old new before after taken made plays none some hashes same =
    let done = plays made in
    let is = text_taken before after taken (line_text (next_of made.played line) done.marks) none some done.written in
    line_made lines line old new None before after made done
    (subst (λ t. Holds256 new.hasher (script_output generator_playout made.played ++ t)) is (hashes (script_output generator_playout made.played) made.hashed))
    (tt, omega (arith, same))

-- a line with a reply
pub some_counted : (lines : List (List ℕ)) (line : List ℕ) (old new : MadeRun) (answer : Reply) (result : Result (Unit {0}) Halt) (before after : SinkState) (taken : List ℕ)
    → HasMade lines old → ((made : HasMade lines old) → PlaysLine (next_of made.played line) (Ok (Some answer)) new.player before after)
    → before.taken ≡ Some [] → after.taken ≡ Some taken → ((message : List ℕ) → Holds256 old.hasher message → Holds256 new.hasher (message ++ taken))
    → CountsReply answer result old.refused new.refused → TakesLine lines line result new
some_counted lines line old new answer (Ok done') before after taken made plays none some hashes counts =
    let done = plays made in
    let is = text_taken before after taken (line_text (next_of made.played line) done.marks) none some done.written in
    line_made lines line old new (Some answer) before after made done
    (subst (λ t. Holds256 new.hasher (script_output generator_playout made.played ++ t)) is (hashes (script_output generator_playout made.played) made.hashed))
    counts
some_counted lines line old new answer (Err halt.Memory) before after taken made plays none some hashes counts = tt
some_counted lines line old new answer (Err halt.Stop) before after taken made plays none some hashes counts = absurd counts
some_counted lines line old new answer (Err halt.Write) before after taken made plays none some hashes counts = absurd counts
some_counted lines line old new answer (Err halt.Rejected) before after taken made plays none some hashes counts = absurd counts

-- a line whose reply was counted when it was written
pub counted_after : (lines : List (List ℕ)) (line : List ℕ) (old new : MadeRun) (answer : Reply) (result : Result (Unit {0}) Halt) (player : Player) (hasher : Sha256)
    (before after : SinkState) (taken : List ℕ) → new.player ≡ player → new.hasher ≡ hasher
    → HasMade lines old → ((made : HasMade lines old) → IsLineDone (next_of made.played line) (Some answer) player before after)
    → before.taken ≡ Some [] → after.taken ≡ Some taken → ((message : List ℕ) → Holds256 old.hasher message → Holds256 hasher (message ++ taken))
    → CountsReply answer result old.refused new.refused → TakesLine lines line result new
counted_after lines line old new answer result player hasher before after taken is_player is_hasher made plays none some hashes counts =
    some_counted lines line old new answer result before after taken made
    (λ had. subst (λ (p : Player). IsLineDone (next_of had.played line) (Some answer) p before after) (sym is_player) (plays had))
    none some (λ message held. subst (λ (h : Sha256). Holds256 h (message ++ taken)) (sym is_hasher) (hashes message held)) counts

-- a line at which the run stops
pub halted : (lines : List (List ℕ)) (line : List ℕ) (old new : MadeRun) (reason : Halt) (before after : SinkState) (taken : List ℕ)
    → HasMade lines old → ((made : HasMade lines old) → PlaysLine (next_of made.played line) (Err reason) new.player before after)
    → before.taken ≡ Some [] → after.taken ≡ Some taken → ((message : List ℕ) → Holds256 old.hasher message → Holds256 new.hasher (message ++ taken))
    → new.refused ≡ old.refused → meaning line ≢ Rejected → TakesLine lines line (Err reason) new
halted lines line old new halt.Stop before after taken made plays none some hashes same accepted = λ rest one.
    let done = plays made in
    let is = text_taken before after taken (line_text (next_of made.played line) done.marks) none some done.written in
    last_made lines line rest old new before after made done
    (subst (λ t. Holds256 new.hasher (script_output generator_playout made.played ++ t)) is (hashes (script_output generator_playout made.played) made.hashed))
    same one
halted lines line old new halt.Rejected before after taken made plays none some hashes same accepted = absurd (accepted (plays made).0)
halted lines line old new halt.Write before after taken made plays none some hashes same accepted = tt
halted lines line old new halt.Memory before after taken made plays none some hashes same accepted = tt
