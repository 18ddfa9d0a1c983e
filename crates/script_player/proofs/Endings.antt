-- How a run ends.
use Rattle.std.proofs.Common.{◌≡◌, ℕ, ◌+◌, ◌<◌, ◌≤◌, true, false, List, [], ◌∷◌, ◌++◌, take, length, refl, sym, ap, ◌∙◌, subst, arith, append-nil}
use Rattle.std.specs.Prelude.{Err, Option}
use Rattle.play_types.specs.declared.reply.Reply.{Reply}
use Rattle.std.specs.Str.Lines.{lines}
use Rattle.std.proofs.lemmas.Bool.{false≢true}
use Rattle.std.proofs.lemmas.Bool.Decides.{nat_tests}
use Rattle.std.proofs.lemmas.List.{take_all}
use Rattle.std.proofs.Math.Seq.{take-append-add}
use Rattle.play_outside.specs.SinkState.{SinkState, after_taking}
use Rattle.play_outside.proofs.Taking.{after_taking-nil}
use Rattle.history_model.specs.declared.limits.TheConstants.{MAX_INPUT_BYTES}
use Rattle.history_model.specs.scripts.History.{Playout, PlayedLine}
use Rattle.history_model.specs.scripts.Input.{ended_lines, unended, overlong, received}
use Rattle.script_player.specs.Shown.{Shown}
use Rattle.history_model.proofs.Outputs.{goes_on-none}
use Rattle.script_player.proofs.Shown.{shown_output-none}
use Rattle.history_model.proofs.Parts.{last_line, lines-ended}
use Rattle.script_player.specs.declared.ending.Halt.{Halt}
use Rattle.script_player.specs.declared.ending.Halt.TheVariants as halt
use Rattle.script_player.specs.declared.ending.Ending.{Ending}
use Rattle.script_player.specs.declared.ending.Ending.TheVariants.{Finished}
use Rattle.script_player.specs.declared.player.Player.{Player}
use Rattle.script_player.specs.declared.script.Script.{Script}
use Rattle.script_player.specs.Ending.{ending_of}
use Rattle.script_player.specs.Script.{Run, meanings, IsDone}
use Rattle.script_player.specs.Run.{IsPrefix, FaultsOf}
use Rattle.script_player.specs.Player.{HasHistory, Represents, IsLineDone, PlaysLine}
use Rattle.script_player.specs.Taken.{EndsWith, HasTaken, HaltsAt, TakesBytes, TakesPiece, ReadsOn}
use Rattle.script_player.proofs.Growth.{next_line, played_as, line_done, line_stops_with, line_rejected, line_fails, still_done, reading_of}

-- nothing was played yet
pub none_done : (run : Run) → IsDone run (ended_lines []) run.first
unfolding ended_lines
none_done run = record {
  played = [];
  said = refl;
  memory = λ needs. tt;
  runs_on = goes_on-none run.playout;
  written = sym (after_taking-nil run.first) ∙ ap (after_taking run.first) (sym (shown_output-none run.shown run.playout));
}

-- nothing was read yet
pub none_taken : (run : Run) (script : Script) → script.waiting.items ≡ [] → script.lines ≡ 0 → Represents run.shown run.playout script.player [] → HasTaken run script [] run.first
unfolding ended_lines unended
none_taken run script empty none represents = record {
  done = record {
    played = [];
    said = refl;
    memory = λ needs. tt;
    runs_on = goes_on-none run.playout;
    written = sym (after_taking-nil run.first) ∙ ap (after_taking run.first) (sym (shown_output-none run.shown run.playout));
  };
  waiting = empty;
  one_line = refl;
  short = omega arith;
  count = none;
  player = represents;
}

pub last_line-none : (text : List ℕ) → length text ≡ 0 → last_line text ≡ []
unfolding last_line
last_line-none text none = rw none refl

pub last_line-some : (text : List ℕ) → 0 < length text → last_line text ≡ text ∷ []
unfolding last_line
last_line-some text some = grind (arith, nat_tests)

overlong-none : (text : List ℕ) → length text < 8194 → overlong text ≡ []
overlong-none text short = grind (arith, nat_tests)

-- while no line is too long only lines that have ended are received
pub received-short : (bytes : List ℕ) → length (unended bytes) < 8194 → received bytes false ≡ ended_lines bytes
received-short bytes short =
    ap (λ (ls : List (List ℕ)). ended_lines bytes ++ ls) (overlong-none (unended bytes) short) ∙ append-nil (ended_lines bytes)

-- lines that are equal to lines that are done are done
abbrev pub done_same : (run : Run) (all lines : List (List ℕ)) (state : SinkState) → all ≡ lines → IsDone run lines state → IsDone run all state
done_same run all lines state is done =
    record { played = done.played; said = done.said ∙ ap meanings (sym is); memory = done.memory; runs_on = done.runs_on; written = done.written }

-- the lines that were taken are done
pub taken_done : (run : Run) (script : Script) (bytes : List ℕ) (state : SinkState) → HasTaken run script bytes state → IsDone run (received bytes false) state
taken_done run script bytes state taken =
    done_same run (received bytes false) (ended_lines bytes) state (received-short bytes taken.short) taken.done

-- all that was read is a prefix of itself
whole_prefix : (bytes : List ℕ) → length bytes ≤ MAX_INPUT_BYTES → IsPrefix (reading_of bytes true) (reading_of bytes true)
whole_prefix bytes short = record {
  rest = [];
  parts = take_all MAX_INPUT_BYTES bytes short ∙ sym (append-nil bytes);
  at_end = λ _. (refl, refl);
}

-- and so are its bytes without the end of the input
unended_prefix : (bytes : List ℕ) → length bytes ≤ MAX_INPUT_BYTES → IsPrefix (reading_of bytes true) (reading_of bytes false)
unended_prefix bytes short = record {
  rest = [];
  parts = take_all MAX_INPUT_BYTES bytes short ∙ sym (append-nil bytes);
  at_end = λ e. absurd (false≢true e);
}

-- a player that represents lines has their history
pub history_of : (shown : Shown) (playout : Playout) (player : Player) (played : List PlayedLine) → Represents shown playout player played → HasHistory playout played player
history_of shown playout player played represents = record { on = represents.on; events = represents.history }

-- the input ended after a line feed, or was empty
pub ended_empty : (run : Run) (script : Script) (bytes : List ℕ) (state : SinkState) → HasTaken run script bytes state → length bytes ≤ MAX_INPUT_BYTES → length script.waiting.items ≡ 0
    → EndsWith run Finished script.player (reading_of bytes true) state
ended_empty run script bytes state taken short empty =
    let none : length (unended bytes) ≡ 0 = ap length (sym taken.waiting) ∙ empty in
    let all : lines bytes ≡ ended_lines bytes =
    lines-ended bytes ∙ ap (λ (ls : List (List ℕ)). ended_lines bytes ++ ls) (last_line-none (unended bytes) none) ∙ append-nil (ended_lines bytes) in
    record {
      ends = (refl, short, done_same run (lines bytes) (ended_lines bytes) state all taken.done);
      history = history_of run.shown run.playout script.player taken.done.played taken.player;
    }

lines-last : (bytes : List ℕ) → 0 < length (unended bytes) → lines bytes ≡ ended_lines bytes ++ unended bytes ∷ []
lines-last bytes some = lines-ended bytes ∙ ap (λ (ls : List (List ℕ)). ended_lines bytes ++ ls) (last_line-some (unended bytes) some)

module _ (run : Run) (script : Script) (bytes : List ℕ) (before after : SinkState) (taken : HasTaken run script bytes before) (short : length bytes ≤ MAX_INPUT_BYTES) (some : 0 < length (unended bytes)) (new : Player) where
  -- the last line was done
  pub ended_done : {replied : Option Reply} → IsLineDone (next_line run (ended_lines bytes) before taken.done (unended bytes)) replied new before after → EndsWith run Finished new (reading_of bytes true) after
  ended_done plays = record {
    ends = (refl, short, line_done run (ended_lines bytes) (unended bytes) before after taken.done new (lines bytes) (lines-last bytes some) plays);
    history = history_of run.shown run.playout new (taken.done.played ++ played_as (unended bytes) plays.marks ∷ []) plays.represents;
  }

  -- the last line stopped the run
  pub ended_stops : (reason : Halt) → PlaysLine (next_line run (ended_lines bytes) before taken.done (unended bytes)) (Err reason) new before after
      → EndsWith run (ending_of reason script.lines) new (reading_of bytes true) after
  ended_stops halt.Memory plays = (reading_of bytes false, unended_prefix bytes short, still_done run (ended_lines bytes) before after taken.done plays)
  ended_stops halt.Rejected plays = (
    reading_of bytes true,
    whole_prefix bytes short,
    line_rejected run (ended_lines bytes) (unended bytes) before after taken.done (reading_of bytes true) (lines-last bytes some) script.lines taken.count plays.0 plays.1,
  )
  ended_stops halt.Stop plays = (
    reading_of bytes true,
    whole_prefix bytes short,
    line_stops_with run (ended_lines bytes) (unended bytes) before after taken.done (reading_of bytes true) (lines-last bytes some) new plays,
  )
  ended_stops halt.Write plays = (
    reading_of bytes true,
    whole_prefix bytes short,
    line_fails run (ended_lines bytes) (unended bytes) before after taken.done (reading_of bytes true) (lines-last bytes some) plays,
  )

-- a line in the bytes stopped the run
pub halted : (run : Run) (script : Script) (reason : Halt) (whole allowed : List ℕ) (state : SinkState) → take MAX_INPUT_BYTES whole ≡ allowed → TakesBytes run (Err reason) script allowed state
    → EndsWith run (ending_of reason script.lines) script.player (reading_of whole false) state
halted run script reason whole allowed state cut stops = by_reason reason stops.3
  where
    part : IsPrefix (reading_of whole false) (reading_of stops.0 false)
    part = record { rest = stops.1; parts = cut ∙ stops.2; at_end = λ e. absurd (false≢true e) }

    by_reason : (reason : Halt) → HaltsAt run reason script (reading_of stops.0 false) state → EndsWith run (ending_of reason script.lines) script.player (reading_of whole false) state
    by_reason halt.Rejected halts = (reading_of stops.0 false, part, halts)
    by_reason halt.Stop halts = (reading_of stops.0 false, part, halts)
    by_reason halt.Write halts = (reading_of stops.0 false, part, halts)
    by_reason halt.Memory halts = (reading_of stops.0 false, part, halts)

-- the bytes that an input may have, if `left` are allowed after those that were read
pub cut_at_limit : (bytes piece : List ℕ) (left : ℕ) → left + length bytes ≡ MAX_INPUT_BYTES → take MAX_INPUT_BYTES (bytes ++ piece) ≡ bytes ++ take left piece
cut_at_limit bytes piece left exact =
    ap (λ (n : ℕ). take n (bytes ++ piece)) (sym exact ∙ (let swap : left + length bytes ≡ length bytes + left = omega arith in swap))
    ∙ take-append-add bytes piece left

-- what stops a run at a line is no fault of the input
pub no_fault : (reason : Halt) (lines faults : ℕ) → FaultsOf (ending_of reason lines) faults faults
no_fault halt.Rejected lines faults = refl
no_fault halt.Stop lines faults = refl
no_fault halt.Write lines faults = refl
no_fault halt.Memory lines faults = refl

-- a piece within which the run ends was read
pub piece_halted : (run : Run) (script : Script) (ending : Ending) (whole allowed : List ℕ) (state : SinkState) → take MAX_INPUT_BYTES whole ≡ allowed
    → TakesPiece run (Err ending) script allowed state → ReadsOn run (Err ending) script whole state
piece_halted run script ending whole allowed state cut stops = (
  subst (λ e. EndsWith run e script.player (reading_of whole false) state) (sym stops.1) (halted run script stops.0 whole allowed state cut stops.2),
  λ faults. subst (λ e. FaultsOf e faults faults) (sym stops.1) (no_fault stops.0 script.lines faults),
)
