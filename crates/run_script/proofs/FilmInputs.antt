-- The lines of an input that were played for a film.
use Rattle.std.proofs.Common.{◌≡◌, ◌⊎◌, inl, inr, ℕ, true, List, [], ◌∷◌, ◌++◌, refl, sym, ap, ◌∙◌, subst, append_assoc, append-nil}
use Rattle.std.specs.Str.Lines.{lines}
use Rattle.play_types.specs.declared.event.Event.{Event}
use Rattle.history_model.specs.scripts.History.{Playout, PlayedLine, ends_at, goes_on, goes_on_after, script_events}
use Rattle.history_model.specs.scripts.Memory.{HasMemory, HasMemoryAfter, UnlessEnded}
use Rattle.history_model.proofs.Outputs.{first_goes_on}
use Rattle.history_model.proofs.Replied.{script_events-ended}
use Rattle.run_script.specs.Program.{EndsAtLine}
use Rattle.script_film.specs.Recording.{IsPlayedOut, IsStoppedScript, IsWholeScript}
use Rattle.script_player.specs.Script.{Reading, meanings, played_meanings}
use Rattle.run_script.proofs.Complete.{found_at, part_of, read_past}
use Rattle.script_player.proofs.Stops.{said-later, unplayed}

-- the lines after the one at which the run ends have no replies that report out of memory
HasMemoryAfter-later : (playout : Playout) (before lines : List PlayedLine) (line : PlayedLine) (rest : List PlayedLine)
    → goes_on_after playout before lines ≡ true → ends_at playout (before ++ lines) line line.line ≡ true
    → HasMemoryAfter playout before (lines ++ line ∷ []) → HasMemoryAfter playout before (lines ++ line ∷ rest)
unfolding goes_on_after
HasMemoryAfter-later playout before [] line rest on ends without = (
  without.0,
  subst (λ b. UnlessEnded b (HasMemoryAfter playout (before ++ line ∷ []) rest))
      (sym (ap (λ ls. ends_at playout ls line line.line) (sym (append-nil before)) ∙ ends)) tt,
)
HasMemoryAfter-later playout before (first ∷ lines) line rest on ends without =
    let parts = first_goes_on (ends_at playout before first first.line) (goes_on_after playout (before ++ first ∷ []) lines) on in
    let later : HasMemoryAfter playout (before ++ first ∷ []) (lines ++ line ∷ []) =
    subst (λ b. UnlessEnded b (HasMemoryAfter playout (before ++ first ∷ []) (lines ++ line ∷ []))) parts.0 without.1 in (
      without.0,
      subst (λ b. UnlessEnded b (HasMemoryAfter playout (before ++ first ∷ []) (lines ++ line ∷ rest))) (sym parts.0)
          (HasMemoryAfter-later playout (before ++ first ∷ []) lines line rest parts.1
          (ap (λ ls. ends_at playout ls line line.line) (append_assoc before (first ∷ []) lines) ∙ ends) later),
    )

HasMemory-later : (playout : Playout) (lines : List PlayedLine) (line : PlayedLine) (rest : List PlayedLine) → goes_on playout lines ≡ true
    → ends_at playout lines line line.line ≡ true → HasMemory playout (lines ++ line ∷ []) → HasMemory playout (lines ++ line ∷ rest)
unfolding goes_on
HasMemory-later playout lines line rest on ends without = HasMemoryAfter-later playout [] lines line rest on ends without

-- all lines of an input, of which those that were played have this history
pub record IsInputPlayed (playout : Playout) (input read rest : List ℕ) (events : List Event) : Type 0 where
  pub played : List PlayedLine
  pub said : played_meanings played ≡ meanings (lines input)
  pub ended : ((goes_on playout played ≡ true) × (rest ≡ [])) ⊎ EndsAtLine playout played read rest
  pub memory : HasMemory playout played
  pub history : script_events playout played ≡ events

module _ (playout : Playout) (reading : Reading) (input rest : List ℕ) (parts : input ≡ reading.bytes ++ rest) (at_end : reading.ended ≡ true → rest ≡ []) where
  whole_played : (played : List PlayedLine) → HasMemory playout played → IsWholeScript playout reading played
      → IsInputPlayed playout input reading.bytes rest (script_events playout played)
  whole_played played memory whole =
      let none = at_end whole.ended in
      let all : input ≡ reading.bytes = parts ∙ ap (λ (l : List ℕ). reading.bytes ++ l) none ∙ append-nil reading.bytes in
      record {
        played = played;
        said = whole.said ∙ ap (λ (l : List ℕ). meanings (lines l)) (sym all);
        ended = inl (whole.runs_on, none);
        memory = memory;
        history = refl;
      }

  stopped_played : (played : List PlayedLine) → HasMemory playout played → IsStoppedScript playout reading played
      → IsInputPlayed playout input reading.bytes rest (script_events playout played)
  stopped_played played memory stopped =
      let at = stopped.at in
      let more = part_of reading stopped.part rest input parts at_end stopped.prefix in
      let found = found_at playout stopped.part more.0 input more.1 more.2 at in
      record {
        played = at.before ++ at.last ∷ unplayed found.0;
        said = said-later at.before at.last found.0 ∙ sym found.1;
        ended = inr (record {
          before = at.before;
          last = at.last;
          later = unplayed found.0;
          parts = refl;
          runs_on = at.runs_on;
          accepted = stopped.accepted;
          ends = stopped.ends;
          whole = read_past playout reading stopped.part rest stopped.prefix at_end at stopped.accepted;
        });
        memory = HasMemory-later playout at.before at.last (unplayed found.0) at.runs_on stopped.ends (subst (HasMemory playout) stopped.lines memory);
        history = script_events-ended playout at.before at.last (unplayed found.0) at.runs_on stopped.ends ∙ ap (script_events playout) (sym stopped.lines);
      }

  -- a script that was played out was played as a whole
  pub input_played : (played : List PlayedLine) → IsPlayedOut playout reading played → IsInputPlayed playout input reading.bytes rest (script_events playout played)
  input_played played out =
      elim out.lines [
        | inl whole ↦ whole_played played out.memory whole
        | inr stopped ↦ stopped_played played out.memory stopped
      ]
