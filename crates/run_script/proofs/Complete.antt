-- A whole run over an input whose bytes are known.
use Rattle.std.proofs.Common.{◌≡◌, ◌≢◌, ◌⊎◌, inl, inr, ℕ, ◌+◌, ◌<◌, ◌≤◌, Bool, true, false, List, [], ◌∷◌, ◌++◌, drop, length, refl, sym, ap, ◌∙◌, subst, arith, append-nil, append_assoc, length-append}
use Rattle.std.specs.Prelude.{Option, Some, None, IfSome}
use Rattle.std.specs.List.{list_all}
use Rattle.std.specs.Str.Lines.{lines}
use Rattle.std.proofs.lemmas.Bool.{false≢true}
use Rattle.std.proofs.lemmas.List.{take-append-drop, map-append}
use Rattle.std.proofs.lemmas.Option.{none-some, same_Some}
use Rattle.play_outside.specs.Faults.{Rose}
use Rattle.play_outside.specs.Source.{Gives, IsAtEnd}
use Rattle.play_outside.specs.SinkState.{SinkState, after_taking}
use Rattle.play_outside.specs.Sink.{Fails, Sends}
use Rattle.play_outside.specs.declared.sink.Sent.{Sent}
use Rattle.play_outside.specs.declared.sink.Sent.TheVariants as sent
use Rattle.play_outside.proofs.Counting.{Rose-then, Rose-le}
use Rattle.play_outside.proofs.Taking.{after_taking-nil}
use Rattle.history_model.specs.declared.limits.TheConstants.{MAX_INPUT_BYTES}
use Rattle.history_model.specs.scripts.Line.{ScriptLine, Rejected, until_stop}
use Rattle.history_model.specs.scripts.History.{Playout, PlayedLine}
use Rattle.history_model.specs.scripts.Input.{ended_lines, received}
use Rattle.script_player.specs.Shown.{Shown}
use Rattle.script_player.proofs.Shown.{shown_output-ended, shown_output-snoc}
use Rattle.script_player.proofs.FailedWrites.{fails_rose}
use Rattle.history_model.proofs.Parts.{ended_lines-more}
use Rattle.script_player.specs.declared.ending.Ending.{Ending}
use Rattle.script_player.specs.declared.ending.Ending.TheVariants.{Finished, Stopped, BadLine, TooLong, ReadFault, WriteFault, Memory}
use Rattle.script_player.specs.Ending.{status_of, fault_line}
use Rattle.script_player.specs.Script.{Reading, meanings, played_meanings, IsAtLast}
use Rattle.script_player.specs.Run.{Streams, IsPrefix, RunsScript}
use Rattle.run_script.specs.Program.{WritesFaultLine, EndsRun, IsValid, IsPlayed, PlaysInput}
use Rattle.script_player.specs.Script.{is_accepted}
use Rattle.script_player.proofs.Growth.{reading_of}
use Rattle.script_player.proofs.Stops.{received_prefix, stop_ended, unplayed, said-later, rejected_line}

-- what was read is a prefix of what the input had, and the rest of it is left
pub given_prefix : (read : List ℕ) (left : Option (List ℕ)) (input : List ℕ) → Gives read (Some input) left → (rest : List ℕ) × (input ≡ read ++ rest) × (left ≡ Some rest)
given_prefix read None input gives = absurd (none-some input (sym gives))
given_prefix read (Some rest) input gives = (rest, same_Some input (read ++ rest) gives, refl)

-- the whole reading is a part without the end of the input, and the rest
part_rest : (whole : Reading) (bytes : List ℕ) → (part : IsPrefix whole (reading_of bytes false)) → whole.bytes ≡ bytes ++ (part.rest ++ drop MAX_INPUT_BYTES whole.bytes)
part_rest whole bytes part =
    sym (take-append-drop MAX_INPUT_BYTES whole.bytes) ∙ ap (λ (l : List ℕ). l ++ drop MAX_INPUT_BYTES whole.bytes) part.parts ∙ append_assoc bytes part.rest (drop MAX_INPUT_BYTES whole.bytes)

-- a part of what was read is a prefix of the input, and all of it if the input ended
pub part_of : (whole part : Reading) (rest input : List ℕ) → input ≡ whole.bytes ++ rest → (whole.ended ≡ true → rest ≡ []) → IsPrefix whole part
    → (more : List ℕ) × (input ≡ part.bytes ++ more) × (part.ended ≡ true → more ≡ [])
part_of whole part rest input parts at_end prefix = by_end part.ended refl
  where
    by_end : (b : Bool) → part.ended ≡ b → (more : List ℕ) × (input ≡ part.bytes ++ more) × (part.ended ≡ true → more ≡ [])
    by_end true is =
        let all = prefix.at_end is in
        ([], parts ∙ ap (λ (l : List ℕ). whole.bytes ++ l) (at_end all.0) ∙ ap (λ (l : List ℕ). l ++ []) (sym all.1), λ _. refl)
    by_end false is = (
      (prefix.rest ++ drop MAX_INPUT_BYTES whole.bytes) ++ rest,
      parts
          ∙ ap (λ (l : List ℕ). l ++ rest) (sym (take-append-drop MAX_INPUT_BYTES whole.bytes) ∙ ap (λ (l : List ℕ). l ++ drop MAX_INPUT_BYTES whole.bytes) prefix.parts ∙ append_assoc part.bytes prefix.rest (drop MAX_INPUT_BYTES whole.bytes))
          ∙ append_assoc part.bytes (prefix.rest ++ drop MAX_INPUT_BYTES whole.bytes) rest,
      λ e. absurd (false≢true (sym is ∙ e)),
    )

-- the meanings of the lines up to the last that was played are the first of the meanings of the input
pub found_at : (playout : Playout) (part : Reading) (more input : List ℕ) → input ≡ part.bytes ++ more → (part.ended ≡ true → more ≡ [])
    → (at : IsAtLast playout part) → (rest : List ScriptLine) × (meanings (lines input) ≡ played_meanings (at.before ++ at.last ∷ []) ++ rest)
found_at playout part more input parts whole at = by_end part.ended refl
  where
    said : (b : Bool) → part.ended ≡ b → played_meanings (at.before ++ at.last ∷ []) ≡ meanings (received part.bytes b)
    said b is = at.said ∙ ap (λ e. meanings (received part.bytes e)) is

    by_end : (b : Bool) → part.ended ≡ b → (rest : List ScriptLine) × (meanings (lines input) ≡ played_meanings (at.before ++ at.last ∷ []) ++ rest)
    by_end true is = (
      [],
      ap (λ (l : List ℕ). meanings (lines l)) (parts ∙ ap (λ (l : List ℕ). part.bytes ++ l) (whole is) ∙ append-nil part.bytes)
          ∙ sym (said true is) ∙ sym (append-nil (played_meanings (at.before ++ at.last ∷ []))),
    )
    by_end false is =
        let all = received_prefix part.bytes more in
        (all.0, ap (λ (l : List ℕ). meanings (lines l)) parts ∙ all.1 ∙ ap (λ (ms : List ScriptLine). ms ++ all.0) (sym (said false is)))

-- a rejected line is not before the first stop of a valid input
pub rejected_early : (playout : Playout) (part : Reading) (more input : List ℕ) → input ≡ part.bytes ++ more → (part.ended ≡ true → more ≡ [])
    → (at : IsAtLast playout part) → at.last.line ≡ Rejected → list_all is_accepted (until_stop (meanings (lines input))) ≡ true → ⊥
rejected_early playout part more input parts whole at rejected accepted =
    let found = found_at playout part more input parts whole at in
    let all : meanings (lines input) ≡ played_meanings at.before ++ Rejected ∷ found.0 =
    found.1
    ∙ ap (λ (ms : List ScriptLine). ms ++ found.0) (map-append (λ (one : PlayedLine). one.line) at.before (at.last ∷ []))
    ∙ append_assoc (played_meanings at.before) (at.last.line ∷ []) found.0
    ∙ ap (λ (m : ScriptLine). played_meanings at.before ++ m ∷ found.0) rejected in
    rejected_line playout at.before found.0 at.runs_on (ap (λ ms. list_all is_accepted (until_stop ms)) (sym all) ∙ accepted)

-- a line that was sent was written, or a write of it failed
pub written_line : (result : Sent) (text : List ℕ) (before after : SinkState) → Sends result text before after → WritesFaultLine text before after
written_line sent.All text before after all = inl all
written_line sent.Failed text before after fails = inr fails

-- nothing was written
pub nothing_written : (before after : SinkState) → WritesFaultLine [] before after → after ≡ before
nothing_written before after said = elim said [ inl all ↦ all ∙ after_taking-nil before | inr fails ↦ absurd (let none : fails.count < 0 = fails.some_left in omega (arith, none)) ]

-- the input was read to the end of the line at which the run ends
pub read_past : (playout : Playout) (whole part : Reading) (rest : List ℕ) → IsPrefix whole part → (whole.ended ≡ true → rest ≡ [])
    → (at : IsAtLast playout part) → at.last.line ≢ Rejected → (rest ≡ []) ⊎ (length at.before < length (ended_lines whole.bytes))
read_past playout whole part rest prefix none at accepted = by_end part.ended refl
  where
    by_end : (b : Bool) → part.ended ≡ b → (rest ≡ []) ⊎ (length at.before < length (ended_lines whole.bytes))
    by_end true is = inl (none (prefix.at_end is).0)
    by_end false is =
        let more = ended_lines-more part.bytes (prefix.rest ++ drop MAX_INPUT_BYTES whole.bytes) in
        let size = stop_ended playout part.bytes (record { before = at.before; last = at.last; said = at.said ∙ ap (λ e. meanings (received part.bytes e)) is; runs_on = at.runs_on }) accepted in
        let all = ap length (ap ended_lines (sym (take-append-drop MAX_INPUT_BYTES whole.bytes) ∙ ap (λ (l : List ℕ). l ++ drop MAX_INPUT_BYTES whole.bytes) prefix.parts ∙ append_assoc part.bytes prefix.rest (drop MAX_INPUT_BYTES whole.bytes)) ∙ more.1) in
        let both = length-append (ended_lines part.bytes) more.0 in
        inr (omega (arith, size, all, both))

-- the line of a fault lowers no count
pub line_count : (between after : SinkState) (text : List ℕ) → WritesFaultLine text between after → between.faults ≤ after.faults
line_count between after text said =
    elim said [
      | inl all ↦ (let same : after.faults ≡ between.faults = ap (λ (s : SinkState). s.faults) all in omega arith)
      | inr fails ↦ Rose-le between.faults after.faults (fails_rose text between after fails)
    ]

module _ (shown : Shown) (playout : Playout) (before after : Streams) (between : SinkState) (input : List ℕ) (known : before.input.left ≡ Some input) where
  abbrev ran : Ending → Type 0
  ran ending = RunsScript shown playout ending before (record { input = after.input; out = between })

  given : (read : List ℕ) → Gives read before.input.left after.input.left → (rest : List ℕ) × (input ≡ read ++ rest) × (after.input.left ≡ Some rest)
  given read gives = given_prefix read after.input.left input (subst (λ l. Gives read l after.input.left) known gives)

  -- at its end nothing is left of the input
  none_left : (rest : List ℕ) → after.input.left ≡ Some rest → IsAtEnd after.input → rest ≡ []
  none_left rest left at_end = subst (λ (l : Option (List ℕ)). IfSome l (λ r. r ≡ [])) left at_end

  -- a run with status 0 played the input
  plays : (ending : Ending) → status_of ending ≡ 0 → ran ending → WritesFaultLine (fault_line ending) between after.out → PlaysInput shown playout input before after
  plays Finished good run said =
      let read = run.reading.bytes in
      let rest = given read run.gives in
      let none = none_left rest.0 rest.2 (run.at_end run.ends.0) in
      let done = run.ends.2 in
      let all : input ≡ read = rest.1 ∙ ap (λ (l : List ℕ). read ++ l) none ∙ append-nil read in
      record {
        read = read;
        rest = rest.0;
        parts = rest.1;
        left = rest.2;
        played = done.played;
        said = done.said ∙ ap (λ (l : List ℕ). meanings (lines l)) (sym all);
        ended = inl (done.runs_on, none);
        written = nothing_written between after.out said ∙ done.written;
      }
  plays Stopped good run said =
      let read = run.reading.bytes in
      let rest = given read run.gives in
      let part = run.ends.0 in
      let prefix = run.ends.1 in
      let stops = run.ends.2 in
      let at = stops.at in
      let at_end = λ (e : run.reading.ended ≡ true). none_left rest.0 rest.2 (run.at_end e) in
      let more = part_of run.reading part rest.0 input rest.1 at_end prefix in
      let found = found_at playout part more.0 input more.1 more.2 at in
      record {
        read = read;
        rest = rest.0;
        parts = rest.1;
        left = rest.2;
        played = at.before ++ at.last ∷ unplayed found.0;
        said = said-later at.before at.last found.0 ∙ sym found.1;
        ended = inr (record {
          before = at.before;
          last = at.last;
          later = unplayed found.0;
          parts = refl;
          runs_on = at.runs_on;
          accepted = stops.accepted;
          ends = stops.ends;
          whole = read_past playout run.reading part rest.0 prefix at_end at stops.accepted;
        });
        written = nothing_written between after.out said ∙ stops.written
            ∙ ap (after_taking before.out) (shown_output-snoc shown playout at.before at.last at.runs_on
            ∙ sym (shown_output-ended shown playout at.before at.last (unplayed found.0) at.runs_on stops.ends));
      }
  plays (BadLine number) good run said = absurd (let no : 2 ≡ 0 = good in omega (arith, no))
  plays TooLong good run said = absurd (let no : 2 ≡ 0 = good in omega (arith, no))
  plays ReadFault good run said = absurd (let no : 4 ≡ 0 = good in omega (arith, no))
  plays WriteFault good run said = absurd (let no : 4 ≡ 0 = good in omega (arith, no))
  plays Memory good run said = absurd (let no : 5 ≡ 0 = good in omega (arith, no))

  completes : (ending : Ending) → ran ending → WritesFaultLine (fault_line ending) between after.out → length input ≤ MAX_INPUT_BYTES → list_all is_accepted (until_stop (meanings (lines input))) ≡ true
      → (Rose before.input.faults after.input.faults → ⊥) → (Rose before.out.faults after.out.faults → ⊥) → (status_of ending ≡ 0) ⊎ (status_of ending ≡ 5)
  completes Finished run said short accepted read_well wrote_well = inl refl
  completes Stopped run said short accepted read_well wrote_well = inl refl
  completes (BadLine number) run said short accepted read_well wrote_well =
      let rest = given run.reading.bytes run.gives in
      let more = part_of run.reading run.ends.0 rest.0 input rest.1 (λ e. none_left rest.0 rest.2 (run.at_end e)) run.ends.1 in
      absurd (rejected_early playout run.ends.0 more.0 input more.1 more.2 run.ends.2.at run.ends.2.rejected accepted)
  completes TooLong run said short accepted read_well wrote_well =
      let rest = given run.reading.bytes run.gives in
      let size : length input ≡ length run.reading.bytes + length rest.0 = ap length rest.1 ∙ length-append run.reading.bytes rest.0 in
      let long : MAX_INPUT_BYTES < length run.reading.bytes = run.ends.0 in
      absurd (omega arith)
  completes ReadFault run said short accepted read_well wrote_well = absurd (read_well run.faults)
  completes WriteFault run said short accepted read_well wrote_well =
      absurd (wrote_well (Rose-then before.out.faults between.faults after.out.faults
      (fails_rose _ before.out between run.ends.2.written) (line_count between after.out (fault_line WriteFault) said)))
  completes Memory run said short accepted read_well wrote_well = inr refl

-- a valid input over devices without a fault is played, unless memory runs out
pub completes_run : (shown : Shown) (playout : Playout) (status : ℕ) (before after : Streams) → EndsRun shown playout status before after → IsValid before.input
    → (Rose before.input.faults after.input.faults → ⊥) → (Rose before.out.faults after.out.faults → ⊥) → (status ≡ 0) ⊎ (status ≡ 5)
completes_run shown playout status before after run valid read_well wrote_well =
    subst (λ s. (s ≡ 0) ⊎ (s ≡ 5)) (sym run.outcome)
    (completes shown playout before after run.between valid.0 valid.1 run.ending run.run run.said valid.2 valid.3 read_well wrote_well)

-- the status is 4 only if a read or a write failed
fails_by : (shown : Shown) (playout : Playout) (before after : Streams) (between : SinkState) (ending : Ending) → status_of ending ≡ 4 → RunsScript shown playout ending before (record { input = after.input; out = between })
    → between.faults ≤ after.out.faults → Rose before.input.faults after.input.faults ⊎ Rose before.out.faults after.out.faults
fails_by shown playout before after between Finished bad run said = absurd (let no : 0 ≡ 4 = bad in omega (arith, no))
fails_by shown playout before after between Stopped bad run said = absurd (let no : 0 ≡ 4 = bad in omega (arith, no))
fails_by shown playout before after between (BadLine number) bad run said = absurd (let no : 2 ≡ 4 = bad in omega (arith, no))
fails_by shown playout before after between TooLong bad run said = absurd (let no : 2 ≡ 4 = bad in omega (arith, no))
fails_by shown playout before after between ReadFault bad run said = inl run.faults
fails_by shown playout before after between WriteFault bad run said =
    inr (Rose-then before.out.faults between.faults after.out.faults (fails_rose _ before.out between run.ends.2.written) said)
fails_by shown playout before after between Memory bad run said = absurd (let no : 5 ≡ 4 = bad in omega (arith, no))

pub device_of_run : (shown : Shown) (playout : Playout) (status : ℕ) (before after : Streams) → EndsRun shown playout status before after → status ≡ 4
    → Rose before.input.faults after.input.faults ⊎ Rose before.out.faults after.out.faults
device_of_run shown playout status before after run bad =
    fails_by shown playout before after run.between run.ending (sym run.outcome ∙ bad) run.run (line_count run.between after.out (fault_line run.ending) run.said)

-- a run with status 0 had no fault
quiet : (shown : Shown) (playout : Playout) (before after : Streams) (between : SinkState) (ending : Ending) → status_of ending ≡ 0 → RunsScript shown playout ending before (record { input = after.input; out = between })
    → WritesFaultLine (fault_line ending) between after.out → (after.input.faults ≡ before.input.faults) × (after.out.faults ≡ before.out.faults)
quiet shown playout before after between Finished good run said =
    (run.faults, ap (λ (s : SinkState). s.faults) (nothing_written between after.out said ∙ run.ends.2.written))
quiet shown playout before after between Stopped good run said =
    (run.faults, ap (λ (s : SinkState). s.faults) (nothing_written between after.out said ∙ run.ends.2.written))
quiet shown playout before after between (BadLine number) good run said = absurd (let no : 2 ≡ 0 = good in omega (arith, no))
quiet shown playout before after between TooLong good run said = absurd (let no : 2 ≡ 0 = good in omega (arith, no))
quiet shown playout before after between ReadFault good run said = absurd (let no : 4 ≡ 0 = good in omega (arith, no))
quiet shown playout before after between WriteFault good run said = absurd (let no : 4 ≡ 0 = good in omega (arith, no))
quiet shown playout before after between Memory good run said = absurd (let no : 5 ≡ 0 = good in omega (arith, no))

-- and it played the input, if its bytes are known
pub is_played : (shown : Shown) (playout : Playout) (status : ℕ) (before after : Streams) → EndsRun shown playout status before after → status ≡ 0 → IsPlayed shown playout before after
is_played shown playout status before after run good =
    let ended_well = sym run.outcome ∙ good in
    let faults = quiet shown playout before after run.between run.ending ended_well run.run run.said in
    (by_left before.input.left refl, faults.0, faults.1)
  where
    by_left : (left : Option (List ℕ)) → before.input.left ≡ left → IfSome left (λ input. PlaysInput shown playout input before after)
    by_left None is = tt
    by_left (Some input) is = plays shown playout before after run.between input is run.ending (sym run.outcome ∙ good) run.run run.said
