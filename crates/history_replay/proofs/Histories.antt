-- What the text of a history says, and what its lines write.
use Rattle.std.proofs.Common.{◌≡◌, ℕ, zero, suc, ◌+◌, ◌/◌, ◌%◌, ◌≤◌, Bool, true, false, List, [], ◌∷◌, ◌++◌, map, replicate, refl, sym, ap, ◌∙◌, arith, append_assoc, append-nil, if◌then◌else◌}
use Rattle.std.specs.Prelude.{All, codes, encode_utf8_all, flat_map}
use Rattle.std.proofs.lemmas.Bool.{le-ltb}
use Rattle.std.proofs.lemmas.List.{map-append}
use Rattle.std.proofs.lemmas.List.Elements.{All-append, All-cons, All-head, All-nil, All-replicate, All-tail}
use Rattle.play_types.specs.History.{held, held_by}
use Rattle.play_types.specs.Media.{MediaNameView}
use Rattle.play_types.specs.declared.command.Cmd.{Cmd}
use Rattle.play_types.specs.declared.event.Event.{Event}
use Rattle.play_types.specs.declared.event.Event.TheVariants as event
use Rattle.play_types.specs.declared.event.Tag.{Tag}
use Rattle.play_types.proofs.Histories.{held-append}
use Rattle.history_model.specs.declared.limits.TheConstants.{MAX_TICKS_PER_LINE}
use Rattle.history_model.specs.text.Commands.{command_text}
use Rattle.history_model.specs.text.History.{batch_lines, command_line, connection_line, stop_line, text_after, tick_lines}
use Rattle.history_model.specs.scripts.Line.{ScriptLine, Said, Ticks, meaning}
use Rattle.history_model.specs.scripts.Line as line
use Rattle.history_model.specs.scripts.History.{Playout, PlayedLine, is_full, same_tag, server}
use Rattle.history_model.specs.scripts.Output.{tick_output, ticks_output}
use Rattle.history_model.specs.scripts.Memory.{with_memory}
use Rattle.history_replay.specs.Replay.{IsAccepted, IsConnection, IsPlayout}
use Rattle.history_replay.proofs.Printable.{IsPlayable, IsPrintable, IsPrintableInBatch}
use Rattle.history_replay.specs.ReplayOutput.{event_output, events_output}
use Rattle.history_replay.proofs.Events.{batch_says, command_line_spoken, command_says}
use Rattle.history_replay.proofs.Lines.{Says-ticks, tick_says}
use Rattle.history_replay.proofs.Says.{Says, Says-append, Says-none}
use Rattle.history_replay.proofs.Spoken.{begin_spoken, commit_spoken}
use Rattle.history_replay.proofs.Stops.{Says-stop_line, stop_says}
use Rattle.history_replay.proofs.Tagged.{Says-said}

-- what the text of events that follow a number of ticks says
abbrev pub says_after : List MediaNameView → ℕ → List Event → List ScriptLine
says_after media count [] = tick_says count
says_after media count (event.Do tag cmd ∷ events) = tick_says count ++ ((command_says media tag cmd ∷ []) ++ says_after media 0 events)
says_after media count (event.Batch tag cmds ∷ events) = tick_says count ++ (batch_says media tag cmds ++ says_after media 0 events)
says_after media count (event.Tick ∷ events) = says_after media (count + 1) events
says_after media count (event.Stop tag ∷ events) = tick_says count ++ ((stop_says tag ∷ []) ++ says_after media 0 events)

module _ (playout : Playout) (known : IsPlayout playout) where
  Says-command : (tag : Tag) (cmd : Cmd) → IsConnection tag → IsPrintable playout cmd → Says (command_line playout.names tag cmd) (command_says playout.names tag cmd ∷ [])
  Says-command tag cmd named asked = Says-said tag named (encode_utf8_all (command_text playout.names cmd)) (command_line_spoken playout known cmd asked)

  pub Says-commands : (tag : Tag) (cmds : List Cmd) → IsConnection tag → All (IsPrintableInBatch playout) cmds
      → Says (flat_map (command_line playout.names tag) cmds) (map (command_says playout.names tag) cmds)
  Says-commands tag [] named each = Says-none
  Says-commands tag (cmd ∷ cmds) named each =
      Says-append (command_line playout.names tag cmd) (flat_map (command_line playout.names tag) cmds) (command_says playout.names tag cmd ∷ [])
      (map (command_says playout.names tag) cmds) (Says-command tag cmd named (All-head (IsPrintableInBatch playout) cmd cmds each).asked)
      (Says-commands tag cmds named (All-tail (IsPrintableInBatch playout) cmd cmds each))

  Says-batch : (tag : Tag) (cmds : List Cmd) → IsConnection tag → All (IsPrintableInBatch playout) cmds
      → Says (batch_lines playout.names tag cmds) (batch_says playout.names tag cmds)
  Says-batch tag cmds named each =
      let commit = connection_line tag (codes "COMMIT") in
      Says-append (connection_line tag (codes "BEGIN")) (flat_map (command_line playout.names tag) cmds ++ commit) (Said tag (codes "BEGIN") ∷ [])
      (map (command_says playout.names tag) cmds ++ Said tag (codes "COMMIT") ∷ []) (Says-said tag named (codes "BEGIN") begin_spoken)
      (Says-append (flat_map (command_line playout.names tag) cmds) commit (map (command_says playout.names tag) cmds) (Said tag (codes "COMMIT") ∷ [])
      (Says-commands tag cmds named each) (Says-said tag named (codes "COMMIT") commit_spoken))

  -- the lines of the text
  pub Says-after : (count : ℕ) (events : List Event) → All (IsPlayable playout) events → Says (text_after playout.names count events) (says_after playout.names count events)
  Says-after count [] written = Says-ticks count
  Says-after count (event.Do tag cmd ∷ events) written =
      let first = All-head (IsPlayable playout) (event.Do tag cmd) events written in
      let rest = All-tail (IsPlayable playout) (event.Do tag cmd) events written in
      Says-append (tick_lines count) (command_line playout.names tag cmd ++ text_after playout.names 0 events) (tick_says count)
      ((command_says playout.names tag cmd ∷ []) ++ says_after playout.names 0 events) (Says-ticks count)
      (Says-append (command_line playout.names tag cmd) (text_after playout.names 0 events) (command_says playout.names tag cmd ∷ [])
      (says_after playout.names 0 events) (Says-command tag cmd first.0 first.1) (Says-after 0 events rest))
  Says-after count (event.Batch tag cmds ∷ events) written =
      let first = All-head (IsPlayable playout) (event.Batch tag cmds) events written in
      let rest = All-tail (IsPlayable playout) (event.Batch tag cmds) events written in
      Says-append (tick_lines count) (batch_lines playout.names tag cmds ++ text_after playout.names 0 events) (tick_says count)
      (batch_says playout.names tag cmds ++ says_after playout.names 0 events) (Says-ticks count)
      (Says-append (batch_lines playout.names tag cmds) (text_after playout.names 0 events) (batch_says playout.names tag cmds)
      (says_after playout.names 0 events) (Says-batch tag cmds first.0 first.2) (Says-after 0 events rest))
  Says-after count (event.Tick ∷ events) written = Says-after (count + 1) events (All-tail (IsPlayable playout) event.Tick events written)
  Says-after count (event.Stop tag ∷ events) written =
      let first = All-head (IsPlayable playout) (event.Stop tag) events written in
      let rest = All-tail (IsPlayable playout) (event.Stop tag) events written in
      Says-append (tick_lines count) (stop_line tag ++ text_after playout.names 0 events) (tick_says count)
      ((stop_says tag ∷ []) ++ says_after playout.names 0 events) (Says-ticks count)
      (Says-append (stop_line tag) (text_after playout.names 0 events) (stop_says tag ∷ [])
      (says_after playout.names 0 events) (Says-stop_line tag first) (Says-after 0 events rest))

-- what is written for ticks before other events
pub events_output-ticks : (playout : Playout) (before : List Event) (count : ℕ) (events : List Event)
    → events_output playout before (replicate count event.Tick ++ events)
    ≡ ticks_output playout before count ++ events_output playout (before ++ replicate count event.Tick) events
unfolding ticks_output event_output
events_output-ticks playout before zero events = rw (append-nil before) refl
events_output-ticks playout before (suc count) events =
    let next = before ++ event.Tick ∷ [] in
    ap (λ (text : List ℕ). tick_output playout before ++ text)
    (events_output-ticks playout next count events
    ∙ ap (λ (es : List Event). ticks_output playout next count ++ events_output playout es events) (append_assoc before (event.Tick ∷ []) (replicate count event.Tick)))
    ∙ sym (append_assoc (tick_output playout before) (ticks_output playout next count) (events_output playout (before ++ replicate (suc count) event.Tick) events))

pub held-ticks : (count : ℕ) → held (replicate count event.Tick) ≡ 0
held-ticks zero = refl
held-ticks (suc count) = omega (arith, held-ticks count)

module _ (playout : Playout) (before : List PlayedLine) (events : List Event) (output : List ℕ) (count : ℕ) where
  -- after the ticks
  abbrev pub ticked : List Event
  ticked = events ++ replicate count event.Tick

  -- what holds after the lines of an event and of those after it
  pub joined : (Q : List PlayedLine → List Event → List ℕ → Type 0) (one : Event) (later : List Event) (said more : List ScriptLine)
      → Q (((before ++ map with_memory (tick_says count)) ++ map with_memory said) ++ map with_memory more) ((ticked ++ one ∷ []) ++ later)
      (((output ++ ticks_output playout events count) ++ event_output playout ticked one) ++ events_output playout (ticked ++ one ∷ []) later)
      → Q (before ++ map with_memory (tick_says count ++ (said ++ more))) (events ++ (replicate count event.Tick ++ one ∷ later))
      (output ++ events_output playout events (replicate count event.Tick ++ one ∷ later))
  joined Q one later said more h =
      let first = map with_memory (tick_says count) in
      let ticks = ticks_output playout events count in
      let here = event_output playout ticked one in
      let rest = events_output playout (ticked ++ one ∷ []) later in
      rw (
        map-append with_memory (tick_says count) (said ++ more),
        map-append with_memory said more,
        events_output-ticks playout events count (one ∷ later),
        ← append_assoc first (map with_memory said) (map with_memory more),
        ← append_assoc before (first ++ map with_memory said) (map with_memory more),
        ← append_assoc before first (map with_memory said),
        ← append_assoc events (replicate count event.Tick) (one ∷ later),
        ← append_assoc ticked (one ∷ []) later,
        ← append_assoc output ticks (here ++ rest),
        ← append_assoc (output ++ ticks) here rest,
      ) h

  -- the journal has a place for what comes next
  pub has_room : (one : Event) (later : List Event) → held events + held (one ∷ later) ≤ playout.config.journal_limit → is_full playout ticked (held_by one) ≡ false
  has_room one later within =
      le-ltb playout.config.journal_limit (held ticked + held_by one)
      (omega (arith, within, held-append events (replicate count event.Tick), held-ticks count))

  pub held-next : (one : Event) (later : List Event) → held events + held (one ∷ later) ≤ playout.config.journal_limit
      → held (ticked ++ one ∷ []) + held later ≤ playout.config.journal_limit
  held-next one later within =
      omega (arith, within, held-append ticked (one ∷ []), held-append events (replicate count event.Tick), held-ticks count)

-- a script may have each line
ticks_accepted : (count : ℕ) → All IsAccepted (tick_says count)
unfolding tick_says
ticks_accepted zero = All-nil IsAccepted
ticks_accepted (suc before) =
    let most = MAX_TICKS_PER_LINE in
    let last = before % most + 1 in
    All-append IsAccepted (replicate (before / most) (Ticks most)) (Ticks last ∷ []) (All-replicate IsAccepted (before / most) (Ticks most) tt)
    (All-cons IsAccepted (Ticks last) [] tt (All-nil IsAccepted))

commands_accepted : (media : List MediaNameView) (tag : Tag) (cmds : List Cmd) → All IsAccepted (map (command_says media tag) cmds)
commands_accepted media tag [] = All-nil IsAccepted
commands_accepted media tag (cmd ∷ cmds) =
    All-cons IsAccepted (command_says media tag cmd) (map (command_says media tag) cmds) tt (commands_accepted media tag cmds)

stop_accepted : (tag : Tag) (own : Bool) → IsAccepted (if own then line.Stop else Said tag (codes "KILL"))
stop_accepted tag true = tt
stop_accepted tag false = tt

-- the lines of an event after those of ticks, and before others
event_accepted : (count : ℕ) (said more : List ScriptLine) → All IsAccepted said → All IsAccepted more → All IsAccepted (tick_says count ++ (said ++ more))
event_accepted count said more here rest =
    All-append IsAccepted (tick_says count) (said ++ more) (ticks_accepted count) (All-append IsAccepted said more here rest)

pub all_accepted : (media : List MediaNameView) (count : ℕ) (events : List Event) → All IsAccepted (says_after media count events)
all_accepted media count [] = ticks_accepted count
all_accepted media count (event.Do tag cmd ∷ events) =
    let said = command_says media tag cmd in
    event_accepted count (said ∷ []) (says_after media 0 events) (All-cons IsAccepted said [] tt (All-nil IsAccepted)) (all_accepted media 0 events)
all_accepted media count (event.Batch tag cmds ∷ events) =
    let begin = Said tag (codes "BEGIN") in
    let commit = Said tag (codes "COMMIT") in
    let commands = map (command_says media tag) cmds in
    event_accepted count (batch_says media tag cmds) (says_after media 0 events)
    (All-cons IsAccepted begin (commands ++ commit ∷ []) tt
    (All-append IsAccepted commands (commit ∷ []) (commands_accepted media tag cmds) (All-cons IsAccepted commit [] tt (All-nil IsAccepted))))
    (all_accepted media 0 events)
all_accepted media count (event.Tick ∷ events) = all_accepted media (count + 1) events
all_accepted media count (event.Stop tag ∷ events) =
    let said = stop_says tag in
    event_accepted count (said ∷ []) (says_after media 0 events)
    (All-cons IsAccepted said [] (stop_accepted tag (same_tag tag server)) (All-nil IsAccepted)) (all_accepted media 0 events)
