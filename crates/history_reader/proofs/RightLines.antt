-- Each line of the text of a history is one of a history.
use Rattle.std.proofs.Common.{◌≡◌, ◌⊎◌, ℕ, zero, suc, ◌+◌, ◌/◌, ◌%◌, ◌<◌, ◌≤◌, Bool, true, false, cond, ◌||◌, ◌&&◌, List, [], ◌∷◌, ◌++◌, length, map, replicate, refl, sym, ap, ◌∙◌, subst, arith, append-nil, append_assoc, length-append}
use Rattle.std.specs.Prelude.{Some, None, All, codes, encode_utf8_all}
use Rattle.std.proofs.lemmas.Bool.{false≢true, lt-ltb}
use Rattle.std.proofs.lemmas.List.{append_cancel_left, map-append}
use Rattle.std.proofs.lemmas.List.Elements.{All-cons, All-head, All-nil, All-tail}
use Rattle.play_types.specs.Commands.{command_name, is_query}
use Rattle.play_types.specs.declared.command.Cmd.{Cmd}
use Rattle.play_types.specs.declared.command.Cmd.TheVariants as cmd
use Rattle.play_types.specs.declared.command.TheConstants.{MAX_BATCH_COMMANDS}
use Rattle.play_types.specs.declared.event.Event.{Event}
use Rattle.play_types.specs.declared.event.Event.TheVariants as event
use Rattle.play_types.specs.declared.event.Tag.{Tag}
use Rattle.play_types.specs.declared.parsed.Parsed.TheVariants.{Begin, Stage}
use Rattle.play_types.specs.declared.reply.Name.TheVariants as name
use Rattle.play_types.specs.declared.reply.Reply.TheVariants as reply
use Rattle.history_model.specs.declared.limits.TheConstants.{MAX_TICKS_PER_LINE}
use Rattle.history_model.specs.sessions.Session.{Local, Step, batch, step_inside, step_outside, step_waiting}
use Rattle.history_model.specs.text.Commands.{command_text}
use Rattle.history_model.specs.scripts.Line.{Said, Ticks}
use Rattle.history_model.specs.scripts.History.{Playout, PlayedLine, events_at, goes_on, is_full, said_step, script_events, server, step_events, turn_of}
use Rattle.history_model.specs.scripts.Memory.{reply_at, with_memory}
use Rattle.history_model.specs.scripts.Output.{reply_output, step_reply, ticks_output}
use Rattle.history_model.proofs.Outputs.{script_events-snoc}
use Rattle.history_model.proofs.Sides.{asked_of}
use Rattle.history_replay.specs.Replay.{IsConnection, IsPlayout}
use Rattle.history_replay.specs.ReplayOutput.{event_output}
use Rattle.history_replay.proofs.Events.{At-begin, Waits, all_wait, batch_says, command_line_asked, command_line_spoken, command_says, open-begin, step_closed}
use Rattle.history_replay.proofs.Lines.{tick_says}
use Rattle.history_replay.proofs.Playing.{At, At-ticks, own_step-asks, step_said}
use Rattle.history_replay.proofs.Printable.{IsPrintable, IsPrintableInBatch}
use Rattle.history_replay.proofs.Replaying.{AtRest, Rest-batch, Rest-command, Rest-ticks}
use Rattle.history_replay.proofs.Spoken.{begin_asked, begin_spoken}
use Rattle.history_replay.proofs.Stops.{Plays-stop, stop_says}
use Rattle.history_reader.specs.HistoryText.{fault_after, is_history_line, is_kept, is_of_batch, is_some_event, past_of}
use Rattle.history_reader.proofs.FaultyLines.{fault-snoc}

-- none of these lines is faulty
abbrev pub AreRight : Playout → List PlayedLine → Type 0
AreRight playout lines = fault_after playout [] lines ≡ None

AreRight-snoc : (playout : Playout) (before : List PlayedLine) (line : PlayedLine) → AreRight playout before → is_history_line playout before line ≡ true
    → AreRight playout (before ++ line ∷ [])
AreRight-snoc playout before line right is =
    fault-snoc playout before line right ∙ ap (λ (b : Bool). cond b None (Some (length before + 1))) is

-- a line that makes an event is one of a history
line_made : (playout : Playout) (before : List PlayedLine) (events : List Event) (line : PlayedLine) (one : Event) → goes_on playout before ≡ true
    → script_events playout before ≡ events → script_events playout (before ++ line ∷ []) ≡ events ++ one ∷ []
    → is_history_line playout before line ≡ true
line_made playout before events line one goes was made =
    let here = events_at playout (past_of playout before) line line.line in
    let is : here ≡ one ∷ [] =
    append_cancel_left events here (one ∷ []) (ap (λ es. es ++ here) (sym was) ∙ sym (script_events-snoc playout before line goes) ∙ made) in
    ap (λ (b : Bool). b && (is_some_event here || is_kept (reply_at playout before line line.line))) goes
    ∙ ap (λ es. is_some_event es || is_kept (reply_at playout before line line.line)) is

-- a line of ticks is one of a history
some_tick : (count : ℕ) → 1 ≤ count → is_some_event (replicate count event.Tick) ≡ true
some_tick zero some = absurd (omega (arith, some))
some_tick (suc count) some = refl

line_of_ticks : (playout : Playout) (before : List PlayedLine) (count : ℕ) → 1 ≤ count → goes_on playout before ≡ true
    → is_history_line playout before (with_memory (Ticks count)) ≡ true
line_of_ticks playout before count some goes =
    ap (λ (b : Bool). b && (is_some_event (replicate count event.Tick) || false)) goes
    ∙ ap (λ (b : Bool). b || false) (some_tick count some)

-- what was played up to here: the run goes on, and no line is faulty
pub record RightAt (playout : Playout) (before : List PlayedLine) (events : List Event) (output : List ℕ) : Type 0 where
  pub at : At playout before events output
  pub right : AreRight playout before

-- after ticks
one_line : (playout : Playout) (before : List PlayedLine) (events : List Event) (output : List ℕ) (count : ℕ) → 1 ≤ count → RightAt playout before events output
    → RightAt playout (before ++ with_memory (Ticks count) ∷ []) (events ++ replicate count event.Tick) (output ++ ticks_output playout events count)
one_line playout before events output count some h = record {
  at = At-ticks playout before events output count h.at;
  right = AreRight-snoc playout before (with_memory (Ticks count)) h.right (line_of_ticks playout before count some h.at.goes);
}

-- some events and an output
pub record Sofar : Type 0 where
  pub events : List Event
  pub output : List ℕ

full_lines : (playout : Playout) (before : List PlayedLine) (events : List Event) (output : List ℕ) (most times : ℕ) → 1 ≤ most → RightAt playout before events output
    → (then : Sofar) × RightAt playout (before ++ map with_memory (replicate times (Ticks most))) then.events then.output
full_lines playout before events output most zero some h =
    (record { events = events; output = output }, subst (λ ls. RightAt playout ls events output) (sym (append-nil before)) h)
full_lines playout before events output most (suc times) some h =
    let line = with_memory (Ticks most) in
    let later = full_lines playout (before ++ line ∷ []) (events ++ replicate most event.Tick) (output ++ ticks_output playout events most) most times some
    (one_line playout before events output most some h) in
    (later.0, subst (λ ls. RightAt playout ls later.0.events later.0.output) (append_assoc before (line ∷ []) (map with_memory (replicate times (Ticks most)))) later.1)

ticks_right : (playout : Playout) (before : List PlayedLine) (events : List Event) (output : List ℕ) (count : ℕ) → RightAt playout before events output
    → AreRight playout (before ++ map with_memory (tick_says count))
unfolding tick_says
ticks_right playout before events output zero h = subst (AreRight playout) (sym (append-nil before)) h.right
ticks_right playout before events output (suc rest) h =
    let most = MAX_TICKS_PER_LINE in
    let full = replicate (rest / most) (Ticks most) in
    let last = Ticks (rest % most + 1) in
    let first = full_lines playout before events output most (rest / most) (omega arith) h in
    let all = one_line playout (before ++ map with_memory full) first.0.events first.0.output (rest % most + 1) (omega arith) first.1 in
    subst (AreRight playout)
    (append_assoc before (map with_memory full) (with_memory last ∷ []) ∙ ap (λ ls. before ++ ls) (sym (map-append with_memory full (last ∷ []))))
    all.right

-- what was played up to here: no batch is open, and no line is faulty
pub record RightRest (playout : Playout) (before : List PlayedLine) (events : List Event) (output : List ℕ) : Type 0 where
  pub rest : AtRest playout before events output
  pub right : AreRight playout before

at_of : (playout : Playout) (before : List PlayedLine) (events : List Event) (output : List ℕ) → RightRest playout before events output
    → RightAt playout before events output
at_of playout before events output h = record { at = h.rest.at; right = h.right }

pub right_ticks : (playout : Playout) (before : List PlayedLine) (events : List Event) (output : List ℕ) (count : ℕ) → RightRest playout before events output
    → RightRest playout (before ++ map with_memory (tick_says count)) (events ++ replicate count event.Tick) (output ++ ticks_output playout events count)
right_ticks playout before events output count h = record {
  rest = Rest-ticks playout before events output count h.rest;
  right = ticks_right playout before events output count (at_of playout before events output h);
}

-- after a command
pub right_command : (playout : Playout) (known : IsPlayout playout) (before : List PlayedLine) (events : List Event) (output : List ℕ) (tag : Tag) (cmd : Cmd)
    → IsPrintable playout cmd → is_full playout events 1 ≡ false → RightRest playout before events output
    → RightRest playout (before ++ with_memory (command_says playout.names tag cmd) ∷ []) (events ++ event.Do tag cmd ∷ [])
    (output ++ event_output playout events (event.Do tag cmd))
right_command playout known before events output tag cmd asked room h =
    let rest = Rest-command playout known before events output tag cmd asked room h.rest in
    let line = with_memory (command_says playout.names tag cmd) in
    record {
      rest = rest;
      right = AreRight-snoc playout before line h.right
          (line_made playout before events line (event.Do tag cmd) h.rest.at.goes h.rest.at.made rest.at.made);
    }

-- a line that a session keeps for a batch
line_kept : (playout : Playout) (before : List PlayedLine) (tag : Tag) (text : List ℕ) (found : Step) → goes_on playout before ≡ true
    → said_step playout before (with_memory (Said tag text)) tag ≡ Some found
    → ((turn : _) → (is_some_event (step_events turn (Some found)) || is_kept (step_reply turn (Some found))) ≡ true)
    → is_history_line playout before (with_memory (Said tag text)) ≡ true
line_kept playout before tag text found goes own kept =
    let line = with_memory (Said tag text) in
    let turn = turn_of playout (script_events playout before) line tag in
    ap (λ (b : Bool). b && (is_some_event (step_events turn (said_step playout before line tag)) || is_kept (step_reply turn (said_step playout before line tag)))) goes
    ∙ ap (λ found. is_some_event (step_events turn found) || is_kept (step_reply turn found)) own
    ∙ kept turn

-- the commands of batches have these names
batch_name : (cmd : Cmd) → is_query cmd ≡ false → is_of_batch (command_name cmd) ≡ true
batch_name (cmd.Load at take) acts = refl
batch_name (cmd.LoadBg at take) acts = refl
batch_name (cmd.Play at) acts = refl
batch_name (cmd.PlayTake at take) acts = refl
batch_name (cmd.Pause at) acts = refl
batch_name (cmd.Resume at) acts = refl
batch_name (cmd.StopLayer at) acts = refl
batch_name (cmd.ClearLayer at) acts = refl
batch_name (cmd.ClearChannel channel) acts = refl
batch_name (cmd.SwapLayers one other transforms) acts = refl
batch_name (cmd.SwapChannels one other transforms) acts = refl
batch_name (cmd.Set setting) acts = refl
batch_name (cmd.CommitMixer channel) acts = refl
batch_name (cmd.ResetLayer at) acts = refl
batch_name (cmd.ResetChannel channel) acts = refl
batch_name (cmd.AddFile channel recorded) acts = refl
batch_name (cmd.RemoveFile channel) acts = refl
batch_name (cmd.Value at prop) acts = refl
batch_name cmd.Info acts = absurd (false≢true (sym acts))

module _ (playout : Playout) (known : IsPlayout playout) (tag : Tag) where
  -- the line that opens a batch
  begins : (before : List PlayedLine) (events : List Event) (output : List ℕ) → AtRest playout before events output
      → is_history_line playout before (with_memory (Said tag (codes "BEGIN"))) ≡ true
  begins before events output h =
      line_kept playout before tag (codes "BEGIN") (Local (reply.Done name.Begin)) h.at.goes
      (step_said playout before events output h.at tag (codes "BEGIN") (Local (reply.Done name.Begin)) begin_spoken.one
      (step_closed playout tag before (codes "BEGIN") Begin (begin_asked playout.config playout.names) (h.closed.each tag)))
      (λ turn. refl)

  -- a command that waits
  waits : (before : List PlayedLine) (events : List Event) (output : List ℕ) (done : List Cmd) (cmd : Cmd) → IsPrintableInBatch playout cmd
      → length done < MAX_BATCH_COMMANDS → Waits playout before events output tag done
      → is_history_line playout before (with_memory (command_says playout.names tag cmd)) ≡ true
  waits before events output done cmd asked room h =
      let text = encode_utf8_all (command_text playout.names cmd) in
      let meant = command_line_asked playout known cmd asked.asked in
      let step : step_waiting done cmd ≡ Local (reply.Done (command_name cmd)) = rw (asked.acts, lt-ltb (length done) MAX_BATCH_COMMANDS room) refl in
      line_kept playout before tag text (Local (reply.Done (command_name cmd))) h.at.goes
      (step_said playout before events output h.at tag text (Local (reply.Done (command_name cmd))) (command_line_spoken playout known cmd asked.asked).one
      (own_step-asks playout tag before text (Stage cmd) meant
      ∙ ap (λ (b : Bool). cond b (step_inside (batch (asked_of playout tag before)) (Stage cmd)) (step_outside (Stage cmd))) h.inside.own
      ∙ ap (λ waiting. step_waiting waiting cmd) h.inside.waiting ∙ step))
      (λ turn. batch_name cmd asked.acts)

  -- the commands of a batch
  all_right : (before : List PlayedLine) (events : List Event) (output : List ℕ) (done cmds : List Cmd) → All (IsPrintableInBatch playout) cmds
      → length done + length cmds ≤ MAX_BATCH_COMMANDS → Waits playout before events output tag done → AreRight playout before
      → AreRight playout (before ++ map with_memory (map (command_says playout.names tag) cmds))
  all_right before events output done [] each few h right = subst (AreRight playout) (sym (append-nil before)) right
  all_right before events output done (cmd ∷ cmds) each few h right =
      let line = with_memory (command_says playout.names tag cmd) in
      let first = All-head (IsPrintableInBatch playout) cmd cmds each in
      let room : length done < MAX_BATCH_COMMANDS = omega (arith, few) in
      let one : length done + length (cmd ∷ []) ≤ MAX_BATCH_COMMANDS = omega (arith, few) in
      let few' : length (done ++ cmd ∷ []) + length cmds ≤ MAX_BATCH_COMMANDS = omega (arith, few, length-append done (cmd ∷ [])) in
      let next = all_wait playout known before events output tag done (cmd ∷ []) (All-cons (IsPrintableInBatch playout) cmd [] first (All-nil (IsPrintableInBatch playout))) one h in
      subst (AreRight playout) (append_assoc before (line ∷ []) (map with_memory (map (command_says playout.names tag) cmds)))
      (all_right (before ++ line ∷ []) events _ (done ++ cmd ∷ []) cmds (All-tail (IsPrintableInBatch playout) cmd cmds each) few' next
      (AreRight-snoc playout before line right (waits before events output done cmd first room h)))

-- after a batch
pub right_batch : (playout : Playout) (known : IsPlayout playout) (before : List PlayedLine) (events : List Event) (output : List ℕ) (tag : Tag) (cmds : List Cmd)
    → 0 < length cmds → length cmds ≤ MAX_BATCH_COMMANDS → All (IsPrintableInBatch playout) cmds → is_full playout events (length cmds) ≡ false
    → RightRest playout before events output
    → RightRest playout (before ++ map with_memory (batch_says playout.names tag cmds)) (events ++ event.Batch tag cmds ∷ [])
    (output ++ event_output playout events (event.Batch tag cmds))
right_batch playout known before events output tag cmds some few each room h =
    let rest = Rest-batch playout known before events output tag cmds some few each room h.rest in
    let begin = with_memory (Said tag (codes "BEGIN")) in
    let commit = with_memory (Said tag (codes "COMMIT")) in
    let says = map (command_says playout.names tag) cmds in
    let opened = output ++ reply_output playout tag (Some (reply.Done name.Begin)) in
    let inside : Waits playout (before ++ begin ∷ []) events opened tag [] =
    record { at = At-begin playout before events output h.rest.at tag h.rest.closed; inside = open-begin playout before events output h.rest.at tag h.rest.closed } in
    let begun = AreRight-snoc playout before begin h.right (begins playout known tag before events output h.rest) in
    let front = (before ++ begin ∷ []) ++ map with_memory says in
    let waiting = all_wait playout known (before ++ begin ∷ []) events opened tag [] cmds each (omega (arith, few)) inside in
    let before_commit = all_right playout known tag (before ++ begin ∷ []) events opened [] cmds each (omega (arith, few)) inside begun in
    let whole : front ++ commit ∷ [] ≡ before ++ map with_memory (batch_says playout.names tag cmds) =
    append_assoc (before ++ begin ∷ []) (map with_memory says) (commit ∷ []) ∙ append_assoc before (begin ∷ []) (map with_memory says ++ commit ∷ [])
    ∙ ap (λ ls. before ++ begin ∷ ls) (sym (map-append with_memory says (Said tag (codes "COMMIT") ∷ []))) in
    record {
      rest = rest;
      right = subst (AreRight playout) whole
          (AreRight-snoc playout front commit before_commit
          (line_made playout front events commit (event.Batch tag cmds) waiting.at.goes waiting.at.made (ap (script_events playout) whole ∙ rest.at.made)));
    }

-- after a stop
pub right_stop : (playout : Playout) (before : List PlayedLine) (events : List Event) (output : List ℕ) (tag : Tag) → (tag ≡ server) ⊎ IsConnection tag
    → RightRest playout before events output → AreRight playout (before ++ with_memory (stop_says tag) ∷ [])
right_stop playout before events output tag named h =
    AreRight-snoc playout before (with_memory (stop_says tag)) h.right
    (line_made playout before events (with_memory (stop_says tag)) (event.Stop tag) h.rest.at.goes h.rest.at.made
    (Plays-stop playout before events output h.rest tag named).made)
