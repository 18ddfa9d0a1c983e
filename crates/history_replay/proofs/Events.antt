-- The lines of an event, played after others, make the event and write its answer.
use Rattle.std.proofs.Common.{◌≡◌, ℕ, ◌+◌, ◌<◌, ◌≤◌, Bool, true, false, cond, ◌||◌, List, [], ◌∷◌, ◌++◌, map, length, refl, sym, ap, ◌∙◌, subst, arith, append_assoc, append-nil, length-append, if◌then◌else◌}
use Rattle.std.specs.Prelude.{None, Some, All, codes, encode_utf8_all, flat_map}
use Rattle.std.specs.List.{list_any}
use Rattle.std.proofs.lemmas.Bool.{lt-ltb}
use Rattle.std.proofs.lemmas.List.Elements.{All-head, All-tail}
use Rattle.amcp_text.specs.Lines.{line_of_text, is_line_end}
use Rattle.play_types.specs.Commands.{answer_reply, command_name, is_query}
use Rattle.play_types.specs.Media.{MediaNameView}
use Rattle.play_types.specs.declared.command.Cmd.{Cmd}
use Rattle.play_types.specs.declared.command.TheConstants.{MAX_BATCH_COMMANDS}
use Rattle.play_types.specs.declared.event.Event.{Event}
use Rattle.play_types.specs.declared.event.Event.TheVariants as event
use Rattle.play_types.specs.declared.event.Tag.{Tag}
use Rattle.play_types.specs.declared.parsed.Parsed.{Parsed}
use Rattle.play_types.specs.declared.parsed.Parsed.TheVariants.{Begin, Commit, Stage}
use Rattle.play_types.specs.declared.reply.Name.TheVariants as name
use Rattle.play_types.specs.declared.reply.Reply.TheVariants as reply
use Rattle.history_model.specs.sessions.Request.{text_token}
use Rattle.history_model.specs.sessions.Line.{Asks, line_meaning}
use Rattle.history_model.specs.sessions.Session.{Local, Ask, AskBatch, asks, batch, is_open, step_commit, step_inside, step_outside, step_waiting}
use Rattle.history_model.specs.stage.Acts.{is_refused}
use Rattle.history_model.specs.stage.Answer.{command_answer, outcome_of}
use Rattle.history_model.specs.text.Commands.{command_text}
use Rattle.history_model.specs.scripts.Line.{ScriptLine, Said}
use Rattle.history_model.specs.scripts.History.{Playout, PlayedLine, JournalFull, Taken, is_full, same_tag, setup_of, stream_of, texts_of, turn_of, verdict, verdict_events}
use Rattle.history_model.specs.scripts.Output.{reply_output, verdict_reply}
use Rattle.history_model.proofs.OpenBatch.{batch-begin, batch-waits, is_open-closing, is_open-other}
use Rattle.history_model.proofs.Sides.{asked_of, own_step}
use Rattle.history_model.proofs.Tags.{text_by-else}
use Rattle.history_model.specs.scripts.Memory.{with_memory}
use Rattle.history_model.proofs.Besides.{same_asks}
use Rattle.history_replay.specs.Replay.{IsPlayout}
use Rattle.history_replay.proofs.Printable.{IsPrintable, IsPrintableInBatch}
use Rattle.history_replay.specs.ReplayOutput.{event_output, waiting_output}
use Rattle.history_replay.proofs.Playing.{At, At-as, At-said, asked_more, each_tag, own_step-asks}
use Rattle.history_replay.proofs.Spoken.{begin_asked, begin_spoken, begin_untold, command_asked, command_spoken, command_untold, commit_asked, commit_spoken, commit_untold}
use Rattle.history_replay.proofs.Tagged.{IsSpoken}

-- what the lines of a command and of a batch say
abbrev pub command_says : List MediaNameView → Tag → Cmd → ScriptLine
command_says media tag cmd = Said tag (encode_utf8_all (command_text media cmd))

abbrev pub batch_says : List MediaNameView → Tag → List Cmd → List ScriptLine
batch_says media tag cmds = Said tag (codes "BEGIN") ∷ (map (command_says media tag) cmds ++ Said tag (codes "COMMIT") ∷ [])

-- no batch is open
pub record IsClosed (playout : Playout) (before : List PlayedLine) : Type 0 where
  pub each : (tag : Tag) → is_open (asked_of playout tag before) ≡ false

pub none_open : (playout : Playout) → IsClosed playout []
unfolding asks stream_of texts_of
none_open playout = record { each = λ tag. refl }

-- the batch of one connection is open
pub record IsInBatch (playout : Playout) (before : List PlayedLine) (tag : Tag) (cmds : List Cmd) : Type 0 where
  pub own : is_open (asked_of playout tag before) ≡ true
  pub waiting : batch (asked_of playout tag before) ≡ cmds
  pub others : (other : Tag) → same_tag other tag ≡ false → is_open (asked_of playout other before) ≡ false

-- what a line asks for if a batch is open, and if none is
step_open : (playout : Playout) (tag : Tag) (before : List PlayedLine) (text : List ℕ) (ask : Parsed)
    → line_meaning playout.config playout.names (line_of_text text) ≡ Asks ask → is_open (asked_of playout tag before) ≡ true
    → own_step playout tag before text false ≡ step_inside (batch (asked_of playout tag before)) ask
step_open playout tag before text ask meant opened =
    own_step-asks playout tag before text ask meant
    ∙ ap (λ (b : Bool). cond b (step_inside (batch (asked_of playout tag before)) ask) (step_outside ask)) opened

pub step_closed : (playout : Playout) (tag : Tag) (before : List PlayedLine) (text : List ℕ) (ask : Parsed)
    → line_meaning playout.config playout.names (line_of_text text) ≡ Asks ask → is_open (asked_of playout tag before) ≡ false
    → own_step playout tag before text false ≡ step_outside ask
step_closed playout tag before text ask meant closed =
    own_step-asks playout tag before text ask meant
    ∙ ap (λ (b : Bool). cond b (step_inside (batch (asked_of playout tag before)) ask) (step_outside ask)) closed

module _ (playout : Playout) (before : List PlayedLine) (events : List Event) (output : List ℕ) (h : At playout before events output) (tag : Tag) where
  -- after a line of the connection
  abbrev after : List ℕ → List PlayedLine
  after text = before ++ with_memory (Said tag text) ∷ []

  others_left : (text : List ℕ) (other : Tag) → same_tag other tag ≡ false → is_open (asked_of playout other before) ≡ false
      → is_open (asked_of playout other (after text)) ≡ false
  others_left text other differ closed =
      let line = with_memory (Said tag text) in
      ap is_open (same_asks playout other before line (text_by-else tag other line text refl differ)) ∙ closed

  -- what the connection asks for next
  is_open-asked : (text : List ℕ) (ask : Parsed) → list_any is_line_end text ≡ false → line_meaning playout.config playout.names (line_of_text text) ≡ Asks ask
      → is_open (asked_of playout tag (after text)) ≡ is_open (asked_of playout tag before ++ ask ∷ [])
  is_open-asked text ask one meant = ap is_open (asked_more playout before events output h tag text ask one meant)

  -- the batch stays closed after an ask that opens none
  still_closed : (text : List ℕ) (ask : Parsed) → list_any is_line_end text ≡ false → line_meaning playout.config playout.names (line_of_text text) ≡ Asks ask
      → is_open (asked_of playout tag before ++ ask ∷ []) ≡ false → ((other : Tag) → same_tag other tag ≡ false → is_open (asked_of playout other before) ≡ false)
      → IsClosed playout (after text)
  still_closed text ask one meant closed others = record {
    each = λ other.
        each_tag (λ t. is_open (asked_of playout t (after text)) ≡ false) tag other (same_tag other tag) refl
        (is_open-asked text ask one meant ∙ closed) (λ differ. others_left text other differ (others other differ));
  }

  -- a command that becomes an event
  taken : (text : List ℕ) (commands : ℕ) → is_full playout events commands ≡ false → verdict (turn_of playout events (with_memory (Said tag text)) tag) commands ≡ Taken
  taken text commands room = ap (λ (b : Bool). if b then JournalFull else Taken) room

  pub At-command : (text : List ℕ) (cmd : Cmd) → list_any is_line_end text ≡ false → text_token text ≡ None → line_meaning playout.config playout.names (line_of_text text) ≡ Asks (Stage cmd)
      → is_full playout events 1 ≡ false → IsClosed playout before
      → At playout (after text) (events ++ event.Do tag cmd ∷ []) (output ++ event_output playout events (event.Do tag cmd))
  unfolding event_output
  At-command text cmd one untold meant room closed =
      let found = command_answer (setup_of playout) events (is_refused events (event.Do tag cmd)) cmd in
      let becomes = taken text 1 room in
      At-as playout (after text) _ _ _ _ (ap (λ v. events ++ verdict_events (event.Do tag cmd) v) becomes)
      (ap (λ v. output ++ reply_output playout tag (Some (verdict_reply (command_name cmd) found v))) becomes)
      (At-said playout before events output h tag text (Ask cmd) one untold (step_closed playout tag before text (Stage cmd) meant (closed.each tag)) refl)

  pub closed-command : (text : List ℕ) (cmd : Cmd) → list_any is_line_end text ≡ false → line_meaning playout.config playout.names (line_of_text text) ≡ Asks (Stage cmd)
      → IsClosed playout before → IsClosed playout (after text)
  closed-command text cmd one meant closed =
      still_closed text (Stage cmd) one meant
      (is_open-other (asked_of playout tag before) (Stage cmd) refl ∙ ap (λ (b : Bool). b || false) (closed.each tag)) (λ other differ. closed.each other)

  -- the line that opens a batch
  pub At-begin : IsClosed playout before → At playout (after (codes "BEGIN")) events (output ++ reply_output playout tag (Some (reply.Done name.Begin)))
  At-begin closed =
      At-as playout (after (codes "BEGIN")) (events ++ []) events _ _ (append-nil events) refl
      (At-said playout before events output h tag (codes "BEGIN") (Local (reply.Done name.Begin)) begin_spoken.one begin_untold
      (step_closed playout tag before (codes "BEGIN") Begin (begin_asked playout.config playout.names) (closed.each tag)) refl)

  pub open-begin : IsClosed playout before → IsInBatch playout (after (codes "BEGIN")) tag []
  open-begin closed =
      let asked = asked_of playout tag before in
      let more = asked_more playout before events output h tag (codes "BEGIN") Begin begin_spoken.one (begin_asked playout.config playout.names) in
      record {
        own = ap is_open more ∙ is_open-other asked Begin refl ∙ ap (λ (b : Bool). b || true) (closed.each tag);
        waiting = ap batch more ∙ batch-begin asked (closed.each tag);
        others = λ other differ. others_left (codes "BEGIN") other differ (closed.each other);
      }

  -- a line of a command that waits
  module _ (text : List ℕ) (cmd : Cmd) (one : list_any is_line_end text ≡ false) (untold : text_token text ≡ None) (meant : line_meaning playout.config playout.names (line_of_text text) ≡ Asks (Stage cmd)) (acts : is_query cmd ≡ false) (cmds : List Cmd) (room : length cmds < MAX_BATCH_COMMANDS) (inside : IsInBatch playout before tag cmds) where
    At-waits : At playout (after text) events (output ++ waiting_output playout tag cmd)
    At-waits =
        let step : step_waiting cmds cmd ≡ Local (reply.Done (command_name cmd)) = rw (acts, lt-ltb (length cmds) MAX_BATCH_COMMANDS room) refl in
        At-as playout (after text) (events ++ []) events _ _ (append-nil events) refl
        (At-said playout before events output h tag text (Local (reply.Done (command_name cmd))) one untold
        (step_open playout tag before text (Stage cmd) meant inside.own ∙ ap (λ waiting. step_waiting waiting cmd) inside.waiting ∙ step) refl)

    open-waits : IsInBatch playout (after text) tag (cmds ++ cmd ∷ [])
    open-waits =
        let asked = asked_of playout tag before in
        let more = asked_more playout before events output h tag text (Stage cmd) one meant in
        let few : length (batch asked) < MAX_BATCH_COMMANDS = subst (λ cs. length cs < MAX_BATCH_COMMANDS) (sym inside.waiting) room in
        record {
          own = ap is_open more ∙ is_open-other asked (Stage cmd) refl ∙ ap (λ (b : Bool). b || false) inside.own;
          waiting = ap batch more ∙ batch-waits asked cmd inside.own acts few ∙ ap (λ cs. cs ++ cmd ∷ []) inside.waiting;
          others = λ other differ. others_left text other differ (inside.others other differ);
        }

  -- the line that closes the batch
  commit_of : (cmds : List Cmd) → 0 < length cmds → step_commit cmds ≡ AskBatch cmds
  commit_of [] some = absurd (omega arith)
  commit_of (cmd ∷ cmds) some = refl

  pub At-commit : (cmds : List Cmd) → 0 < length cmds → is_full playout events (length cmds) ≡ false → IsInBatch playout before tag cmds
      → At playout (after (codes "COMMIT")) (events ++ event.Batch tag cmds ∷ [])
      (output ++ reply_output playout tag (Some (answer_reply name.Commit (outcome_of (is_refused events (event.Batch tag cmds))))))
  At-commit cmds some room inside =
      let found = outcome_of (is_refused events (event.Batch tag cmds)) in
      let becomes = taken (codes "COMMIT") (length cmds) room in
      At-as playout (after (codes "COMMIT")) _ _ _ _ (ap (λ v. events ++ verdict_events (event.Batch tag cmds) v) becomes)
      (ap (λ v. output ++ reply_output playout tag (Some (verdict_reply name.Commit found v))) becomes)
      (At-said playout before events output h tag (codes "COMMIT") (AskBatch cmds) commit_spoken.one commit_untold
      (step_open playout tag before (codes "COMMIT") Commit (commit_asked playout.config playout.names) inside.own ∙ ap step_commit inside.waiting ∙ commit_of cmds some) refl)

  pub closed-commit : (cmds : List Cmd) → IsInBatch playout before tag cmds → IsClosed playout (after (codes "COMMIT"))
  closed-commit cmds inside =
      still_closed (codes "COMMIT") Commit commit_spoken.one (commit_asked playout.config playout.names)
      (is_open-closing (asked_of playout tag before) Commit refl) inside.others

-- the text of a command is a client's line that asks for it
module _ (playout : Playout) (known : IsPlayout playout) (cmd : Cmd) (asked : IsPrintable playout cmd) where
  pub command_line_spoken : IsSpoken (encode_utf8_all (command_text playout.names cmd))
  command_line_spoken = command_spoken playout.config playout.names known.config known.names known.texts cmd asked.by.words asked.by.ask asked.short

  pub command_line_untold : text_token (encode_utf8_all (command_text playout.names cmd)) ≡ None
  command_line_untold = command_untold playout.config playout.names known.config known.names known.texts cmd asked.by.words asked.by.ask asked.short

  pub command_line_asked : line_meaning playout.config playout.names (line_of_text (encode_utf8_all (command_text playout.names cmd))) ≡ Asks (Stage cmd)
  command_line_asked = command_asked playout.config playout.names known.config known.names known.texts cmd asked.by.words asked.by.ask asked.short

-- the lines of the commands of a batch
pub record Waits (playout : Playout) (before : List PlayedLine) (events : List Event) (output : List ℕ) (tag : Tag) (cmds : List Cmd) : Type 0 where
  pub at : At playout before events output
  pub inside : IsInBatch playout before tag cmds

pub all_wait : (playout : Playout) (known : IsPlayout playout) (before : List PlayedLine) (events : List Event) (output : List ℕ) (tag : Tag) (done cmds : List Cmd)
    → All (IsPrintableInBatch playout) cmds → length done + length cmds ≤ MAX_BATCH_COMMANDS → Waits playout before events output tag done
    → Waits playout (before ++ map with_memory (map (command_says playout.names tag) cmds)) events (output ++ flat_map (waiting_output playout tag) cmds) tag (done ++ cmds)
all_wait playout known before events output tag done [] each few h =
    rw (append-nil before, append-nil output, append-nil done) h
all_wait playout known before events output tag done (cmd ∷ cmds) each few h =
    let text = encode_utf8_all (command_text playout.names cmd) in
    let line = with_memory (Said tag text) in
    let first = All-head (IsPrintableInBatch playout) cmd cmds each in
    let one = (command_line_spoken playout known cmd first.asked).one in
    let untold = command_line_untold playout known cmd first.asked in
    let meant = command_line_asked playout known cmd first.asked in
    let room : length done < MAX_BATCH_COMMANDS = omega (arith, few) in
    let few' : length (done ++ cmd ∷ []) + length cmds ≤ MAX_BATCH_COMMANDS = omega (arith, few, length-append done (cmd ∷ [])) in
    rw (
      ← append_assoc before (line ∷ []) (map with_memory (map (command_says playout.names tag) cmds)),
      ← append_assoc output (waiting_output playout tag cmd) (flat_map (waiting_output playout tag) cmds),
      ← append_assoc done (cmd ∷ []) cmds,
    )
    (all_wait playout known (before ++ line ∷ []) events (output ++ waiting_output playout tag cmd) tag (done ++ cmd ∷ []) cmds
    (All-tail (IsPrintableInBatch playout) cmd cmds each) few'
    (record {
      at = At-waits playout before events output h.at tag text cmd one untold meant first.acts done room h.inside;
      inside = open-waits playout before events output h.at tag text cmd one untold meant first.acts done room h.inside;
    }))
