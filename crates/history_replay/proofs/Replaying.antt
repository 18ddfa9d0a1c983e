-- The lines of a history, played one after another, make the history.
use Rattle.std.proofs.Common.{◌≡◌, ℕ, zero, suc, ◌+◌, ◌*◌, ◌/◌, ◌%◌, ◌<◌, ◌≤◌, false, List, [], ◌∷◌, ◌++◌, map, length, replicate, refl, ap, ◌∙◌, arith, append_assoc, append-nil}
use Rattle.std.specs.Prelude.{Some, All, codes, encode_utf8_all, flat_map}
use Rattle.std.proofs.Math.Nat.{div-add-mod}
use Rattle.std.proofs.lemmas.List.{map-append, replicate-append-replicate}
use Rattle.play_types.specs.Commands.{answer_reply}
use Rattle.play_types.specs.declared.command.Cmd.{Cmd}
use Rattle.play_types.specs.declared.command.TheConstants.{MAX_BATCH_COMMANDS}
use Rattle.play_types.specs.declared.event.Event.{Event}
use Rattle.play_types.specs.declared.event.Event.TheVariants as event
use Rattle.play_types.specs.declared.event.Tag.{Tag}
use Rattle.play_types.specs.declared.reply.Name.TheVariants as name
use Rattle.play_types.specs.declared.reply.Reply.TheVariants as reply
use Rattle.history_model.specs.declared.limits.TheConstants.{MAX_TICKS_PER_LINE}
use Rattle.history_model.specs.sessions.Session.{is_open}
use Rattle.history_model.specs.stage.Acts.{is_refused}
use Rattle.history_model.specs.stage.Answer.{outcome_of}
use Rattle.history_model.specs.text.Commands.{command_text}
use Rattle.history_model.specs.scripts.Line.{Said, Ticks}
use Rattle.history_model.specs.scripts.History.{Playout, PlayedLine, is_full}
use Rattle.history_model.specs.scripts.Output.{reply_output, ticks_output}
use Rattle.history_model.specs.scripts.Memory.{with_memory}
use Rattle.history_model.proofs.Besides.{same_asks}
use Rattle.history_replay.specs.Replay.{IsPlayout}
use Rattle.history_replay.proofs.Printable.{IsPrintable, IsPrintableInBatch}
use Rattle.history_replay.specs.ReplayOutput.{event_output, waiting_output}
use Rattle.history_replay.proofs.Events.{At-begin, At-command, At-commit, IsClosed, all_wait, batch_says, closed-command, closed-commit, command_line_asked, command_line_spoken, command_line_untold, command_says, open-begin}
use Rattle.history_replay.proofs.Lines.{tick_says}
use Rattle.history_replay.proofs.Playing.{At, At-full_lines, At-ticks, ticks_output-add}

-- the run goes on after these lines, and no batch is open
pub record AtRest (playout : Playout) (before : List PlayedLine) (events : List Event) (output : List ℕ) : Type 0 where
  pub at : At playout before events output
  pub closed : IsClosed playout before

-- lines of ticks open no batch
closed-ticks : (playout : Playout) (before : List PlayedLine) (count : ℕ) → IsClosed playout before → IsClosed playout (before ++ with_memory (Ticks count) ∷ [])
closed-ticks playout before count h = record {
  each = λ tag. ap is_open (same_asks playout tag before (with_memory (Ticks count)) refl) ∙ h.each tag;
}

closed-full_lines : (playout : Playout) (before : List PlayedLine) (most times : ℕ) → IsClosed playout before
    → IsClosed playout (before ++ map with_memory (replicate times (Ticks most)))
closed-full_lines playout before most zero h = rw (append-nil before) h
closed-full_lines playout before most (suc times) h =
    rw (← append_assoc before (with_memory (Ticks most) ∷ []) (map with_memory (replicate times (Ticks most))))
    (closed-full_lines playout (before ++ with_memory (Ticks most) ∷ []) most times (closed-ticks playout before most h))

-- ticks in full lines and a last one
Rest-lines : (playout : Playout) (before : List PlayedLine) (events : List Event) (output : List ℕ) (most times last count : ℕ) → times * most + last ≡ count
    → AtRest playout before events output
    → AtRest playout (before ++ map with_memory (replicate times (Ticks most) ++ Ticks last ∷ [])) (events ++ replicate count event.Tick)
    (output ++ ticks_output playout events count)
Rest-lines playout before events output most times last count is h =
    let full = map with_memory (replicate times (Ticks most)) in
    rw (
      map-append with_memory (replicate times (Ticks most)) (Ticks last ∷ []),
      ← is,
      ← replicate-append-replicate (times * most) last event.Tick,
      ticks_output-add playout events (times * most) last,
      ← append_assoc events (replicate (times * most) event.Tick) (replicate last event.Tick),
      ← append_assoc output (ticks_output playout events (times * most)) (ticks_output playout (events ++ replicate (times * most) event.Tick) last),
      ← append_assoc before full (with_memory (Ticks last) ∷ []),
    )
    (record {
      at = At-ticks playout (before ++ full) (events ++ replicate (times * most) event.Tick) (output ++ ticks_output playout events (times * most)) last
          (At-full_lines playout before events output most times h.at);
      closed = closed-ticks playout (before ++ full) last (closed-full_lines playout before most times h.closed);
    })

pub Rest-ticks : (playout : Playout) (before : List PlayedLine) (events : List Event) (output : List ℕ) (count : ℕ) → AtRest playout before events output
    → AtRest playout (before ++ map with_memory (tick_says count)) (events ++ replicate count event.Tick) (output ++ ticks_output playout events count)
unfolding tick_says ticks_output
Rest-ticks playout before events output zero h = rw (append-nil before, append-nil events, append-nil output) h
Rest-ticks playout before events output (suc rest) h =
    Rest-lines playout before events output MAX_TICKS_PER_LINE (rest / MAX_TICKS_PER_LINE) (rest % MAX_TICKS_PER_LINE + 1) (suc rest)
    (omega (arith, div-add-mod rest MAX_TICKS_PER_LINE)) h

-- a command
pub Rest-command : (playout : Playout) (known : IsPlayout playout) (before : List PlayedLine) (events : List Event) (output : List ℕ) (tag : Tag) (cmd : Cmd)
    → IsPrintable playout cmd → is_full playout events 1 ≡ false → AtRest playout before events output
    → AtRest playout (before ++ with_memory (command_says playout.names tag cmd) ∷ []) (events ++ event.Do tag cmd ∷ [])
    (output ++ event_output playout events (event.Do tag cmd))
Rest-command playout known before events output tag cmd asked room h =
    let text = encode_utf8_all (command_text playout.names cmd) in
    let one = (command_line_spoken playout known cmd asked).one in
    let untold = command_line_untold playout known cmd asked in
    let meant = command_line_asked playout known cmd asked in
    record {
      at = At-command playout before events output h.at tag text cmd one untold meant room h.closed;
      closed = closed-command playout before events output h.at tag text cmd one meant h.closed;
    }

-- a batch
pub Rest-batch : (playout : Playout) (known : IsPlayout playout) (before : List PlayedLine) (events : List Event) (output : List ℕ) (tag : Tag) (cmds : List Cmd)
    → 0 < length cmds → length cmds ≤ MAX_BATCH_COMMANDS → All (IsPrintableInBatch playout) cmds → is_full playout events (length cmds) ≡ false
    → AtRest playout before events output
    → AtRest playout (before ++ map with_memory (batch_says playout.names tag cmds)) (events ++ event.Batch tag cmds ∷ [])
    (output ++ event_output playout events (event.Batch tag cmds))
unfolding event_output
Rest-batch playout known before events output tag cmds some few each room h =
    let begin = with_memory (Said tag (codes "BEGIN")) in
    let commit = with_memory (Said tag (codes "COMMIT")) in
    let lines = map (command_says playout.names tag) cmds in
    let opened = reply_output playout tag (Some (reply.Done name.Begin)) in
    let waited = flat_map (waiting_output playout tag) cmds in
    let closing = reply_output playout tag (Some (answer_reply name.Commit (outcome_of (is_refused events (event.Batch tag cmds))))) in
    let w = all_wait playout known (before ++ begin ∷ []) events (output ++ opened) tag [] cmds each (omega (arith, few))
    (record { at = At-begin playout before events output h.at tag h.closed; inside = open-begin playout before events output h.at tag h.closed }) in
    rw (
      map-append with_memory lines (Said tag (codes "COMMIT") ∷ []),
      ← append_assoc before (begin ∷ []) (map with_memory lines ++ commit ∷ []),
      ← append_assoc (before ++ begin ∷ []) (map with_memory lines) (commit ∷ []),
      ← append_assoc output (opened ++ waited) closing,
      ← append_assoc output opened waited,
    )
    (record {
      at = At-commit playout ((before ++ begin ∷ []) ++ map with_memory lines) events ((output ++ opened) ++ waited) w.at tag cmds some room w.inside;
      closed = closed-commit playout ((before ++ begin ∷ []) ++ map with_memory lines) events ((output ++ opened) ++ waited) w.at tag cmds w.inside;
    })
