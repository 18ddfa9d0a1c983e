-- A replay writes the replies that the steps of a connection had.
use Rattle.std.proofs.Common.{◌≡◌, ℕ, ◌≤◌, ◌==◌, ◌&&◌, Bool, false, List, [], ◌∷◌, ◌++◌, refl, sym, ap, subst, ◌∙◌, arith, append_assoc, ne_eqb, if◌then◌else◌}
use Rattle.std.specs.Prelude.{All, Option, Some, length}
use Rattle.std.proofs.lemmas.List.Elements.{All-cons, All-nil}
use mathlib.Core.List.{IsPrefix}
use Rattle.play_types.specs.Commands.{answer_reply, command_name}
use Rattle.play_types.specs.ClipFile.{ClipView}
use Rattle.play_types.specs.declared.answer.Answer.{Answer}
use Rattle.play_types.specs.declared.command.Cmd.{Cmd}
use Rattle.play_types.specs.declared.command.Cmd.TheVariants as cmd
use Rattle.play_types.specs.declared.event.Event.{Event}
use Rattle.play_types.specs.declared.event.Event.TheVariants.{Do, Batch, Stop}
use Rattle.play_types.specs.declared.event.Tag.{Tag}
use Rattle.play_types.specs.declared.geometry.Geometry.{Geometry}
use Rattle.play_types.specs.declared.reply.Name.TheVariants as name
use Rattle.play_types.specs.declared.reply.Reply.{Reply}
use Rattle.play_types.specs.declared.reply.Reply.TheVariants as reply
use Rattle.clip_format.specs.Table.{media_names}
use Rattle.stage_lock.specs.Calls.{tag_of}
use Rattle.stage_lock.proofs.Prefixes.{prefix_trans}
use Rattle.history_model.specs.scripts.History.{JournalFull, OutOfMemory, Playout, Taken, Turn, Verdict, same_tag, server, setup_of, step_events, verdict, verdict_events}
use Rattle.history_model.specs.scripts.Output.{reply_output, step_reply, verdict_reply}
use Rattle.history_model.specs.sessions.Session.{Step, Local, Ask, AskBatch, KillServer, EndConnection, Skip}
use Rattle.history_model.specs.stage.Acts.{is_refused}
use Rattle.history_model.specs.stage.Answer.{command_answer, outcome_of}
use Rattle.history_replay.specs.ReplayOutput.{event_output, events_output, history_output}
use Rattle.conn_worker.specs.Explained.{AreInOrder}
use Rattle.conn_worker.specs.Followed.{Followed, Service, events_of, turn_of}
use Rattle.conn_worker.specs.Followed as followed
use Rattle.server_laws.specs.Replay.{IsAnsweredAgain, opening_output}
use Rattle.server_run.specs.Run.{Program, playout_of}
use Rattle.server_run.proofs.Reverse.{heads}
use Rattle.server_laws.proofs.HistoryOutput.{history_output-at}

-- no answer depends on the clips
same_answer : (channels : List Geometry) (clips others : List (Option ClipView)) (before : List Event) (refused : Bool) (command : Cmd)
    → command_answer (record { channels = channels; clips = clips }) before refused command
    ≡ command_answer (record { channels = channels; clips = others }) before refused command
same_answer channels clips others before refused (cmd.Load place take) = refl
same_answer channels clips others before refused (cmd.LoadBg place take) = refl
same_answer channels clips others before refused (cmd.Play place) = refl
same_answer channels clips others before refused (cmd.PlayTake place take) = refl
same_answer channels clips others before refused (cmd.Pause place) = refl
same_answer channels clips others before refused (cmd.Resume place) = refl
same_answer channels clips others before refused (cmd.StopLayer place) = refl
same_answer channels clips others before refused (cmd.ClearLayer place) = refl
same_answer channels clips others before refused (cmd.ClearChannel channel) = refl
same_answer channels clips others before refused (cmd.SwapLayers a b transforms) = refl
same_answer channels clips others before refused (cmd.SwapChannels a b transforms) = refl
same_answer channels clips others before refused (cmd.Set setting) = refl
same_answer channels clips others before refused (cmd.CommitMixer channel) = refl
same_answer channels clips others before refused (cmd.ResetLayer place) = refl
same_answer channels clips others before refused (cmd.ResetChannel channel) = refl
same_answer channels clips others before refused (cmd.AddFile channel recorded) = refl
same_answer channels clips others before refused (cmd.RemoveFile channel) = refl
same_answer channels clips others before refused (cmd.Value place prop) = refl
same_answer channels clips others before refused cmd.Info = refl

-- a worker is not the server itself
pub not_server : (worker session : ℕ) → 1 ≤ worker → same_tag (tag_of worker session) server ≡ false
not_server worker session some = ap (λ (b : Bool). b && (session == 0)) (ne_eqb worker 0 (λ none. omega (arith, some, none)))

module _ (program : Program) (digests : Bool) (tag : Tag) where
  abbrev playout : Playout
  playout = playout_of program digests

  abbrev service : Service
  service = record { config = program.config; names = media_names program.media; tag = tag; given = program.given }

  abbrev turn : List Event → Bool → Turn
  turn before no_memory = record { playout = followed.playout_of service; events = before; tag = tag; no_memory = no_memory }

  -- what is written for an event is its opening and this reply
  abbrev Answers : List Event → Event → Reply → Type 0
  Answers before event told = event_output playout before event ≡ opening_output playout event ++ reply_output playout tag (Some told)

  -- a command
  by_command : (before : List Event) (command : Cmd) (what : Verdict) (event : Event) → verdict_events (Do tag command) what ≡ event ∷ []
      → Answers before event (verdict_reply (command_name command) (command_answer (setup_of (followed.playout_of service)) before (is_refused before (Do tag command)) command) what)
  unfolding event_output
  by_command before command JournalFull event is = absurd cc
  by_command before command OutOfMemory event is = absurd cc
  by_command before command Taken event is =
      let refused = is_refused before (Do tag command) in
      let small = setup_of (followed.playout_of service) in
      let whole = setup_of playout in
      subst (λ (e : Event). Answers before e (answer_reply (command_name command) (command_answer small before refused command))) (heads (Do tag command) event [] [] is)
      (ap (λ (a : Answer). reply_output playout tag (Some (answer_reply (command_name command) a))) (same_answer whole.channels whole.clips small.clips before refused command))

  -- a batch
  by_batch : (before : List Event) (commands : List Cmd) (what : Verdict) (event : Event) → verdict_events (Batch tag commands) what ≡ event ∷ []
      → Answers before event (verdict_reply name.Commit (outcome_of (is_refused before (Batch tag commands))) what)
  unfolding event_output
  by_batch before commands JournalFull event is = absurd cc
  by_batch before commands OutOfMemory event is = absurd cc
  by_batch before commands Taken event is =
      let told = answer_reply name.Commit (outcome_of (is_refused before (Batch tag commands))) in
      subst (λ (e : Event). Answers before e told) (heads (Batch tag commands) event [] [] is) refl

  -- a stop
  by_kill : (before : List Event) (event : Event) → same_tag tag server ≡ false → Stop tag ∷ [] ≡ event ∷ [] → Answers before event (reply.Done name.Kill)
  unfolding event_output
  by_kill before event other is =
      subst (λ (e : Event). Answers before e (reply.Done name.Kill)) (heads (Stop tag) event [] [] is)
      (ap (λ (b : Bool). if b then [] else reply_output playout tag (Some (reply.Done name.Kill))) other)

  -- any step that makes an event
  by_step : (before : List Event) (no_memory : Bool) (step : Step) (event : Event) → same_tag tag server ≡ false → step_events (turn before no_memory) (Some step) ≡ event ∷ []
      → event_output playout before event ≡ opening_output playout event ++ reply_output playout tag (step_reply (turn before no_memory) (Some step))
  by_step before no_memory (Local told) event other is = absurd cc
  by_step before no_memory (Ask command) event other is = by_command before command (verdict (turn before no_memory) 1) event is
  by_step before no_memory (AskBatch commands) event other is = by_batch before commands (verdict (turn before no_memory) (length commands)) event is
  by_step before no_memory KillServer event other is = by_kill before event other is
  by_step before no_memory EndConnection event other is = absurd cc
  by_step before no_memory Skip event other is = absurd cc

  answered : (came : List Event) (one : Followed) (event : Event) → same_tag tag server ≡ false → IsPrefix (one.found ++ events_of service one) came
      → events_of service one ≡ event ∷ [] → IsAnsweredAgain playout service (program.given ++ came) one event
  answered came one event other grows makes =
      let later = grows.0 in
      let before : List Event = program.given ++ one.found in
      let parts : came ≡ one.found ++ event ∷ later =
      sym grows.1 ∙ ap (λ (es : List Event). (one.found ++ es) ++ later) makes ∙ append_assoc one.found (event ∷ []) later in
      let whole : program.given ++ came ≡ before ++ event ∷ later =
      ap (λ (es : List Event). program.given ++ es) parts ∙ sym (append_assoc program.given one.found (event ∷ later)) in
      record {
        later = later;
        whole = whole;
        output = ap (history_output playout) whole ∙ history_output-at playout before event later
            ∙ ap (λ (text : List ℕ). history_output playout before ++ text ++ events_output playout (before ++ event ∷ []) later)
            (by_step before one.no_memory one.step event other makes);
      }

  -- steps in order found parts of the history
  in_order : (seen : List Event) (steps : List Followed) (history : List Event) → AreInOrder service seen steps history → IsPrefix seen history
  in_order seen [] history order = order
  in_order seen (one ∷ more) history order =
      let made = one.found ++ events_of service one in
      prefix_trans seen one.found history order.0 (prefix_trans one.found made history (events_of service one, refl) (in_order made more history order.1))

  pub all_answered : (history seen : List Event) (steps : List Followed) → same_tag tag server ≡ false → AreInOrder service seen steps history
      → All (λ one. (event : Event) → events_of service one ≡ event ∷ [] → IsAnsweredAgain playout service (program.given ++ history) one event) steps
  all_answered history seen [] other order = All-nil (λ one. (event : Event) → events_of service one ≡ event ∷ [] → IsAnsweredAgain playout service (program.given ++ history) one event)
  all_answered history seen (one ∷ more) other order =
      let made = one.found ++ events_of service one in
      All-cons (λ one. (event : Event) → events_of service one ≡ event ∷ [] → IsAnsweredAgain playout service (program.given ++ history) one event) one more
      (λ event makes. answered history one event other (in_order made more history order.1) makes)
      (all_answered history made more other order.1)
