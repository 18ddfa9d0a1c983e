-- The line of a stop ends the run.
use Rattle.std.proofs.Common.{◌≡◌, ℕ, ◌==◌, Bool, true, false, cond, ◌&&◌, ◌⊎◌, inl, inr, List, [], ◌∷◌, ◌++◌, refl, sym, ap, ◌∙◌, subst, arith, append_assoc, append-nil, if◌then◌else◌}
use Rattle.std.specs.Prelude.{Some, codes}
use Rattle.std.proofs.lemmas.Bool.{false≢true, ne_eqb}
use Rattle.play_types.specs.declared.event.Event.{Event}
use Rattle.play_types.specs.declared.event.Event.TheVariants as event
use Rattle.play_types.specs.declared.event.Tag.{Tag}
use Rattle.play_types.specs.declared.parsed.Parsed.TheVariants.{Kill}
use Rattle.play_types.specs.declared.reply.Name.TheVariants as name
use Rattle.play_types.specs.declared.reply.Reply.TheVariants as reply
use Rattle.history_model.specs.sessions.Session.{KillServer}
use Rattle.history_model.specs.scripts.Line.{ScriptLine, Said}
use Rattle.history_model.specs.scripts.Line as line
use Rattle.history_model.specs.scripts.History.{Playout, PlayedLine, ends_at, goes_on, goes_on_after, is_kill, same_tag, script_events, server, step_events, turn_of}
use Rattle.history_model.specs.scripts.Output.{answer_output, reply_output, script_output, step_reply}
use Rattle.history_model.specs.text.History.{stop_line}
use Rattle.history_model.proofs.Outputs.{script_events-snoc, script_output-snoc}
use Rattle.history_model.specs.scripts.Memory.{with_memory}
use Rattle.history_replay.specs.Replay.{IsConnection}
use Rattle.history_replay.specs.ReplayOutput.{event_output}
use Rattle.history_replay.proofs.Events.{step_closed}
use Rattle.history_replay.proofs.Lines.{Says-stop}
use Rattle.history_replay.proofs.Playing.{step_said}
use Rattle.history_replay.proofs.Replaying.{AtRest}
use Rattle.history_replay.proofs.Says.{Says}
use Rattle.history_replay.proofs.Spoken.{kill_asked, kill_spoken, kill_untold}
use Rattle.history_replay.proofs.Tagged.{Says-said}

-- a whole run: what it made and wrote, and whether it goes on
pub record Plays (playout : Playout) (lines : List PlayedLine) (events : List Event) (output : List ℕ) (on : Bool) : Type 0 where
  pub made : script_events playout lines ≡ events
  pub wrote : script_output playout lines ≡ output
  pub goes : goes_on playout lines ≡ on

-- the run does not go on after a line at which it ends
unless_before : (b more : Bool) → cond b false more ≡ true → (b ≡ false) × (more ≡ true)
unless_before true more on = absurd (false≢true on)
unless_before false more on = (refl, on)

ends_after : (playout : Playout) (before lines : List PlayedLine) (line : PlayedLine) → goes_on_after playout before lines ≡ true
    → ends_at playout (before ++ lines) line line.line ≡ true → goes_on_after playout before (lines ++ line ∷ []) ≡ false
unfolding goes_on_after
ends_after playout before [] line on ends =
    ap (λ (b : Bool). cond b false true) (ap (λ ls. ends_at playout ls line line.line) (sym (append-nil before)) ∙ ends)
ends_after playout before (first ∷ lines) line on ends =
    let parts = unless_before (ends_at playout before first first.line) (goes_on_after playout (before ++ first ∷ []) lines) on in
    ap (λ (b : Bool). cond b false (goes_on_after playout (before ++ first ∷ []) (lines ++ line ∷ []))) parts.0
    ∙ ends_after playout (before ++ first ∷ []) lines line parts.1
    (ap (λ ls. ends_at playout ls line line.line) (append_assoc before (first ∷ []) lines) ∙ ends)

goes_on-ends : (playout : Playout) (before : List PlayedLine) (line : PlayedLine) → goes_on playout before ≡ true
    → ends_at playout before line line.line ≡ true → goes_on playout (before ++ line ∷ []) ≡ false
unfolding goes_on
goes_on-ends playout before line on ends = ends_after playout [] before line on ends

-- what the line of a stop says
abbrev pub stop_says : Tag → ScriptLine
stop_says tag = if same_tag tag server then line.Stop else Said tag (codes "KILL")

-- a stop of the server itself, or of a connection
pub is_server : (tag : Tag) → tag ≡ server → same_tag tag server ≡ true
is_server tag is = ap (λ t. same_tag t server) is

pub is_connection : (tag : Tag) → IsConnection tag → same_tag tag server ≡ false
is_connection tag known =
    let some = known.some_worker in
    ap (λ (b : Bool). b && (tag.session == 0)) (ne_eqb tag.worker 0 (λ e. absurd (omega (arith, some, e))))

pub Says-stop_line : (tag : Tag) → (tag ≡ server) ⊎ IsConnection tag → Says (stop_line tag) (stop_says tag ∷ [])
unfolding stop_line
Says-stop_line tag (inl is) = rw (is_server tag is) Says-stop
Says-stop_line tag (inr known) = rw (is_connection tag known) (Says-said tag known (codes "KILL") kill_spoken)

module _ (playout : Playout) (before : List PlayedLine) (events : List Event) (output : List ℕ) (h : AtRest playout before events output) where
  Plays-server : Plays playout (before ++ with_memory line.Stop ∷ []) (events ++ event.Stop server ∷ []) (output ++ []) false
  Plays-server =
      let stop = with_memory line.Stop in
      record {
        made = script_events-snoc playout before stop h.at.goes ∙ ap (λ es. es ++ event.Stop server ∷ []) h.at.made;
        wrote = script_output-snoc playout before stop h.at.goes ∙ ap (λ text. text ++ []) h.at.wrote;
        goes = goes_on-ends playout before stop h.at.goes refl;
      }

  Plays-connection : (tag : Tag)
      → Plays playout (before ++ with_memory (Said tag (codes "KILL")) ∷ []) (events ++ event.Stop tag ∷ [])
      (output ++ reply_output playout tag (Some (reply.Done name.Kill))) false
  Plays-connection tag =
      let kill = with_memory (Said tag (codes "KILL")) in
      let own = step_said playout before events output h.at tag (codes "KILL") KillServer kill_spoken.one
      (step_closed playout tag before (codes "KILL") Kill (kill_asked playout.config playout.names) (h.closed.each tag)) in
      record {
        made = script_events-snoc playout before kill h.at.goes ∙ (λ i. h.at.made i ++ step_events (turn_of playout (h.at.made i) kill tag) (own i));
        wrote =
            script_output-snoc playout before kill h.at.goes
            ∙ (λ i. h.at.wrote i ++ answer_output playout tag (kill_untold i) (step_reply (turn_of playout (h.at.made i) kill tag) (own i)));
        goes = goes_on-ends playout before kill h.at.goes (ap is_kill own);
      }

  -- the run ends at the line
  pub Plays-stop : (tag : Tag) → (tag ≡ server) ⊎ IsConnection tag
      → Plays playout (before ++ with_memory (stop_says tag) ∷ []) (events ++ event.Stop tag ∷ []) (output ++ event_output playout events (event.Stop tag)) false
  unfolding event_output
  Plays-stop tag (inl is) =
      rw (is_server tag is) (subst (λ t. Plays playout (before ++ with_memory line.Stop ∷ []) (events ++ event.Stop t ∷ []) (output ++ []) false) (sym is) Plays-server)
  Plays-stop tag (inr known) = rw (is_connection tag known) (Plays-connection tag)
