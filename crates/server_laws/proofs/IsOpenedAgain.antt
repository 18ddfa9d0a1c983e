-- Before the reply to a COMMIT a replay writes the replies that the client had since BEGIN.
use Rattle.std.proofs.Common.{◌≡◌, ℕ, Bool, List, [], ◌∷◌, ◌++◌, length, refl, sym, ap, subst, ◌∙◌, append-nil}
use Rattle.std.specs.Prelude.{Some, flat_map}
use Rattle.std.proofs.lemmas.List.{map-append}
use mathlib.Core.List.{IsPrefix}
use Rattle.play_types.specs.declared.command.Cmd.{Cmd}
use Rattle.play_types.specs.declared.event.Event.{Event}
use Rattle.play_types.specs.declared.event.Event.TheVariants.{Batch, Do, Stop}
use Rattle.play_types.specs.declared.event.Tag.{Tag}
use Rattle.clip_format.specs.Table.{media_names}
use Rattle.history_model.specs.scripts.History.{JournalFull, OutOfMemory, Playout, Taken, Verdict, step_events, verdict, verdict_events}
use Rattle.history_model.specs.sessions.Session.{Step, Local, Ask, AskBatch, KillServer, EndConnection, Skip}
use Rattle.history_replay.proofs.Opened.{local}
use Rattle.history_replay.proofs.Openings.{told_before}
use Rattle.conn_worker.specs.Followed.{Followed, Service, events_of, given_up_of, steps_in, steps_of, turn_of}
use Rattle.server_laws.specs.Replay.{IsOpenedAgain, opening_output}
use Rattle.server_run.specs.Run.{Program, playout_of}
use Rattle.server_run.proofs.Reverse.{heads, tails}

-- steps in two parts, followed
record CutAt (steps : List Followed) (front back : List Step) : Type 0 where
  earlier : List Followed
  since : List Followed
  whole : steps ≡ earlier ++ since
  since_is : steps_in since ≡ back

cut_at : (steps : List Followed) (front back : List Step) → steps_in steps ≡ front ++ back → CutAt steps front back
cut_at steps [] back is = record { earlier = []; since = steps; whole = refl; since_is = is }
cut_at [] (step ∷ front) back is = absurd cc
cut_at (one ∷ steps) (step ∷ front) back is =
    let rest = cut_at steps front back (tails one.step step (steps_in steps) (front ++ back) is) in
    record { earlier = one ∷ rest.earlier; since = rest.since; whole = ap (λ (l : List Followed). one ∷ l) rest.whole; since_is = rest.since_is }

module _ (program : Program) (digests : Bool) (tag : Tag) where
  abbrev playout : Playout
  playout = playout_of program digests

  abbrev service : Service
  service = record { config = program.config; names = media_names program.media; tag = tag; given = program.given }

  told : (steps : List Followed) → flat_map (λ (one : Followed). local playout tag one.step) steps ≡ flat_map (local playout tag) (steps_in steps)
  told [] = refl
  told (one ∷ steps) = ap (λ (text : List ℕ). local playout tag one.step ++ text) (told steps)

  -- before a batch
  opened_batch : (followed before later : List Followed) (one : Followed) (found : List Cmd) (bytes : List ℕ)
      → IsPrefix (steps_in followed) (steps_of service followed bytes) → followed ≡ before ++ one ∷ later → one.step ≡ AskBatch found
      → IsOpenedAgain playout service before (Batch tag found)
  opened_batch followed before later one found bytes given whole asks =
      let parts : steps_in followed ≡ steps_in before ++ AskBatch found ∷ steps_in later =
      ap steps_in whole ∙ map-append (λ (f : Followed). f.step) before (one ∷ later) ∙ ap (λ (s : Step). steps_in before ++ s ∷ steps_in later) asks in
      let h = told_before playout tag (given_up_of followed) bytes (steps_in before) (steps_in later) found
      (subst (λ (l : List Step). IsPrefix l (steps_of service followed bytes)) parts given) in
      let cut = cut_at before h.earlier h.since h.whole in
      record {
        earlier = cut.earlier;
        since = cut.since;
        whole = cut.whole;
        output = sym h.output
            ∙ ap (flat_map (local playout tag)) (sym cut.since_is) ∙ sym (told cut.since);
      }

  no_opening : (before : List Followed) (event : Event) → opening_output playout event ≡ [] → IsOpenedAgain playout service before event
  no_opening before event none = record { earlier = before; since = []; whole = sym (append-nil before); output = none }

  by_command : (before : List Followed) (command : Cmd) (what : Verdict) (event : Event) → verdict_events (Do tag command) what ≡ event ∷ [] → IsOpenedAgain playout service before event
  by_command before command JournalFull event is = absurd cc
  by_command before command OutOfMemory event is = absurd cc
  by_command before command Taken event is =
      subst (λ (e : Event). IsOpenedAgain playout service before e) (heads (Do tag command) event [] [] is) (no_opening before (Do tag command) refl)

  by_batch : (before : List Followed) (found : List Cmd) (what : Verdict) (event : Event) → verdict_events (Batch tag found) what ≡ event ∷ []
      → IsOpenedAgain playout service before (Batch tag found) → IsOpenedAgain playout service before event
  by_batch before found JournalFull event is h = absurd cc
  by_batch before found OutOfMemory event is h = absurd cc
  by_batch before found Taken event is h = subst (λ (e : Event). IsOpenedAgain playout service before e) (heads (Batch tag found) event [] [] is) h

  pub opened_again : (followed : List Followed) (bytes : List ℕ) → IsPrefix (steps_in followed) (steps_of service followed bytes)
      → (before later : List Followed) (one : Followed) (event : Event) → followed ≡ before ++ one ∷ later → events_of service one ≡ event ∷ []
      → IsOpenedAgain playout service before event
  opened_again followed bytes given before later one event whole makes = by_step one.step refl makes
    where
      by_step : (step : Step) → one.step ≡ step → step_events (turn_of service one) (Some step) ≡ event ∷ [] → IsOpenedAgain playout service before event
      by_step (Local answer) is made = absurd cc
      by_step (Ask command) is made = by_command before command (verdict (turn_of service one) 1) event made
      by_step (AskBatch found) is made =
          by_batch before found (verdict (turn_of service one) (length found)) event made (opened_batch followed before later one found bytes given whole is)
      by_step KillServer is made =
          subst (λ (e : Event). IsOpenedAgain playout service before e) (heads (Stop tag) event [] [] made) (no_opening before (Stop tag) refl)
      by_step EndConnection is made = absurd cc
      by_step Skip is made = absurd cc
