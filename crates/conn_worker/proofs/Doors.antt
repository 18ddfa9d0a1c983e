-- The work at a door, turn by turn.
use Rattle.std.proofs.Common.{◌≡◌, ℕ, ◌+◌, ◌-◌, ◌<◌, ◌≤◌, List, [], ◌∷◌, ◌++◌, refl, sym, ap, subst, ◌∙◌, arith, inl, inr}
use Rattle.conn_worker.specs.declared.work_end.TheConstants.{MAX_SESSIONS}
use Rattle.std.specs.Prelude.{Some, None, Result, Ok, Err}
use Rattle.std.proofs.lemmas.List.Sums.{sum_by-cons, sum_by_push}
use Rattle.play_types.specs.History.{stop_at}
use Rattle.play_types.specs.declared.event.Event.{Event}
use Rattle.play_types.specs.declared.event.Event.TheVariants.{Stop}
use Rattle.play_outside.specs.SinkState.{SinkState}
use Rattle.play_outside.specs.Fresh.{IsNewSink}
use Rattle.play_outside.specs.ListenerState.{ListenerState, after_came, after_give_back, after_listener_fault, after_none_came}
use Rattle.stage_core.specs.declared.fault.Ended.{Ended as Refusal}
use Rattle.stage_lock.specs.Views.{PassView}
use Rattle.stage_lock.specs.Calls.{Adds, IsStopped, Looks, stop_tag}
use Rattle.std.specs.Prelude.{MatchResult}
use Rattle.conn_worker.specs.Explained.{IsExplained}
use Rattle.conn_worker.specs.Work.{AtDoor, Came, FindsEnd, GoesOnAfter, IsServed, LooksOn, NoneYet, Setting, StopsAfter, Takes, TakesAll, Turn, LinkRun, links_come, number_came, service_of}
use Rattle.conn_worker.specs.inner.Door.{GivesBack, LooksAtStage, PassesOn, TakesTurn}
use Rattle.conn_worker.specs.declared.link_end.LinkEnd.{LinkEnd}
use Rattle.conn_worker.specs.declared.link_end.LinkEnd.TheVariants as ends
use Rattle.conn_worker.specs.declared.work_end.WorkEnd.{WorkEnd}
use Rattle.conn_worker.specs.declared.work_end.WorkEnd.TheVariants.{Closed, Ended, DoorFault, SessionsOver}

-- the serving of a link was not ended by a stop of another call
abbrev pub IsUnstopped : LinkEnd → Type 0
IsUnstopped ends.Over = Unit {0}
IsUnstopped ends.Killed = Unit {0}
IsUnstopped ends.LinkFault = Unit {0}
IsUnstopped (ends.Ended at) = ⊥

-- a check of the stage keeps the number of the pass, which has seen no stop
looks_number : (before after : PassView) → LooksOn before after → after.number ≡ before.number
looks_number before after looks = ap (λ (p : PassView). p.number) looks.after

looks_running : (before after : PassView) → LooksOn before after → stop_at after.seen ≡ None
looks_running before after looks = ap (λ (p : PassView). stop_at p.seen) looks.after ∙ sym looks.told

-- if the work goes on after a link, a check of the stage found no stop
goes_on_looks : (end : LinkEnd) (before after : PassView) → GoesOnAfter end before after → LooksOn before after
goes_on_looks ends.Over before after looks = looks
goes_on_looks ends.Killed before after looks = looks
goes_on_looks ends.LinkFault before after looks = looks
goes_on_looks (ends.Ended at) before after none = absurd none

-- a check of the stage after such a link found no stop, or one
looked_on : (end : LinkEnd) (before after : PassView) → IsUnstopped end → LooksOn before after → GoesOnAfter end before after
looked_on ends.Over before after other looks = looks
looked_on ends.Killed before after other looks = looks
looked_on ends.LinkFault before after other looks = looks
looked_on (ends.Ended at) before after other looks = absurd other

looked_ended : (given : List Event) (at : ℕ) (end : LinkEnd) (before after : PassView) → IsUnstopped end → FindsEnd given at before after → StopsAfter given at end before after
looked_ended given at ends.Over before after other looks = looks
looked_ended given at ends.Killed before after other looks = looks
looked_ended given at ends.LinkFault before after other looks = looks
looked_ended given at (ends.Ended position) before after other looks = absurd other

module _ {L : Type 0} where
  -- after a turn the pass has its number, and no more links are away than before
  pub takes_number : (setting : Setting L) (number : ℕ) (turn : Turn L) (before after : AtDoor L) → Takes setting number turn before after → after.pass.number ≡ before.pass.number
  takes_number setting number (Came link_run) before after takes = looks_number link_run.pass after.pass (goes_on_looks link_run.end link_run.pass after.pass takes.1) ∙ takes.0.explained.made.number
  takes_number setting number NoneYet before after takes = looks_number before.pass after.pass takes.0

  pub takes_away : (setting : Setting L) (number : ℕ) (turn : Turn L) (before after : AtDoor L) → Takes setting number turn before after → after.door.away ≡ before.door.away
  takes_away setting number (Came link_run) before after takes =
      let same : (before.door.away + 1) - 1 ≡ before.door.away = omega arith in
      ap (λ (d : ListenerState L). d.away) takes.0.door ∙ same
  takes_away setting number NoneYet before after takes = ap (λ (d : ListenerState L). d.away) takes.1

  -- one turn more
  pub takes_more : (setting : Setting L) (number : ℕ) (turns : List (Turn L)) (turn : Turn L) (before between after : AtDoor L)
      → TakesAll setting number turns before between → Takes setting (number + number_came turns) turn between after
      → TakesAll setting number (turns ++ turn ∷ []) before after
  takes_more setting number [] turn before between after same takes =
      let first : number + number_came {L = L} [] ≡ number = omega arith in (
        after,
        (subst (λ (a : AtDoor L). Takes setting number turn a after) same (subst (λ (n : ℕ). Takes setting n turn between after) first takes), refl),
      )
  takes_more setting number (one ∷ turns) turn before between after (middle, (first, rest)) takes =
      let counted : number + number_came (one ∷ turns) ≡ (number + links_come one) + number_came turns = omega (arith, sum_by-cons links_come one turns) in (
        middle,
        (first, takes_more setting (number + links_come one) turns turn middle between after rest (subst (λ (n : ℕ). Takes setting n turn between after) counted takes)),
      )

  pub number_came-more : (turns : List (Turn L)) (turn : Turn L) → number_came (turns ++ turn ∷ []) ≡ number_came turns + links_come turn
  number_came-more turns turn = sum_by_push links_come turns turn

  -- a link was served between these moments
  served_at : (setting : Setting L) (served : ℕ) (came : SinkState) (result : Result (Unit {0}) WorkEnd) (before middle after : AtDoor L)
      → stop_at before.pass.seen ≡ None → IsNewSink came → middle.pass ≡ before.pass → middle.door ≡ after_came before.door
      → (gives : GivesBack setting (served + 1) came result (middle, after))
      → IsServed setting (served + 1) gives.link_run before after
  served_at setting served came result before middle after running new same door gives = record {
    running = running;
    new = subst IsNewSink (sym gives.came_is) new;
    explained = subst (λ (p : PassView). IsExplained (service_of setting (served + 1)) gives.link_run.end
        (record { pass = p; link = gives.link_run.came }) (record { pass = gives.link_run.pass; link = setting.tells gives.link_run.line })) same gives.explained;
    door = gives.door ∙ ap (λ (d : ListenerState L). after_give_back d gives.link_run.line) door;
  }

  -- a link came and was given back, and the work goes on
  pub turn_served : (setting : Setting L) (served : ℕ) (came : SinkState) (done : Unit {0}) (before middle after : AtDoor L)
      → stop_at before.pass.seen ≡ None → IsNewSink came → middle.pass ≡ before.pass → middle.door ≡ after_came before.door
      → GivesBack setting (served + 1) came (Ok done) (middle, after)
      → TakesTurn setting served (Ok (served + 1)) before after
  turn_served setting served came done before middle after running new same door gives =
      let is : IsServed setting (served + 1) gives.link_run before after = served_at setting served came (Ok done) before middle after running new same door gives in
      (Came gives.link_run, ((is, gives.pass), (refl, looks_running gives.link_run.pass after.pass (goes_on_looks gives.link_run.end gives.link_run.pass after.pass gives.pass))))

  -- a link came and was given back, and the history holds a stop
  pub turn_stopped : (setting : Setting L) (served : ℕ) (came : SinkState) (end : WorkEnd) (before middle after : AtDoor L)
      → stop_at before.pass.seen ≡ None → IsNewSink came → middle.pass ≡ before.pass → middle.door ≡ after_came before.door
      → GivesBack setting (served + 1) came (Err end) (middle, after) → served < MAX_SESSIONS
      → TakesTurn setting served (Err end) before after
  turn_stopped setting served came Closed before middle after running new same door gives few = absurd gives.pass
  turn_stopped setting served came (Ended at) before middle after running new same door gives few =
      let is : IsServed setting (served + 1) gives.link_run before after = served_at setting served came (Err (Ended at)) before middle after running new same door gives in
      let number : served + 1 ≡ 1 + served = omega arith in
      inr (omega (arith, few), (gives.link_run, (subst (λ (n : ℕ). IsServed setting n gives.link_run before after) number is, gives.pass)))
  turn_stopped setting served came DoorFault before middle after running new same door gives few = absurd gives.pass
  turn_stopped setting served came SessionsOver before middle after running new same door gives few = absurd gives.pass

  -- the door had no link yet
  pub turn_waited : (setting : Setting L) (served : ℕ) (done : Unit {0}) (before after : AtDoor L) → LooksAtStage setting.given (Ok done) before.pass after.pass
      → after.door ≡ after_none_came before.door → TakesTurn setting served (Ok served) before after
  turn_waited setting served done before after looks door =
      let same : served ≡ served + 0 = omega arith in
      (NoneYet, ((looks, door), (same, looks_running before.pass after.pass looks)))

  pub turn_ended : (setting : Setting L) (served : ℕ) (end : WorkEnd) (before after : AtDoor L) → LooksAtStage setting.given (Err end) before.pass after.pass
      → after.door ≡ after_none_came before.door → TakesTurn setting served (Err end) before after
  turn_ended setting served Closed before after looks door = absurd looks
  turn_ended setting served (Ended at) before after looks door = inl (looks, door)
  turn_ended setting served DoorFault before after looks door = absurd looks
  turn_ended setting served SessionsOver before after looks door = absurd looks

  -- the door failed
  pub turn_failed : (setting : Setting L) (served : ℕ) (before after : AtDoor L) (result : Result ℕ Refusal) → stop_at before.pass.seen ≡ None
      → MatchResult result
      (λ at. Adds before.pass (Stop (stop_tag before.pass.number 0)) (IsStopped setting.given at) after.pass)
      (λ refusal. Looks before.pass (λ history. stop_at (setting.given ++ history) ≡ Some refusal.at) after.pass)
      → after.door ≡ after_listener_fault before.door → TakesTurn setting served (Err DoorFault) before after
  turn_failed setting served before after (Ok at) running adds door = record { running = running; door = door; stops = inl (at, adds) }
  turn_failed setting served before after (Err refusal) running looks door = record { running = running; door = door; stops = inr (refusal.at, looks) }

  -- the stage was checked after a link that no stop of another call ended
  pub looked_after_link : (given : List Event) (result : Result (Unit {0}) WorkEnd) (link_run : LinkRun L) (after : PassView) → IsUnstopped link_run.end
      → LooksAtStage given result link_run.pass after → PassesOn given result link_run after
  looked_after_link given (Ok done) link_run after other looks = looked_on link_run.end link_run.pass after other looks
  looked_after_link given (Err Closed) link_run after other looks = absurd looks
  looked_after_link given (Err (Ended at)) link_run after other looks = looked_ended given at link_run.end link_run.pass after other looks
  looked_after_link given (Err DoorFault) link_run after other looks = absurd looks
  looked_after_link given (Err SessionsOver) link_run after other looks = absurd looks

  one_at_most : (turn : Turn L) → links_come turn ≤ 1
  one_at_most (Came link_run) = omega arith
  one_at_most NoneYet = omega arith

  -- there is a number for each link that comes
  pub few_sessions : (turn : Turn L) (served came : ℕ) → served ≤ MAX_SESSIONS → (served ≡ MAX_SESSIONS → ⊥) → came ≡ served + links_come turn → came ≤ MAX_SESSIONS
  few_sessions turn served came few other is = omega (arith, few, other, is, one_at_most turn)
