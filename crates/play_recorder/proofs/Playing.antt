-- The events of a history are played one after another.
use Rattle.std.proofs.Common.{◌≡◌, ℕ, ◌+◌, ◌<◌, ◌≤◌, true, List, [], ◌∷◌, ◌++◌, length, refl, sym, ap, ◌∙◌, subst, append_assoc, append-nil, arith}
use Rattle.std.specs.Prelude.{Err, IfErr, None, Ok, OnOk, Result, Some}
use Rattle.std.specs.Result.{is_ok}
use Rattle.std.proofs.lemmas.Option.{none-some}
use Rattle.play_types.specs.Config.{ConfigView}
use Rattle.play_types.specs.History.{IsHistory, held, held_by, stop_at, ticks}
use Rattle.play_types.specs.declared.command.Cmd.{Cmd}
use Rattle.play_types.specs.declared.event.Tag.{Tag}
use Rattle.play_types.specs.declared.event.Event.{Event}
use Rattle.play_types.specs.declared.event.Event.TheVariants.{Do, Batch, Tick, Stop}
use Rattle.play_types.specs.declared.event.TheConstants.{MAX_TICKS}
use Rattle.play_types.proofs.Histories.{IsHistory-front, held-append, stop_at-other, ticks-append}
use Rattle.play_journal.specs.Journal.{IsJournal, JournalView}
use Rattle.stage_core.specs.Stage.{IsNoTick, StageView, after_event}
use Rattle.stage_core.specs.declared.fault.Ended.{Ended}
use Rattle.stage_core.specs.declared.fault.TickFault.{TickFault}
use Rattle.stage_core.specs.declared.fault.TickFault.TheVariants as tick
use Rattle.play_recorder.specs.Recording.{AreServedEvents, IsServedEvent}
use Rattle.play_recorder.specs.inner.Replay.{CanPlay, new_stage}

-- what a result promises for `Ok` holds if it is `Ok`
pub from_ok : {T E A : Type 0} (result : Result T E) (value : T) → result ≡ Ok value → OnOk result A → A
from_ok (Ok other) value is holds = holds
from_ok (Err fault) value is holds = cc

-- a tick is taken if the history has no stop and may have more ticks
pub tick_taken : (stage : StageView) (result : Result ℕ TickFault) → IfErr result (λ fault. IsNoTick stage.journal fault)
    → stop_at stage.journal.events ≡ None → ticks stage.journal.events < MAX_TICKS → is_ok result ≡ true
tick_taken stage (Ok number) cause running time = refl
tick_taken stage (Err (tick.Ended at)) cause running time = absurd (none-some at (sym running ∙ cause))
tick_taken stage (Err tick.TicksOver) cause running time = absurd (let many = cause.1 in omega (arith, many, time))

-- a stop is taken if the history has none
pub stop_taken : (events : List Event) (result : Result ℕ Ended) → IfErr result (λ ended. stop_at events ≡ Some ended.at) → stop_at events ≡ None → is_ok result ≡ true
stop_taken events (Ok number) cause running = refl
stop_taken events (Err ended) cause running = absurd (none-some ended.at (sym running ∙ cause))

-- nothing follows a stop: the events before another one have none
pub running_before : (past : List Event) (event : Event) → IsHistory (past ++ event ∷ []) → stop_at past ≡ None
running_before [] event h = refl
running_before (Do tag cmd ∷ past) event h = stop_at-other (Do tag cmd) past refl ∙ rw (running_before past event h) refl
running_before (Batch tag cmds ∷ past) event h = stop_at-other (Batch tag cmds) past refl ∙ rw (running_before past event h.1) refl
running_before (Tick ∷ past) event h = stop_at-other Tick past refl ∙ rw (running_before past event h) refl
running_before (Stop tag ∷ []) event h = cc
running_before (Stop tag ∷ one ∷ past) event h = cc

-- and no batch is empty
pub batch_filled : (past : List Event) (tag : Tag) (cmds : List Cmd) → IsHistory (past ++ Batch tag cmds ∷ []) → 0 < length cmds
batch_filled [] tag cmds h = h.0
batch_filled (Do own cmd ∷ past) tag cmds h = batch_filled past tag cmds h
batch_filled (Batch own some ∷ past) tag cmds h = batch_filled past tag cmds h.1
batch_filled (Tick ∷ past) tag cmds h = batch_filled past tag cmds h
batch_filled (Stop own ∷ []) tag cmds h = cc
batch_filled (Stop own ∷ one ∷ past) tag cmds h = cc

served_front : (n : ℕ) (xs ys : List Event) → AreServedEvents n (xs ++ ys) → AreServedEvents n xs
served_front n [] ys h = tt
served_front n (x ∷ xs) ys h = (h.0, served_front n xs ys h.1)

served_last : (n : ℕ) (xs : List Event) (event : Event) → AreServedEvents n (xs ++ event ∷ []) → IsServedEvent n event
served_last n [] event h = h.0
served_last n (x ∷ xs) event h = served_last n xs event h.1

-- what holds for the next event of a stage
module _ (stage : StageView) (event : Event) (can : CanPlay stage (stage.journal.events ++ event ∷ [])) where
  pub next_running : stop_at stage.journal.events ≡ None
  next_running = running_before stage.journal.events event can.history

  pub next_served : IsServedEvent stage.channels event
  next_served = served_last stage.channels stage.journal.events event can.served

  pub next_room : held stage.journal.events + held_by event ≤ stage.journal.limit
  next_room = let room = can.room in let parts = held-append stage.journal.events (event ∷ []) in omega (arith, room, parts)

  pub next_time : ticks stage.journal.events + ticks (event ∷ []) ≤ MAX_TICKS
  next_time = let time = can.time in let parts = ticks-append stage.journal.events (event ∷ []) in omega (arith, time, parts)

  pub tick_time : event ≡ Tick → ticks stage.journal.events < MAX_TICKS
  tick_time is = let time = next_time in let one = ap (λ (e : Event). ticks (e ∷ [])) is in omega (arith, time, one)

-- the events of a journal can be played on the stage of a configuration
pub can_play : (config : ConfigView) (journal : JournalView) → IsJournal journal → AreServedEvents (length config.channels) journal.events
    → held journal.events ≤ config.journal_limit → CanPlay (new_stage config) journal.events
can_play config journal is served room = record { history = is.history; served = served; room = room; time = is.ticks }

-- if a history can be played, so can its first part
can_front : (stage : StageView) (xs ys : List Event) → CanPlay stage (xs ++ ys) → CanPlay stage xs
can_front stage xs ys can =
    let room = can.room in
    let time = can.time in
    let held_parts = held-append xs ys in
    let tick_parts = ticks-append xs ys in
    record {
      history = IsHistory-front xs ys can.history;
      served = served_front stage.channels xs ys can.served;
      room = omega (arith, room, held_parts);
      time = omega (arith, time, tick_parts);
    }

-- the events before the ones that are left were played
pub record IsPlayedTo (first : StageView) (events : List Event) (now : StageView) (left : List Event) : Type 0 where
  pub channels : now.channels ≡ first.channels
  pub limit : now.journal.limit ≡ first.journal.limit
  pub whole : now.journal.events ++ left ≡ events

pub none_played : (first : StageView) (events left : List Event) → first.journal.events ≡ [] → left ≡ events → IsPlayedTo first events first left
none_played first events left empty is = record { channels = refl; limit = refl; whole = ap (λ (past : List Event). past ++ left) empty ∙ is }

module _ (first : StageView) (events : List Event) (now : StageView) (event : Event) (left : List Event) (played : IsPlayedTo first events now (event ∷ left)) where
  whole_here : (now.journal.events ++ event ∷ []) ++ left ≡ events
  whole_here = append_assoc now.journal.events (event ∷ []) left ∙ played.whole

  -- the next event can be played
  pub next_can : CanPlay first events → CanPlay now (now.journal.events ++ event ∷ [])
  next_can can =
      let part : CanPlay first (now.journal.events ++ event ∷ []) =
      can_front first (now.journal.events ++ event ∷ []) left (subst (CanPlay first) (sym whole_here) can) in
      record {
        history = part.history;
        served = subst (λ (n : ℕ). AreServedEvents n (now.journal.events ++ event ∷ [])) (sym played.channels) part.served;
        room = subst (λ (n : ℕ). held (now.journal.events ++ event ∷ []) ≤ n) (sym played.limit) part.room;
        time = part.time;
      }

  -- and the rest is left after it
  pub one_played : (new : StageView) → new ≡ after_event event now → IsPlayedTo first events new left
  one_played new made = record {
    channels = ap (λ (s : StageView). s.channels) made ∙ played.channels;
    limit = ap (λ (s : StageView). s.journal.limit) made ∙ played.limit;
    whole = ap (λ (s : StageView). s.journal.events ++ left) made ∙ whole_here;
  }

pub all_played : (first : StageView) (events : List Event) (now : StageView) → IsPlayedTo first events now [] → now.journal.events ≡ events
all_played first events now played = sym (append-nil now.journal.events) ∙ played.whole
