-- What a call finds of the history, and what its pass has seen and made after it. The history is what came since the stage was
-- shared. The answers of the stage depend on all events: those that it was given, and then the history.
use Rattle.std.specs.Prelude.{◌≡◌, ℕ, ◌+◌, false, List, [], ◌∷◌, ◌++◌, ◌==◌, ◌||◌, None, nat_lt, if◌then◌else◌, length, map}
use Rattle.std.specs.List.{range_with_len}
use mathlib.Core.List.{IsPrefix}
use Rattle.play_types.specs.History.{held, held_by, stop_at, ticks}
use Rattle.play_types.specs.declared.answer.Answer.{Answer}
use Rattle.play_types.specs.declared.event.Event.{Event}
use Rattle.play_types.specs.declared.event.Tag.{Tag}
use Rattle.play_types.specs.declared.drawn.Drawn.{Drawn}
use Rattle.history_model.specs.pictures.Media.{Setup}
use Rattle.history_model.specs.pictures.Scene.{scene}
use Rattle.history_model.specs.stage.Answer.{StageAnswer, answer}
use Rattle.stage_core.specs.Stage.{HasRoom, HasTime}
use Rattle.stage_lock.specs.declared.ticked.Ticked.{Ticked}
use Rattle.stage_lock.specs.Own.{is_final, is_own, made_by}
use Rattle.stage_lock.specs.Views.{PassView, SharedView, Sizes, journal_of, whole}

-- a pass that was just made: it has seen nothing
abbrev pub new_pass : SharedView → ℕ → PassView
new_pass stage number = record { stage = stage; number = number; seen = []; turns = 0; ends = false; made = [] }

-- the passes of a stage that was just shared, from number 0 on
abbrev pub new_passes : SharedView → List PassView
new_passes stage = map (new_pass stage) (range_with_len 0 stage.sizes.passes)

-- a call may find this history: it begins with what the pass has seen, and the pass's own events in it are those that it made
pub record IsFound (pass : PassView) (history : List Event) : Type 0 where
  pub seen : IsPrefix pass.seen history
  pub made : made_by pass.number history ≡ pass.made
  pub made_seen : made_by pass.number pass.seen ≡ pass.made

-- a pass that has won the turn once more, and found this history
abbrev pub looked : PassView → List Event → PassView
looked pass history = record pass { seen = history; turns = pass.turns + 1 }

-- a pass that has won the turn once more, found this history, and added an event to it
abbrev pub added : PassView → List Event → Event → PassView
added pass history event = record pass {
  seen = history ++ event ∷ [];
  turns = pass.turns + 1;
  made = (if is_own pass.number event then pass.made ++ length history ∷ [] else pass.made);
  ends = pass.ends || is_final event;
}

-- a call won the turn once, found a history with the property IsTold, and left it as it is
pub record Looks (old : PassView) (IsTold : List Event → Type 0) (new : PassView) : Type 0 where
  pub history : List Event
  pub found : IsFound old history
  pub told : IsTold history
  pub after : new ≡ looked old history

-- a call won the turn once, found a history with the property IsTold, and added this one event to it
pub record Adds (old : PassView) (event : Event) (IsTold : List Event → Type 0) (new : PassView) : Type 0 where
  pub history : List Event
  pub found : IsFound old history
  pub told : IsTold history
  pub after : new ≡ added old history event

-- the tag of what a pass asks in a session
abbrev pub tag_of : ℕ → ℕ → Tag
tag_of number session = record { worker = number; session = session }

-- the tag of a stop that a pass makes in a session: 0.0 in session 0
abbrev pub stop_tag : ℕ → ℕ → Tag
stop_tag number session = if session == 0 then tag_of 0 0 else tag_of number session

-- a command or a batch is accepted after a history, and this is its answer, whatever the media and the formats of the channels
-- are
pub record IsAnswered (sizes : Sizes) (event : Event) (answered : Answer) (history : List Event) : Type 0 where
  pub room : HasRoom (journal_of sizes history) (held_by event)
  pub reply : (setup : Setup) → length setup.channels ≡ sizes.channels → answer setup (whole sizes history) event ≡ StageAnswer.Answered answered

-- a tick is accepted after a history, and this is its number and these are its scenes
pub record IsTicked (sizes : Sizes) (ticked : ℕ) (drawn : List (List Drawn)) (history : List Event) : Type 0 where
  pub time : HasTime (journal_of sizes history)
  pub number : ticked ≡ ticks (whole sizes history) + 1
  pub scenes : drawn ≡ map (scene (whole sizes history)) (range_with_len 1 sizes.channels)

-- a tick is accepted after a history, and these are its number, how many commands the journal holds, and its scenes
pub record IsCounted (sizes : Sizes) (ticked : Ticked) (drawn : List (List Drawn)) (history : List Event) : Type 0 where
  pub tick : IsTicked sizes ticked.number drawn history
  pub held : ticked.held ≡ held (whole sizes history)

-- a stop is accepted after the events that the stage was given and a history, and this is its position among all events
pub record IsStopped (given : List Event) (at : ℕ) (history : List Event) : Type 0 where
  pub running : stop_at (given ++ history) ≡ None
  pub position : at ≡ length (given ++ history)

-- the longer of two histories
abbrev pub longer : List Event → List Event → List Event
longer one other = if nat_lt (length one) (length other) then other else one

-- a pass has seen the longer of its own history and a note's, of which the shorter is a prefix
pub record Meets (old : PassView) (noted : List Event) (new : PassView) : Type 0 where
  pub after : new ≡ record old { seen = longer old.seen noted }
  pub own : IsPrefix old.seen new.seen
  pub note : IsPrefix noted new.seen
