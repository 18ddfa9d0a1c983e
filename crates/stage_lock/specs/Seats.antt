-- What a seat of the table knows, for a pass and for a note.
use Rattle.std.specs.Prelude.{ℕ, ◌+◌, Bool, true, false, List, [], ◌∷◌, ◌||◌}
use Rattle.atomic_table.specs.Seated.{TableId}
use Rattle.play_types.specs.declared.event.Event.{Event}
use Rattle.stage_lock.specs.Own.{is_final, made_by}
use Rattle.stage_lock.specs.Calls.{longer}
use Rattle.stage_lock.specs.Views.{PassView, Sizes}

-- what is kept of a pass that another took in
pub record KeptPass : Type 0 where
  pub number : ℕ
  pub made : List ℕ
  pub ends : Bool

-- what a seat knows. A pass has a number, and what it has seen, won and made. It may hold the turn. Pass 0 knows how many
-- passes there are while they are made. A pass may keep others, and just after it was joined to another seat it knows what
-- both had seen.
pub record SeatView : Type 0 where
  pub sizes : Sizes
  pub is_pass : Bool
  pub number : ℕ
  pub seen : List Event
  pub turns : ℕ
  pub ends : Bool
  pub made : List ℕ
  pub holds : Bool
  pub count : ℕ
  pub kept : List KeptPass
  pub olds : List (List Event)

-- a pass, as contracts see it
abbrev pub pass_view : TableId → SeatView → PassView
pass_view table_id v = record {
  stage = record { table_id = table_id; sizes = v.sizes };
  number = v.number;
  seen = v.seen;
  turns = v.turns;
  ends = v.ends;
  made = v.made;
}

-- a pass that was just made
abbrev pub newcomer : Sizes → ℕ → SeatView
newcomer sizes number = record {
  sizes = sizes;
  is_pass = true;
  number = number;
  seen = [];
  turns = 0;
  ends = false;
  made = [];
  holds = false;
  count = 0;
  kept = [];
  olds = [];
}

-- pass 0 when `count` passes were made
abbrev pub first_of : Sizes → ℕ → SeatView
first_of sizes count = record (newcomer sizes 0) { count = count }

-- pass 0, before others are made
abbrev pub first_view : Sizes → SeatView
first_view sizes = first_of sizes 1

-- a pass that has won the turn and found this history
abbrev pub holding : SeatView → List Event → SeatView
holding v history = record v { seen = history; turns = v.turns + 1; holds = true }

-- whether the last event is the stop of tag 0.0
abbrev pub ends_final : List Event → Bool
ends_final [] = false
ends_final (event ∷ []) = is_final event
ends_final (event ∷ next ∷ events) = ends_final (next ∷ events)

-- a pass whose event has become the last of this history
abbrev pub grown : SeatView → List Event → SeatView
grown v history = record v { seen = history; made = made_by v.number history; ends = v.ends || ends_final history }

-- a pass that has given up the turn
abbrev pub released : SeatView → SeatView
released v = record v { holds = false }

-- a seat that no longer knows what it and another had seen
abbrev pub settled : SeatView → SeatView
settled v = record v { olds = [] }

-- pass 0 after it has made one pass more
abbrev pub enrolled : SeatView → SeatView
enrolled v = record v { count = v.count + 1 }

-- a note of a history
abbrev pub noted : Sizes → List Event → SeatView
noted sizes history = record (newcomer sizes 0) { is_pass = false; seen = history }

-- a seat that was joined to another
abbrev pub spent : SeatView
spent = noted (record { limit = 0; channels = 0; passes = 0; given = [] }) []

-- a pass that has taken in a note
abbrev pub met : SeatView → SeatView → SeatView
met v w = record v { seen = longer v.seen w.seen; olds = v.seen ∷ w.seen ∷ [] }

-- what is kept of a pass
abbrev pub kept_of : PassView → KeptPass
kept_of pass = record { number = pass.number; made = pass.made; ends = pass.ends }

-- what is kept of a pass, by its seat
abbrev pub kept_seat : SeatView → KeptPass
kept_seat v = record { number = v.number; made = v.made; ends = v.ends }

-- a pass that has taken in another
abbrev pub absorbed : SeatView → SeatView → SeatView
absorbed v w = record v { seen = longer v.seen w.seen; olds = v.seen ∷ w.seen ∷ []; kept = kept_seat w ∷ v.kept }
