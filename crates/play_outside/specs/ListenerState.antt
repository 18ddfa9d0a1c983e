-- What contracts see of a listener.
use Rattle.std.specs.Prelude.{ℕ, Option, Bool, true, ◌+◌, ◌-◌, List, [], ◌∷◌, ◌++◌, option_map}
use Rattle.play_outside.specs.Faults.{one_more}

-- the links that were given back, in order, and whether the listener has answered Closed
pub record ListenerTold (L : Type 0) : Type 0 where
  pub returned : List L
  pub closed : Bool

-- what is exposed, if the listener exposes it; how many links came and were not given back; how often it found no link
-- yet; how often it has failed; and its mark
pub record ListenerState (L : Type 0) : Type 0 where
  pub told : Option (ListenerTold L)
  pub away : ℕ
  pub idle : ℕ
  pub faults : ℕ
  pub mark : ℕ

-- what is exposed after the listener answered Closed
abbrev pub listener_closed : {L : Type 0} → ListenerTold L → ListenerTold L
listener_closed told = record told { closed = true }

-- what is exposed after one more link was given back
abbrev pub one_returned : {L : Type 0} → L → ListenerTold L → ListenerTold L
one_returned line told = record told { returned = told.returned ++ line ∷ [] }

-- the listener after a link came
abbrev pub after_came : {L : Type 0} → ListenerState L → ListenerState L
after_came state = record state { away = state.away + 1 }

-- the listener after it found no link yet
abbrev pub after_none_came : {L : Type 0} → ListenerState L → ListenerState L
after_none_came state = record state { idle = one_more state.idle }

-- the listener after it answered Closed
abbrev pub after_listener_closed : {L : Type 0} → ListenerState L → ListenerState L
after_listener_closed state = record state { told = option_map listener_closed state.told }

-- the listener after it failed
abbrev pub after_listener_fault : {L : Type 0} → ListenerState L → ListenerState L
after_listener_fault state = record state { faults = one_more state.faults }

-- the listener after a link was given back
abbrev pub after_give_back : {L : Type 0} → ListenerState L → L → ListenerState L
after_give_back state line = record state { told = option_map (one_returned line) state.told; away = state.away - 1 }
