-- Words for the worked examples.
use Rattle.std.specs.Prelude.{List, [], ◌∷◌}
use Rattle.play_types.specs.declared.event.Event.{Event}
use Rattle.history_model.specs.Worked.{at, plays, red, route}

-- red on channel 1; channel 2 shows channel 1, and channel 3 shows channel 2
abbrev pub relay : List Event
relay = plays (at 1 0) red ∷ plays (at 2 0) (route 1) ∷ plays (at 3 0) (route 2) ∷ []

-- channel 1 shows itself
abbrev pub mirror : List Event
mirror = plays (at 1 1) (route 1) ∷ []
