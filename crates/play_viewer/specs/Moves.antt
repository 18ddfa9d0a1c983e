-- What a desk records of its calls.
use Rattle.std.specs.Prelude.{ℕ, Option, List, ◌∷◌, ◌++◌, map, option_map, string_bytes}
use Rattle.play_outside.specs.Faults.{one_more}
use Rattle.http_pages.specs.declared.page.Page.{Page}
use Rattle.play_viewer.specs.ViewerWords.{address_of}
use Rattle.play_viewer.specs.declared.words.ViewerWords.{ViewerWords}

-- what a desk opens: the log at a path, a door for browsers at an address, and the way to the receivers of status messages
pub record Opening : Type 0 where
  pub log : List ℕ
  pub address : List ℕ
  pub receivers : List (List ℕ)

-- what the arguments ask a desk to open
abbrev pub opening_of : ViewerWords → Opening
opening_of words = record { log = string_bytes words.log; address = address_of words; receivers = map string_bytes words.receivers.items }

-- one move at a desk: it was opened; it gave bytes of the log; it gave a request for the page at a path, with its query; it took the page
-- that answers one, or that there is none; it found that nothing more is there for now; it took datagrams to send; it found that the
-- viewing is to end; or it printed a line
pub data Move : Type 0 where
  Opened : Opening → Move
  Took : List ℕ → Move
  Wanted : List ℕ → Option (List ℕ) → Move
  Gave : Option Page → Move
  Waited : Move
  Sent : List (List ℕ) → Move
  Ended : Move
  Said : List ℕ → Move

-- the moves, the newest first, if the desk records them, and how often a call has failed
pub record DeskState : Type 0 where
  pub told : Option (List Move)
  pub faults : ℕ

-- the desk after one more move
abbrev pub after_move : Move → DeskState → DeskState
after_move move state = record state { told = option_map (λ (moves : List Move). move ∷ moves) state.told }

-- the desk after more moves, the newest first
abbrev pub after_moves : List Move → DeskState → DeskState
after_moves more state = record state { told = option_map (λ (moves : List Move). more ++ moves) state.told }

-- the desk after one more fault
abbrev pub after_fault : DeskState → DeskState
after_fault state = record state { faults = one_more state.faults }
