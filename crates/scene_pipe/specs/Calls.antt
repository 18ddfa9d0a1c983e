-- What the calls of the two ends return, and what they change.
use Rattle.std.specs.Prelude.{◌≡◌, ℕ, ◌+◌, ◌⊎◌, List, [], ◌∷◌, ◌++◌, length, replicate}
use Rattle.play_types.specs.declared.drawn.Drawn.{Drawn}
use Rattle.scene_pipe.specs.declared.item.Taken.{Taken}
use Rattle.scene_pipe.specs.declared.item.Returned.{Returned}
use Rattle.scene_pipe.specs.declared.item.Room.{Room}
use Rattle.scene_pipe.specs.declared.item.Room.TheVariants.{Free}
use Rattle.scene_pipe.specs.declared.pipe.TheConstants.{SETS}
use Rattle.scene_pipe.specs.Items.{fits_returned, fits_taken, room_of}
use Rattle.scene_pipe.specs.Lists.{GetsNext}
use Rattle.scene_pipe.specs.Views.{StageView, WriteView, slots_of}

-- the two ends of one pipe
pub record AreEnds (stage : StageView) (write : WriteView) : Type 0 where
  pub pipe : stage.pipe ≡ write.pipe
  pub channels : stage.channels ≡ write.channels

-- the two ends of a new pipe for this number of channels: four sets of scenes without layers are held, nothing was sent, and each ring has
-- room for these four and the end mark
pub record AreNewEnds (channels : ℕ) (stage : StageView) (write : WriteView) : Type 0 where
  pub pipe : stage.pipe ≡ write.pipe
  pub slots : (slots_of stage.pipe.0 ≡ SETS + 1) × (slots_of stage.pipe.1 ≡ SETS + 1)
  pub stage_channels : stage.channels ≡ channels
  pub write_channels : write.channels ≡ channels
  pub held : stage.held ≡ replicate SETS (replicate channels [])
  pub sent : stage.sent ≡ []
  pub returned : stage.returned ≡ []
  pub taken : write.taken ≡ []
  pub given : write.given ≡ []

-- this item came back next
pub record GetsReturned (item : Returned) (old new : StageView) : Type 0 where
  pub next : GetsNext (fits_returned old.channels) item old.returned new.returned
  pub after : new ≡ record old { returned = new.returned }

-- scenes that were held are handed out
pub record GivesHeld (result : Room) (old new : StageView) : Type 0 where
  pub scenes : List (List Drawn)
  pub says : result ≡ Free scenes
  pub fits : length scenes ≡ old.channels
  pub held : old.held ≡ new.held ++ scenes ∷ []
  pub after : new ≡ record old { held = new.held }

-- no scenes are held, and what came back next is handed out
pub record GivesReturned (result : Room) (old new : StageView) : Type 0 where
  pub none : old.held ≡ []
  pub item : Returned
  pub says : result ≡ room_of item
  pub gets : GetsReturned item old new

-- held scenes are handed out first, and otherwise what came back
abbrev pub GivesRoom : Room → StageView → StageView → Type 0
GivesRoom result old new = GivesHeld result old new ⊎ GivesReturned result old new

-- this item was taken next
pub record GetsTaken (item : Taken) (old new : WriteView) : Type 0 where
  pub next : GetsNext (fits_taken old.channels) item old.taken new.taken
  pub after : new ≡ record old { taken = new.taken }
