-- The number of channels of the two ends of a pipe.
use Rattle.std.proofs.Common.{◌≡◌, ap, ⊎_elim}
use Rattle.scene_pipe.specs.declared.item.Room.{Room}
use Rattle.scene_pipe.specs.declared.item.Taken.{Taken}
use Rattle.scene_pipe.specs.Calls.{GetsTaken, GivesHeld, GivesReturned, GivesRoom}
use Rattle.scene_pipe.specs.Views.{StageView, WriteView}

-- a room leaves it
pub room_channels : (result : Room) (old new : StageView) → GivesRoom result old new → new.channels ≡ old.channels
room_channels result old new h =
    ⊎_elim
    (λ (held : GivesHeld result old new). ap (λ (v : StageView). v.channels) held.after)
    (λ (back : GivesReturned result old new). ap (λ (v : StageView). v.channels) back.gets.after)
    h

-- and so does what is taken
pub taken_channels : (item : Taken) (old new : WriteView) → GetsTaken item old new → new.channels ≡ old.channels
taken_channels item old new h = ap (λ (v : WriteView). v.channels) h.after
