use Rattle.std.proofs.Common.{◌≡◌, ◌+◌, ◌-◌, ◌^◌, ℕ, All, List, Some, min, vec_len}
use Rattle.play_outside.specs.declared.held.link.HeldLink.{HeldLink}
use Rattle.play_server.specs.Site.{AreNumbered, IsNewDoor}
use Rattle.playd.proofs.whole_server.devices.doors_of.Given as goal

-- a claim holds of each of the items
abbrev pub EachOf : {A : Type 0} → List A → (A → Type 0) → Type 0
EachOf items holds = All holds items

-- the items are numbered by their marks
abbrev pub NumberedBy : {A : Type 0} → List A → (A → ℕ) → Type 0
NumberedBy items mark = AreNumbered mark items

abbrev pub invariant-loop-place : goal.invariant-loop-place
invariant-loop-place l = record {
  count : vec_len l.doors ≡ l.place;
  new : EachOf l.doors.items (λ held. IsNewDoor {L = HeldLink} (record {
    told = Some (record { returned = held.door.returned.items; closed = held.door.closed });
    away = held.door.away;
    idle = held.door.idle;
    faults = min (held.door.planned.count + held.missed) (2 ^ 64 - 1);
    mark = held.door.mark;
  }));
  marks : NumberedBy l.doors.items (λ held. held.door.mark);
}
