use Rattle.std.proofs.Common.{◌≡◌, All, None, vec_len}
use Rattle.play_outside.specs.declared.plain.door.PlainDoor.{PlainDoor}
use Rattle.play_outside.specs.declared.plain.link.PlainLink.{PlainLink}
use Rattle.play_server.specs.Site.{AreNumbered, IsNewDoor}
use Rattle.play_server.proofs.in_memory.plain_site.plain_doors.Given as goal

abbrev pub invariant-loop-place : goal.invariant-loop-place
invariant-loop-place l = record {
  count : vec_len l.doors ≡ l.place;
  new : All (λ (door : PlainDoor). IsNewDoor {L = PlainLink} (record { told = None; away = door.away; idle = 0; faults = 0; mark = door.mark })) l.doors.items;
  marks : AreNumbered (λ (door : PlainDoor). door.mark) l.doors.items;
}
