use Rattle.std.proofs.Common.{◌≡◌, false, filter_map, take}
use Rattle.std.specs.List.{list_any}
use Rattle.history_model.specs.stage.Answer.{status_of}
use Rattle.history_model.specs.stage.StageHistory.{foreground_of}
use Rattle.stage_core.proofs.Statuses.{is_playing}
use Rattle.stage_core.proofs.places.PlaceList.status.Given as goal

-- nothing plays among the places so far, and the status is theirs
abbrev pub invariant-loop-place : goal.invariant-loop-place
invariant-loop-place l = record {
  none : list_any is_playing (filter_map foreground_of (take l.place-index l.fn.self)) ≡ false;
  status : l.status ≡ status_of (filter_map foreground_of (take l.place-index l.fn.self));
}
