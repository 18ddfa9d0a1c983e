use Rattle.std.proofs.Common.{◌≡◌, ℕ, ◌<◌, get_or, length, map, filter_map}
use Rattle.play_types.specs.declared.place.TheConstants.{MAX_CHANNELS}
use Rattle.play_types.specs.declared.answer.Status.TheVariants.{Empty}
use Rattle.history_model.specs.stage.Answer.{status_of}
use Rattle.history_model.specs.stage.Places.{Places}
use Rattle.history_model.specs.stage.StageHistory.{foreground_of}
use Rattle.stage_core.proofs.status.statuses.Given as goal

-- the channels so far have their statuses
abbrev pub invariant-loop-at : goal.invariant-loop-at
invariant-loop-at l = record {
  same : (k : ℕ) → k < l.at → get_or l.channels k Empty ≡ get_or (map (λ (one : Places). status_of (filter_map foreground_of one)) l.fn.places) k Empty;
  count : length l.channels ≡ MAX_CHANNELS;
}
