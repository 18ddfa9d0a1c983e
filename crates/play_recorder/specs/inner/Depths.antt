-- What a replay without frames knows, and which frames the last tick needs.
use Rattle.std.specs.Prelude.{ℕ, ◌-◌, List}
use Rattle.play_types.specs.History.{ticks}
use Rattle.play_types.specs.declared.event.Event.{Event}
use Rattle.needed_frames.specs.Counted.{HasDepths}
use Rattle.needed_frames.specs.Depth.{greatest_depth}
use Rattle.play_recorder.specs.declared.depth_replay.DepthReplay.{DepthReplay}
use Rattle.play_recorder.specs.inner.Replay.{HasScenes, events_in}

-- a replay knows the depths of the channels of its stage
pub record KnowsDepths (replay : DepthReplay) : Type 0 where
  pub scenes : HasScenes replay.played
  pub depths : HasDepths replay.played.stage.channels (events_in replay.played) replay.depths

-- the number of first ticks of a history whose frames channels 1 to `channels` do not need at the last tick
abbrev pub unneeded : ℕ → List Event → ℕ
unneeded channels history = ticks history - 1 - greatest_depth channels history
