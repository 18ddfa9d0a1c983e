-- What a replay with frames knows of the depths of its channels.
use Rattle.play_recorder.specs.declared.last_replay.LastReplay.{LastReplay}
use Rattle.play_recorder.specs.inner.Depths.{KnowsDepths}

-- a replay knows the depths of the channels of its stage
abbrev pub KnowsFrameDepths : LastReplay → Type 0
KnowsFrameDepths replay = KnowsDepths (record { played = replay.frames.played; depths = replay.depths })
