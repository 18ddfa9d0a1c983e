-- Words for the worked examples.
use Rattle.std.specs.Prelude.{ℕ, Bool, false}
use Rattle.play_types.specs.Transition.{TransView, cut}
use Rattle.play_types.specs.declared.take.Spec.{Spec}
use Rattle.stage_core.specs.declared.seen.LayerView.{LayerView}

-- what is seen of a layer without a transition whose clip is played once from its first frame on: its number, the producer, the
-- frame, the frames that are played, and whether it is paused
abbrev pub seen : ℕ → Spec → ℕ → ℕ → Bool → LayerView
seen layer spec frame length paused =
    record { layer = layer; spec = spec; frame = frame; seek = 0; length = length; looped = false; paused = paused; trans = cut; step = 0 }

-- a layer at this step of a transition
abbrev pub mixing : TransView → ℕ → LayerView → LayerView
mixing trans step layer = record layer { trans = trans; step = step }
