-- Frames that may be those of the last tick.
use Rattle.std.proofs.Common.{false, List}
use Rattle.std.proofs.lemmas.Bool.{false≢true}
use Rattle.play_types.specs.declared.event.Event.{Event}
use Rattle.play_scene.specs.Frames.{FrameView}
use Rattle.server_setup.specs.declared.setup.ServerSetup.{ServerSetup}
use Rattle.live_view.specs.View.{AreFresh}

-- frames that are not fresh may be any
pub none_fresh : (frames : List FrameView) (setup : ServerSetup) (events : List Event) → AreFresh false frames setup events
none_fresh frames setup events is = absurd (false≢true is)
