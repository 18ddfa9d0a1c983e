-- The playouts of scripts: what they are played on, and how frames are written.
use Rattle.std.specs.Prelude.{ℕ, Bool, false, []}
use Rattle.history_model.specs.scripts.History.{Playout}
use Rattle.history_model.specs.scripts.Output.{plain_config}
use Rattle.play_scene.specs.Picture.{clips_of}
use Rattle.play_types.specs.declared.geometry.Geometry.{Geometry}
use Rattle.server_setup.specs.declared.setup.ServerSetup.{ServerSetup}

-- frames of this width and height, without sound
abbrev pub geometry : ℕ → ℕ → Geometry
geometry width height = record { width = width; height = height; pairs = 0 }

-- the playout of a run that is given only a size: one channel, without clips, whose frames are written in hexadecimal
abbrev pub plain_playout : Geometry → Playout
plain_playout size = record { config = plain_config size.width size.height; names = []; clips = []; digests = false }

-- the playout of a setup
abbrev pub playout_of : ServerSetup → Bool → Playout
playout_of setup digests =
    record { config = setup.config; names = setup.names; clips = clips_of setup.media; digests = digests }
