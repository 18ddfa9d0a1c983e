-- The rooms of the threads that make bands.
use Rattle.std.specs.Prelude.{ℕ, ◌<◌, ◌≤◌, List, All, length}
use Rattle.play_types.specs.Config.{ChannelView}
use Rattle.band_render.specs.declared.band.Band.{Band}

-- each room is for rows at least as wide as those of the bands
abbrev pub AreWide : List Band → List ℕ → Type 0
AreWide bands rooms = All (λ room. All (λ band. band.size.width ≤ room) bands) rooms

-- rooms for threads that make the frames of these channels, one at least
pub record AreRooms (channels : List ChannelView) (rooms : List ℕ) : Type 0 where
  pub some : 0 < length rooms
  pub wide : All (λ room. All (λ channel. channel.width ≤ room) channels) rooms
