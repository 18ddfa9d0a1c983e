-- What contracts see of the configuration.
use Rattle.std.specs.Prelude.{ℕ, ◌<◌, ◌≤◌, List, length, All}
use Rattle.play_types.specs.Geometry.{IsSize}
use Rattle.play_types.specs.declared.config.TheConstants.{MAX_RATE, MAX_CONNECTIONS, MAX_JOURNAL_COMMANDS}
use Rattle.play_types.specs.declared.place.TheConstants.{MAX_CHANNELS}

-- a channel: its size, and the characters of the name of its output
pub record ChannelView : Type 0 where
  pub width : ℕ
  pub height : ℕ
  pub pairs : ℕ
  pub output : List ℕ

-- a channel's size is in range, and its output has a name
pub record IsChannel (channel : ChannelView) : Type 0 where
  pub size : IsSize channel.width channel.height channel.pairs
  pub output : 0 < length channel.output

-- a configuration: the characters of its address and of its media folder, pulses per second, connection workers, the
-- most commands that a history holds, and its channels
pub record ConfigView : Type 0 where
  pub listen : List ℕ
  pub media : List ℕ
  pub rate : ℕ
  pub connections : ℕ
  pub journal_limit : ℕ
  pub channels : List ChannelView

-- each text has a character, each number is in its range, and there are 1 to 16 channels
pub record AreConfigParts (config : ConfigView) : Type 0 where
  pub listen : 0 < length config.listen
  pub media : 0 < length config.media
  pub some_rate : 1 ≤ config.rate
  pub rate : config.rate ≤ MAX_RATE
  pub some_connections : 1 ≤ config.connections
  pub connections : config.connections ≤ MAX_CONNECTIONS
  pub some_journal : 1 ≤ config.journal_limit
  pub journal : config.journal_limit ≤ MAX_JOURNAL_COMMANDS
  pub some_channels : 1 ≤ length config.channels
  pub few_channels : length config.channels ≤ MAX_CHANNELS

-- a configuration in its ranges, each channel too
pub record IsConfig (config : ConfigView) : Type 0 where
  pub parts : AreConfigParts config
  pub channels : All IsChannel config.channels
