-- Short configurations for the worked examples.
use Rattle.std.specs.Prelude.{ℕ, replicate, codes}
use Rattle.play_types.specs.Config.{ChannelView, ConfigView}

-- a channel of one pixel without sound
abbrev channel : ChannelView
channel = record { width = 1; height = 1; pairs = 0; output = codes "one.raw" }

-- a configuration with this rate, number of connection workers, limit of the history, and number of channels
abbrev pub config : ℕ → ℕ → ℕ → ℕ → ConfigView
config rate connections journal_limit channels =
    record { listen = codes "here"; media = codes "media"; rate = rate; connections = connections; journal_limit = journal_limit; channels = replicate channels channel }
