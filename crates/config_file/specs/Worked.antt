-- Words for the worked texts.
use Rattle.std.specs.Prelude.{ℕ, Option, Some, None, Result, Ok, Err, List, [], ◌∷◌, ◌++◌, codes}
use Prim.Native.String.{String}
use Rattle.play_types.specs.Config.{ChannelView, ConfigView}
use Rattle.config_file.specs.Reading.{config_in}

-- the result of reading a text
abbrev pub says : String → Option (Result ConfigView (List ℕ))
says text = config_in (codes text)

-- the result of reading a text after lines of the first three keys
abbrev pub then_says : String → Option (Result ConfigView (List ℕ))
then_says text = config_in (codes "listen = 'a'\nmedia = 'm'\nrate = 25\n" ++ codes text)

-- a key is refused
abbrev pub refused : String → Option (Result ConfigView (List ℕ))
refused name = Some (Err (codes name))

-- the text is no TOML
abbrev pub no_toml : Option (Result ConfigView (List ℕ))
no_toml = None

-- a configuration of one channel after the first three keys
abbrev pub one : ℕ → ℕ → ChannelView → Option (Result ConfigView (List ℕ))
one connections limit channel =
    Some (Ok (record { listen = codes "a"; media = codes "m"; rate = 25; connections = connections; journal_limit = limit; channels = channel ∷ [] }))

abbrev pub channel : ℕ → ℕ → ℕ → ChannelView
channel width height pairs = record { width = width; height = height; pairs = pairs; output = codes "o" }
