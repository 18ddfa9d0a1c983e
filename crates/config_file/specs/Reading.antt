-- What reading a configuration returns.
use Rattle.std.specs.Prelude.{◌≡◌, ℕ, if◌then◌else◌, Option, Some, None, option_map, Result, Ok, Err, List}
use Rattle.std.specs.Str.{is_utf8}
use Rattle.toml.specs.Data.{Members}
use Rattle.toml.specs.Parse.{parse_document}
use Rattle.play_types.specs.Config.{ConfigView}
use Rattle.config_file.specs.Configuration.{config_of}
use Rattle.config_file.specs.declared.fault.ConfigFault.{ConfigFault}
use Rattle.config_file.specs.declared.fault.ConfigFault.TheVariants.{NotToml, Key, OutOfMemory}

-- the top table of bytes that are TOML
abbrev pub document_of : List ℕ → Option Members
document_of bytes = if is_utf8 bytes then parse_document bytes else None

-- the configuration of bytes, or the key that is refused, if they are TOML
abbrev pub config_in : List ℕ → Option (Result ConfigView (List ℕ))
config_in bytes = option_map config_of (document_of bytes)

-- the result is the configuration of the bytes, the key that is refused, or that they are no TOML; or memory ran out
abbrev pub IsReadOf : List ℕ → Result ConfigView ConfigFault → Type 0
IsReadOf bytes (Ok config) = config_in bytes ≡ Some (Ok config)
IsReadOf bytes (Err (Key name)) = config_in bytes ≡ Some (Err name)
IsReadOf bytes (Err NotToml) = config_in bytes ≡ None
IsReadOf bytes (Err OutOfMemory) = Unit {0}
