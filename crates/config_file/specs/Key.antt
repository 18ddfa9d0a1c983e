-- The keys of a configuration, in the order in which they are tested, and what each may hold.
use Rattle.std.specs.Prelude.{ℕ, pos, ◌==◌, nat_le, ◌&&◌, not, Bool, false, Option, Some, None, is_some, unwrap_or, List, [], ◌∷◌, length, codes}
use Rattle.std.specs.Str.{chars}
use Rattle.toml.specs.Data.{Data, Members, string, integer, get_member}
use Rattle.play_types.specs.declared.config.TheConstants.{MAX_RATE, MAX_CONNECTIONS, MAX_JOURNAL_COMMANDS}
use Rattle.play_types.specs.declared.geometry.TheConstants.{MAX_SIDE, MAX_PAIRS}
use Rattle.config_file.specs.declared.defaults.TheConstants.{DEFAULT_CONNECTIONS, DEFAULT_JOURNAL_LIMIT, DEFAULT_PAIRS}

-- what a key may hold: a string that is not empty, or an integer from the least to the greatest. If there is a default,
-- the integer may be left out
pub data Rule : Type 0 where
  text : Rule
  number : ℕ → ℕ → Option ℕ → Rule

-- a key, by the bytes of its name
pub record Key : Type 0 where
  pub name : List ℕ
  pub rule : Rule

abbrev pub listen : Key
listen = record { name = codes "listen"; rule = text }

abbrev pub media : Key
media = record { name = codes "media"; rule = text }

-- pulses a second
abbrev pub rate : Key
rate = record { name = codes "rate"; rule = number 1 MAX_RATE None }

-- connection workers
abbrev pub connections : Key
connections = record { name = codes "connections"; rule = number 1 MAX_CONNECTIONS (Some DEFAULT_CONNECTIONS) }

-- the most commands that the history may hold
abbrev pub journal_limit : Key
journal_limit = record { name = codes "journal_limit"; rule = number 1 MAX_JOURNAL_COMMANDS (Some DEFAULT_JOURNAL_LIMIT) }

-- columns and rows of a frame
abbrev pub width : Key
width = record { name = codes "width"; rule = number 1 MAX_SIDE None }

abbrev pub height : Key
height = record { name = codes "height"; rule = number 1 MAX_SIDE None }

-- stereo pairs of sound a frame
abbrev pub pairs : Key
pairs = record { name = codes "pairs"; rule = number 0 MAX_PAIRS (Some DEFAULT_PAIRS) }

abbrev pub output : Key
output = record { name = codes "output"; rule = text }

-- the keys of the top table before `channel`, which is the last
abbrev pub top_keys : List Key
top_keys = listen ∷ media ∷ rate ∷ connections ∷ journal_limit ∷ []

-- the keys of the table of a channel
abbrev pub channel_keys : List Key
channel_keys = width ∷ height ∷ pairs ∷ output ∷ []

-- the value at a key, or its absence, keeps the rule
abbrev pub is_kept : Rule → Option Data → Bool
is_kept text (Some (string bytes)) = not (length bytes == 0)
is_kept (number least greatest default) (Some (integer (pos n))) = nat_le least n && nat_le n greatest
is_kept (number least greatest default) None = is_some default
is_kept rule value = false

-- the characters of a string, and the value of an integer, or the default if it is left out
abbrev pub text_of : Option Data → List ℕ
text_of (Some (string bytes)) = chars bytes
text_of value = []

abbrev pub number_of : Rule → Option Data → ℕ
number_of rule (Some (integer (pos n))) = n
number_of (number least greatest default) None = unwrap_or default 0
number_of rule value = 0

-- the text and the number at a key of a table
abbrev pub text_at : Key → Members → List ℕ
text_at key table = text_of (get_member key.name table)

abbrev pub number_at : Key → Members → ℕ
number_at key table = number_of key.rule (get_member key.name table)
