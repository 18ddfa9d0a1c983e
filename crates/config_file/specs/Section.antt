-- Faults of one table: keys that break their rule, and keys that are unknown.
use Rattle.std.specs.Prelude.{ℕ, not, Bool, if◌then◌else◌, Option, Some, None, option_to_list, List, [], ◌∷◌, ◌++◌, map, filter, flat_map, bytes_eq, codes, decimal}
use Rattle.std.specs.List.{list_any}
use Rattle.std.specs.Ordering.{nat_cmp, is_gt}
use Rattle.std.specs.Cmp.Lexicographic.{slice_cmp}
use Rattle.toml.specs.Data.{Members, no_members, member, get_member}
use Rattle.config_file.specs.Key.{Key, is_kept, top_keys, channel_keys}
use Rattle.config_file.specs.declared.section.Section.{Section}
use Rattle.config_file.specs.declared.section.Section.TheVariants.{Top, Channel}

-- the name of the whole table of a channel
abbrev pub channel_name : ℕ → List ℕ
channel_name number = codes "channel." ++ decimal number

-- the whole name of a key of a table
abbrev pub name_in : Section → List ℕ → List ℕ
name_in Top key = key
name_in (Channel number) key = channel_name number ++ (codes "." ++ key)

-- the fault of a key that breaks its rule
abbrev pub fault_in : Section → Members → Key → List (List ℕ)
fault_in section table key = if is_kept key.rule (get_member key.name table) then [] else name_in section key.name ∷ []

-- the faults of keys, in their order
abbrev pub faults_in : Section → List Key → Members → List (List ℕ)
faults_in section keys table = flat_map (fault_in section table) keys

-- the keys of a table
abbrev pub names_of : Members → List (List ℕ)
names_of no_members = []
names_of (member name value rest) = name ∷ names_of rest

-- the name is in the list
abbrev pub is_among : List (List ℕ) → List ℕ → Bool
is_among names name = list_any (bytes_eq name) names

-- the least of the names in the order of their bytes
abbrev pub lesser : List ℕ → Option (List ℕ) → List ℕ
lesser name None = name
lesser name (Some other) = if is_gt (slice_cmp nat_cmp name other) then other else name

abbrev pub least : List (List ℕ) → Option (List ℕ)
least [] = None
least (name ∷ names) = Some (lesser name (least names))

-- the names of the known keys
abbrev pub known_names : Section → List (List ℕ)
known_names Top = codes "channel" ∷ map (λ key. key.name) top_keys
known_names (Channel number) = map (λ key. key.name) channel_keys

-- the least key that is not known
abbrev pub unknown_of : Section → Members → Option (List ℕ)
unknown_of section table = least (filter (λ name. not (is_among (known_names section) name)) (names_of table))

-- the fault of the least unknown key, if there is one
abbrev pub unknown_in : Section → Members → List (List ℕ)
unknown_in section table = map (name_in section) (option_to_list (unknown_of section table))
