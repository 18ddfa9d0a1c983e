-- The configuration of a table: all its faults in order, of which the first is reported, and its values.
use Rattle.std.specs.Prelude.{ℕ, nat_le, ◌&&◌, if◌then◌else◌, Option, Some, None, option_and_then, unwrap_or, Result, Ok, Err, List, [], ◌∷◌, ◌++◌, length, map, flat_map, codes}
use Rattle.std.specs.List.{enumerate_from}
use Rattle.std.specs.Str.{chars}
use Rattle.toml.specs.Data.{Data, Items, no_items, item, Members, no_members, as_array, as_table, get_member}
use Rattle.play_types.specs.Config.{ChannelView, ConfigView}
use Rattle.play_types.specs.declared.place.TheConstants.{MAX_CHANNELS}
use Rattle.config_file.specs.Key.{listen, media, rate, connections, journal_limit, width, height, pairs, output, top_keys, channel_keys, text_at, number_at}
use Rattle.config_file.specs.Section.{channel_name, faults_in, unknown_in}
use Rattle.config_file.specs.declared.section.Section.TheVariants.{Top, Channel}

-- the values of an array
abbrev pub list_of : Items → List Data
list_of no_items = []
list_of (item value rest) = value ∷ list_of rest

-- the elements of `channel`, if they are 1 to 16
abbrev pub some_elements : Items → Option (List Data)
some_elements items =
    if nat_le 1 (length (list_of items)) && nat_le (length (list_of items)) MAX_CHANNELS then Some (list_of items) else None

abbrev pub elements_of : Members → Option (List Data)
elements_of top = option_and_then some_elements (option_and_then as_array (get_member (codes "channel") top))

-- the faults of the element with this number: it is no table, or keys of it break their rules
abbrev pub element_faults : ℕ → Option Members → List (List ℕ)
element_faults number None = channel_name number ∷ []
element_faults number (Some members) = faults_in (Channel number) channel_keys members

-- the least unknown key of the element with this number
abbrev pub unknown_of_element : ℕ → Option Members → List (List ℕ)
unknown_of_element number None = []
unknown_of_element number (Some members) = unknown_in (Channel number) members

-- the results of f for all elements, numbered from `first` on, as one list
abbrev pub of_each : (ℕ → Option Members → List (List ℕ)) → ℕ → List Data → List (List ℕ)
of_each f first elements = flat_map (λ element. f element.0 (as_table element.1)) (enumerate_from first elements)

-- the faults of `channel`: it is no array of 1 to 16 elements, or elements have faults, counted from 1
abbrev pub channel_faults : Option (List Data) → List (List ℕ)
channel_faults None = codes "channel" ∷ []
channel_faults (Some elements) = of_each element_faults 1 elements

-- all faults: keys that break their rules, channel after channel, and then the least unknown keys
abbrev pub faults_of : Members → List (List ℕ)
faults_of top =
    faults_in Top top_keys top
    ++ channel_faults (elements_of top)
    ++ unknown_in Top top
    ++ of_each unknown_of_element 1 (unwrap_or (elements_of top) [])

-- the channel of a table
abbrev pub channel_of : Members → ChannelView
channel_of members = record {
  width = number_at width members;
  height = number_at height members;
  pairs = number_at pairs members;
  output = text_at output members;
}

abbrev pub channels_of : List Data → List ChannelView
channels_of elements = map (λ element. channel_of (unwrap_or (as_table element) no_members)) elements

-- the values of the top table
abbrev pub values_of : Members → ConfigView
values_of top = record {
  listen = text_at listen top;
  media = text_at media top;
  rate = number_at rate top;
  connections = number_at connections top;
  journal_limit = number_at journal_limit top;
  channels = channels_of (unwrap_or (elements_of top) []);
}

-- the characters of the first fault, or else the values
abbrev pub first_or : {A : Type 0} → List (List ℕ) → A → Result A (List ℕ)
first_or [] values = Ok values
first_or (name ∷ rest) values = Err (chars name)

-- the configuration of the top table, or the characters of the key that is refused
abbrev pub config_of : Members → Result ConfigView (List ℕ)
config_of top = first_or (faults_of top) (values_of top)
