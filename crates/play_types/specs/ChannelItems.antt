-- Lists with an item for each channel, that of channel 1 first.
use Rattle.std.specs.Prelude.{ℕ, ◌-◌, List, slice_index_or, slice_set}

-- the item of a channel, or another if the list has none for it
abbrev pub channel_item : {A : Type 0} → ℕ → List A → A → A
channel_item channel items other = slice_index_or items (channel - 1) other

-- the list with another item for a channel
abbrev pub with_channel_item : {A : Type 0} → ℕ → A → List A → List A
with_channel_item channel item items = slice_set items (channel - 1) item
