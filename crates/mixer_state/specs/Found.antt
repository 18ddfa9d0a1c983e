-- Where entries are kept: those of each channel apart.
use Rattle.std.specs.Prelude.{ℕ, ◌==◌, ◌≤◌, List, Option, All, map, if◌then◌else◌}
use Rattle.mixer_state.specs.declared.courses.Courses.{Courses}
use Rattle.mixer_state.specs.Entries.{Entries}

-- what contracts see of the layers of a channel
pub record LayersView : Type 0 where
  -- how many more entries memory is reserved for
  pub room : ℕ
  -- the layers that have an entry, each with its courses
  pub entries : List (ℕ × Courses)

-- the layers with this entry for one of them, or with none
abbrev pub with_layer : ℕ → Option Courses → (ℕ → Option Courses) → ℕ → Option Courses
with_layer layer entry layers = λ other. if layer == other then entry else layers other

-- the entries of all channels
abbrev pub entries_of : List LayersView → Entries
entries_of channels = map (λ layers. layers.entries) channels

-- each channel has memory reserved for at least this number of further entries
abbrev pub HaveRoom : ℕ → List LayersView → Type 0
HaveRoom spare channels = All (λ layers. spare ≤ layers.room) channels

-- what contracts see of the places of a number of channels
pub record PlacesView : Type 0 where
  pub channels : ℕ
  -- how many more entries of each channel memory is reserved for
  pub spare : ℕ
  pub entries : Entries
