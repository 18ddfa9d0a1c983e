-- Places as they are written in a line: `c`, or `c-l`.
use Rattle.std.specs.Prelude.{ℕ, ◌==◌, Bool, if◌then◌else◌, Option, Some, None, Result, Ok, List, length, unwrap_or, ok_or}
use Rattle.std.specs.List.{list_any, before_first, after_first}
use Rattle.amcp_text.specs.Numbers.{number_within}
use Rattle.play_types.specs.Place.{PlaceView}
use Rattle.play_types.specs.declared.place.TheConstants.{MAX_LAYER}
use Rattle.play_types.specs.declared.parsed.Refusal.{Refusal}
use Rattle.play_types.specs.declared.parsed.Refusal.TheVariants.{Channel}
use Rattle.history_model.specs.commands.Line.{Line, ◌>>=◌, legal, word_at}

-- a channel, and a layer of it if one is written
pub record Area : Type 0 where
  pub channel : ℕ
  pub layer : Option ℕ

-- the place that is meant: layer 0 if no layer is written
abbrev pub place_of : Area → PlaceView
place_of area = record { channel = area.channel; layer = unwrap_or area.layer 0 }

abbrev pub is_dash : ℕ → Bool
is_dash c = c == 45

-- the layer that a word at a position names after its first dash, none if it has no dash
abbrev pub layer_of : Line → ℕ → List ℕ → Result (Option ℕ) Refusal
layer_of line at word =
    if list_any is_dash word then
    (do
      layer ← legal line at (number_within 0 MAX_LAYER (after_first is_dash word))
      Ok (Some layer))
    else Ok None

-- the area that a word at a position names, whose channel has to be a configured one
unfoldable pub area_of : Line → ℕ → List ℕ → Result Area Refusal
area_of line at word = do
  channel ← ok_or (number_within 1 (length line.config.channels) (before_first is_dash word)) (Channel line.name)
  layer ← layer_of line at word
  Ok (record { channel = channel; layer = layer })

-- the area that the word at a position names
abbrev pub area_at : Line → ℕ → Result Area Refusal
area_at line at = do
  word ← word_at line at
  area_of line at word
