-- The status after a tick, and its lines.
use Rattle.std.specs.Prelude.{ℕ, pos, ℤ, ◌%◌, Bool, true, false, Option, List, [], ◌∷◌, ◌++◌, option_map, filter_map, flat_map, codes, decimal}
use Rattle.hex.specs.Hex.{encode_lower}
use Rattle.play_types.specs.Media.{MediaNameView}
use Rattle.play_types.specs.Playhead.{head}
use Rattle.play_types.specs.History.{ticks}
use Rattle.play_types.specs.declared.event.Event.{Event}
use Rattle.play_types.specs.declared.take.Spec.{Spec}
use Rattle.history_model.specs.stage.Act.{Act}
use Rattle.history_model.specs.stage.Acts.{acts}
use Rattle.history_model.specs.stage.Life.{Foreground}
use Rattle.history_model.specs.stage.Live.{layers}
use Rattle.history_model.specs.stage.Answer.{channel_numbers, standing_foreground}
use Rattle.history_model.specs.pictures.Media.{Setup}
use Rattle.history_model.specs.text.Commands.{producer_word, word_meant}
use Rattle.osc_status.specs.declared.arg.OscValue.TheVariants.{Int, Word}
use Rattle.osc_status.specs.declared.layer.LayerStatus.{LayerStatus}
use Rattle.osc_status.specs.declared.message.Message.{Message}
use Rattle.osc_status.specs.declared.status_message.TheConstants.{TICKS_MODULUS}
use Rattle.osc_status.specs.declared.status_message.StatusMessage.{StatusMessage}
use Rattle.osc_status.specs.declared.status_message.StatusMessage.TheVariants.{Ticks, Producer, Frame, Paused}
use Rattle.osc_status.specs.Texts.{without_zeros}
use Rattle.osc_status.specs.Message.{message_bytes}

-- the address of a channel
abbrev pub channel_address : ℕ → List ℕ
channel_address channel = codes "/channel/" ++ decimal channel

-- the address of a layer of a channel
abbrev pub layer_address : ℕ → ℕ → List ℕ
layer_address channel layer = channel_address channel ++ (codes "/layer/" ++ decimal layer)

-- the number of ticks, modulo TICKS_MODULUS, at the address of a channel
abbrev pub ticks_message : ℕ → ℕ → Message
ticks_message channel count = record {
  address = channel_address channel ++ codes "/ticks";
  args = Int (pos (count % TICKS_MODULUS)) ∷ [];
}

-- the name of a clip, a colour as # and its eight digits, or the route, as commands are printed but without quotation marks
abbrev pub producer_text : List MediaNameView → Spec → List ℕ
producer_text names spec = word_meant (producer_word names spec)

-- what a layer plays, without the zero characters of a name
abbrev pub producer_message : List MediaNameView → LayerStatus → Message
producer_message names layer = record {
  address = layer_address layer.channel layer.layer ++ codes "/producer";
  args = Word (without_zeros (producer_text names layer.spec)) ∷ [];
}

-- the frame at which a layer is, and the number of frames that it plays
abbrev pub frame_message : LayerStatus → Message
frame_message layer = record {
  address = layer_address layer.channel layer.layer ++ codes "/frame";
  args = Int (pos layer.frame) ∷ Int (pos layer.length) ∷ [];
}

-- 1 for true, 0 for false
abbrev pub flag_number : Bool → ℤ
flag_number true = pos 1
flag_number false = pos 0

-- whether a layer is paused
abbrev pub paused_message : LayerStatus → Message
paused_message layer = record {
  address = layer_address layer.channel layer.layer ++ codes "/paused";
  args = Int (flag_number layer.paused) ∷ [];
}

-- a message of the status, with these names of clips
abbrev pub message_of : List MediaNameView → StatusMessage → Message
message_of names (Ticks channel count) = ticks_message channel count
message_of names (Producer layer) = producer_message names layer
message_of names (Frame layer) = frame_message layer
message_of names (Paused layer) = paused_message layer

-- the messages of a layer
abbrev pub layer_messages : List MediaNameView → LayerStatus → List Message
layer_messages names layer = producer_message names layer ∷ frame_message layer ∷ paused_message layer ∷ []

-- the status of a layer by its foreground
abbrev pub layer_status : ℕ → ℕ → Foreground → LayerStatus
layer_status channel layer foreground = record {
  channel = channel;
  layer = layer;
  spec = foreground.take.spec;
  frame = head foreground.take foreground.shown;
  length = foreground.take.length;
  paused = foreground.paused;
}

-- the status of a layer of a channel after a history, if it has a foreground
abbrev pub status_at : List Act → ℕ → ℕ → ℕ → Option LayerStatus
status_at acts count channel layer = option_map (layer_status channel layer) (standing_foreground acts count channel layer)

-- the layers of a channel that have a foreground after a history, in rising number
unfoldable pub layer_statuses : List Event → ℕ → List LayerStatus
layer_statuses history channel = filter_map (status_at (acts history) (ticks history) channel) (layers (acts history))

-- the messages of a channel after a history: its ticks, and then those of its layers
abbrev pub channel_messages : List MediaNameView → List Event → ℕ → List Message
channel_messages names history channel =
    ticks_message channel (ticks history) ∷ flat_map (layer_messages names) (layer_statuses history channel)

-- the messages of all channels after a history, channel 1 first
abbrev pub status_messages : Setup → List MediaNameView → List Event → List Message
status_messages setup names history = flat_map (channel_messages names history) (channel_numbers setup)

-- the line of a message after `count` ticks: O, the number of ticks, and the bytes of the message in hexadecimal
unfoldable pub status_line : ℕ → Message → List ℕ
status_line count message = codes "O " ++ (decimal count ++ 32 ∷ (encode_lower (message_bytes message) ++ 10 ∷ []))

-- the lines of a layer
unfoldable pub layer_lines : List MediaNameView → ℕ → LayerStatus → List ℕ
layer_lines names count layer = flat_map (status_line count) (layer_messages names layer)

-- the lines of the status after a history
unfoldable pub status_text : Setup → List MediaNameView → List Event → List ℕ
status_text setup names history = flat_map (status_line (ticks history)) (status_messages setup names history)
