-- The messages and the lines of the status, in the parts in which they are written.
use Rattle.std.proofs.Common.{◌≡◌, ℕ, ◌<◌, ◌/◌, ◌%◌, ◌^◌, zero, suc, Bool, true, false, ◌==◌, List, [], ◌∷◌, ◌++◌, refl, sym, ap, subst, ◌∙◌, append_assoc, append-nil, arith, inl, inr}
use Rattle.std.specs.Prelude.{codes, decimal, encode_utf8_all, flat_map}
use Rattle.std.specs.Fmt.{digit_glyph, digits, digits_onto}
use Rattle.std.specs.Int.{w32, cast_unsigned, from_bool, to_be_bytes}
use Rattle.std.proofs.lemmas.Bool.{cases_Bool}
use Rattle.std.proofs.lemmas.Bool.Decides.{nat_tests}
use Rattle.hex.specs.Hex.{encode_lower}
use Rattle.play_outside.specs.SinkState.{SinkState}
use Rattle.play_outside.specs.Gathered.{Adds}
use Rattle.play_outside.specs.declared.sink.Sent.{Sent}
use Rattle.play_types.specs.Media.{MediaNameView}
use Rattle.play_types.specs.Place.{PlaceView}
use Rattle.history_model.specs.text.Commands.{capital_digits, place_text}
use Rattle.osc_status.specs.declared.layer.LayerStatus.{LayerStatus}
use Rattle.osc_status.specs.declared.message.Message.{Message}
use Rattle.osc_status.specs.declared.status_message.TheConstants.{TICKS_MODULUS}
use Rattle.osc_status.specs.Texts.{padded, text_bytes, without_zeros}
use Rattle.osc_status.specs.Message.{letters, message_bytes, value_bytes}
use Rattle.osc_status.specs.Status.{channel_address, flag_number, frame_message, layer_address, layer_lines, paused_message, producer_message, producer_text, status_line, ticks_message}
use Rattle.osc_status.specs.inner.Lines.{line_start}
use Rattle.osc_status.specs.inner.Plain.{are_plain, is_plain}
use Rattle.osc_status.specs.declared.form.Form.{Form}
use Rattle.osc_status.specs.inner.Form.{formed}
use Rattle.osc_status.proofs.Formed.{formed-append}
use Rattle.osc_status.proofs.Characters.{plain-append, plain_encoded, plain_kept, plain_word}

-- digits are plain
digit_plain : (d : ℕ) → d < 16 → is_plain (digit_glyph true d) ≡ true
digit_plain d low = grind (arith, nat_tests)

small_digit_plain : (d : ℕ) → d < 10 → is_plain (digit_glyph false d) ≡ true
small_digit_plain d low = grind (arith, nat_tests)

onto_plain : (count n : ℕ) (more : List ℕ) → are_plain more ≡ true → are_plain (digits_onto count 10 false n more) ≡ true
onto_plain zero n more plain = plain
onto_plain (suc count) n more plain =
    let glyph = small_digit_plain (n % 10) (omega arith) in
    let longer : are_plain (digit_glyph false (n % 10) ∷ more) ≡ true = rw (glyph, plain) refl in
    elim (cases_Bool (n / 10 == 0)) [
      | inl last ↦ rw last longer
      | inr another ↦ rw another (onto_plain count (n / 10) (digit_glyph false (n % 10) ∷ more) longer)
    ]

pub decimal_plain : (n : ℕ) → are_plain (decimal n) ≡ true
unfolding digits
decimal_plain n = onto_plain 64 n [] refl

pub capitals_plain : (count number : ℕ) → are_plain (capital_digits count number) ≡ true
capitals_plain zero number = refl
capitals_plain (suc count) number =
    let digit : is_plain (digit_glyph true (number / 16 ^ count % 16)) ≡ true = digit_plain (number / 16 ^ count % 16) (omega arith) in
    rw (digit, capitals_plain count number) refl

-- the address of a channel, in the parts in which it is written
pub channel-parts : (channel : ℕ) (topic : List ℕ) → are_plain topic ≡ true
    → codes "/channel/" ++ (without_zeros (decimal channel) ++ (without_zeros topic ++ [])) ≡ encode_utf8_all (channel_address channel ++ topic)
channel-parts channel topic plain =
    let number = decimal_plain channel in
    let address : are_plain (channel_address channel ++ topic) ≡ true = plain-append (channel_address channel) topic (plain-append (codes "/channel/") (decimal channel) refl number) plain in
    rw (plain_kept (decimal channel) number, plain_kept topic plain, append-nil, plain_encoded (channel_address channel ++ topic) address) (sym (append_assoc (codes "/channel/") (decimal channel) topic))

-- the address of a layer
pub layer-parts : (channel layer : ℕ) (topic : List ℕ) → are_plain topic ≡ true
    → codes "/channel/" ++ (without_zeros (decimal channel) ++ (codes "/layer/" ++ (without_zeros (decimal layer) ++ (without_zeros topic ++ []))))
    ≡ encode_utf8_all (layer_address channel layer ++ topic)
layer-parts channel layer topic plain =
    let first = decimal_plain channel in
    let second = decimal_plain layer in
    let address : are_plain (layer_address channel layer ++ topic) ≡ true =
    plain-append (layer_address channel layer) topic (plain-append (channel_address channel) (codes "/layer/" ++ decimal layer) (plain-append (codes "/channel/") (decimal channel) refl first)
    (plain-append (codes "/layer/") (decimal layer) refl second)) plain in
    rw (plain_kept (decimal channel) first, plain_kept (decimal layer) second, plain_kept topic plain, append-nil, plain_encoded (layer_address channel layer ++ topic) address)
    (sym (simp append_assoc refl))

-- the word of a colour
pub colour-parts : (value : ℕ) → 35 ∷ (without_zeros (capital_digits 8 value) ++ []) ≡ encode_utf8_all (without_zeros (35 ∷ capital_digits 8 value))
colour-parts value =
    let digits = capitals_plain 8 value in
    ap (λ (word : List ℕ). 35 ∷ (word ++ [])) (plain_kept (capital_digits 8 value) digits)
    ∙ ap (λ (word : List ℕ). 35 ∷ word) (append-nil (capital_digits 8 value))
    ∙ sym (plain_word (35 ∷ capital_digits 8 value) digits)

-- the word of a route to a channel
pub channel-route : (channel : ℕ) → codes "route://" ++ (without_zeros (decimal channel) ++ []) ≡ encode_utf8_all (without_zeros (codes "route://" ++ decimal channel))
channel-route channel =
    let number = decimal_plain channel in
    ap (λ (word : List ℕ). codes "route://" ++ (word ++ [])) (plain_kept (decimal channel) number)
    ∙ ap (λ (word : List ℕ). codes "route://" ++ word) (append-nil (decimal channel))
    ∙ sym (plain_word (codes "route://" ++ decimal channel) number)

-- the word of a route to a layer
pub place-route : (place : PlaceView) → codes "route://" ++ (without_zeros (decimal place.channel) ++ (45 ∷ (without_zeros (decimal place.layer) ++ [])))
    ≡ encode_utf8_all (without_zeros (codes "route://" ++ place_text place))
place-route place =
    let first = decimal_plain place.channel in
    let second = decimal_plain place.layer in
    let whole : are_plain (place_text place) ≡ true = plain-append (decimal place.channel) (45 ∷ decimal place.layer) first second in
    ap (λ (word : List ℕ). codes "route://" ++ (word ++ (45 ∷ (without_zeros (decimal place.layer) ++ [])))) (plain_kept (decimal place.channel) first)
    ∙ ap (λ (word : List ℕ). codes "route://" ++ (decimal place.channel ++ (45 ∷ (word ++ [])))) (plain_kept (decimal place.layer) second)
    ∙ ap (λ (word : List ℕ). codes "route://" ++ (decimal place.channel ++ (45 ∷ word))) (append-nil (decimal place.layer))
    ∙ sym (plain_word (codes "route://" ++ place_text place) whole)

-- a text was added that is written in parts
pub worded : (result : Sent) (form : Form) (start parts word more : List ℕ) (first after : SinkState) → parts ≡ encode_utf8_all word
    → Adds result (start ++ formed form (padded parts)) more first after → Adds result (start ++ formed form (text_bytes word)) more first after
worded result form start parts word more first after e adds = subst (λ (text : List ℕ). Adds result (start ++ formed form (padded text)) more first after) e adds

-- a message in either form: its address, the letters, and the arguments
message-parts : (form : Form) (message : Message) → formed form (message_bytes message)
    ≡ formed form (text_bytes message.address) ++ (formed form (padded (letters message.args)) ++ formed form (flat_map value_bytes message.args))
message-parts form message =
    formed-append form (text_bytes message.address) (padded (letters message.args) ++ flat_map value_bytes message.args)
    ∙ ap (λ (rest : List ℕ). formed form (text_bytes message.address) ++ rest) (formed-append form (padded (letters message.args)) (flat_map value_bytes message.args))

pub ticks-parts : (form : Form) (channel count : ℕ) → formed form (message_bytes (ticks_message channel count))
    ≡ formed form (text_bytes (channel_address channel ++ codes "/ticks")) ++ (formed form (padded (codes ",i")) ++ formed form (to_be_bytes w32 (count % TICKS_MODULUS)))
ticks-parts form channel count = message-parts form (ticks_message channel count)

pub producer-parts : (form : Form) (names : List MediaNameView) (layer : LayerStatus) → formed form (message_bytes (producer_message names layer))
    ≡ formed form (text_bytes (layer_address layer.channel layer.layer ++ codes "/producer"))
    ++ (formed form (padded (codes ",s")) ++ formed form (text_bytes (without_zeros (producer_text names layer.spec))))
producer-parts form names layer =
    message-parts form (producer_message names layer)
    ∙ ap (λ (word : List ℕ). formed form (text_bytes (layer_address layer.channel layer.layer ++ codes "/producer")) ++ (formed form (padded (codes ",s")) ++ formed form word))
    (append-nil (text_bytes (without_zeros (producer_text names layer.spec))))

pub frame-parts : (form : Form) (layer : LayerStatus) → formed form (message_bytes (frame_message layer))
    ≡ formed form (text_bytes (layer_address layer.channel layer.layer ++ codes "/frame"))
    ++ (formed form (padded (codes ",ii")) ++ (formed form (to_be_bytes w32 layer.frame) ++ formed form (to_be_bytes w32 layer.length)))
frame-parts form layer =
    message-parts form (frame_message layer)
    ∙ ap (λ (values : List ℕ). formed form (text_bytes (layer_address layer.channel layer.layer ++ codes "/frame")) ++ (formed form (padded (codes ",ii")) ++ values))
    (formed-append form (to_be_bytes w32 layer.frame) (to_be_bytes w32 layer.length))

flag_bytes : (flag : Bool) → to_be_bytes w32 (cast_unsigned w32 (flag_number flag)) ≡ to_be_bytes w32 (from_bool flag)
flag_bytes true = refl
flag_bytes false = refl

pub paused-parts : (form : Form) (layer : LayerStatus) → formed form (message_bytes (paused_message layer))
    ≡ formed form (text_bytes (layer_address layer.channel layer.layer ++ codes "/paused"))
    ++ (formed form (padded (codes ",i")) ++ formed form (to_be_bytes w32 (from_bool layer.paused)))
paused-parts form layer =
    message-parts form (paused_message layer)
    ∙ ap (λ (value : List ℕ). formed form (text_bytes (layer_address layer.channel layer.layer ++ codes "/paused")) ++ (formed form (padded (codes ",i")) ++ formed form value))
    (flag_bytes layer.paused)

-- a line: O and the number of ticks, the message in hexadecimal, and the end of the line
pub line-parts : (count : ℕ) (message : Message) → status_line count message
    ≡ line_start count ++ (encode_lower (message_bytes message) ++ 10 ∷ [])
unfolding status_line
line-parts count message = simp append_assoc refl

-- the three lines of a layer
pub three-lines : (names : List MediaNameView) (count : ℕ) (layer : LayerStatus) → layer_lines names count layer
    ≡ status_line count (producer_message names layer) ++ (status_line count (frame_message layer) ++ status_line count (paused_message layer))
unfolding layer_lines
three-lines names count layer =
    ap (λ (last : List ℕ). status_line count (producer_message names layer) ++ (status_line count (frame_message layer) ++ last)) (append-nil (status_line count (paused_message layer)))
