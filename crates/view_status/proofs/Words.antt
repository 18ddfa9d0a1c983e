-- The words of producers, which are ASCII unless they are names.
use Rattle.std.proofs.Common.{◌≡◌, ℕ, zero, suc, ◌/◌, ◌%◌, ◌^◌, ◌<◌, Bool, true, List, [], ◌∷◌, ◌++◌, Result, Ok, Err, refl, sym, ap, ◌∙◌, arith, append-nil, chars}
use Rattle.std.specs.Prelude.{nat_lt, if◌then◌else◌, Option, Some, None, slice_get, is_ok, IsOk, OnOk, encode_utf8_all, codes, decimal}
use Rattle.std.specs.Option.{option_map_or}
use Rattle.std.specs.List.{list_all}
use Rattle.std.specs.Fmt.{digit_glyph}
use Rattle.std.specs.Str.{IsAscii, IsUtf8}
use Rattle.std.proofs.lemmas.Bool.{and_parts, ltb-true}
use Rattle.std.proofs.lemmas.Bool.Decides.{nat_tests}
use Rattle.std.proofs.lemmas.Fmt.{IsAscii-decimal}
use Rattle.std.proofs.lemmas.Str.{IsAscii-append, encodes-IsAscii, encodes-chars}
use Rattle.std.proofs.lemmas.Str.Ascii.{IsAscii-cons, IsAscii-nil}
use Rattle.play_types.specs.Media.{MediaNameView}
use Rattle.play_types.specs.Place.{PlaceView}
use Rattle.play_types.specs.declared.take.Spec.TheVariants.{Clip}
use Rattle.history_model.specs.text.Commands.{capital_digits, place_text}
use Rattle.view_status.specs.Producer.{producer_bytes}

-- what `push_str` leaves, if the text that was pushed is a word
pub pushed : {E : Type 0} (r : Result (Unit {0}) E) (new old text word : List ℕ) → new ≡ (if is_ok r then old ++ text else old) → text ≡ word → OnOk r (new ≡ old ++ word)
pushed (Ok done) new old text word bytes same = bytes ∙ ap (λ (added : List ℕ). old ++ added) same
pushed (Err e) new old text word bytes same = tt

-- a result that is no error
pub no_error : {T E : Type 0} (r : Result T E) → ((e : E) → r ≡ Err e → ⊥) → IsOk r
no_error (Ok x) none = refl
no_error (Err e) none = absurd (none e refl)

-- the name of a clip in the table, and no name behind its end
pub name_encoded : (names : List MediaNameView) (id : ℕ) (clip : MediaNameView) (name : List ℕ) → IsUtf8 name → chars name ≡ clip.name
    → slice_get names id ≡ Some clip → name ≡ producer_bytes names (Clip id)
name_encoded names id clip name utf8 same there =
    sym (encodes-chars name utf8) ∙ ap encode_utf8_all same
    ∙ ap (λ (found : Option MediaNameView). encode_utf8_all (option_map_or (λ (one : MediaNameView). one.name) found [])) (sym there)

pub no_name : (names : List MediaNameView) (id : ℕ) (word : List ℕ) → slice_get names id ≡ None → word ≡ word ++ producer_bytes names (Clip id)
no_name names id word none =
    sym (append-nil word)
    ∙ ap (λ (found : Option MediaNameView). word ++ encode_utf8_all (option_map_or (λ (one : MediaNameView). one.name) found [])) (sym none)

abbrev is_low : ℕ → Bool
is_low c = nat_lt c 128

ascii_of : (bytes : List ℕ) → list_all is_low bytes ≡ true → IsAscii bytes
ascii_of [] low = IsAscii-nil
ascii_of (b ∷ bytes) low =
    let parts = and_parts (is_low b) (list_all is_low bytes) low in
    IsAscii-cons b bytes (ltb-true b 128 parts.0) (ascii_of bytes parts.1)

glyph_low : (d : ℕ) → d < 16 → digit_glyph true d < 128
glyph_low d low = grind (arith, nat_tests)

capitals_ascii : (count number : ℕ) → IsAscii (capital_digits count number)
capitals_ascii zero number = IsAscii-nil
capitals_ascii (suc count) number =
    IsAscii-cons (digit_glyph true (number / 16 ^ count % 16)) (capital_digits count number)
    (glyph_low (number / 16 ^ count % 16) (omega arith)) (capitals_ascii count number)

-- a colour
pub colour_ascii : (value : ℕ) → IsAscii (35 ∷ capital_digits 8 value)
colour_ascii value = IsAscii-cons 35 (capital_digits 8 value) (omega arith) (capitals_ascii 8 value)

pub colour_encoded : (value : ℕ) → encode_utf8_all (35 ∷ capital_digits 8 value) ≡ 35 ∷ capital_digits 8 value
colour_encoded value = encodes-IsAscii (35 ∷ capital_digits 8 value) (colour_ascii value)

-- a route to a channel
pub channel_encoded : (channel : ℕ) → channel < 2 ^ 64 → encode_utf8_all (codes "route://" ++ decimal channel) ≡ codes "route://" ++ decimal channel
channel_encoded channel fits =
    encodes-IsAscii (codes "route://" ++ decimal channel)
    (IsAscii-append (codes "route://") (decimal channel) (ascii_of (codes "route://") refl) (IsAscii-decimal channel fits))

-- a route to a layer
pub place_encoded : (place : PlaceView) → place.channel < 2 ^ 64 → place.layer < 2 ^ 64
    → encode_utf8_all (codes "route://" ++ place_text place) ≡ codes "route://" ++ place_text place
place_encoded place channel layer =
    encodes-IsAscii (codes "route://" ++ place_text place)
    (IsAscii-append (codes "route://") (place_text place) (ascii_of (codes "route://") refl)
    (IsAscii-append (decimal place.channel) (45 ∷ decimal place.layer) (IsAscii-decimal place.channel channel)
    (IsAscii-cons 45 (decimal place.layer) (omega arith) (IsAscii-decimal place.layer layer))))
