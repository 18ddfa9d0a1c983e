-- The words of a command have ASCII characters alone, except the name of a clip, and none of them is a blank, a quotation mark
-- or a backslash.
use Rattle.std.proofs.Common.{◌≡◌, ℕ, ◌+◌, ◌-◌, ◌/◌, ◌%◌, ◌^◌, ◌<◌, zero, suc, Bool, true, false, cond, not, ◌&&◌, ◌==◌, nat_lt, List, [], ◌∷◌, ◌++◌, map, take, length, ℤ, pos, negsuc, refl, ap, ◌∙◌, arith, inl, inr, append-nil, lit<}
use Rattle.std.specs.Prelude.{encode_utf8_all, codes, decimal, flat_map}
use Rattle.std.specs.List.{list_all, suffix_len}
use Rattle.std.specs.Fmt.{digits, digits_onto, digit_glyph}
use Rattle.std.specs.Str.{IsAscii}
use Rattle.std.proofs.lemmas.Bool.{cases_Bool, and_parts}
use Rattle.std.proofs.lemmas.Bool.Decides.{nat_tests}
use Rattle.std.proofs.lemmas.Str.{encodes-append, encodes-IsAscii}
use Rattle.std.proofs.lemmas.Str.Ascii.{IsAscii-nil, IsAscii-cons}
use Rattle.std.proofs.lemmas.List.Folds.{list_all-append}
use Rattle.amcp_text.specs.Micros.{last_digits, without_end_zeros, printed_unsigned}
use Rattle.play_types.specs.Place.{PlaceView}
use Rattle.play_types.specs.RecNames.{is_rec_char, is_rec_word}
use Rattle.play_types.specs.Media.{MediaNameView}
use Rattle.play_types.specs.Take.{TakeView}
use Rattle.play_types.specs.Transition.{TransView}
use Rattle.play_types.specs.Setting.{SettingView}
use Rattle.play_types.specs.Words.{curve_text, name_text, prop_text, kind_text}
use Rattle.play_types.specs.Commands.{command_name}
use Rattle.play_types.specs.declared.reply.Name.{Name}
use Rattle.play_types.specs.declared.reply.Name.TheVariants as name
use Rattle.play_types.specs.declared.take.Spec.{Spec}
use Rattle.play_types.specs.declared.take.Spec.TheVariants.{Clip, Colour, RouteChannel, RouteLayer}
use Rattle.play_types.specs.declared.transition.Kind.{Kind}
use Rattle.play_types.specs.declared.transition.Kind.TheVariants.{Cut, Mix, Push, Slide, Wipe}
use Rattle.play_types.specs.declared.transition.Curve.{Curve}
use Rattle.play_types.specs.declared.transition.Curve.TheVariants.{Linear, EaseInQuad, EaseOutQuad, EaseInCubic, EaseOutCubic}
use Rattle.play_types.specs.declared.setting.Prop.{Prop}
use Rattle.play_types.specs.declared.setting.Prop.TheVariants as prop
use Rattle.play_types.specs.declared.command.Cmd.{Cmd}
use Rattle.play_types.specs.declared.command.Cmd.TheVariants as cmd
use Rattle.history_model.specs.stage.Answer.{number_count}
use Rattle.history_model.specs.text.Commands.{Word, Plain, Quoted, word_text, number_word, place_text, place_word, flag_words, capital_digits, producer_word, part_words, direction_text, timed_words, transition_words, take_words, micro_word, timing_words, setting_words, recording_word, arguments, command_text}
use Rattle.cmd_print.specs.inner.Bytes.{word_bytes, spaced}

-- a visible ASCII character that is no quotation mark and no backslash
abbrev pub is_plain : ℕ → Bool
is_plain c = (nat_lt 32 c && nat_lt c 127) && (not (c == 34) && not (c == 92))

abbrev pub is_some_text : List ℕ → Bool
is_some_text [] = false
is_some_text (c ∷ cs) = true

-- a word that can be printed: one without quotation marks has plain characters, at least one
abbrev pub is_fit : Word → Bool
is_fit (Plain word) = is_some_text word && list_all is_plain word
is_fit (Quoted name) = true

abbrev pub are_fit : List Word → Bool
are_fit words = list_all is_fit words

-- two parts that are both plain, of which the first has a character
fit_parts : (a b : List ℕ) → is_fit (Plain a) ≡ true → list_all is_plain b ≡ true → is_fit (Plain (a ++ b)) ≡ true
fit_parts [] b h all = cc
fit_parts (c ∷ cs) b h all =
    let plain = and_parts (is_plain c) (list_all is_plain cs) h in
    rw (list_all-append is_plain cs b, plain.0, plain.1, all) refl

-- a plain character before plain ones
fit_cons : (c : ℕ) (cs : List ℕ) → is_plain c ≡ true → list_all is_plain cs ≡ true → is_fit (Plain (c ∷ cs)) ≡ true
fit_cons c cs first rest = rw (first, rest) refl

pub plain_of_fit : (word : List ℕ) → is_fit (Plain word) ≡ true → list_all is_plain word ≡ true
plain_of_fit word h = (and_parts (is_some_text word) (list_all is_plain word) h).1

plain_digit : (d : ℕ) → d < 10 → is_plain (48 + d) ≡ true
plain_digit d small = grind (arith, nat_tests)

plain_glyph : (upper : Bool) (d : ℕ) → d < 16 → is_plain (digit_glyph upper d) ≡ true
plain_glyph true d small = grind (arith, nat_tests)
plain_glyph false d small = grind (arith, nat_tests)

fit_digits : (k n : ℕ) (acc : List ℕ) → is_fit (Plain acc) ≡ true → is_fit (Plain (digits_onto k 10 false n acc)) ≡ true
fit_digits zero n acc h = h
fit_digits (suc k) n acc h =
    let digit = plain_glyph false (n % 10) (omega arith) in
    let more = fit_cons (digit_glyph false (n % 10)) acc digit (plain_of_fit acc h) in
    elim (cases_Bool (n / 10 == 0)) [
      | inl last ↦ rw last more
      | inr next ↦ rw next (fit_digits k (n / 10) (digit_glyph false (n % 10) ∷ acc) more)
    ]

pub fit_decimal : (n : ℕ) → is_fit (Plain (decimal n)) ≡ true
unfolding digits
fit_decimal n =
    let digit = plain_glyph false (n % 10) (omega arith) in
    let one = fit_cons (digit_glyph false (n % 10)) [] digit refl in
    elim (cases_Bool (n / 10 == 0)) [
      | inl last ↦ rw last one
      | inr next ↦ rw next (fit_digits 63 (n / 10) (digit_glyph false (n % 10) ∷ []) one)
    ]

plain_decimal : (n : ℕ) → list_all is_plain (decimal n) ≡ true
plain_decimal n = plain_of_fit (decimal n) (fit_decimal n)

pub fit_place : (place : PlaceView) → is_fit (place_word place) ≡ true
fit_place place =
    fit_parts (decimal place.channel) (45 ∷ decimal place.layer) (fit_decimal place.channel)
    (plain_of_fit (45 ∷ decimal place.layer) (fit_cons 45 (decimal place.layer) refl (plain_decimal place.layer)))

plain_last_digits : (count n : ℕ) → list_all is_plain (last_digits count n) ≡ true
unfolding last_digits
plain_last_digits zero n = refl
plain_last_digits (suc count) n = rw (plain_digit (n / 10 ^ count % 10) (omega arith), plain_last_digits count n) refl

plain_take : (count : ℕ) (cs : List ℕ) → list_all is_plain cs ≡ true → list_all is_plain (take count cs) ≡ true
plain_take zero cs h = refl
plain_take (suc count) [] h = refl
plain_take (suc count) (c ∷ cs) h =
    let plain = and_parts (is_plain c) (list_all is_plain cs) h in
    rw (plain.0, plain_take count cs plain.1) refl

plain_places : (n : ℕ) → list_all is_plain (without_end_zeros (last_digits 6 n)) ≡ true
plain_places n =
    plain_take (length (last_digits 6 n) - suffix_len (λ c. c == 48) (last_digits 6 n)) (last_digits 6 n) (plain_last_digits 6 n)

fit_unsigned : (n : ℕ) → is_fit (Plain (printed_unsigned n)) ≡ true
fit_unsigned n = elim (cases_Bool (n % 1000000 == 0)) [
  | inl whole ↦ rw (whole, append-nil (decimal (n / 1000000))) (fit_decimal (n / 1000000))
  | inr part ↦
      let places = without_end_zeros (last_digits 6 (n % 1000000)) in
      rw part (fit_parts (decimal (n / 1000000)) (46 ∷ places) (fit_decimal (n / 1000000))
      (plain_of_fit (46 ∷ places) (fit_cons 46 places refl (plain_places (n % 1000000)))))
]

pub fit_micro : (value : ℤ) → is_fit (micro_word value) ≡ true
fit_micro (pos n) = fit_unsigned n
fit_micro (negsuc n) = fit_cons 45 (printed_unsigned (suc n)) refl (plain_of_fit (printed_unsigned (suc n)) (fit_unsigned (suc n)))

fit_micros : (values : List ℤ) → are_fit (map micro_word values) ≡ true
fit_micros [] = refl
fit_micros (value ∷ values) = rw (fit_micro value, fit_micros values) refl

plain_capitals : (count n : ℕ) → list_all is_plain (capital_digits count n) ≡ true
plain_capitals zero n = refl
plain_capitals (suc count) n = rw (plain_glyph true (n / 16 ^ count % 16) (omega arith), plain_capitals count n) refl

fit_producer : (media : List MediaNameView) (spec : Spec) → is_fit (producer_word media spec) ≡ true
fit_producer media (Clip id) = refl
fit_producer media (Colour value) = fit_cons 35 (capital_digits 8 value) refl (plain_capitals 8 value)
fit_producer media (RouteChannel channel) = fit_parts (codes "route://") (decimal channel) refl (plain_decimal channel)
fit_producer media (RouteLayer place) = fit_parts (codes "route://") (place_text place) refl (plain_of_fit (place_text place) (fit_place place))

-- words that are fit, before others
both : (xs ys : List Word) → are_fit xs ≡ true → are_fit ys ≡ true → are_fit (xs ++ ys) ≡ true
both xs ys first rest = rw (list_all-append is_fit xs ys, first, rest) refl

one_more : (word : Word) (words : List Word) → is_fit word ≡ true → are_fit words ≡ true → are_fit (word ∷ words) ≡ true
one_more word words first rest = rw (first, rest) refl

fit_flag : (is_set : Bool) (word : List ℕ) → is_fit (Plain word) ≡ true → are_fit (flag_words is_set word) ≡ true
fit_flag true word h = rw h refl
fit_flag false word h = refl

fit_part : (spec : Spec) (take : TakeView) → are_fit (part_words spec take) ≡ true
fit_part (Clip id) take =
    both (flag_words take.looped (codes "LOOP"))
    (Plain (codes "SEEK") ∷ number_word take.seek ∷ Plain (codes "LENGTH") ∷ number_word take.length ∷ [])
    (fit_flag take.looped (codes "LOOP") refl)
    (rw (fit_decimal take.seek, fit_decimal take.length) refl)
fit_part (Colour value) take = refl
fit_part (RouteChannel channel) take = refl
fit_part (RouteLayer place) take = refl

fit_curve : (curve : Curve) → is_fit (Plain (curve_text curve)) ≡ true
fit_curve Linear = refl
fit_curve EaseInQuad = refl
fit_curve EaseOutQuad = refl
fit_curve EaseInCubic = refl
fit_curve EaseOutCubic = refl

fit_direction : (leftward : Bool) → is_fit (Plain (direction_text leftward)) ≡ true
fit_direction true = refl
fit_direction false = refl

fit_kind : (kind : Kind) → is_fit (Plain (kind_text kind)) ≡ true
fit_kind Cut = refl
fit_kind Mix = refl
fit_kind Push = refl
fit_kind Slide = refl
fit_kind Wipe = refl

fit_timed : (kind : Kind) (trans : TransView) → are_fit (timed_words kind trans) ≡ true
fit_timed kind trans = rw (fit_kind kind, fit_decimal trans.duration, fit_curve trans.curve, fit_direction trans.leftward) refl

fit_transition : (kind : Kind) (trans : TransView) → are_fit (transition_words kind trans) ≡ true
fit_transition Cut trans = refl
fit_transition Mix trans = fit_timed Mix trans
fit_transition Push trans = fit_timed Push trans
fit_transition Slide trans = fit_timed Slide trans
fit_transition Wipe trans = fit_timed Wipe trans

fit_take : (media : List MediaNameView) (take : TakeView) → are_fit (take_words media take) ≡ true
fit_take media take =
    let part = part_words take.spec take in
    let trans = transition_words take.trans.kind take.trans in
    let auto = flag_words take.auto (codes "AUTO") in
    one_more (producer_word media take.spec) (part ++ (trans ++ auto)) (fit_producer media take.spec)
    (both part (trans ++ auto) (fit_part take.spec take)
    (both trans auto (fit_transition take.trans.kind take.trans) (fit_flag take.auto (codes "AUTO") refl)))

fit_prop : (property : Prop) → is_fit (Plain (prop_text property)) ≡ true
fit_prop prop.Opacity = refl
fit_prop prop.Fill = refl
fit_prop prop.Clip = refl
fit_prop prop.Volume = refl
fit_prop prop.Keyer = refl

fit_tween : (setting : SettingView) → are_fit (number_word setting.duration ∷ Plain (curve_text setting.curve) ∷ []) ≡ true
fit_tween setting = rw (fit_decimal setting.duration, fit_curve setting.curve) refl

fit_timing : (property : Prop) (setting : SettingView) → are_fit (timing_words property setting) ≡ true
fit_timing prop.Opacity setting = fit_tween setting
fit_timing prop.Fill setting = fit_tween setting
fit_timing prop.Clip setting = fit_tween setting
fit_timing prop.Volume setting = fit_tween setting
fit_timing prop.Keyer setting = refl

fit_setting : (setting : SettingView) → are_fit (setting_words setting) ≡ true
fit_setting setting =
    let numbers = take (number_count setting.prop) setting.values in
    let timing = timing_words setting.prop setting in
    let defer = flag_words setting.deferred (codes "DEFER") in
    one_more (Plain (prop_text setting.prop)) (map micro_word numbers ++ (timing ++ defer)) (fit_prop setting.prop)
    (both (map micro_word numbers) (timing ++ defer) (fit_micros numbers)
    (both timing defer (fit_timing setting.prop setting) (fit_flag setting.deferred (codes "DEFER") refl)))

plain_rec_char : (c : ℕ) → is_rec_char c ≡ true → is_plain c ≡ true
plain_rec_char c h = grind (arith, nat_tests, h)

plain_rec_chars : (word : List ℕ) → list_all is_rec_char word ≡ true → list_all is_plain word ≡ true
plain_rec_chars [] h = refl
plain_rec_chars (c ∷ cs) h =
    let parts = and_parts (is_rec_char c) (list_all is_rec_char cs) h in
    rw (plain_rec_char c parts.0, plain_rec_chars cs parts.1) refl

fit_rec_word : (word : List ℕ) → is_rec_word word ≡ true → is_fit (Plain word) ≡ true
fit_rec_word [] h = cc
fit_rec_word (c ∷ cs) h = plain_rec_chars (c ∷ cs) (and_parts _ (list_all is_rec_char (c ∷ cs)) h).1

-- the name of a recording can be printed
fit_recording : (name : List ℕ) → is_fit (recording_word name) ≡ true
fit_recording name = by_test (is_rec_word name) refl
  where
    by_test : (b : Bool) → is_rec_word name ≡ b → is_fit (cond b (Plain name) (Quoted name)) ≡ true
    by_test true is = fit_rec_word name is
    by_test false is = refl

pub fit_arguments : (media : List MediaNameView) (command : Cmd) → are_fit (arguments media command) ≡ true
fit_arguments media (cmd.Load place take) = one_more (place_word place) (take_words media take) (fit_place place) (fit_take media take)
fit_arguments media (cmd.LoadBg place take) = one_more (place_word place) (take_words media take) (fit_place place) (fit_take media take)
fit_arguments media (cmd.Play place) = one_more (place_word place) [] (fit_place place) refl
fit_arguments media (cmd.PlayTake place take) = one_more (place_word place) (take_words media take) (fit_place place) (fit_take media take)
fit_arguments media (cmd.Pause place) = one_more (place_word place) [] (fit_place place) refl
fit_arguments media (cmd.Resume place) = one_more (place_word place) [] (fit_place place) refl
fit_arguments media (cmd.StopLayer place) = one_more (place_word place) [] (fit_place place) refl
fit_arguments media (cmd.ClearLayer place) = one_more (place_word place) [] (fit_place place) refl
fit_arguments media (cmd.ClearChannel channel) = one_more (number_word channel) [] (fit_decimal channel) refl
fit_arguments media (cmd.SwapLayers one other transforms) =
    one_more (place_word one) (place_word other ∷ flag_words transforms (codes "TRANSFORMS")) (fit_place one)
    (one_more (place_word other) (flag_words transforms (codes "TRANSFORMS")) (fit_place other) (fit_flag transforms (codes "TRANSFORMS") refl))
fit_arguments media (cmd.SwapChannels one other transforms) =
    one_more (number_word one) (number_word other ∷ flag_words transforms (codes "TRANSFORMS")) (fit_decimal one)
    (one_more (number_word other) (flag_words transforms (codes "TRANSFORMS")) (fit_decimal other) (fit_flag transforms (codes "TRANSFORMS") refl))
fit_arguments media (cmd.Set setting) = one_more (place_word setting.place) (setting_words setting) (fit_place setting.place) (fit_setting setting)
fit_arguments media (cmd.CommitMixer channel) = one_more (number_word channel) (Plain (codes "COMMIT") ∷ []) (fit_decimal channel) refl
fit_arguments media (cmd.ResetLayer place) = one_more (place_word place) (Plain (codes "CLEAR") ∷ []) (fit_place place) refl
fit_arguments media (cmd.ResetChannel channel) = one_more (number_word channel) (Plain (codes "CLEAR") ∷ []) (fit_decimal channel) refl
fit_arguments media (cmd.AddFile channel name) =
    one_more (number_word channel) (Plain (codes "FILE") ∷ recording_word name ∷ []) (fit_decimal channel)
    (one_more (Plain (codes "FILE")) (recording_word name ∷ []) refl (one_more (recording_word name) [] (fit_recording name) refl))
fit_arguments media (cmd.RemoveFile channel) = one_more (number_word channel) (Plain (codes "FILE") ∷ []) (fit_decimal channel) refl
fit_arguments media (cmd.Value place property) =
    one_more (place_word place) (Plain (prop_text property) ∷ []) (fit_place place) (one_more (Plain (prop_text property)) [] (fit_prop property) refl)
fit_arguments media cmd.Info = refl

pub fit_name : (name : Name) → is_fit (Plain (name_text name)) ≡ true
fit_name name.LoadBg = refl
fit_name name.Load = refl
fit_name name.Play = refl
fit_name name.Pause = refl
fit_name name.Resume = refl
fit_name name.Stop = refl
fit_name name.Clear = refl
fit_name name.Swap = refl
fit_name name.Mixer = refl
fit_name name.Add = refl
fit_name name.Remove = refl
fit_name name.Begin = refl
fit_name name.Commit = refl
fit_name name.Discard = refl
fit_name name.Info = refl
fit_name name.Cls = refl
fit_name name.Version = refl
fit_name name.Bye = refl
fit_name name.Kill = refl
fit_name name.Req = refl

-- plain characters are ASCII
pub ascii_of_plain : (cs : List ℕ) → list_all is_plain cs ≡ true → IsAscii cs
ascii_of_plain [] h = IsAscii-nil
ascii_of_plain (c ∷ cs) h =
    let plain = and_parts (is_plain c) (list_all is_plain cs) h in
    let low : c < 128 = grind (arith, nat_tests, plain.0) in
    IsAscii-cons c cs low (ascii_of_plain cs plain.1)

word-encoded : (word : Word) → is_fit word ≡ true → encode_utf8_all (word_text word) ≡ word_bytes word
word-encoded (Plain word) h = encodes-IsAscii word (ascii_of_plain word (plain_of_fit word h))
word-encoded (Quoted name) h = refl

spaced-encoded : (words : List Word) → are_fit words ≡ true
    → encode_utf8_all (flat_map (λ word. 32 ∷ word_text word) words) ≡ spaced words
unfolding spaced
spaced-encoded [] h = refl
spaced-encoded (word ∷ words) h =
    let fit = and_parts (is_fit word) (are_fit words) h in
    encodes-append (32 ∷ word_text word) (flat_map (λ w. 32 ∷ word_text w) words)
    ∙ ap (λ bytes. bytes ++ encode_utf8_all (flat_map (λ w. 32 ∷ word_text w) words))
    (encodes-append (32 ∷ []) (word_text word)
    ∙ ap (λ bytes. bytes ++ encode_utf8_all (word_text word)) (encodes-IsAscii (32 ∷ []) (IsAscii-cons 32 [] (lit< tt) IsAscii-nil)))
    ∙ rw (word-encoded word fit.0, spaced-encoded words fit.1) refl

-- the bytes of a command's text: its name, and each word after a space
pub command_text-bytes : (media : List MediaNameView) (command : Cmd)
    → encode_utf8_all (command_text media command) ≡ name_text (command_name command) ++ spaced (arguments media command)
unfolding command_text
command_text-bytes media command =
    let name = name_text (command_name command) in
    encodes-append name (flat_map (λ word. 32 ∷ word_text word) (arguments media command))
    ∙ rw (encodes-IsAscii name (ascii_of_plain name (plain_of_fit name (fit_name (command_name command)))), spaced-encoded (arguments media command) (fit_arguments media command)) refl
