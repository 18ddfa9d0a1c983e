-- What is known of a command that the words of a line ask for: commands of the mixer, and all commands.
use Rattle.std.proofs.Common.{◌≡◌, ℕ, ◌+◌, ◌≤◌, Bool, true, false, cond, ◌&&◌, nat_lt, List, [], ◌∷◌, length, Result, Ok, Err, ℤ, pos, negsuc, neg_ℤ, ◌≤ℤ◌, refl, sym, ap, ◌∙◌, subst, arith, All}
use Rattle.std.specs.Prelude.{Option, Some, None, slice_get, codes, option_and_then, is_some, unwrap_or, ok_or, unsigned_abs}
use Rattle.std.specs.Int.Signed.{le_z}
use Rattle.std.specs.Fmt.{digits}
use Rattle.std.specs.Str.{bytes_eq}
use Rattle.std.proofs.lemmas.Bool.{leb-true}
use Rattle.std.proofs.lemmas.Int.{ints}
use Rattle.amcp_text.specs.Numbers.{number_within, decimal_micro}
use Rattle.amcp_text.specs.Micros.{micro_of, is_wide, printed_micro, last_digits}
use Rattle.fixed_params.proofs.ReadsBack.{reads_back}
use Rattle.play_types.specs.Config.{ConfigView}
use Rattle.play_types.specs.Media.{MediaNameView, IsMediaName}
use Rattle.play_types.specs.Place.{PlaceView}
use Rattle.play_types.specs.Setting.{values_of, duration_of, kept_curve}
use Rattle.play_types.specs.Words.{is_word, name_of, prop_of}
use Rattle.play_types.specs.declared.transition.TheConstants.{MAX_DURATION}
use Rattle.play_types.specs.declared.transition.Curve.{Curve}
use Rattle.play_types.specs.declared.transition.Curve.TheVariants.{Linear}
use Rattle.play_types.specs.declared.setting.TheConstants.{MICROS_PER_UNIT, MAX_MICROS}
use Rattle.play_types.specs.declared.setting.Prop.{Prop}
use Rattle.play_types.specs.declared.setting.Prop.TheVariants as prop
use Rattle.play_types.specs.declared.reply.Name.{Name}
use Rattle.play_types.specs.declared.reply.Name.TheVariants as name
use Rattle.play_types.specs.declared.command.Cmd.{Cmd}
use Rattle.play_types.specs.declared.command.Cmd.TheVariants as cmd
use Rattle.play_types.specs.declared.parsed.Parsed.TheVariants as parsing
use Rattle.play_types.specs.declared.parsed.Refusal.{Refusal}
use Rattle.play_types.specs.declared.parsed.Refusal.TheVariants.{Unknown, Missing, Illegal}
use Rattle.history_model.specs.commands.Line.{Line, ◌>>=◌, legal, word_at, number_at, ended, flag_at, curve_at}
use Rattle.history_model.specs.commands.Places.{Area, place_of, area_at}
use Rattle.history_model.specs.commands.Mixer.{Timing, up_to, number_of, micros_at, numbers_of, one_number, four_numbers, deferral_at, has_duration, timing_at, timing_of, setting_for, property_command, reset, mixer_command, mixer}
use Rattle.history_model.specs.commands.Recording.{add_file, remove_file}
use Rattle.history_model.specs.commands.Command.{parsed, play, load, load_bg, clear, swap, staged, place_command, meaning_by_name, enough, meaning, least_words}
use Rattle.cmd_print.proofs.Numbers.{number_within-between}
use Rattle.cmd_print.proofs.Known.{IsChannelOf, IsPlaceOf, IsOneNumber, AreFourNumbers, AreKnownNumbers, IsKnown}
use Rattle.cmd_print.proofs.Asked.{bound, given_of, ended_of, fine, ok_injective, some_injective, IsLayer, IsKnownArea, area_at_known, place_known, place_command_known, clear_known, swap_known}
use Rattle.cmd_print.proofs.Takes.{load_known, load_bg_known, play_known}
use Rattle.cmd_print.proofs.Recordings.{add_file_known, remove_file_known}

-- a number of a property is read again as it is printed
wide_one : (z v : ℤ) (wide : Bool) → is_wide z ≡ wide → cond wide (Some z) None ≡ Some v → is_wide v ≡ true
wide_one z v true is h = subst (λ n. is_wide n ≡ true) (some_injective z v h) is
wide_one z v false is h = cc

wide_by : (read : Option ℤ) (v : ℤ) → option_and_then (λ value. cond (is_wide value) (Some value) None) read ≡ Some v → is_wide v ≡ true
wide_by None v h = cc
wide_by (Some z) v h = wide_one z v (is_wide z) refl h

low_of_wide : (v : ℤ) → is_wide v ≡ true → neg_ℤ (pos 1000000000) ≤ℤ v
low_of_wide (pos n) h = omega (arith, ints)
low_of_wide (negsuc n) h =
    let small : unsigned_abs (negsuc n) ≤ 1000000000 = leb-true (unsigned_abs (negsuc n)) 1000000000 h in
    omega (arith, ints, small)

high_of_wide : (v : ℤ) → is_wide v ≡ true → v ≤ℤ pos 1000000000
high_of_wide (pos n) h =
    let small : n ≤ 1000000000 = leb-true n 1000000000 h in
    omega (arith, ints, small)
high_of_wide (negsuc n) h = omega (arith, ints)

micro_again : (word : List ℕ) (v : ℤ) → micro_of word ≡ Some v → micro_of (printed_micro v) ≡ Some v
micro_again word v h =
    let wide = wide_by (decimal_micro word) v h in
    reads_back v (low_of_wide v wide) (high_of_wide v wide)

abbrev IsUpTo : ℤ → Option ℤ → ℤ → Type 0
IsUpTo most read v = (read ≡ Some v) × (up_to most v ≡ Some v)

up_to_one : (most z v : ℤ) (fits : Bool) → (le_z (pos 0) z && le_z z most) ≡ fits → cond fits (Some z) None ≡ Some v → IsUpTo most (Some z) v
up_to_one most z v true is h =
    let same = some_injective z v h in
    (ap Some same, subst (λ n. up_to most n ≡ Some n) same (rw is refl))
up_to_one most z v false is h = cc

up_to_by : (most : ℤ) (read : Option ℤ) (v : ℤ) → option_and_then (up_to most) read ≡ Some v → IsUpTo most read v
up_to_by most None v h = cc
up_to_by most (Some z) v h = up_to_one most z v (le_z (pos 0) z && le_z z most) refl h

keyer_zero : number_of prop.Keyer (printed_micro (pos 0)) ≡ Some (pos 0)
unfolding digits last_digits
keyer_zero = refl

keyer_one : number_of prop.Keyer (printed_micro MICROS_PER_UNIT) ≡ Some MICROS_PER_UNIT
unfolding digits last_digits
keyer_one = refl

keyer_again : (zero one : Bool) (v : ℤ) → cond zero (Some (pos 0)) (cond one (Some MICROS_PER_UNIT) None) ≡ Some v → number_of prop.Keyer (printed_micro v) ≡ Some v
keyer_again true one v h = subst (λ n. number_of prop.Keyer (printed_micro n) ≡ Some n) (some_injective (pos 0) v h) keyer_zero
keyer_again false true v h = subst (λ n. number_of prop.Keyer (printed_micro n) ≡ Some n) (some_injective MICROS_PER_UNIT v h) keyer_one
keyer_again false false v h = cc

number_again : (property : Prop) (word : List ℕ) (v : ℤ) → number_of property word ≡ Some v → number_of property (printed_micro v) ≡ Some v
number_again prop.Opacity word v h =
    let range = up_to_by MICROS_PER_UNIT (micro_of word) v h in
    ap (option_and_then (up_to MICROS_PER_UNIT)) (micro_again word v range.0) ∙ range.1
number_again prop.Volume word v h =
    let range = up_to_by MAX_MICROS (micro_of word) v h in
    ap (option_and_then (up_to MAX_MICROS)) (micro_again word v range.0) ∙ range.1
number_again prop.Fill word v h = micro_again word v h
number_again prop.Clip word v h = micro_again word v h
number_again prop.Keyer word v h = keyer_again (bytes_eq word (codes "0")) (bytes_eq word (codes "1")) v h

micros_again : (line : Line) (at : ℕ) (property : Prop) (v : ℤ) → micros_at line at property ≡ Ok v → number_of property (printed_micro v) ≡ Some v
micros_again line at property v h =
    let one = bound (word_at line at) (λ word. legal line at (number_of property word)) v h in
    number_again property one.value v (given_of (number_of property one.value) (Illegal line.name at) v one.rest)

abbrev zeros_after : ℤ → List ℤ
zeros_after a = a ∷ pos 0 ∷ pos 0 ∷ pos 0 ∷ []

one_known : (line : Line) (property : Prop) (numbers : List ℤ) → one_number line property ≡ Ok numbers → IsOneNumber property numbers
one_known line property numbers h =
    let one = bound (micros_at line 3 property) (λ number. Ok (zeros_after number)) numbers h in
    record { a = one.value; is = sym (ok_injective (zeros_after one.value) numbers one.rest); again = micros_again line 3 property one.value one.first }

abbrev list_of : ℤ → ℤ → ℤ → ℤ → List ℤ
list_of a b c d = a ∷ b ∷ c ∷ d ∷ []

four_known : (line : Line) (property : Prop) (numbers : List ℤ) → four_numbers line property ≡ Ok numbers → AreFourNumbers property numbers
four_known line property numbers h =
    let one = bound (micros_at line 3 property) (λ a. micros_at line 4 property >>= (λ b. micros_at line 5 property >>= (λ c. micros_at line 6 property >>= (λ d. Ok (list_of a b c d))))) numbers h in
    let two = bound (micros_at line 4 property) (λ b. micros_at line 5 property >>= (λ c. micros_at line 6 property >>= (λ d. Ok (list_of one.value b c d)))) numbers one.rest in
    let three = bound (micros_at line 5 property) (λ c. micros_at line 6 property >>= (λ d. Ok (list_of one.value two.value c d))) numbers two.rest in
    let four = bound (micros_at line 6 property) (λ d. Ok (list_of one.value two.value three.value d)) numbers three.rest in
    record {
      a = one.value;
      b = two.value;
      c = three.value;
      d = four.value;
      is = sym (ok_injective (list_of one.value two.value three.value four.value) numbers four.rest);
      again_a = micros_again line 3 property one.value one.first;
      again_b = micros_again line 4 property two.value two.first;
      again_c = micros_again line 5 property three.value three.first;
      again_d = micros_again line 6 property four.value four.first;
    }

-- the numbers that are kept of one number are that number and zeros
kept_one : (property : Prop) (numbers : List ℤ) (keep : List ℤ → List ℤ) → ((a : ℤ) → keep (zeros_after a) ≡ zeros_after a) → IsOneNumber property numbers → IsOneNumber property (keep numbers)
kept_one property numbers keep same one = record { a = one.a; is = ap keep one.is ∙ same one.a; again = one.again }

numbers_known : (line : Line) (property : Prop) (numbers : List ℤ) → numbers_of line property ≡ Ok numbers → AreKnownNumbers property (values_of property numbers)
unfolding numbers_of
numbers_known line prop.Opacity numbers h = kept_one prop.Opacity numbers (values_of prop.Opacity) (λ a. refl) (one_known line prop.Opacity numbers h)
numbers_known line prop.Fill numbers h = four_known line prop.Fill numbers h
numbers_known line prop.Clip numbers h = four_known line prop.Clip numbers h
numbers_known line prop.Volume numbers h = kept_one prop.Volume numbers (values_of prop.Volume) (λ a. refl) (one_known line prop.Volume numbers h)
numbers_known line prop.Keyer numbers h = kept_one prop.Keyer numbers (values_of prop.Keyer) (λ a. refl) (one_known line prop.Keyer numbers h)

-- the duration that is written is in range
abbrev timing_with : ℕ → Curve → Bool → Timing
timing_with duration curve deferred = record { duration = duration; curve = curve; deferred = deferred }

deferral_short : (line : Line) (at duration : ℕ) (curve : Curve) (timing : Timing) → duration ≤ MAX_DURATION → deferral_at line at duration curve ≡ Ok timing
    → timing.duration ≤ MAX_DURATION
deferral_short line at duration curve timing short h =
    let one = bound (flag_at line at (codes "DEFER")) (λ deferred. Ok (timing_with duration curve deferred)) timing h in
    subst (λ (t : Timing). t.duration ≤ MAX_DURATION) (ok_injective (timing_with duration curve one.value) timing one.rest) short

abbrev after_duration : Line → ℕ → ℕ
after_duration line at = cond (is_some (curve_at line (at + 1))) (at + 2) (at + 1)

abbrev said_curve : Line → ℕ → Curve
said_curve line at = unwrap_or (curve_at line (at + 1)) Linear

timing_by : (line : Line) (at : ℕ) (written : Bool) (timing : Timing)
    → cond written (number_at line at 0 MAX_DURATION >>= (λ duration. deferral_at line (after_duration line at) duration (said_curve line at))) (deferral_at line at 0 Linear) ≡ Ok timing
    → timing.duration ≤ MAX_DURATION
timing_by line at true timing h =
    let one = bound (number_at line at 0 MAX_DURATION) (λ duration. deferral_at line (after_duration line at) duration (said_curve line at)) timing h in
    let two = bound (word_at line at) (λ word. legal line at (number_within 0 MAX_DURATION word)) one.value one.first in
    let read = given_of (number_within 0 MAX_DURATION two.value) (Illegal line.name at) one.value two.rest in
    deferral_short line (after_duration line at) one.value (said_curve line at) timing ((number_within-between 0 MAX_DURATION two.value one.value read).high) one.rest
timing_by line at false timing h = deferral_short line at 0 Linear timing (omega arith) h

timing_short : (line : Line) (at : ℕ) (timing : Timing) → timing_at line at ≡ Ok timing → timing.duration ≤ MAX_DURATION
unfolding timing_at
timing_short line at timing h = timing_by line at (has_duration line at) timing h

property_short : (line : Line) (property : Prop) (timing : Timing) → timing_of line property ≡ Ok timing → timing.duration ≤ MAX_DURATION
property_short line prop.Opacity timing h = timing_short line 4 timing h
property_short line prop.Fill timing h = timing_short line 7 timing h
property_short line prop.Clip timing h = timing_short line 7 timing h
property_short line prop.Volume timing h = timing_short line 4 timing h
property_short line prop.Keyer timing h = deferral_short line 4 0 Linear timing (omega arith) h

kept_short : (property : Prop) (duration : ℕ) → duration ≤ MAX_DURATION → duration_of property duration ≤ MAX_DURATION
kept_short prop.Opacity duration short = short
kept_short prop.Fill duration short = short
kept_short prop.Clip duration short = short
kept_short prop.Volume duration short = short
kept_short prop.Keyer duration short = omega arith

kept_twice : (property : Prop) (duration : ℕ) → duration_of property (duration_of property duration) ≡ duration_of property duration
kept_twice prop.Opacity duration = refl
kept_twice prop.Fill duration = refl
kept_twice prop.Clip duration = refl
kept_twice prop.Volume duration = refl
kept_twice prop.Keyer duration = refl

curve_twice : (property : Prop) (curve : Curve) → kept_curve property (kept_curve property curve) ≡ kept_curve property curve
curve_twice prop.Opacity curve = refl
curve_twice prop.Fill curve = refl
curve_twice prop.Clip curve = refl
curve_twice prop.Volume curve = refl
curve_twice prop.Keyer curve = refl

property_by : (line : Line) (place : PlaceView) (property : Prop) (sets : Bool) (asked : Cmd) → IsPlaceOf line.config place
    → cond sets (numbers_of line property >>= (λ numbers. timing_of line property >>= (λ timing. Ok (cmd.Set (setting_for place property numbers timing))))) (Ok (cmd.Value place property)) ≡ Ok asked
    → IsKnown line.config line.media asked
property_by line place property true asked known h =
    let one = bound (numbers_of line property) (λ numbers. timing_of line property >>= (λ timing. Ok (cmd.Set (setting_for place property numbers timing)))) asked h in
    let two = bound (timing_of line property) (λ timing. Ok (cmd.Set (setting_for place property one.value timing))) asked one.rest in
    subst (IsKnown line.config line.media) (ok_injective (cmd.Set (setting_for place property one.value two.value)) asked two.rest)
    (record {
      place = known;
      numbers = numbers_known line property one.value one.first;
      short = kept_short property two.value.duration (property_short line property two.value two.first);
      duration = kept_twice property two.value.duration;
      curve = curve_twice property two.value.curve;
    })
property_by line place property false asked known h =
    subst (IsKnown line.config line.media) (ok_injective (cmd.Value place property) asked h) known

reset_known : (config : ConfigView) (media : List MediaNameView) (channel : ℕ) (layer : Option ℕ) → IsChannelOf config channel → IsLayer layer → IsKnown config media (reset channel layer)
reset_known config media channel None at known = at
reset_known config media channel (Some layer) at known = record { channel = at; layer = known }

mixer_by : (line : Line) (area : Area) (word : List ℕ) (commit clears : Bool) (asked : Cmd) → IsKnownArea line.config area
    → cond commit (ended line 3 (cmd.CommitMixer area.channel)) (cond clears (ended line 3 (reset area.channel area.layer)) (legal line 2 (prop_of word) >>= (λ property. property_command line (place_of area) property))) ≡ Ok asked
    → IsKnown line.config line.media asked
mixer_by line area word true clears asked known h =
    subst (IsKnown line.config line.media) (ended_of line 3 (cmd.CommitMixer area.channel) asked h) known.channel
mixer_by line area word false true asked known h =
    subst (IsKnown line.config line.media) (ended_of line 3 (reset area.channel area.layer) asked h)
    (reset_known line.config line.media area.channel area.layer known.channel known.layer)
mixer_by line area word false false asked known h =
    let one = bound (legal line 2 (prop_of word)) (λ property. property_command line (place_of area) property) asked h in
    property_by line (place_of area) one.value (nat_lt 3 (length line.words)) asked (place_known line.config area known) one.rest

mixer_known : (line : Line) (asked : Cmd) → mixer line ≡ Ok asked → IsKnown line.config line.media asked
unfolding mixer
mixer_known line asked h =
    let one = bound (area_at line 1) (λ area. word_at line 2 >>= (λ word. mixer_command line area word)) asked h in
    let two = bound (word_at line 2) (λ word. mixer_command line one.value word) asked one.rest in
    mixer_by line one.value two.value (is_word (codes "COMMIT") two.value) (is_word (codes "CLEAR") two.value) asked (area_at_known line 1 one.value one.first) two.rest

-- a command of the stage that a line asks for
stage_injective : (a b : Cmd) → fine (parsing.Stage a) ≡ fine (parsing.Stage b) → a ≡ b
stage_injective a b h = cc

staged_of : (command : Result Cmd Refusal) (asked : Cmd) → staged command ≡ Ok (parsing.Stage asked) → command ≡ Ok asked
staged_of (Ok command) asked h = ap Ok (stage_injective command asked h)
staged_of (Err refusal) asked h = cc

by_name : (line : Line) (command : Name) (asked : Cmd) → All IsMediaName line.media → meaning_by_name line command ≡ Ok (parsing.Stage asked) → IsKnown line.config line.media asked
by_name line name.LoadBg asked names h = load_bg_known line asked names (staged_of (load_bg line) asked h)
by_name line name.Load asked names h = load_known line asked names (staged_of (load line) asked h)
by_name line name.Play asked names h = play_known line asked names (staged_of (play line) asked h)
by_name line name.Pause asked names h = place_command_known line cmd.Pause asked (λ place known. known) (staged_of (place_command line cmd.Pause) asked h)
by_name line name.Resume asked names h = place_command_known line cmd.Resume asked (λ place known. known) (staged_of (place_command line cmd.Resume) asked h)
by_name line name.Stop asked names h = place_command_known line cmd.StopLayer asked (λ place known. known) (staged_of (place_command line cmd.StopLayer) asked h)
by_name line name.Clear asked names h = clear_known line asked (staged_of (clear line) asked h)
by_name line name.Swap asked names h = swap_known line asked (staged_of (swap line) asked h)
by_name line name.Mixer asked names h = mixer_known line asked (staged_of (mixer line) asked h)
by_name line name.Add asked names h = add_file_known line asked (staged_of (add_file line) asked h)
by_name line name.Remove asked names h = remove_file_known line asked (staged_of (remove_file line) asked h)
by_name line name.Begin asked names h = let other = ended_of line 1 parsing.Begin (parsing.Stage asked) h in cc
by_name line name.Commit asked names h = let other = ended_of line 1 parsing.Commit (parsing.Stage asked) h in cc
by_name line name.Discard asked names h = let other = ended_of line 1 parsing.Discard (parsing.Stage asked) h in cc
by_name line name.Info asked names h =
    let same : cmd.Info ≡ asked = stage_injective cmd.Info asked (ap Ok (ended_of line 1 (parsing.Stage cmd.Info) (parsing.Stage asked) h)) in
    subst (IsKnown line.config line.media) same tt
by_name line name.Cls asked names h = let other = ended_of line 1 parsing.Cls (parsing.Stage asked) h in cc
by_name line name.Version asked names h =
    let one = bound (flag_at line 1 (codes "SERVER")) (λ named. Ok parsing.Version) (parsing.Stage asked) h in
    let other = ok_injective parsing.Version (parsing.Stage asked) one.rest in
    cc
by_name line name.Bye asked names h = let other = ended_of line 1 parsing.Bye (parsing.Stage asked) h in cc
by_name line name.Kill asked names h = let other = ended_of line 1 parsing.Kill (parsing.Stage asked) h in cc
by_name line name.Req asked names h = absurd cc

enough_by : (line : Line) (long : Bool) (asked : Cmd) → All IsMediaName line.media → cond long (meaning line) (Err (Missing line.name)) ≡ Ok (parsing.Stage asked) → IsKnown line.config line.media asked
enough_by line true asked names h = by_name line line.name asked names h
enough_by line false asked names h = cc

abbrev line_with : ConfigView → List MediaNameView → List (List ℕ) → Name → Line
line_with config media words command = record { name = command; words = words; config = config; media = media }

-- what is known of a command of the stage that words ask for
pub parsed_known : (config : ConfigView) (media : List MediaNameView) (words : List (List ℕ)) (asked : Cmd) → All IsMediaName media
    → parsed config media words ≡ Ok (parsing.Stage asked) → IsKnown config media asked
unfolding parsed
parsed_known config media words asked names h =
    let one = bound (ok_or (slice_get words 0) Unknown) (λ word. ok_or (name_of word) Unknown >>= (λ command. enough (line_with config media words command))) (parsing.Stage asked) h in
    let two = bound (ok_or (name_of one.value) Unknown) (λ command. enough (line_with config media words command)) (parsing.Stage asked) one.rest in
    enough_by (line_with config media words two.value) (nat_lt (least_words two.value) (length words)) asked names two.rest
