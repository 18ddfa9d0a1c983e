-- A command that words ask for names configured channels alone.
use Rattle.std.proofs.Common.{◌≡◌, ℕ, ◌+◌, ◌-◌, ◌≤◌, ◌&&◌, Bool, true, false, List, length, refl, ap, subst, arith}
use Rattle.std.specs.Prelude.{Option, Some, None, Result, Ok, Err, IfOk, ok_or, nat_le, nat_lt, if◌then◌else◌, slice_get, drop}
use Rattle.std.specs.List.{before_first}
use Rattle.std.specs.Result.{result_ok}
use Rattle.std.specs.Option.{option_and_then}
use Rattle.std.specs.Prelude.{codes, ◌==◌}
use Rattle.std.proofs.lemmas.Bool.Decides.{nat_tests}
use Rattle.std.proofs.lemmas.Option.{none-some, same_Some}
use Rattle.amcp_text.specs.Numbers.{whole_number, number_within}
use Rattle.play_types.specs.Config.{ConfigView}
use Rattle.play_types.specs.Media.{MediaNameView}
use Rattle.play_types.specs.Place.{PlaceView}
use Rattle.play_types.specs.declared.command.Cmd.{Cmd}
use Rattle.play_types.specs.declared.command.Cmd.TheVariants as cmd
use Rattle.play_types.specs.declared.reply.Name.{Name}
use Rattle.play_types.specs.declared.reply.Name.TheVariants as name
use Rattle.play_types.specs.declared.setting.Prop.{Prop}
use Rattle.play_types.specs.declared.parsed.Parsed.{Parsed}
use Rattle.play_types.specs.declared.parsed.Parsed.TheVariants as asked
use Rattle.play_types.specs.declared.parsed.Refusal.{Refusal}
use Rattle.play_types.specs.declared.parsed.Refusal.TheVariants.{Channel, Illegal, Missing, Unknown, Unreadable}
use Rattle.play_types.specs.Take.{TakeView, loaded, played}
use Rattle.play_types.specs.declared.take.Spec.{Spec}
use Rattle.play_types.specs.declared.take.Spec.TheVariants.{Clip, Colour, RouteChannel, RouteLayer}
use Rattle.play_types.specs.Scene.{IsConfigured}
use Rattle.history_model.specs.commands.Channels.{IsRouted, IsAimed}
use Rattle.history_model.specs.commands.Options.{Options, options_at}
use Rattle.history_model.specs.commands.Line.{Line, ◌>>=◌, ended, word_at, legal, flag_at}
use Rattle.play_types.specs.Words.{is_word, prop_of, name_of}
use Rattle.history_model.specs.commands.Places.{Area, place_of, area_of, area_at, is_dash, layer_of}
use Rattle.history_model.specs.commands.Recording.{add_file, channel_at, file_channel, fixed_at, rec_name_at, remove_file, whole_channel}
use Rattle.history_model.specs.commands.Mixer.{mixer, mixer_command, property_command, reset, numbers_of, setting_for, timing_of}
use Rattle.history_model.specs.commands.Producer.{Producer, plain, is_colour_word, colour_of_digits, is_route_word, route_to, named_colour, clip_named, clip_producer, named_producer, producer_of, played_length, take_for, take_with, take_at}
use Rattle.history_model.specs.commands.Command.{parsed, enough, meaning, meaning_by_name, least_words, staged, play, load, load_bg, clear, cleared, swap, swapped, only_place, place_command}

-- the channels of a command of the stage are configured ones
abbrev pub IsAimedParsed : ConfigView → Parsed → Type 0
IsAimedParsed config (asked.Stage command) = IsAimed config command
IsAimedParsed config asked.Begin = Unit {0}
IsAimedParsed config asked.Commit = Unit {0}
IsAimedParsed config asked.Discard = Unit {0}
IsAimedParsed config asked.Cls = Unit {0}
IsAimedParsed config asked.Version = Unit {0}
IsAimedParsed config asked.Bye = Unit {0}
IsAimedParsed config asked.Kill = Unit {0}

-- what holds of each value of the next step holds of the value of both steps
bound : {A B : Type 0} (P : B → Type 0) (first : Result A Refusal) (next : A → Result B Refusal) → ((value : A) → first ≡ Ok value → IfOk (next value) P) → IfOk (first >>= next) P
bound P (Ok value) next each = each value refl
bound P (Err reason) next each = tt

-- a number that lies within the ends
kept_number : (least most n : ℕ) (b : Bool) (channel : ℕ) → (nat_le least n && nat_le n most) ≡ b → (if b then Some n else None) ≡ Some channel
    → (least ≤ channel) × (channel ≤ most)
kept_number least most n true channel is found =
    let same : n ≡ channel = same_Some n channel found in
    let low : least ≤ n = grind (arith, nat_tests) in
    let high : n ≤ most = grind (arith, nat_tests) in
    (omega (arith, same, low), omega (arith, same, high))
kept_number least most n false channel is found = absurd (none-some channel found)

within_by : (least most : ℕ) (number : Option ℕ) (channel : ℕ)
    → option_and_then (λ n. if nat_le least n && nat_le n most then Some n else None) number ≡ Some channel → (least ≤ channel) × (channel ≤ most)
within_by least most None channel found = absurd (none-some channel found)
within_by least most (Some n) channel found = kept_number least most n (nat_le least n && nat_le n most) channel refl found

number_within-is : (least most : ℕ) (word : List ℕ) (channel : ℕ) → number_within least most word ≡ Some channel → (least ≤ channel) × (channel ≤ most)
number_within-is least most word channel found = within_by least most (whole_number word) channel found

ok_or-is : {A : Type 0} (found : Option A) (reason : Refusal) (value : A) → ok_or found reason ≡ Ok value → found ≡ Some value
ok_or-is None reason value is = absurd (err-ok reason value is)
  where
    err-ok : {A : Type 0} (reason : Refusal) (value : A) → Err reason ≡ Ok value → ⊥
    err-ok reason value e = cc
ok_or-is (Some other) reason value is = ap Some (let same : other ≡ value = cc in same)

-- what holds of the value of a result, if it has this one
known : {A : Type 0} (P : A → Type 0) (result : Result A Refusal) (value : A) → IfOk result P → result ≡ Ok value → P value
known P result value all is = subst (λ r. IfOk r P) is all

-- the area is on a configured channel
abbrev IsAimedArea : Line → Area → Type 0
IsAimedArea line area = IsConfigured (length line.config.channels) area.channel

area_of-aimed : (line : Line) (at : ℕ) (word : List ℕ) → IfOk (area_of line at word) (IsAimedArea line)
unfolding area_of
area_of-aimed line at word =
    let number = number_within 1 (length line.config.channels) (before_first is_dash word) in
    bound (IsAimedArea line) (ok_or number (Channel line.name))
    (λ channel. layer_of line at word >>= (λ layer. Ok (record { channel = channel; layer = layer })))
    (λ channel found.
    let inside = number_within-is 1 (length line.config.channels) (before_first is_dash word) channel (ok_or-is number (Channel line.name) channel found) in
    bound (IsAimedArea line) (layer_of line at word) (λ layer. Ok (record { channel = channel; layer = layer })) (λ layer has. inside))

area_at-aimed : (line : Line) (at : ℕ) → IfOk (area_at line at) (IsAimedArea line)
area_at-aimed line at =
    bound (IsAimedArea line) (word_at line at) (λ word. area_of line at word) (λ word has. area_of-aimed line at word)

-- the value of a result that is an `Ok`
result_ok-is : {A : Type 0} (result : Result A Refusal) (value : A) → result_ok result ≡ Some value → result ≡ Ok value
result_ok-is (Ok other) value is = ap Ok (same_Some other value is)
result_ok-is (Err reason) value is = absurd (none-some value is)

-- if a producer is a route, its channel is a configured one
abbrev IsRoutedProducer : Line → Producer → Type 0
IsRoutedProducer line producer = IsRouted (length line.config.channels) producer.spec

-- if a take has a route, its channel is a configured one
abbrev IsRoutedTake : Line → TakeView → Type 0
IsRoutedTake line take = IsRouted (length line.config.channels) take.spec

route_to-routed : (config : ConfigView) (channel : ℕ) (layer : Option ℕ) → IsConfigured (length config.channels) channel → IsRouted (length config.channels) (route_to channel layer)
route_to-routed config channel None aimed = aimed
route_to-routed config channel (Some layer) aimed = aimed

-- a clip is no route
clip_producer-routed : (line : Line) (found : Option (ℕ × MediaNameView)) → IfOk (clip_producer line found) (IsRoutedProducer line)
clip_producer-routed line None = tt
clip_producer-routed line (Some entry) = by_readable entry.1.readable
  where
    by_readable : (b : Bool) → IfOk (if b then Ok (record { spec = Clip entry.0; frames = entry.1.frames }) else Err (Unreadable line.name)) (IsRoutedProducer line)
    by_readable true = tt
    by_readable false = tt

named_producer-routed : (line : Line) (word : List ℕ) (colour : Option ℕ) → IfOk (named_producer line word colour) (IsRoutedProducer line)
named_producer-routed line word (Some value) = tt
named_producer-routed line word None = clip_producer-routed line (clip_named line.media word)

-- the area of a route is on a configured channel, since it is read as an area is
producer_of-routed : (line : Line) (at : ℕ) (word : List ℕ) → IfOk (producer_of line at word) (IsRoutedProducer line)
unfolding producer_of
producer_of-routed line at word = by_word (is_colour_word word) (is_route_word word)
  where
    by_word : (colour route : Bool) → IfOk
        (if colour then (legal line at (colour_of_digits (drop 1 word)) >>= (λ value. Ok (plain (Colour value))))
        else if route then (legal line at (result_ok (area_of line at (drop 8 word))) >>= (λ area. Ok (plain (route_to area.channel area.layer))))
        else named_producer line word (named_colour word)) (IsRoutedProducer line)
    by_word true route =
        bound (IsRoutedProducer line) (legal line at (colour_of_digits (drop 1 word))) (λ value. Ok (plain (Colour value))) (λ value found. tt)
    by_word false true =
        let area_there = area_of line at (drop 8 word) in
        bound (IsRoutedProducer line) (legal line at (result_ok area_there)) (λ area. Ok (plain (route_to area.channel area.layer)))
        (λ area found. route_to-routed line.config area.channel area.layer
        (known (IsAimedArea line) area_there area (area_of-aimed line at (drop 8 word))
        (result_ok-is area_there area (ok_or-is (result_ok area_there) (Illegal line.name at) area found))))
    by_word false false = named_producer-routed line word (named_colour word)

-- the take of a producer has its route
take_with-routed : (line : Line) (at : ℕ) (options : Options) (frames : ℕ) (spec : Spec) → IsRouted (length line.config.channels) spec
    → IfOk (legal line at (take_with options frames spec)) (IsRoutedTake line)
take_with-routed line at options frames (Clip id) routed = by_seek (nat_lt options.seek frames)
  where
    by_seek : (b : Bool) → IfOk (legal line at
        (if b then Some (take_for (Clip id) options (played_length options.length (frames - options.seek))) else None)) (IsRoutedTake line)
    by_seek true = tt
    by_seek false = tt
take_with-routed line at options frames (Colour value) routed = tt
take_with-routed line at options frames (RouteChannel channel) routed = routed
take_with-routed line at options frames (RouteLayer place) routed = routed

take_at-routed : (line : Line) (at : ℕ) → IfOk (take_at line at) (IsRoutedTake line)
unfolding take_at
take_at-routed line at =
    bound (IsRoutedTake line) (options_at line (at + 1))
    (λ options. word_at line at >>= (λ word. producer_of line at word >>= (λ producer. legal line at (take_with options producer.frames producer.spec))))
    (λ options found. bound (IsRoutedTake line) (word_at line at)
    (λ word. producer_of line at word >>= (λ producer. legal line at (take_with options producer.frames producer.spec)))
    (λ word has. bound (IsRoutedTake line) (producer_of line at word)
    (λ producer. legal line at (take_with options producer.frames producer.spec))
    (λ producer is. take_with-routed line at options producer.frames producer.spec
    (known (IsRoutedProducer line) (producer_of line at word) producer (producer_of-routed line at word) is))))

play-aimed : (line : Line) → IfOk (play line) (IsAimed line.config)
unfolding play
play-aimed line =
    bound (IsAimed line.config) (area_at line 1)
    (λ area. if length line.words == 2 then Ok (cmd.Play (place_of area))
    else (take_at line 2 >>= (λ take. Ok (cmd.PlayTake (place_of area) (played take)))))
    (λ area found. by_length area (known (IsAimedArea line) (area_at line 1) area (area_at-aimed line 1) found) (length line.words == 2))
  where
    by_length : (area : Area) → IsAimedArea line area → (b : Bool)
        → IfOk (if b then Ok (cmd.Play (place_of area)) else (take_at line 2 >>= (λ take. Ok (cmd.PlayTake (place_of area) (played take))))) (IsAimed line.config)
    by_length area aimed true = aimed
    by_length area aimed false =
        bound (IsAimed line.config) (take_at line 2) (λ take. Ok (cmd.PlayTake (place_of area) (played take)))
        (λ take found. (aimed, known (IsRoutedTake line) (take_at line 2) take (take_at-routed line 2) found))

-- what holds of a value holds of it at the end of its line
ended-keeps : {A : Type 0} (P : A → Type 0) (line : Line) (at : ℕ) (value : A) → P value → IfOk (ended line at value) P
ended-keeps {A = A} P line at value has = by_length (nat_lt at (length line.words))
  where
    by_length : (b : Bool) → IfOk (if b then Err (Illegal line.name at) else Ok value) P
    by_length true = tt
    by_length false = has

-- the place is on a configured channel
abbrev IsAimedPlace : Line → PlaceView → Type 0
IsAimedPlace line place = IsConfigured (length line.config.channels) place.channel

only_place-aimed : (line : Line) → IfOk (only_place line) (IsAimedPlace line)
only_place-aimed line =
    bound (IsAimedPlace line) (area_at line 1) (λ area. ended line 2 (place_of area))
    (λ area found. ended-keeps (IsAimedPlace line) line 2 (place_of area) (known (IsAimedArea line) (area_at line 1) area (area_at-aimed line 1) found))

place_command-aimed : (line : Line) (command : PlaceView → Cmd) → ((place : PlaceView) → IsAimedPlace line place → IsAimed line.config (command place))
    → IfOk (place_command line command) (IsAimed line.config)
place_command-aimed line command aimed =
    bound (IsAimed line.config) (only_place line) (λ place. Ok (command place))
    (λ place found. aimed place (known (IsAimedPlace line) (only_place line) place (only_place-aimed line) found))

load-aimed : (line : Line) → IfOk (load line) (IsAimed line.config)
unfolding load
load-aimed line =
    bound (IsAimed line.config) (area_at line 1) (λ area. take_at line 2 >>= (λ take. Ok (cmd.Load (place_of area) (loaded take))))
    (λ area found. bound (IsAimed line.config) (take_at line 2) (λ take. Ok (cmd.Load (place_of area) (loaded take)))
    (λ take has. (
      known (IsAimedArea line) (area_at line 1) area (area_at-aimed line 1) found,
      known (IsRoutedTake line) (take_at line 2) take (take_at-routed line 2) has,
    )))

load_bg-aimed : (line : Line) → IfOk (load_bg line) (IsAimed line.config)
unfolding load_bg
load_bg-aimed line =
    bound (IsAimed line.config) (area_at line 1) (λ area. take_at line 2 >>= (λ take. Ok (cmd.LoadBg (place_of area) take)))
    (λ area found. bound (IsAimed line.config) (take_at line 2) (λ take. Ok (cmd.LoadBg (place_of area) take))
    (λ take has. (
      known (IsAimedArea line) (area_at line 1) area (area_at-aimed line 1) found,
      known (IsRoutedTake line) (take_at line 2) take (take_at-routed line 2) has,
    )))

cleared-aimed : (config : ConfigView) (channel : ℕ) (layer : Option ℕ) → IsConfigured (length config.channels) channel → IsAimed config (cleared channel layer)
cleared-aimed config channel None aimed = aimed
cleared-aimed config channel (Some layer) aimed = aimed

clear-aimed : (line : Line) → IfOk (clear line) (IsAimed line.config)
unfolding clear
clear-aimed line =
    bound (IsAimed line.config) (area_at line 1) (λ area. ended line 2 (cleared area.channel area.layer))
    (λ area found. ended-keeps (IsAimed line.config) line 2 (cleared area.channel area.layer)
    (cleared-aimed line.config area.channel area.layer (known (IsAimedArea line) (area_at line 1) area (area_at-aimed line 1) found)))

-- a swap of two areas on configured channels
exchange-aimed : (line : Line) (one other : Area) (layer layer' : Option ℕ) → IsAimedArea line one → IsAimedArea line other
    → IfOk (legal line 2 (swapped one other layer layer') >>= (λ command. flag_at line 3 (codes "TRANSFORMS") >>= (λ transforms. Ok (command transforms)))) (IsAimed line.config)
exchange-aimed line one other None None first second =
    bound (IsAimed line.config) (flag_at line 3 (codes "TRANSFORMS")) (λ transforms. Ok (cmd.SwapChannels one.channel other.channel transforms)) (λ transforms has. (first, second))
exchange-aimed line one other (Some layer) (Some layer') first second =
    bound (IsAimed line.config) (flag_at line 3 (codes "TRANSFORMS")) (λ transforms. Ok (cmd.SwapLayers (place_of one) (place_of other) transforms)) (λ transforms has. (first, second))
exchange-aimed line one other None (Some layer') first second = tt
exchange-aimed line one other (Some layer) None first second = tt

swap-aimed : (line : Line) → IfOk (swap line) (IsAimed line.config)
unfolding swap
swap-aimed line =
    bound (IsAimed line.config) (area_at line 1)
    (λ one. area_at line 2 >>= (λ other. legal line 2 (swapped one other one.layer other.layer) >>= (λ command. flag_at line 3 (codes "TRANSFORMS") >>= (λ transforms. Ok (command transforms)))))
    (λ one found. bound (IsAimed line.config) (area_at line 2)
    (λ other. legal line 2 (swapped one other one.layer other.layer) >>= (λ command. flag_at line 3 (codes "TRANSFORMS") >>= (λ transforms. Ok (command transforms))))
    (λ other has. exchange-aimed line one other one.layer other.layer
    (known (IsAimedArea line) (area_at line 1) one (area_at-aimed line 1) found)
    (known (IsAimedArea line) (area_at line 2) other (area_at-aimed line 2) has)))

reset-aimed : (config : ConfigView) (channel : ℕ) (layer : Option ℕ) → IsConfigured (length config.channels) channel → IsAimed config (reset channel layer)
reset-aimed config channel None aimed = aimed
reset-aimed config channel (Some layer) aimed = aimed

property_command-aimed : (line : Line) (place : PlaceView) (property : Prop) → IsAimedPlace line place → IfOk (property_command line place property) (IsAimed line.config)
property_command-aimed line place property aimed = by_length (nat_lt 3 (length line.words))
  where
    by_length : (b : Bool) → IfOk (if b then (numbers_of line property >>= (λ numbers. timing_of line property >>= (λ timing.
        Ok (cmd.Set (setting_for place property numbers timing))))) else Ok (cmd.Value place property)) (IsAimed line.config)
    by_length true =
        bound (IsAimed line.config) (numbers_of line property) (λ numbers. timing_of line property >>= (λ timing. Ok (cmd.Set (setting_for place property numbers timing))))
        (λ numbers found. bound (IsAimed line.config) (timing_of line property) (λ timing. Ok (cmd.Set (setting_for place property numbers timing))) (λ timing has. aimed))
    by_length false = aimed

mixer-aimed : (line : Line) → IfOk (mixer line) (IsAimed line.config)
unfolding mixer
mixer-aimed line =
    bound (IsAimed line.config) (area_at line 1) (λ area. word_at line 2 >>= (λ word. mixer_command line area word))
    (λ area found. bound (IsAimed line.config) (word_at line 2) (λ word. mixer_command line area word)
    (λ word has. by_word area word (known (IsAimedArea line) (area_at line 1) area (area_at-aimed line 1) found)
    (is_word (codes "COMMIT") word) (is_word (codes "CLEAR") word)))
  where
    by_word : (area : Area) (word : List ℕ) → IsAimedArea line area → (commit clear : Bool) → IfOk
        (if commit then ended line 3 (cmd.CommitMixer area.channel)
        else if clear then ended line 3 (reset area.channel area.layer)
        else (legal line 2 (prop_of word) >>= (λ property. property_command line (place_of area) property))) (IsAimed line.config)
    by_word area word aimed true clear = ended-keeps (IsAimed line.config) line 3 (cmd.CommitMixer area.channel) aimed
    by_word area word aimed false true =
        ended-keeps (IsAimed line.config) line 3 (reset area.channel area.layer) (reset-aimed line.config area.channel area.layer aimed)
    by_word area word aimed false false =
        bound (IsAimed line.config) (legal line 2 (prop_of word)) (λ property. property_command line (place_of area) property)
        (λ property found. property_command-aimed line (place_of area) property aimed)

-- a channel without a layer is the one of its area
whole_channel-is : (channel : ℕ) (layer : Option ℕ) (whole : ℕ) → whole_channel channel layer ≡ Some whole → channel ≡ whole
whole_channel-is channel None whole found = same_Some channel whole found
whole_channel-is channel (Some layer) whole found = absurd (none-some whole found)

channel_at-aimed : (line : Line) (at : ℕ) → IfOk (channel_at line at) (IsConfigured (length line.config.channels))
channel_at-aimed line at =
    bound (IsConfigured (length line.config.channels)) (area_at line at) (λ area. legal line at (whole_channel area.channel area.layer))
    (λ area found. of_layer area (whole_channel area.channel area.layer) refl (known (IsAimedArea line) (area_at line at) area (area_at-aimed line at) found))
  where
    of_layer : (area : Area) (whole : Option ℕ) → whole_channel area.channel area.layer ≡ whole → IsAimedArea line area
        → IfOk (legal line at whole) (IsConfigured (length line.config.channels))
    of_layer area None is aimed = tt
    of_layer area (Some channel) is aimed =
        subst (IsConfigured (length line.config.channels)) (whole_channel-is area.channel area.layer channel is) aimed

file_channel-aimed : (line : Line) → IfOk (file_channel line) (IsConfigured (length line.config.channels))
file_channel-aimed line =
    bound (IsConfigured (length line.config.channels)) (channel_at line 1) (λ channel. fixed_at line 2 (codes "FILE") >>= (λ file. Ok channel))
    (λ channel found. bound (IsConfigured (length line.config.channels)) (fixed_at line 2 (codes "FILE")) (λ file. Ok channel)
    (λ file stands. known (IsConfigured (length line.config.channels)) (channel_at line 1) channel (channel_at-aimed line 1) found))

add_file-aimed : (line : Line) → IfOk (add_file line) (IsAimed line.config)
unfolding add_file
add_file-aimed line =
    bound (IsAimed line.config) (file_channel line) (λ channel. rec_name_at line 3 >>= (λ name. ended line 4 (cmd.AddFile channel name)))
    (λ channel found. bound (IsAimed line.config) (rec_name_at line 3) (λ name. ended line 4 (cmd.AddFile channel name))
    (λ name has. ended-keeps (IsAimed line.config) line 4 (cmd.AddFile channel name)
    (known (IsConfigured (length line.config.channels)) (file_channel line) channel (file_channel-aimed line) found)))

remove_file-aimed : (line : Line) → IfOk (remove_file line) (IsAimed line.config)
unfolding remove_file
remove_file-aimed line =
    bound (IsAimed line.config) (file_channel line) (λ channel. ended line 3 (cmd.RemoveFile channel))
    (λ channel found. ended-keeps (IsAimed line.config) line 3 (cmd.RemoveFile channel)
    (known (IsConfigured (length line.config.channels)) (file_channel line) channel (file_channel-aimed line) found))

staged-aimed : (config : ConfigView) (command : Result Cmd Refusal) → IfOk command (IsAimed config) → IfOk (staged command) (IsAimedParsed config)
staged-aimed config (Ok command) aimed = aimed
staged-aimed config (Err reason) aimed = tt

meaning_by_name-aimed : (line : Line) (command : Name) → IfOk (meaning_by_name line command) (IsAimedParsed line.config)
meaning_by_name-aimed line name.LoadBg = staged-aimed line.config (load_bg line) (load_bg-aimed line)
meaning_by_name-aimed line name.Load = staged-aimed line.config (load line) (load-aimed line)
meaning_by_name-aimed line name.Play = staged-aimed line.config (play line) (play-aimed line)
meaning_by_name-aimed line name.Pause = staged-aimed line.config (place_command line cmd.Pause) (place_command-aimed line cmd.Pause (λ place aimed. aimed))
meaning_by_name-aimed line name.Resume = staged-aimed line.config (place_command line cmd.Resume) (place_command-aimed line cmd.Resume (λ place aimed. aimed))
meaning_by_name-aimed line name.Stop = staged-aimed line.config (place_command line cmd.StopLayer) (place_command-aimed line cmd.StopLayer (λ place aimed. aimed))
meaning_by_name-aimed line name.Clear = staged-aimed line.config (clear line) (clear-aimed line)
meaning_by_name-aimed line name.Swap = staged-aimed line.config (swap line) (swap-aimed line)
meaning_by_name-aimed line name.Mixer = staged-aimed line.config (mixer line) (mixer-aimed line)
meaning_by_name-aimed line name.Add = staged-aimed line.config (add_file line) (add_file-aimed line)
meaning_by_name-aimed line name.Remove = staged-aimed line.config (remove_file line) (remove_file-aimed line)
meaning_by_name-aimed line name.Begin = ended-keeps (IsAimedParsed line.config) line 1 asked.Begin tt
meaning_by_name-aimed line name.Commit = ended-keeps (IsAimedParsed line.config) line 1 asked.Commit tt
meaning_by_name-aimed line name.Discard = ended-keeps (IsAimedParsed line.config) line 1 asked.Discard tt
meaning_by_name-aimed line name.Info = ended-keeps (IsAimedParsed line.config) line 1 (asked.Stage cmd.Info) tt
meaning_by_name-aimed line name.Cls = ended-keeps (IsAimedParsed line.config) line 1 asked.Cls tt
meaning_by_name-aimed line name.Version =
    bound (IsAimedParsed line.config) (flag_at line 1 (codes "SERVER")) (λ named. Ok asked.Version) (λ named found. tt)
meaning_by_name-aimed line name.Bye = ended-keeps (IsAimedParsed line.config) line 1 asked.Bye tt
meaning_by_name-aimed line name.Kill = ended-keeps (IsAimedParsed line.config) line 1 asked.Kill tt
meaning_by_name-aimed line name.Req = tt

enough-aimed : (line : Line) → IfOk (enough line) (IsAimedParsed line.config)
enough-aimed line = by_length (nat_lt (least_words line.name) (length line.words))
  where
    by_length : (b : Bool) → IfOk (if b then meaning line else Err (Missing line.name)) (IsAimedParsed line.config)
    by_length true = meaning_by_name-aimed line line.name
    by_length false = tt

parsed-aimed : (config : ConfigView) (media : List MediaNameView) (words : List (List ℕ)) → IfOk (parsed config media words) (IsAimedParsed config)
unfolding parsed
parsed-aimed config media words =
    bound (IsAimedParsed config) (ok_or (slice_get words 0) Unknown)
    (λ word. ok_or (name_of word) Unknown >>= (λ name. enough (record { name = name; words = words; config = config; media = media })))
    (λ word found. bound (IsAimedParsed config) (ok_or (name_of word) Unknown)
    (λ name. enough (record { name = name; words = words; config = config; media = media }))
    (λ name has. enough-aimed (record { name = name; words = words; config = config; media = media })))

-- the channels of what words ask for are configured ones
pub parsed_is_aimed : (config : ConfigView) (media : List MediaNameView) (words : List (List ℕ)) (asked : Parsed) → parsed config media words ≡ Ok asked → IsAimedParsed config asked
parsed_is_aimed config media words asked is = known (IsAimedParsed config) (parsed config media words) asked (parsed-aimed config media words) is

-- the channels of a command that words ask for are configured ones
pub command_is_aimed : (config : ConfigView) (media : List MediaNameView) (words : List (List ℕ)) (command : Cmd) → parsed config media words ≡ Ok (asked.Stage command) → IsAimed config command
command_is_aimed config media words command is = parsed_is_aimed config media words (asked.Stage command) is
