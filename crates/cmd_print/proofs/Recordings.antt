-- What is known of the marks of recordings that the words of a line ask for.
use Rattle.std.proofs.Common.{◌≡◌, ℕ, Bool, true, false, cond, List, [], ◌∷◌, map, Ok, refl, ap, ap₂, ◌∙◌, subst}
use Rattle.std.specs.Prelude.{Option, Some, None, ◌||◌, codes}
use Rattle.std.specs.Char.{to_ascii_uppercase}
use Rattle.std.specs.Str.{bytes_eq}
use Rattle.std.proofs.lemmas.Option.{cond_some}
use Rattle.play_types.specs.Media.{MediaNameView}
use Rattle.play_types.specs.RecNames.{is_rec_word, rec_name_of}
use Rattle.play_types.specs.Words.{is_same_name}
use Rattle.play_types.specs.declared.command.Cmd.{Cmd}
use Rattle.play_types.specs.declared.command.Cmd.TheVariants as cmd
use Rattle.play_types.specs.declared.parsed.Refusal.TheVariants.{Illegal}
use Rattle.play_types.proofs.RecNames.{capitals_stay, name_reads_back}
use Rattle.history_model.specs.commands.Line.{Line, ◌>>=◌, ended, legal, word_at}
use Rattle.history_model.specs.commands.Places.{area_at}
use Rattle.history_model.specs.commands.Recording.{add_file, channel_at, file_channel, fixed_at, free_name, names_clip, rec_name_at, remove_file, whole_channel}
use Rattle.cmd_print.proofs.Asked.{bound, given_of, ended_of, ok_injective, some_injective, area_at_known}
use Rattle.cmd_print.proofs.Known.{IsChannelOf, IsKnownRecording, IsKnown}

-- a channel without a layer is that of its area
whole_of : (channel : ℕ) (layer : Option ℕ) (whole : ℕ) → whole_channel channel layer ≡ Some whole → channel ≡ whole
whole_of channel None whole h = some_injective channel whole h
whole_of channel (Some layer) whole h = cc

channel_at_known : (line : Line) (at channel : ℕ) → channel_at line at ≡ Ok channel → IsChannelOf line.config channel
channel_at_known line at channel h =
    let one = bound (area_at line at) (λ area. legal line at (whole_channel area.channel area.layer)) channel h in
    let whole = given_of (whole_channel one.value.channel one.value.layer) (Illegal line.name at) channel one.rest in
    subst (IsChannelOf line.config) (whole_of one.value.channel one.value.layer channel whole) (area_at_known line at one.value one.first).channel

file_channel_known : (line : Line) (channel : ℕ) → file_channel line ≡ Ok channel → IsChannelOf line.config channel
file_channel_known line channel h =
    let one = bound (channel_at line 1) (λ whole. fixed_at line 2 (codes "FILE") >>= (λ file. Ok whole)) channel h in
    let two = bound (fixed_at line 2 (codes "FILE")) (λ file. Ok one.value) channel one.rest in
    subst (IsChannelOf line.config) (ok_injective one.value channel two.rest) (channel_at_known line 1 one.value one.first)

-- a word and the word in capitals name the same clips
names_clip-capitals : (media : List MediaNameView) (word : List ℕ) → names_clip media (map to_ascii_uppercase word) ≡ names_clip media word
unfolding is_same_name
names_clip-capitals [] word = refl
names_clip-capitals (clip ∷ media) word =
    ap₂ {A = Bool} {B = Bool} {C = Bool} (λ here later. here || later)
    (ap (bytes_eq (map to_ascii_uppercase clip.name)) (capitals_stay word)) (names_clip-capitals media word)

free_known : (media : List MediaNameView) (word name : List ℕ) → free_name media word ≡ Some name → IsKnownRecording media name
free_known media word name h = by_clip (names_clip media word) refl h
  where
    by_clip : (b : Bool) → names_clip media word ≡ b → cond b None (rec_name_of word) ≡ Some name → IsKnownRecording media name
    by_clip true is found = cc
    by_clip false is found =
        let read = cond_some (is_rec_word word) (map to_ascii_uppercase word) name found in
        subst (IsKnownRecording media) read.1
        (record { again = name_reads_back word read.0; free = names_clip-capitals media word ∙ is })

pub add_file_known : (line : Line) (asked : Cmd) → add_file line ≡ Ok asked → IsKnown line.config line.media asked
unfolding add_file
add_file_known line asked h =
    let one = bound (file_channel line) (λ channel. rec_name_at line 3 >>= (λ name. ended line 4 (cmd.AddFile channel name))) asked h in
    let two = bound (rec_name_at line 3) (λ name. ended line 4 (cmd.AddFile one.value name)) asked one.rest in
    let word = bound (word_at line 3) (λ word. legal line 3 (free_name line.media word)) two.value two.first in
    let free = given_of (free_name line.media word.value) (Illegal line.name 3) two.value word.rest in
    subst (IsKnown line.config line.media) (ended_of line 4 (cmd.AddFile one.value two.value) asked two.rest)
    (file_channel_known line one.value one.first, free_known line.media word.value two.value free)

pub remove_file_known : (line : Line) (asked : Cmd) → remove_file line ≡ Ok asked → IsKnown line.config line.media asked
unfolding remove_file
remove_file_known line asked h =
    let one = bound (file_channel line) (λ channel. ended line 3 (cmd.RemoveFile channel)) asked h in
    subst (IsKnown line.config line.media) (ended_of line 3 (cmd.RemoveFile one.value) asked one.rest) (file_channel_known line one.value one.first)
