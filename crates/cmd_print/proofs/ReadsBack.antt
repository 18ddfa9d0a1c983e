-- Each command that is known is read back from the words that are printed of it.
use Rattle.std.proofs.Common.{◌≡◌, ℕ, ◌≤◌, Bool, true, false, cond, ◌==◌, nat_lt, List, [], ◌∷◌, length, Ok, ℤ, pos, refl, sym, ap, ◌∙◌, arith}
use Rattle.std.specs.Prelude.{Some, codes, decimal}
use Rattle.std.proofs.lemmas.Bool.{lt-ltb, ne_eqb}
use Rattle.amcp_text.specs.Numbers.{number_within}
use Rattle.amcp_text.specs.Micros.{printed_micro}
use Rattle.play_types.specs.Config.{ConfigView}
use Rattle.play_types.specs.Media.{MediaNameView}
use Rattle.play_types.specs.Place.{PlaceView}
use Rattle.play_types.specs.RecNames.{is_rec_word}
use Rattle.play_types.specs.Take.{TakeView, loaded, played}
use Rattle.play_types.specs.Transition.{TransView, cut}
use Rattle.play_types.specs.Setting.{SettingView}
use Rattle.play_types.specs.Words.{is_word, prop_of}
use Rattle.play_types.specs.declared.transition.TheConstants.{MAX_DURATION}
use Rattle.play_types.specs.declared.transition.Curve.{Curve}
use Rattle.play_types.specs.declared.transition.Curve.TheVariants.{Linear}
use Rattle.play_types.specs.declared.setting.Prop.{Prop}
use Rattle.play_types.specs.declared.setting.Prop.TheVariants as prop
use Rattle.play_types.specs.declared.reply.Name.TheVariants as name
use Rattle.play_types.specs.declared.command.Cmd.{Cmd}
use Rattle.play_types.specs.declared.command.Cmd.TheVariants as cmd
use Rattle.play_types.specs.declared.parsed.Parsed.TheVariants.{Stage}
use Rattle.history_model.specs.commands.Mixer.{mixer, numbers_of, timing_at, number_of}
use Rattle.history_model.specs.commands.Command.{parsed, play, load, load_bg, clear, swap}
use Rattle.history_model.specs.commands.Recording.{add_file, remove_file}
use Rattle.history_model.specs.text.Commands.{Plain, Quoted, place_text, recording_word, word_meant, arguments, command_words}
use Rattle.cmd_print.proofs.Numbers.{number_within-decimal, decimal_is_no_word}
use Rattle.cmd_print.proofs.Known.{IsChannelOf, IsPlaceOf, IsKnownTake, IsKnownRecording, IsKnownSetting, IsKnown}
use Rattle.cmd_print.proofs.Reading.{meant, line_of, parsed_line, curve_read, take_read, area_of-channel, area_of-place}

-- a line with a producer has enough words
long_line : (one two three : List ℕ) (more : List (List ℕ)) → nat_lt 2 (length (one ∷ two ∷ three ∷ more)) ≡ true
long_line one two three more = lt-ltb 2 (length (one ∷ two ∷ three ∷ more)) (omega arith)

enough_play : (one two three : List ℕ) (more : List (List ℕ)) → nat_lt 1 (length (one ∷ two ∷ three ∷ more)) ≡ true
enough_play one two three more = lt-ltb 1 (length (one ∷ two ∷ three ∷ more)) (omega arith)

no_play : (one two three : List ℕ) (more : List (List ℕ)) → (length (one ∷ two ∷ three ∷ more) == 2) ≡ false
no_play one two three more = ne_eqb (length (one ∷ two ∷ three ∷ more)) 2 (λ e. absurd (omega arith))

loaded_same : (take : TakeView) → take.trans ≡ cut → take.auto ≡ false → loaded take ≡ take
loaded_same take cuts plain =
    ap (λ (t : TransView). record take { trans = t; auto = false }) (sym cuts) ∙ ap (λ (b : Bool). record take { auto = b }) (sym plain)

played_same : (take : TakeView) → take.auto ≡ false → played take ≡ take
played_same take plain = ap (λ (b : Bool). record take { auto = b }) (sym plain)

-- the name of a recording is meant by its word
meant_recording : (name : List ℕ) → word_meant (recording_word name) ≡ name
meant_recording name = by_test (is_rec_word name)
  where
    by_test : (b : Bool) → word_meant (cond b (Plain name) (Quoted name)) ≡ name
    by_test true = refl
    by_test false = refl

-- a command of the stage is read back from its words
abbrev IsReadBack : ConfigView → List MediaNameView → Cmd → Type 0
IsReadBack config media command = parsed config media (meant (command_words media command)) ≡ Ok (Stage command)

module _ (config : ConfigView) (media : List MediaNameView) (few : length config.channels ≤ 16) where
  abbrev words_of_line : Cmd → List (List ℕ)
  words_of_line command = meant (arguments media command)

  load_read : (place : PlaceView) (take : TakeView) → IsPlaceOf config place → IsKnownTake config media take → take.trans ≡ cut → take.auto ≡ false → IsReadBack config media (cmd.Load place take)
  unfolding load
  load_read place take at known cuts plain =
      let line = line_of config media name.Load (words_of_line (cmd.Load place take)) in
      parsed_line config media name.Load (words_of_line (cmd.Load place take))
      ∙ rw (long_line, area_of-place line few 1 place at, take_read config media few name.Load (place_text place) take.spec take.looped take.seek take.length take.trans take.auto known.spec known.trans, loaded_same take cuts plain) refl

  load_bg_read : (place : PlaceView) (take : TakeView) → IsPlaceOf config place → IsKnownTake config media take → IsReadBack config media (cmd.LoadBg place take)
  unfolding load_bg
  load_bg_read place take at known =
      let line = line_of config media name.LoadBg (words_of_line (cmd.LoadBg place take)) in
      parsed_line config media name.LoadBg (words_of_line (cmd.LoadBg place take))
      ∙ rw (long_line, area_of-place line few 1 place at, take_read config media few name.LoadBg (place_text place) take.spec take.looped take.seek take.length take.trans take.auto known.spec known.trans) refl

  play_take_read : (place : PlaceView) (take : TakeView) → IsPlaceOf config place → IsKnownTake config media take → take.auto ≡ false → IsReadBack config media (cmd.PlayTake place take)
  unfolding play
  play_take_read place take at known plain =
      let line = line_of config media name.Play (words_of_line (cmd.PlayTake place take)) in
      parsed_line config media name.Play (words_of_line (cmd.PlayTake place take))
      ∙ rw (enough_play, area_of-place line few 1 place at, no_play, take_read config media few name.Play (place_text place) take.spec take.looped take.seek take.length take.trans take.auto known.spec known.trans, played_same take plain) refl

  -- commands of a place alone
  play_read : (place : PlaceView) → IsPlaceOf config place → IsReadBack config media (cmd.Play place)
  unfolding play
  play_read place at =
      parsed_line config media name.Play (place_text place ∷ [])
      ∙ rw (area_of-place (line_of config media name.Play (place_text place ∷ [])) few 1 place at) refl

  pause_read : (place : PlaceView) → IsPlaceOf config place → IsReadBack config media (cmd.Pause place)
  pause_read place at =
      parsed_line config media name.Pause (place_text place ∷ [])
      ∙ rw (area_of-place (line_of config media name.Pause (place_text place ∷ [])) few 1 place at) refl

  resume_read : (place : PlaceView) → IsPlaceOf config place → IsReadBack config media (cmd.Resume place)
  resume_read place at =
      parsed_line config media name.Resume (place_text place ∷ [])
      ∙ rw (area_of-place (line_of config media name.Resume (place_text place ∷ [])) few 1 place at) refl

  stop_read : (place : PlaceView) → IsPlaceOf config place → IsReadBack config media (cmd.StopLayer place)
  stop_read place at =
      parsed_line config media name.Stop (place_text place ∷ [])
      ∙ rw (area_of-place (line_of config media name.Stop (place_text place ∷ [])) few 1 place at) refl

  clear_layer_read : (place : PlaceView) → IsPlaceOf config place → IsReadBack config media (cmd.ClearLayer place)
  unfolding clear
  clear_layer_read place at =
      parsed_line config media name.Clear (place_text place ∷ [])
      ∙ rw (area_of-place (line_of config media name.Clear (place_text place ∷ [])) few 1 place at) refl

  clear_channel_read : (channel : ℕ) → IsChannelOf config channel → IsReadBack config media (cmd.ClearChannel channel)
  unfolding clear
  clear_channel_read channel at =
      parsed_line config media name.Clear (decimal channel ∷ [])
      ∙ rw (area_of-channel (line_of config media name.Clear (decimal channel ∷ [])) few 1 channel at) refl

  swap_layers_read : (one other : PlaceView) (transforms : Bool) → IsPlaceOf config one → IsPlaceOf config other → IsReadBack config media (cmd.SwapLayers one other transforms)
  unfolding swap is_word
  swap_layers_read one other true at to =
      let line = line_of config media name.Swap (words_of_line (cmd.SwapLayers one other true)) in
      parsed_line config media name.Swap (words_of_line (cmd.SwapLayers one other true))
      ∙ rw (area_of-place line few 1 one at, area_of-place line few 2 other to) refl
  swap_layers_read one other false at to =
      let line = line_of config media name.Swap (words_of_line (cmd.SwapLayers one other false)) in
      parsed_line config media name.Swap (words_of_line (cmd.SwapLayers one other false))
      ∙ rw (area_of-place line few 1 one at, area_of-place line few 2 other to) refl

  swap_channels_read : (one other : ℕ) (transforms : Bool) → IsChannelOf config one → IsChannelOf config other → IsReadBack config media (cmd.SwapChannels one other transforms)
  unfolding swap is_word
  swap_channels_read one other true at to =
      let line = line_of config media name.Swap (words_of_line (cmd.SwapChannels one other true)) in
      parsed_line config media name.Swap (words_of_line (cmd.SwapChannels one other true))
      ∙ rw (area_of-channel line few 1 one at, area_of-channel line few 2 other to) refl
  swap_channels_read one other false at to =
      let line = line_of config media name.Swap (words_of_line (cmd.SwapChannels one other false)) in
      parsed_line config media name.Swap (words_of_line (cmd.SwapChannels one other false))
      ∙ rw (area_of-channel line few 1 one at, area_of-channel line few 2 other to) refl

  -- commands of the mixer
  commit_read : (channel : ℕ) → IsChannelOf config channel → IsReadBack config media (cmd.CommitMixer channel)
  unfolding mixer is_word
  commit_read channel at =
      let line = line_of config media name.Mixer (words_of_line (cmd.CommitMixer channel)) in
      parsed_line config media name.Mixer (words_of_line (cmd.CommitMixer channel)) ∙ rw (area_of-channel line few 1 channel at) refl

  reset_channel_read : (channel : ℕ) → IsChannelOf config channel → IsReadBack config media (cmd.ResetChannel channel)
  unfolding mixer is_word
  reset_channel_read channel at =
      let line = line_of config media name.Mixer (words_of_line (cmd.ResetChannel channel)) in
      parsed_line config media name.Mixer (words_of_line (cmd.ResetChannel channel)) ∙ rw (area_of-channel line few 1 channel at) refl

  reset_layer_read : (place : PlaceView) → IsPlaceOf config place → IsReadBack config media (cmd.ResetLayer place)
  unfolding mixer is_word
  reset_layer_read place at =
      let line = line_of config media name.Mixer (words_of_line (cmd.ResetLayer place)) in
      parsed_line config media name.Mixer (words_of_line (cmd.ResetLayer place)) ∙ rw (area_of-place line few 1 place at) refl

  value_read : (place : PlaceView) (property : Prop) → IsPlaceOf config place → IsReadBack config media (cmd.Value place property)
  unfolding mixer is_word prop_of
  value_read place prop.Opacity at =
      parsed_line config media name.Mixer (words_of_line (cmd.Value place prop.Opacity))
      ∙ rw (area_of-place (line_of config media name.Mixer (words_of_line (cmd.Value place prop.Opacity))) few 1 place at) refl
  value_read place prop.Fill at =
      parsed_line config media name.Mixer (words_of_line (cmd.Value place prop.Fill))
      ∙ rw (area_of-place (line_of config media name.Mixer (words_of_line (cmd.Value place prop.Fill))) few 1 place at) refl
  value_read place prop.Clip at =
      parsed_line config media name.Mixer (words_of_line (cmd.Value place prop.Clip))
      ∙ rw (area_of-place (line_of config media name.Mixer (words_of_line (cmd.Value place prop.Clip))) few 1 place at) refl
  value_read place prop.Volume at =
      parsed_line config media name.Mixer (words_of_line (cmd.Value place prop.Volume))
      ∙ rw (area_of-place (line_of config media name.Mixer (words_of_line (cmd.Value place prop.Volume))) few 1 place at) refl
  value_read place prop.Keyer at =
      parsed_line config media name.Mixer (words_of_line (cmd.Value place prop.Keyer))
      ∙ rw (area_of-place (line_of config media name.Mixer (words_of_line (cmd.Value place prop.Keyer))) few 1 place at) refl

  -- settings
  abbrev set_view : PlaceView → Prop → List ℤ → ℕ → Curve → Bool → SettingView
  set_view place property values duration curve deferred =
      record { place = place; prop = property; values = values; duration = duration; curve = curve; deferred = deferred }

  abbrev zeros_after : ℤ → List ℤ
  zeros_after a = a ∷ pos 0 ∷ pos 0 ∷ pos 0 ∷ []

  duration_read : (duration : ℕ) → duration ≤ MAX_DURATION → number_within 0 MAX_DURATION (decimal duration) ≡ Some duration
  duration_read duration short = number_within-decimal 0 MAX_DURATION duration (omega arith) short (omega (arith, short))

  no_defer : (duration : ℕ) → duration ≤ MAX_DURATION → is_word (codes "DEFER") (decimal duration) ≡ false
  no_defer duration short = decimal_is_no_word duration 68 (69 ∷ 70 ∷ 69 ∷ 82 ∷ []) (omega (arith, short)) (omega arith)

  opacity_read : (place : PlaceView) (a : ℤ) (duration : ℕ) (curve : Curve) (deferred : Bool) → IsPlaceOf config place → number_of prop.Opacity (printed_micro a) ≡ Some a → duration ≤ MAX_DURATION
      → IsReadBack config media (cmd.Set (set_view place prop.Opacity (zeros_after a) duration curve deferred))
  unfolding mixer numbers_of timing_at is_word prop_of
  opacity_read place a duration curve true at again short =
      let line = line_of config media name.Mixer (words_of_line (cmd.Set (set_view place prop.Opacity (zeros_after a) duration curve true))) in
      parsed_line config media name.Mixer (words_of_line (cmd.Set (set_view place prop.Opacity (zeros_after a) duration curve true)))
      ∙ rw (area_of-place line few 1 place at, again, no_defer duration short, duration_read duration short, curve_read curve) refl
  opacity_read place a duration curve false at again short =
      let line = line_of config media name.Mixer (words_of_line (cmd.Set (set_view place prop.Opacity (zeros_after a) duration curve false))) in
      parsed_line config media name.Mixer (words_of_line (cmd.Set (set_view place prop.Opacity (zeros_after a) duration curve false)))
      ∙ rw (area_of-place line few 1 place at, again, no_defer duration short, duration_read duration short, curve_read curve) refl

  volume_read : (place : PlaceView) (a : ℤ) (duration : ℕ) (curve : Curve) (deferred : Bool) → IsPlaceOf config place → number_of prop.Volume (printed_micro a) ≡ Some a → duration ≤ MAX_DURATION
      → IsReadBack config media (cmd.Set (set_view place prop.Volume (zeros_after a) duration curve deferred))
  unfolding mixer numbers_of timing_at is_word prop_of
  volume_read place a duration curve true at again short =
      let line = line_of config media name.Mixer (words_of_line (cmd.Set (set_view place prop.Volume (zeros_after a) duration curve true))) in
      parsed_line config media name.Mixer (words_of_line (cmd.Set (set_view place prop.Volume (zeros_after a) duration curve true)))
      ∙ rw (area_of-place line few 1 place at, again, no_defer duration short, duration_read duration short, curve_read curve) refl
  volume_read place a duration curve false at again short =
      let line = line_of config media name.Mixer (words_of_line (cmd.Set (set_view place prop.Volume (zeros_after a) duration curve false))) in
      parsed_line config media name.Mixer (words_of_line (cmd.Set (set_view place prop.Volume (zeros_after a) duration curve false)))
      ∙ rw (area_of-place line few 1 place at, again, no_defer duration short, duration_read duration short, curve_read curve) refl

  keyer_read : (place : PlaceView) (a : ℤ) (deferred : Bool) → IsPlaceOf config place → number_of prop.Keyer (printed_micro a) ≡ Some a
      → IsReadBack config media (cmd.Set (set_view place prop.Keyer (zeros_after a) 0 Linear deferred))
  unfolding mixer numbers_of timing_at is_word prop_of
  keyer_read place a true at again =
      let line = line_of config media name.Mixer (words_of_line (cmd.Set (set_view place prop.Keyer (zeros_after a) 0 Linear true))) in
      parsed_line config media name.Mixer (words_of_line (cmd.Set (set_view place prop.Keyer (zeros_after a) 0 Linear true)))
      ∙ rw (area_of-place line few 1 place at, again) refl
  keyer_read place a false at again =
      let line = line_of config media name.Mixer (words_of_line (cmd.Set (set_view place prop.Keyer (zeros_after a) 0 Linear false))) in
      parsed_line config media name.Mixer (words_of_line (cmd.Set (set_view place prop.Keyer (zeros_after a) 0 Linear false)))
      ∙ rw (area_of-place line few 1 place at, again) refl

  fill_read : (place : PlaceView) (a b c d : ℤ) (duration : ℕ) (curve : Curve) (deferred : Bool) → IsPlaceOf config place
      → number_of prop.Fill (printed_micro a) ≡ Some a → number_of prop.Fill (printed_micro b) ≡ Some b
      → number_of prop.Fill (printed_micro c) ≡ Some c → number_of prop.Fill (printed_micro d) ≡ Some d → duration ≤ MAX_DURATION
      → IsReadBack config media (cmd.Set (set_view place prop.Fill (a ∷ b ∷ c ∷ d ∷ []) duration curve deferred))
  unfolding mixer numbers_of timing_at is_word prop_of
  fill_read place a b c d duration curve true at again_a again_b again_c again_d short =
      let line = line_of config media name.Mixer (words_of_line (cmd.Set (set_view place prop.Fill (a ∷ b ∷ c ∷ d ∷ []) duration curve true))) in
      parsed_line config media name.Mixer (words_of_line (cmd.Set (set_view place prop.Fill (a ∷ b ∷ c ∷ d ∷ []) duration curve true)))
      ∙ rw (area_of-place line few 1 place at, again_a, again_b, again_c, again_d, no_defer duration short, duration_read duration short, curve_read curve) refl
  fill_read place a b c d duration curve false at again_a again_b again_c again_d short =
      let line = line_of config media name.Mixer (words_of_line (cmd.Set (set_view place prop.Fill (a ∷ b ∷ c ∷ d ∷ []) duration curve false))) in
      parsed_line config media name.Mixer (words_of_line (cmd.Set (set_view place prop.Fill (a ∷ b ∷ c ∷ d ∷ []) duration curve false)))
      ∙ rw (area_of-place line few 1 place at, again_a, again_b, again_c, again_d, no_defer duration short, duration_read duration short, curve_read curve) refl

  clip_read : (place : PlaceView) (a b c d : ℤ) (duration : ℕ) (curve : Curve) (deferred : Bool) → IsPlaceOf config place
      → number_of prop.Clip (printed_micro a) ≡ Some a → number_of prop.Clip (printed_micro b) ≡ Some b
      → number_of prop.Clip (printed_micro c) ≡ Some c → number_of prop.Clip (printed_micro d) ≡ Some d → duration ≤ MAX_DURATION
      → IsReadBack config media (cmd.Set (set_view place prop.Clip (a ∷ b ∷ c ∷ d ∷ []) duration curve deferred))
  unfolding mixer numbers_of timing_at is_word prop_of
  clip_read place a b c d duration curve true at again_a again_b again_c again_d short =
      let line = line_of config media name.Mixer (words_of_line (cmd.Set (set_view place prop.Clip (a ∷ b ∷ c ∷ d ∷ []) duration curve true))) in
      parsed_line config media name.Mixer (words_of_line (cmd.Set (set_view place prop.Clip (a ∷ b ∷ c ∷ d ∷ []) duration curve true)))
      ∙ rw (area_of-place line few 1 place at, again_a, again_b, again_c, again_d, no_defer duration short, duration_read duration short, curve_read curve) refl
  clip_read place a b c d duration curve false at again_a again_b again_c again_d short =
      let line = line_of config media name.Mixer (words_of_line (cmd.Set (set_view place prop.Clip (a ∷ b ∷ c ∷ d ∷ []) duration curve false))) in
      parsed_line config media name.Mixer (words_of_line (cmd.Set (set_view place prop.Clip (a ∷ b ∷ c ∷ d ∷ []) duration curve false)))
      ∙ rw (area_of-place line few 1 place at, again_a, again_b, again_c, again_d, no_defer duration short, duration_read duration short, curve_read curve) refl

  set_read : (place : PlaceView) (property : Prop) (values : List ℤ) (duration : ℕ) (curve : Curve) (deferred : Bool)
      → IsKnownSetting config (record { place = place; prop = property; values = values; duration = duration; curve = curve; deferred = deferred })
      → IsReadBack config media (cmd.Set (record { place = place; prop = property; values = values; duration = duration; curve = curve; deferred = deferred }))
  set_read place prop.Opacity values duration curve deferred known =
      rw known.numbers.is (opacity_read place known.numbers.a duration curve deferred known.place known.numbers.again known.short)
  set_read place prop.Volume values duration curve deferred known =
      rw known.numbers.is (volume_read place known.numbers.a duration curve deferred known.place known.numbers.again known.short)
  set_read place prop.Keyer values duration curve deferred known =
      rw (known.numbers.is, ← known.duration, ← known.curve) (keyer_read place known.numbers.a deferred known.place known.numbers.again)
  set_read place prop.Fill values duration curve deferred known =
      let n = known.numbers in
      rw n.is (fill_read place n.a n.b n.c n.d duration curve deferred known.place n.again_a n.again_b n.again_c n.again_d known.short)
  set_read place prop.Clip values duration curve deferred known =
      let n = known.numbers in
      rw n.is (clip_read place n.a n.b n.c n.d duration curve deferred known.place n.again_a n.again_b n.again_c n.again_d known.short)

  -- marks of recordings
  add_file_read : (channel : ℕ) (name : List ℕ) → IsChannelOf config channel → IsKnownRecording media name → IsReadBack config media (cmd.AddFile channel name)
  unfolding add_file is_word
  add_file_read channel recorded at known =
      let words = decimal channel ∷ codes "FILE" ∷ recorded ∷ [] in
      let line = line_of config media name.Add words in
      rw (meant_recording recorded)
      (parsed_line config media name.Add words ∙ rw (area_of-channel line few 1 channel at, known.free, known.again) refl)

  remove_file_read : (channel : ℕ) → IsChannelOf config channel → IsReadBack config media (cmd.RemoveFile channel)
  unfolding remove_file is_word
  remove_file_read channel at =
      let line = line_of config media name.Remove (words_of_line (cmd.RemoveFile channel)) in
      parsed_line config media name.Remove (words_of_line (cmd.RemoveFile channel)) ∙ rw (area_of-channel line few 1 channel at) refl

  -- each command that is known is read back
  pub command_read : (command : Cmd) → IsKnown config media command → parsed config media (meant (command_words media command)) ≡ Ok (Stage command)
  command_read (cmd.Load place take) known = load_read place take known.0 known.1 known.2 known.3
  command_read (cmd.LoadBg place take) known = load_bg_read place take known.0 known.1
  command_read (cmd.Play place) known = play_read place known
  command_read (cmd.PlayTake place take) known = play_take_read place take known.0 known.1 known.2
  command_read (cmd.Pause place) known = pause_read place known
  command_read (cmd.Resume place) known = resume_read place known
  command_read (cmd.StopLayer place) known = stop_read place known
  command_read (cmd.ClearLayer place) known = clear_layer_read place known
  command_read (cmd.ClearChannel channel) known = clear_channel_read channel known
  command_read (cmd.SwapLayers one other transforms) known = swap_layers_read one other transforms known.0 known.1
  command_read (cmd.SwapChannels one other transforms) known = swap_channels_read one other transforms known.0 known.1
  command_read (cmd.Set setting) known = set_read setting.place setting.prop setting.values setting.duration setting.curve setting.deferred known
  command_read (cmd.CommitMixer channel) known = commit_read channel known
  command_read (cmd.ResetLayer place) known = reset_layer_read place known
  command_read (cmd.ResetChannel channel) known = reset_channel_read channel known
  command_read (cmd.AddFile channel name) known = add_file_read channel name known.0 known.1
  command_read (cmd.RemoveFile channel) known = remove_file_read channel known
  command_read (cmd.Value place property) known = value_read place property known
  command_read cmd.Info known = parsed_line config media name.Info []
