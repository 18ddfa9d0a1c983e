-- A command that words ask for is printed in at most 4,088 bytes after its name.
use Rattle.std.proofs.Common.{◌≡◌, ℕ, zero, suc, ◌+◌, ◌*◌, ◌≤◌, Bool, true, false, List, [], ◌∷◌, ◌++◌, take, length, map, ℤ, refl, ap, ◌∙◌, subst, arith, lit≤, length-append}
use Rattle.std.specs.Prelude.{Option, Some, All, ◌&&◌, nat_le, nat_lt, codes, decimal, encode_utf8_all}
use Rattle.std.specs.List.{list_all}
use Rattle.std.specs.Option.{option_map_or}
use Rattle.std.specs.Str.{all_scalars}
use Rattle.std.proofs.lemmas.Bool.{and_parts, leb-true}
use Rattle.std.proofs.lemmas.Fmt.{length-decimal-le}
use Rattle.std.proofs.lemmas.List.{length-take}
use Rattle.std.proofs.lemmas.Option.{get_or_from_slice_get, slice_get_within}
use Rattle.amcp_text.specs.Escapes.{quoted}
use Rattle.play_types.specs.Config.{ConfigView}
use Rattle.play_types.specs.Media.{MediaNameView}
use Rattle.play_types.specs.Place.{PlaceView}
use Rattle.play_types.specs.RecNames.{is_rec_char, is_rec_word, rec_name_of}
use Rattle.play_types.specs.Take.{TakeView}
use Rattle.play_types.specs.Transition.{TransView}
use Rattle.play_types.specs.Setting.{SettingView}
use Rattle.play_types.specs.Words.{curve_text, kind_text, name_text, prop_text}
use Rattle.play_types.specs.declared.place.TheConstants.{MAX_CHANNELS}
use Rattle.play_types.specs.declared.rec_name.TheConstants.{MAX_REC_NAME_BYTES}
use Rattle.play_types.specs.declared.take.Spec.{Spec}
use Rattle.play_types.specs.declared.take.Spec.TheVariants.{Clip, Colour, RouteChannel, RouteLayer}
use Rattle.play_types.specs.declared.transition.TheConstants.{MAX_DURATION}
use Rattle.play_types.specs.declared.transition.Kind.{Kind}
use Rattle.play_types.specs.declared.transition.Kind.TheVariants.{Cut, Mix, Push, Slide, Wipe}
use Rattle.play_types.specs.declared.transition.Curve.{Curve}
use Rattle.play_types.specs.declared.transition.Curve.TheVariants.{Linear, EaseInQuad, EaseOutQuad, EaseInCubic, EaseOutCubic}
use Rattle.play_types.specs.declared.setting.Prop.{Prop}
use Rattle.play_types.specs.declared.setting.Prop.TheVariants as prop
use Rattle.play_types.specs.declared.reply.Name.{Name}
use Rattle.play_types.specs.declared.reply.Name.TheVariants as name
use Rattle.play_types.specs.declared.command.Cmd.{Cmd}
use Rattle.play_types.specs.declared.command.Cmd.TheVariants as cmd
use Rattle.play_types.proofs.RecNames.{is_rec_word-name}
use Rattle.history_model.specs.stage.Answer.{number_count}
use Rattle.history_model.specs.text.Commands.{Word, Plain, arguments, capital_digits, clip_name_at, direction_text, flag_words, micro_word, number_word, part_words, place_text, place_word, producer_word, recording_word, setting_words, take_words, timed_words, timing_words, transition_words}
use Rattle.cmd_print.specs.inner.Bytes.{word_bytes}
use Rattle.cmd_print.proofs.Known.{IsChannelOf, IsPlaceOf, IsKnownTrans, IsKnownClip, IsKnownSpec, IsKnownTake, IsKnown}
use Rattle.history_replay.specs.Replay.{HasShortName, IsShortName, IsTextName, NamesShortClip}
use Rattle.history_replay.proofs.Quoted.{length-quoted}
use Rattle.history_replay.proofs.Sizes.{Take, Take-append, Take-cons, Take-fewer, Take-flag, Take-micro, Take-none, Take-number, Take-one}

-- the names of commands and of properties are short
pub name_short : (command : Name) → length (name_text command) ≤ 8
name_short name.LoadBg = lit≤ tt
name_short name.Load = lit≤ tt
name_short name.Play = lit≤ tt
name_short name.Pause = lit≤ tt
name_short name.Resume = lit≤ tt
name_short name.Stop = lit≤ tt
name_short name.Clear = lit≤ tt
name_short name.Swap = lit≤ tt
name_short name.Mixer = lit≤ tt
name_short name.Add = lit≤ tt
name_short name.Remove = lit≤ tt
name_short name.Begin = lit≤ tt
name_short name.Commit = lit≤ tt
name_short name.Discard = lit≤ tt
name_short name.Info = lit≤ tt
name_short name.Cls = lit≤ tt
name_short name.Version = lit≤ tt
name_short name.Bye = lit≤ tt
name_short name.Kill = lit≤ tt
name_short name.Req = lit≤ tt

prop_short : (property : Prop) → length (prop_text property) ≤ 7
prop_short prop.Opacity = lit≤ tt
prop_short prop.Fill = lit≤ tt
prop_short prop.Clip = lit≤ tt
prop_short prop.Volume = lit≤ tt
prop_short prop.Keyer = lit≤ tt

direction_short : (leftward : Bool) → length (direction_text leftward) ≤ 5
direction_short true = lit≤ tt
direction_short false = lit≤ tt

curve_short : (curve : Curve) → length (curve_text curve) ≤ 12
curve_short Linear = lit≤ tt
curve_short EaseInQuad = lit≤ tt
curve_short EaseOutQuad = lit≤ tt
curve_short EaseInCubic = lit≤ tt
curve_short EaseOutCubic = lit≤ tt

length-capitals : (count value : ℕ) → length (capital_digits count value) ≡ count
length-capitals zero value = refl
length-capitals (suc count) value = omega (arith, length-capitals count value)

timed_takes : (kind : Kind) (trans : TransView) → length (kind_text kind) ≤ 5 → IsKnownTrans trans → Take (timed_words kind trans) 33
timed_takes kind trans short known =
    Take-cons (Plain (kind_text kind)) (number_word trans.duration ∷ Plain (curve_text trans.curve) ∷ Plain (direction_text trans.leftward) ∷ []) 5 27 tt short
    (Take-number trans.duration (Plain (curve_text trans.curve) ∷ Plain (direction_text trans.leftward) ∷ []) 19 known.short
    (Take-cons (Plain (curve_text trans.curve)) (Plain (direction_text trans.leftward) ∷ []) 12 6 tt (curve_short trans.curve)
    (Take-one (direction_text trans.leftward) 5 (direction_short trans.leftward))))

transition_takes : (kind : Kind) (trans : TransView) → IsKnownTrans trans → Take (transition_words kind trans) 33
transition_takes Cut trans known = Take-fewer [] 0 33 (omega arith) Take-none
transition_takes Mix trans known = timed_takes Mix trans (lit≤ tt) known
transition_takes Push trans known = timed_takes Push trans (lit≤ tt) known
transition_takes Slide trans known = timed_takes Slide trans (lit≤ tt) known
transition_takes Wipe trans known = timed_takes Wipe trans (lit≤ tt) known

-- a setting takes at most four numbers
micros_take : (values : List ℤ) → Take (map micro_word values) (73 * length values)
micros_take [] = Take-none
micros_take (value ∷ values) =
    Take-fewer (map micro_word (value ∷ values)) (1 + 72 + 73 * length values) (73 * length (value ∷ values)) (omega arith)
    (Take-micro value (map micro_word values) (73 * length values) (micros_take values))

number_count_few : (property : Prop) → number_count property ≤ 4
number_count_few prop.Opacity = lit≤ tt
number_count_few prop.Fill = lit≤ tt
number_count_few prop.Clip = lit≤ tt
number_count_few prop.Volume = lit≤ tt
number_count_few prop.Keyer = lit≤ tt

tween_takes : (setting : SettingView) → setting.duration ≤ MAX_DURATION → Take (number_word setting.duration ∷ Plain (curve_text setting.curve) ∷ []) 21
tween_takes setting short =
    Take-number setting.duration (Plain (curve_text setting.curve) ∷ []) 13 short (Take-one (curve_text setting.curve) 12 (curve_short setting.curve))

timing_takes : (property : Prop) (setting : SettingView) → setting.duration ≤ MAX_DURATION → Take (timing_words property setting) 21
timing_takes prop.Opacity setting short = tween_takes setting short
timing_takes prop.Fill setting short = tween_takes setting short
timing_takes prop.Clip setting short = tween_takes setting short
timing_takes prop.Volume setting short = tween_takes setting short
timing_takes prop.Keyer setting short = Take-fewer [] 0 21 (omega arith) Take-none

setting_takes : (setting : SettingView) → setting.duration ≤ MAX_DURATION → Take (setting_words setting) 327
setting_takes setting short =
    let values = take (number_count setting.prop) setting.values in
    let timing = timing_words setting.prop setting in
    let defer = flag_words setting.deferred (codes "DEFER") in
    let few : 73 * length values ≤ 292 = omega (arith, length-take (number_count setting.prop) setting.values, number_count_few setting.prop) in
    Take-append (Plain (prop_text setting.prop) ∷ map micro_word values) (timing ++ defer) 300 27
    (Take-cons (Plain (prop_text setting.prop)) (map micro_word values) 7 292 tt (prop_short setting.prop)
    (Take-fewer (map micro_word values) (73 * length values) 292 few (micros_take values)))
    (Take-append timing defer 21 6 (timing_takes setting.prop setting short) (Take-flag setting.deferred (codes "DEFER") 5 (lit≤ tt)))

-- the name of a recording
Take-recording : (name : List ℕ) → rec_name_of name ≡ Some name → Take (recording_word name ∷ []) 33
Take-recording name again =
    let is : is_rec_word name ≡ true = is_rec_word-name name again in
    let sizes = and_parts (nat_lt 0 (length name)) (nat_le (length name) MAX_REC_NAME_BYTES)
    (and_parts (nat_lt 0 (length name) && nat_le (length name) MAX_REC_NAME_BYTES) (list_all is_rec_char name) is).0 in
    rw is (Take-one name 32 (leb-true (length name) 32 sizes.1))

module _ (config : ConfigView) (few : length config.channels ≤ MAX_CHANNELS) where
  length_channel : (channel : ℕ) → IsChannelOf config channel → length (decimal channel) ≤ 2
  length_channel channel h =
      let most = h.high in
      length-decimal-le 2 channel (omega arith) (omega (arith, most, few)) (omega (arith, most, few))

  length_place : (place : PlaceView) → IsPlaceOf config place → length (place_text place) ≤ 7
  length_place place h =
      let low = h.layer in
      let a = length_channel place.channel h.channel in
      let b = length-decimal-le 4 place.layer (omega arith) (omega (arith, low)) (omega (arith, low)) in
      omega (arith, a, b, length-append (decimal place.channel) (45 ∷ decimal place.layer))

  Take-place : (place : PlaceView) (words : List Word) (most : ℕ) → IsPlaceOf config place → Take words most → Take (place_word place ∷ words) (1 + 7 + most)
  Take-place place words most at h = Take-cons (place_word place) words 7 most tt (length_place place at) h

  Take-channel : (channel : ℕ) (words : List Word) (most : ℕ) → IsChannelOf config channel → Take words most → Take (number_word channel ∷ words) (1 + 2 + most)
  Take-channel channel words most at h = Take-cons (number_word channel) words 2 most tt (length_channel channel at) h

  place_takes : (place : PlaceView) → IsPlaceOf config place → Take (place_word place ∷ []) 4088
  place_takes place at = Take-fewer (place_word place ∷ []) 8 4088 (omega arith) (Take-place place [] 0 at Take-none)

  channel_takes : (channel : ℕ) (words : List Word) (most : ℕ) → 3 + most ≤ 4088 → IsChannelOf config channel → Take words most
      → Take (number_word channel ∷ words) 4088
  channel_takes channel words most few at h =
      Take-fewer (number_word channel ∷ words) (3 + most) 4088 few (Take-channel channel words most at h)

  module _ (media : List MediaNameView) (texts : All IsTextName media) where
    -- the clip that is played, by its name
    text_of_clip : (id : ℕ) (take : TakeView) (known : IsKnownClip media id take) → IsTextName known.clip
    text_of_clip id take known =
        subst IsTextName (get_or_from_slice_get media id known.clip known.clip known.is.at)
        (texts id known.clip (slice_get_within media id known.clip known.is.at))

    name_of_clip : (id : ℕ) (take : TakeView) (known : IsKnownClip media id take) → clip_name_at media id ≡ known.clip.name
    name_of_clip id take known = ap (λ (found : Option MediaNameView). option_map_or (λ (clip : MediaNameView). clip.name) found []) known.is.at

    length-clip : (id : ℕ) (take : TakeView) → IsKnownClip media id take → IsShortName (clip_name_at media id) →
        length (word_bytes (producer_word media (Clip id))) ≤ 3902
    length-clip id take known named =
        let short : IsShortName known.clip.name = subst IsShortName (name_of_clip id take known) named in
        omega (arith, ap (λ name. length (encode_utf8_all (quoted name))) (name_of_clip id take known), length-quoted known.clip.name, short)

    part_takes : (id : ℕ) (take : TakeView) → IsKnownClip media id take → Take (part_words (Clip id) take) 33
    part_takes id take known =
        let part = known.part in
        let few = known.few in
        Take-append (flag_words take.looped (codes "LOOP")) (Plain (codes "SEEK") ∷ number_word take.seek ∷ Plain (codes "LENGTH") ∷ number_word take.length ∷ [])
        5 28 (Take-flag take.looped (codes "LOOP") 4 (lit≤ tt))
        (Take-cons (Plain (codes "SEEK")) (number_word take.seek ∷ Plain (codes "LENGTH") ∷ number_word take.length ∷ []) 4 23 tt (lit≤ tt)
        (Take-number take.seek (Plain (codes "LENGTH") ∷ number_word take.length ∷ []) 15 (omega (arith, part, few))
        (Take-cons (Plain (codes "LENGTH")) (number_word take.length ∷ []) 6 8 tt (lit≤ tt)
        (Take-number take.length [] 0 (omega (arith, part, few)) Take-none))))

    -- a producer and what is played of it
    producer_takes : (spec : Spec) (take : TakeView) → IsKnownSpec config media take spec → HasShortName media spec →
        Take (producer_word media spec ∷ part_words spec take) 3936
    producer_takes (Clip id) take known named =
        Take-cons (producer_word media (Clip id)) (part_words (Clip id) take) 3902 33
        (ap all_scalars (name_of_clip id take known) ∙ text_of_clip id take known) (length-clip id take known named) (part_takes id take known)
    producer_takes (Colour value) take known named =
        Take-fewer (producer_word media (Colour value) ∷ []) 10 3936 (omega arith)
        (Take-one (35 ∷ capital_digits 8 value) 9 (omega (arith, length-capitals 8 value)))
    producer_takes (RouteChannel channel) take known named =
        Take-fewer (producer_word media (RouteChannel channel) ∷ []) 11 3936 (omega arith)
        (Take-one (codes "route://" ++ decimal channel) 10 (omega (arith, length_channel channel known.0, length-append (codes "route://") (decimal channel))))
    producer_takes (RouteLayer place) take known named =
        Take-fewer (producer_word media (RouteLayer place) ∷ []) 16 3936 (omega arith)
        (Take-one (codes "route://" ++ place_text place) 15 (omega (arith, length_place place known.0, length-append (codes "route://") (place_text place))))

    take_takes : (take : TakeView) → IsKnownTake config media take → HasShortName media take.spec → Take (take_words media take) 3974
    take_takes take known named =
        let trans = transition_words take.trans.kind take.trans in
        let auto = flag_words take.auto (codes "AUTO") in
        Take-append (producer_word media take.spec ∷ part_words take.spec take) (trans ++ auto) 3936 38 (producer_takes take.spec take known.spec named)
        (Take-append trans auto 33 5 (transition_takes take.trans.kind take.trans known.trans) (Take-flag take.auto (codes "AUTO") 4 (lit≤ tt)))

    play_takes : (place : PlaceView) (take : TakeView) → IsPlaceOf config place → IsKnownTake config media take → HasShortName media take.spec →
        Take (place_word place ∷ take_words media take) 4088
    play_takes place take at known named =
        Take-fewer (place_word place ∷ take_words media take) 3982 4088 (omega arith) (Take-place place (take_words media take) 3974 at (take_takes take known named))

    -- what a command takes after its name
    pub command_takes : (command : Cmd) → IsKnown config media command → NamesShortClip media command → Take (arguments media command) 4088
    command_takes (cmd.Load place take) known named = play_takes place take known.0 known.1 named
    command_takes (cmd.LoadBg place take) known named = play_takes place take known.0 known.1 named
    command_takes (cmd.Play place) known named = place_takes place known
    command_takes (cmd.PlayTake place take) known named = play_takes place take known.0 known.1 named
    command_takes (cmd.Pause place) known named = place_takes place known
    command_takes (cmd.Resume place) known named = place_takes place known
    command_takes (cmd.StopLayer place) known named = place_takes place known
    command_takes (cmd.ClearLayer place) known named = place_takes place known
    command_takes (cmd.ClearChannel channel) known named = channel_takes channel [] 0 (omega arith) known Take-none
    command_takes (cmd.SwapLayers one other transforms) known named =
        let flag = flag_words transforms (codes "TRANSFORMS") in
        Take-fewer (place_word one ∷ place_word other ∷ flag) 27 4088 (omega arith)
        (Take-place one (place_word other ∷ flag) 19 known.0 (Take-place other flag 11 known.1 (Take-flag transforms (codes "TRANSFORMS") 10 (lit≤ tt))))
    command_takes (cmd.SwapChannels one other transforms) known named =
        let flag = flag_words transforms (codes "TRANSFORMS") in
        channel_takes one (number_word other ∷ flag) 14 (omega arith) known.0
        (Take-channel other flag 11 known.1 (Take-flag transforms (codes "TRANSFORMS") 10 (lit≤ tt)))
    command_takes (cmd.Set setting) known named =
        Take-fewer (place_word setting.place ∷ setting_words setting) 335 4088 (omega arith)
        (Take-place setting.place (setting_words setting) 327 known.place (setting_takes setting known.short))
    command_takes (cmd.CommitMixer channel) known named = channel_takes channel (Plain (codes "COMMIT") ∷ []) 7 (omega arith) known (Take-one (codes "COMMIT") 6 (lit≤ tt))
    command_takes (cmd.ResetLayer place) known named =
        Take-fewer (place_word place ∷ Plain (codes "CLEAR") ∷ []) 14 4088 (omega arith)
        (Take-place place (Plain (codes "CLEAR") ∷ []) 6 known (Take-one (codes "CLEAR") 5 (lit≤ tt)))
    command_takes (cmd.ResetChannel channel) known named = channel_takes channel (Plain (codes "CLEAR") ∷ []) 6 (omega arith) known (Take-one (codes "CLEAR") 5 (lit≤ tt))
    command_takes (cmd.AddFile channel name) known named =
        channel_takes channel (Plain (codes "FILE") ∷ recording_word name ∷ []) 38 (omega arith) known.0
        (Take-cons (Plain (codes "FILE")) (recording_word name ∷ []) 4 33 tt (lit≤ tt) (Take-recording name known.1.again))
    command_takes (cmd.RemoveFile channel) known named = channel_takes channel (Plain (codes "FILE") ∷ []) 5 (omega arith) known (Take-one (codes "FILE") 4 (lit≤ tt))
    command_takes (cmd.Value place property) known named =
        Take-fewer (place_word place ∷ Plain (prop_text property) ∷ []) 16 4088 (omega arith)
        (Take-place place (Plain (prop_text property) ∷ []) 8 known (Take-one (prop_text property) 7 (prop_short property)))
    command_takes cmd.Info known named = Take-fewer [] 0 4088 (omega arith) Take-none
