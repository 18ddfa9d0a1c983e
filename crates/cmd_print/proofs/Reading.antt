-- The words of a printed command ask for the command.
use Rattle.std.proofs.Common.{◌≡◌, ℕ, ◌-◌, ◌≤◌, min, Bool, true, false, ◌==◌, nat_lt, List, [], ◌∷◌, ◌++◌, map, take, length, Ok, refl, sym, ◌∙◌, arith}
use Rattle.std.specs.Prelude.{Option, Some, None, codes, decimal}
use Rattle.std.specs.List.{list_any, list_all}
use Rattle.std.proofs.lemmas.Bool.{lt-ltb}
use Rattle.std.proofs.lemmas.List.{map-append}
use Rattle.std.proofs.lemmas.Bool.Decides.{nat_tests}
use Rattle.std.proofs.lemmas.List.Folds.{list_any-append}
use Rattle.std.specs.Char.{is_ascii_digit}
use Rattle.std.proofs.lemmas.Bool.{and_parts}
use Rattle.amcp_text.specs.Numbers.{are_digits, number_within}
use Rattle.amcp_text.proofs.FirstEnd.{before_first_at, before_first_none, after_first_at}
use Rattle.play_types.specs.Config.{ConfigView}
use Rattle.play_types.specs.Media.{MediaNameView}
use Rattle.play_types.specs.Place.{PlaceView}
use Rattle.play_types.specs.Take.{TakeView}
use Rattle.play_types.specs.Transition.{TransView, cut, trans_of}
use Rattle.play_types.specs.Words.{is_word, curve_of, curve_text, name_of, name_text, kind_of, kind_text}
use Rattle.play_types.specs.declared.place.TheConstants.{MAX_LAYER}
use Rattle.play_types.specs.declared.clip.TheConstants.{MAX_FRAMES}
use Rattle.play_types.specs.declared.transition.TheConstants.{MAX_DURATION}
use Rattle.play_types.specs.declared.transition.Kind.{Kind}
use Rattle.play_types.specs.declared.transition.Kind.TheVariants.{Cut, Mix, Push, Slide, Wipe}
use Rattle.play_types.specs.declared.transition.Curve.{Curve}
use Rattle.play_types.specs.declared.transition.Curve.TheVariants.{Linear, EaseInQuad, EaseOutQuad, EaseInCubic, EaseOutCubic}
use Rattle.play_types.specs.declared.take.Spec.{Spec}
use Rattle.play_types.specs.declared.take.Spec.TheVariants.{Clip, Colour, RouteChannel, RouteLayer}
use Rattle.play_types.specs.declared.reply.Name.{Name}
use Rattle.play_types.specs.declared.reply.Name.TheVariants as name
use Rattle.history_model.specs.commands.Line.{Line}
use Rattle.history_model.specs.commands.Places.{is_dash, area_of}
use Rattle.history_model.specs.commands.Options.{Options, Loop, Seek, Length, Auto, Transition, option_of, is_direction, is_leftward, options_from, options_refusal, options_of, options_at}
use Rattle.history_model.specs.commands.Producer.{Producer, is_route_word, producer_of, take_at, plain, take_with}
use Rattle.history_model.specs.commands.Command.{parsed, enough}
use Rattle.history_model.specs.text.Commands.{Word, Plain, word_meant, place_text, capital_digits, clip_name_at, flag_words, transition_words, take_words, direction_text}
use Rattle.cmd_print.proofs.Numbers.{number_within-decimal, are_digits-decimal, colour_of_capitals}
use Rattle.cmd_print.proofs.Known.{IsChannelOf, IsPlaceOf, IsKnownTrans, IsKnownSpec}

-- the name of a command is read back
pub name_of_text : (command : Name) → name_of (name_text command) ≡ Some command
unfolding name_of is_word
name_of_text name.LoadBg = refl
name_of_text name.Load = refl
name_of_text name.Play = refl
name_of_text name.Pause = refl
name_of_text name.Resume = refl
name_of_text name.Stop = refl
name_of_text name.Clear = refl
name_of_text name.Swap = refl
name_of_text name.Mixer = refl
name_of_text name.Add = refl
name_of_text name.Remove = refl
name_of_text name.Begin = refl
name_of_text name.Commit = refl
name_of_text name.Discard = refl
name_of_text name.Info = refl
name_of_text name.Cls = refl
name_of_text name.Version = refl
name_of_text name.Bye = refl
name_of_text name.Kill = refl
name_of_text name.Req = refl

-- the words that are meant by printed words
abbrev pub meant : List Word → List (List ℕ)
meant words = map word_meant words

-- the line of a command
abbrev pub line_of : ConfigView → List MediaNameView → Name → List (List ℕ) → Line
line_of config media command words = record { name = command; words = name_text command ∷ words; config = config; media = media }

pub parsed_line : (config : ConfigView) (media : List MediaNameView) (command : Name) (words : List (List ℕ))
    → parsed config media (name_text command ∷ words) ≡ enough (line_of config media command words)
unfolding parsed
parsed_line config media command words = rw (name_of_text command) refl

-- digits have no dash
no_dash : (digits : List ℕ) → are_digits digits ≡ true → list_any is_dash digits ≡ false
no_dash [] h = refl
no_dash (c ∷ cs) h =
    let digit = and_parts (is_ascii_digit c) (list_all is_ascii_digit cs) h in
    let other : (c == 45) ≡ false = grind (arith, nat_tests, digit.0) in
    rw (other, no_dash cs digit.1) refl

module _ (line : Line) (few : length line.config.channels ≤ 16) where
  channel_read : (channel : ℕ) → IsChannelOf line.config channel → number_within 1 (length line.config.channels) (decimal channel) ≡ Some channel
  channel_read channel known = number_within-decimal 1 (length line.config.channels) channel known.low known.high (omega (arith, known.high))

  -- a channel is read back
  pub area_of-channel : (at channel : ℕ) → IsChannelOf line.config channel
      → area_of line at (decimal channel) ≡ Ok (record { channel = channel; layer = None })
  unfolding area_of
  area_of-channel at channel known =
      let none = no_dash (decimal channel) (are_digits-decimal channel (omega (arith, known.high))) in
      rw (before_first_none is_dash (decimal channel) none, channel_read channel known, none) refl

  -- a place is read back
  pub area_of-place : (at : ℕ) (place : PlaceView) → IsPlaceOf line.config place
      → area_of line at (place_text place) ≡ Ok (record { channel = place.channel; layer = Some place.layer })
  unfolding area_of
  area_of-place at place known =
      let channel = decimal place.channel in
      let layer = decimal place.layer in
      let none = no_dash channel (are_digits-decimal place.channel (omega (arith, known.channel.high))) in
      let some : list_any is_dash (channel ++ 45 ∷ layer) ≡ true = list_any-append is_dash channel (45 ∷ layer) ∙ rw none refl in
      rw (before_first_at is_dash channel 45 layer none refl, channel_read place.channel known.channel, some, after_first_at is_dash channel 45 layer none refl, number_within-decimal 0 MAX_LAYER place.layer (omega arith) known.layer (omega (arith, known.layer))) refl

-- the words of a transition, and the values that they name
record IsTimed (k d c r : List ℕ) (trans : TransView) : Type 0 where
  option : option_of k ≡ Some Transition
  cuts : is_word (codes "CUT") k ≡ false
  kind : kind_of k ≡ Some trans.kind
  number : number_within 0 MAX_DURATION d ≡ Some trans.duration
  curve : curve_of c ≡ Some trans.curve
  direction : is_direction r ≡ true
  leftward : list_any is_leftward (c ∷ r ∷ []) ≡ trans.leftward
  kept : trans_of trans.kind trans.duration trans.curve trans.leftward ≡ trans

-- a kind of transition that is no cut
record IsTimedKind (one : Kind) : Type 0 where
  option : option_of (kind_text one) ≡ Some Transition
  cuts : is_word (codes "CUT") (kind_text one) ≡ false
  kind : kind_of (kind_text one) ≡ Some one

mix_kind : IsTimedKind Mix
unfolding is_word kind_of
mix_kind = record { option = refl; cuts = refl; kind = refl }

push_kind : IsTimedKind Push
unfolding is_word kind_of
push_kind = record { option = refl; cuts = refl; kind = refl }

slide_kind : IsTimedKind Slide
unfolding is_word kind_of
slide_kind = record { option = refl; cuts = refl; kind = refl }

wipe_kind : IsTimedKind Wipe
unfolding is_word kind_of
wipe_kind = record { option = refl; cuts = refl; kind = refl }

pub curve_read : (curve : Curve) → curve_of (curve_text curve) ≡ Some curve
unfolding is_word curve_of
curve_read Linear = refl
curve_read EaseInQuad = refl
curve_read EaseOutQuad = refl
curve_read EaseInCubic = refl
curve_read EaseOutCubic = refl

direction_read : (leftward : Bool) → is_direction (direction_text leftward) ≡ true
unfolding is_word
direction_read true = refl
direction_read false = refl

no_leftward : (curve : Curve) → is_leftward (curve_text curve) ≡ false
unfolding is_word
no_leftward Linear = refl
no_leftward EaseInQuad = refl
no_leftward EaseOutQuad = refl
no_leftward EaseInCubic = refl
no_leftward EaseOutCubic = refl

leftward_alone : (leftward : Bool) → list_any is_leftward (direction_text leftward ∷ []) ≡ leftward
unfolding is_word
leftward_alone true = refl
leftward_alone false = refl

leftward_read : (curve : Curve) (leftward : Bool) → list_any is_leftward (curve_text curve ∷ direction_text leftward ∷ []) ≡ leftward
leftward_read curve leftward = rw (no_leftward curve) (leftward_alone leftward)

-- the words of a transition are none, or those of one that takes time
data Shape (words : List (List ℕ)) (trans : TransView) : Type 0 where
  Cuts : words ≡ [] → trans ≡ cut → Shape words trans
  Takes : (k d c r : List ℕ) → words ≡ k ∷ d ∷ c ∷ r ∷ [] → IsTimed k d c r trans → Shape words trans

timed_shape : (kind : Kind) (duration : ℕ) (curve : Curve) (leftward : Bool) → duration ≤ MAX_DURATION → IsTimedKind kind
    → trans_of kind duration curve leftward ≡ record { kind = kind; duration = duration; curve = curve; leftward = leftward }
    → Shape (kind_text kind ∷ decimal duration ∷ curve_text curve ∷ direction_text leftward ∷ []) (record { kind = kind; duration = duration; curve = curve; leftward = leftward })
timed_shape kind duration curve leftward short timed kept =
    Takes (kind_text kind) (decimal duration) (curve_text curve) (direction_text leftward) refl (record {
      option = timed.option;
      cuts = timed.cuts;
      kind = timed.kind;
      number = number_within-decimal 0 MAX_DURATION duration (omega arith) short (omega (arith, short));
      curve = curve_read curve;
      direction = direction_read leftward;
      leftward = leftward_read curve leftward;
      kept = kept;
    })

shape_of : (kind : Kind) (duration : ℕ) (curve : Curve) (leftward : Bool) → duration ≤ MAX_DURATION
    → trans_of kind duration curve leftward ≡ record { kind = kind; duration = duration; curve = curve; leftward = leftward }
    → Shape (meant (transition_words kind (record { kind = kind; duration = duration; curve = curve; leftward = leftward }))) (record { kind = kind; duration = duration; curve = curve; leftward = leftward })
shape_of Cut duration curve leftward short kept = Cuts refl (sym kept)
shape_of Mix duration curve leftward short kept = timed_shape Mix duration curve leftward short mix_kind kept
shape_of Push duration curve leftward short kept = timed_shape Push duration curve leftward short push_kind kept
shape_of Slide duration curve leftward short kept = timed_shape Slide duration curve leftward short slide_kind kept
shape_of Wipe duration curve leftward short kept = timed_shape Wipe duration curve leftward short wipe_kind kept

-- the other options
loop_option_read : option_of (codes "LOOP") ≡ Some Loop
unfolding is_word
loop_option_read = refl

seek_option_read : option_of (codes "SEEK") ≡ Some Seek
unfolding is_word
seek_option_read = refl

length_option_read : option_of (codes "LENGTH") ≡ Some Length
unfolding is_word
length_option_read = refl

auto_option_read : option_of (codes "AUTO") ≡ Some Auto
unfolding is_word
auto_option_read = refl

-- the word of a route
route_read : (rest : List ℕ) → is_route_word (codes "route://" ++ rest) ≡ true
unfolding is_word
route_read rest = refl

-- the options that are read from words
record Say (command : Name) (words : List (List ℕ)) (options : Options) : Type 0 where
  legal : options_refusal command [] (options_from 3 words) ≡ None
  said : options_of (options_from 3 words) ≡ options

abbrev auto_words : Bool → List (List ℕ)
auto_words auto = meant (flag_words auto (codes "AUTO"))

abbrev loop_words : Bool → List (List ℕ)
loop_words looped = meant (flag_words looped (codes "LOOP"))

abbrev said_options : Bool → TransView → ℕ → Option ℕ → Bool → Options
said_options looped trans seek len auto = record { looped = looped; transition = trans; seek = seek; length = len; auto = auto }

-- the options of what is no clip
say_cut : (command : Name) (auto : Bool) → Say command (auto_words auto) (said_options false cut 0 None auto)
unfolding is_word kind_of
say_cut command true = record { legal = refl; said = refl }
say_cut command false = record { legal = refl; said = refl }

say_timed : (command : Name) (k d c r : List ℕ) (trans : TransView) → IsTimed k d c r trans → (auto : Bool)
    → Say command (k ∷ d ∷ c ∷ r ∷ auto_words auto) (said_options false trans 0 None auto)
say_timed command k d c r trans timed true = record {
  legal = simp (timed.option, timed.cuts, timed.curve, timed.direction, timed.number, auto_option_read);
  said = simp (timed.option, timed.cuts, timed.curve, timed.direction, timed.number, timed.leftward, auto_option_read) (rw (timed.kind, timed.kept) refl);
}
say_timed command k d c r trans timed false = record {
  legal = simp (timed.option, timed.cuts, timed.curve, timed.direction, timed.number);
  said = simp (timed.option, timed.cuts, timed.curve, timed.direction, timed.number, timed.leftward) (rw (timed.kind, timed.kept) refl);
}

-- the options of a clip
say_clip_cut : (command : Name) (s l : List ℕ) (seek len : ℕ) → number_within 0 MAX_FRAMES s ≡ Some seek → number_within 1 MAX_FRAMES l ≡ Some len
    → (looped auto : Bool)
    → Say command (loop_words looped ++ (codes "SEEK" ∷ s ∷ codes "LENGTH" ∷ l ∷ auto_words auto)) (said_options looped cut seek (Some len) auto)
unfolding is_word kind_of
say_clip_cut command s l seek len hs hl true true = record { legal = rw (hs, hl) refl; said = rw (hs, hl) refl }
say_clip_cut command s l seek len hs hl true false = record { legal = rw (hs, hl) refl; said = rw (hs, hl) refl }
say_clip_cut command s l seek len hs hl false true = record { legal = rw (hs, hl) refl; said = rw (hs, hl) refl }
say_clip_cut command s l seek len hs hl false false = record { legal = rw (hs, hl) refl; said = rw (hs, hl) refl }

say_clip_timed : (command : Name) (s l : List ℕ) (seek len : ℕ) → number_within 0 MAX_FRAMES s ≡ Some seek → number_within 1 MAX_FRAMES l ≡ Some len
    → (k d c r : List ℕ) (trans : TransView) → IsTimed k d c r trans → (looped auto : Bool)
    → Say command (loop_words looped ++ (codes "SEEK" ∷ s ∷ codes "LENGTH" ∷ l ∷ k ∷ d ∷ c ∷ r ∷ auto_words auto)) (said_options looped trans seek (Some len) auto)
say_clip_timed command s l seek len hs hl k d c r trans timed true true = record {
  legal = simp (timed.option, timed.cuts, timed.curve, timed.direction, timed.number, loop_option_read, seek_option_read, length_option_read, auto_option_read, hs, hl);
  said = simp (timed.option, timed.cuts, timed.curve, timed.direction, timed.number, timed.leftward, loop_option_read, seek_option_read, length_option_read, auto_option_read, hs, hl) (rw (timed.kind, timed.kept) refl);
}
say_clip_timed command s l seek len hs hl k d c r trans timed true false = record {
  legal = simp (timed.option, timed.cuts, timed.curve, timed.direction, timed.number, loop_option_read, seek_option_read, length_option_read, hs, hl);
  said = simp (timed.option, timed.cuts, timed.curve, timed.direction, timed.number, timed.leftward, loop_option_read, seek_option_read, length_option_read, hs, hl) (rw (timed.kind, timed.kept) refl);
}
say_clip_timed command s l seek len hs hl k d c r trans timed false true = record {
  legal = simp (timed.option, timed.cuts, timed.curve, timed.direction, timed.number, seek_option_read, length_option_read, auto_option_read, hs, hl);
  said = simp (timed.option, timed.cuts, timed.curve, timed.direction, timed.number, timed.leftward, seek_option_read, length_option_read, auto_option_read, hs, hl) (rw (timed.kind, timed.kept) refl);
}
say_clip_timed command s l seek len hs hl k d c r trans timed false false = record {
  legal = simp (timed.option, timed.cuts, timed.curve, timed.direction, timed.number, seek_option_read, length_option_read, hs, hl);
  said = simp (timed.option, timed.cuts, timed.curve, timed.direction, timed.number, timed.leftward, seek_option_read, length_option_read, hs, hl) (rw (timed.kind, timed.kept) refl);
}

say_other : (command : Name) (words : List (List ℕ)) (trans : TransView) (auto : Bool) → Shape words trans
    → Say command (words ++ auto_words auto) (said_options false trans 0 None auto)
say_other command words trans auto (Cuts none cuts) = rw (none, cuts) (say_cut command auto)
say_other command words trans auto (Takes k d c r is timed) = rw is (say_timed command k d c r trans timed auto)

say_clip : (command : Name) (s l : List ℕ) (seek len : ℕ) → number_within 0 MAX_FRAMES s ≡ Some seek → number_within 1 MAX_FRAMES l ≡ Some len
    → (words : List (List ℕ)) (trans : TransView) (looped auto : Bool) → Shape words trans
    → Say command (loop_words looped ++ (codes "SEEK" ∷ s ∷ codes "LENGTH" ∷ l ∷ (words ++ auto_words auto))) (said_options looped trans seek (Some len) auto)
say_clip command s l seek len hs hl words trans looped auto (Cuts none cuts) = rw (none, cuts) (say_clip_cut command s l seek len hs hl looped auto)
say_clip command s l seek len hs hl words trans looped auto (Takes k d c r is timed) =
    rw is (say_clip_timed command s l seek len hs hl k d c r trans timed looped auto)

-- the take of a line whose options and producer are read
take_said : (config : ConfigView) (media : List MediaNameView) (command : Name) (place word : List ℕ) (more : List (List ℕ)) (options : Options) (producer : Producer) (take : TakeView)
    → Say command more options → producer_of (line_of config media command (place ∷ word ∷ more)) 2 word ≡ Ok producer → take_with options producer.frames producer.spec ≡ Some take
    → take_at (line_of config media command (place ∷ word ∷ more)) 2 ≡ Ok take
unfolding take_at options_at
take_said config media command place word more options producer take say made whole = rw (say.legal, say.said, made, whole) refl

-- the parts of a take, as a view
abbrev view : Spec → Bool → ℕ → ℕ → TransView → Bool → TakeView
view spec looped seek len trans auto = record { spec = spec; looped = looped; seek = seek; length = len; trans = trans; auto = auto }

abbrev pub said_words : List MediaNameView → TakeView → List (List ℕ)
said_words media take = meant (take_words media take)

other_words : (trans : TransView) (auto : Bool)
    → meant (transition_words trans.kind trans ++ flag_words auto (codes "AUTO")) ≡ meant (transition_words trans.kind trans) ++ auto_words auto
other_words trans auto = map-append word_meant (transition_words trans.kind trans) (flag_words auto (codes "AUTO"))

clip_words : (looped : Bool) (s l : List ℕ) (more : List Word)
    → meant ((flag_words looped (codes "LOOP") ++ Plain (codes "SEEK") ∷ Plain s ∷ Plain (codes "LENGTH") ∷ Plain l ∷ []) ++ more)
    ≡ loop_words looped ++ (codes "SEEK" ∷ s ∷ codes "LENGTH" ∷ l ∷ meant more)
clip_words true s l more = refl
clip_words false s l more = refl

module _ (config : ConfigView) (media : List MediaNameView) (few : length config.channels ≤ 16) (command : Name) (place : List ℕ) where
  pub take_read : (spec : Spec) (looped : Bool) (seek len : ℕ) (trans : TransView) (auto : Bool)
      → IsKnownSpec config media (view spec looped seek len trans auto) spec → IsKnownTrans trans
      → take_at (line_of config media command (place ∷ said_words media (view spec looped seek len trans auto))) 2 ≡ Ok (view spec looped seek len trans auto)
  unfolding producer_of
  take_read (Clip id) looped seek len trans auto known moves =
      let name : clip_name_at media id ≡ known.clip.name = rw known.is.at refl in
      let shape = shape_of trans.kind trans.duration trans.curve trans.leftward moves.short moves.kept in
      let hs = number_within-decimal 0 MAX_FRAMES seek (omega arith) (omega (arith, known.part, known.few)) (omega (arith, known.part, known.few)) in
      let hl = number_within-decimal 1 MAX_FRAMES len known.some (omega (arith, known.part, known.few)) (omega (arith, known.part, known.few)) in
      let inside : nat_lt seek known.clip.frames ≡ true = lt-ltb seek known.clip.frames (omega (arith, known.part, known.some)) in
      let whole : min len (known.clip.frames - seek) ≡ len = omega (arith, known.part) in
      rw (clip_words looped (decimal seek) (decimal len) (transition_words trans.kind trans ++ flag_words auto (codes "AUTO")), other_words trans auto, name)
      (take_said config media command place known.clip.name _ (said_options looped trans seek (Some len) auto) (record { spec = Clip id; frames = known.clip.frames }) _
      (say_clip command (decimal seek) (decimal len) seek len hs hl (meant (transition_words trans.kind trans)) trans looped auto shape)
      (rw (known.is.colour, known.is.route, known.is.named, known.is.found, known.is.readable) refl)
      (rw (inside, whole) refl))
  take_read (Colour value) looped seek len trans auto known moves =
      let shape = shape_of trans.kind trans.duration trans.curve trans.leftward moves.short moves.kept in
      rw (known.1.looped, known.1.seek, known.1.length, other_words trans auto)
      (take_said config media command place (35 ∷ capital_digits 8 value) _ (said_options false trans 0 None auto) (plain (Colour value)) _
      (say_other command (meant (transition_words trans.kind trans)) trans auto shape)
      (rw (colour_of_capitals value known.0) refl)
      refl)
  take_read (RouteChannel channel) looped seek len trans auto known moves =
      let shape = shape_of trans.kind trans.duration trans.curve trans.leftward moves.short moves.kept in
      let words = codes "route://" ++ decimal channel in
      rw (known.1.looped, known.1.seek, known.1.length, other_words trans auto)
      (take_said config media command place words _ (said_options false trans 0 None auto) (plain (RouteChannel channel)) _
      (say_other command (meant (transition_words trans.kind trans)) trans auto shape)
      (rw (route_read (decimal channel), area_of-channel (line_of config media command (place ∷ words ∷ (meant (transition_words trans.kind trans) ++ auto_words auto))) few 2 channel known.0) refl)
      refl)
  take_read (RouteLayer to) looped seek len trans auto known moves =
      let shape = shape_of trans.kind trans.duration trans.curve trans.leftward moves.short moves.kept in
      let words = codes "route://" ++ place_text to in
      rw (known.1.looped, known.1.seek, known.1.length, other_words trans auto)
      (take_said config media command place words _ (said_options false trans 0 None auto) (plain (RouteLayer to)) _
      (say_other command (meant (transition_words trans.kind trans)) trans auto shape)
      (rw (route_read (place_text to), area_of-place (line_of config media command (place ∷ words ∷ (meant (transition_words trans.kind trans) ++ auto_words auto))) few 2 to known.0) refl)
      refl)
