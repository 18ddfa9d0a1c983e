-- What is known of a take that the words of a line ask for.
use Rattle.std.proofs.Common.{◌≡◌, ℕ, ◌+◌, ◌-◌, ◌<◌, ◌≤◌, Bool, true, false, cond, ◌==◌, nat_lt, List, [], ◌∷◌, ◌++◌, drop, take, length, Ok, refl, ap, subst, arith, inl, inr, All}
use Rattle.std.specs.Prelude.{Option, Some, None, slice_get, is_some, unwrap_or, option_map, option_and_then}
use Rattle.std.specs.Option.{option_map_or}
use Rattle.std.specs.Prelude.{◌⊎◌}
use Rattle.std.specs.List.{list_any}
use Rattle.std.proofs.lemmas.Bool.{cases_lt, ltb-true}
use Rattle.std.proofs.lemmas.Option.{get_or_from_slice_get, slice_get_past}
use Rattle.play_types.specs.Config.{ConfigView}
use Rattle.play_types.specs.Media.{AreKept, MediaNameView, IsMediaName}
use Rattle.play_types.specs.Take.{TakeView, loaded, played}
use Rattle.play_types.specs.Transition.{TransView, cut, trans_of}
use Rattle.play_types.specs.Words.{kind_of}
use Rattle.play_types.specs.declared.clip.TheConstants.{MAX_FRAMES}
use Rattle.play_types.specs.declared.transition.TheConstants.{MAX_DURATION}
use Rattle.play_types.specs.declared.transition.Kind.{Kind}
use Rattle.play_types.specs.declared.transition.Kind.TheVariants.{Cut, Mix, Push, Slide, Wipe}
use Rattle.play_types.specs.declared.transition.Curve.{Curve}
use Rattle.play_types.specs.declared.take.Spec.{Spec}
use Rattle.play_types.specs.declared.take.Spec.TheVariants.{Clip, Colour, RouteChannel, RouteLayer}
use Rattle.play_types.specs.declared.reply.Name.{Name}
use Rattle.play_types.specs.declared.command.Cmd.{Cmd}
use Rattle.play_types.specs.declared.command.Cmd.TheVariants as cmd
use Rattle.play_types.specs.declared.parsed.Refusal.{Refusal}
use Rattle.play_types.specs.declared.parsed.Refusal.TheVariants.{Illegal}
use Rattle.history_model.specs.commands.Line.{Line, ◌>>=◌, legal, word_at}
use Rattle.history_model.specs.commands.Places.{Area, place_of, area_at}
use Rattle.history_model.specs.commands.Options.{Options, OptionName, Loop, Transition, Seek, Length, Auto, Written, curve_among, given, is_leftward, is_option, is_same_option, least_number, most_number, number_len, number_refusal, option_of, option_refusal, option_value, options_from, options_refusal, options_of, options_at, transition_of, unless_refused, written_number}
use Rattle.history_model.specs.commands.Command.{play, load, load_bg}
use Rattle.history_model.specs.commands.Producer.{played_length, producer_of, take_at, take_for, take_with}
use Rattle.cmd_print.proofs.Numbers.{IsBetween, number_within-between}
use Rattle.cmd_print.proofs.Known.{HasNoPart, IsNamedClip, IsKnownSpec, IsKnownTake, IsKnownTrans, IsKnown}
use Rattle.cmd_print.proofs.Asked.{bound, given_of, ok_injective, some_injective, IsKnownArea, area_at_known, place_known}
use Rattle.cmd_print.proofs.Producers.{IsKnownProducer, producer_known}

-- a transition that is kept of its parts
trans_known : (kind : Kind) (duration : ℕ) (curve : Curve) (leftward : Bool) → duration ≤ MAX_DURATION → IsKnownTrans (trans_of kind duration curve leftward)
trans_known Cut duration curve leftward short = record { short = omega arith; kept = refl }
trans_known Mix duration curve leftward short = record { short = short; kept = refl }
trans_known Push duration curve leftward short = record { short = short; kept = refl }
trans_known Slide duration curve leftward short = record { short = short; kept = refl }
trans_known Wipe duration curve leftward short = record { short = short; kept = refl }

number_below : (most : ℕ) (read : Option ℕ) → ((n : ℕ) → read ≡ Some n → n ≤ most) → unwrap_or read 0 ≤ most
number_below most None below = omega arith
number_below most (Some n) below = below n refl

value_below : (option : OptionName) (word : Option (List ℕ)) (n : ℕ) → option_and_then (option_value option) word ≡ Some n → n ≤ most_number option
value_below option None n h = cc
value_below option (Some word) n h = (number_within-between (least_number option) (most_number option) word n h).high

written_below : (option : OptionName) (written : Written) → written_number option written ≤ most_number option
written_below option written =
    number_below (most_number option) (option_and_then (option_value option) (slice_get written.more 0)) (value_below option (slice_get written.more 0))

transition_known : (found : Option Written) → IsKnownTrans (unwrap_or (option_map transition_of found) cut)
transition_known None = record { short = omega arith; kept = refl }
transition_known (Some written) =
    trans_known (unwrap_or (kind_of written.word) Cut) (written_number Transition written)
    (curve_among (drop (number_len written.word Transition written.more) written.more))
    (list_any is_leftward (drop (number_len written.word Transition written.more) written.more)) (written_below Transition written)

-- a length that was not refused is at least 1
same_length : (option : OptionName) → is_same_option Length option ≡ true → option ≡ Length
same_length Loop h = cc
same_length Transition h = cc
same_length Seek h = cc
same_length Length h = refl
same_length Auto h = cc

length_word : (option : Option OptionName) → option_map_or (is_same_option Length) option false ≡ true → option ≡ Some Length
length_word None h = cc
length_word (Some option) h = ap Some (same_length option h)

some_length : (word : List ℕ) (read : Option ℕ) (name : Name) (at : ℕ) → option_value Length word ≡ read → cond (is_some read) None (Some (Illegal name at)) ≡ None → 1 ≤ unwrap_or read 0
some_length word None name at is h = cc
some_length word (Some n) name at is h = (number_within-between 1 MAX_FRAMES word n is).low

length_legal : (name : Name) (at : ℕ) (word : Option (List ℕ)) → number_refusal name at Length word ≡ None → 1 ≤ unwrap_or (option_and_then (option_value Length) word) 0
length_legal name at None h = cc
length_legal name at (Some word) h = some_length word (option_value Length word) name (at + 1) refl h

not_refused : (given : Bool) (refusal rest : Option Refusal) (first : Refusal) → cond given (Some first) rest ≡ None → rest ≡ None
not_refused true refusal rest first h = cc
not_refused false refusal rest first h = h

option_legal : (name : Name) (before : List Written) (written : Written) (option : Option OptionName) → option ≡ Some Length
    → option_refusal name before written option ≡ None → 1 ≤ written_number Length written
option_legal name before written None e h = cc
option_legal name before written (Some option) e h =
    let length : option ≡ Length = cc in
    let own : option_refusal name before written (Some Length) ≡ None = subst (λ o. option_refusal name before written (Some o) ≡ None) length h in
    length_legal name written.at (slice_get written.more 0)
    (not_refused (is_some (given Length before)) None (number_refusal name written.at Length (slice_get written.more 0)) (Illegal name written.at) own)

none_of : (refusal rest : Option Refusal) → cond (is_some refusal) refusal rest ≡ None → (refusal ≡ None) × (rest ≡ None)
none_of None rest h = (refl, h)
none_of (Some r) rest h = cc

given_by : (written : Written) (rest : List Written) (here : Bool) (found : Written) → is_option Length written ≡ here
    → cond here (Some written) (given Length rest) ≡ Some found → ((here ≡ true) × (written ≡ found)) ⊎ (given Length rest ≡ Some found)
given_by written rest true found is h = inl (refl, some_injective written found h)
given_by written rest false found is h = inr h

length_given : (name : Name) (before all : List Written) (found : Written) → options_refusal name before all ≡ None → given Length all ≡ Some found → 1 ≤ written_number Length found
length_given name before [] found legal h = cc
length_given name before (written ∷ rest) found legal h =
    let parts = none_of (option_refusal name before written (option_of written.word)) (options_refusal name (before ++ written ∷ []) rest) legal in
    elim (given_by written rest (is_option Length written) found refl h) [
      | inl here ↦
          subst (λ w. 1 ≤ written_number Length w) here.1
          (option_legal name before written (option_of written.word) (length_word (option_of written.word) here.0) parts.0)
      | inr later ↦ length_given name (before ++ written ∷ []) rest found parts.1 later
    ]

abbrev IsLength : Option ℕ → Type 0
IsLength None = Unit {0}
IsLength (Some len) = 1 ≤ len

length_known : (name : Name) (all : List Written) (found : Option Written) → options_refusal name [] all ≡ None → given Length all ≡ found → IsLength (option_map (written_number Length) found)
length_known name all None legal is = tt
length_known name all (Some written) legal is = length_given name [] all written legal is

record AreKnownOptions (options : Options) : Type 0 where
  trans : IsKnownTrans options.transition
  len : IsLength options.length

legal_options : (refusal : Option Refusal) (said options : Options) → unless_refused refusal said ≡ Ok options → (refusal ≡ None) × (said ≡ options)
legal_options None said options h = (refl, ok_injective said options h)
legal_options (Some r) said options h = cc

options_known : (line : Line) (at : ℕ) (options : Options) → options_at line at ≡ Ok options → AreKnownOptions options
unfolding options_at
options_known line at options h =
    let all = options_from at (drop at line.words) in
    let parts = legal_options (options_refusal line.name [] all) (options_of all) options h in
    subst AreKnownOptions parts.1 (record {
      trans = transition_known (given Transition all);
      len = length_known line.name all (given Length all) parts.0 refl;
    })

-- a clip of the media table has at most MAX_FRAMES frames
kept_below : (readable : Bool) (clip : MediaNameView) → AreKept readable clip → clip.frames ≤ MAX_FRAMES
kept_below true clip kept = kept.few_frames
kept_below false clip kept = omega (arith, kept.frames)

frames_below : (media : List MediaNameView) (id : ℕ) (clip : MediaNameView) → All IsMediaName media → slice_get media id ≡ Some clip → clip.frames ≤ MAX_FRAMES
frames_below media id clip names at = elim (cases_lt id (length media)) [
  | inl inside ↦ kept_below clip.readable clip (subst IsMediaName (get_or_from_slice_get media id clip clip at) (names id clip inside))
  | inr past ↦ absurd (cc (slice_get_past media id past, at))
]

-- the part of a clip that is played
played_most : (len : Option ℕ) (rest : ℕ) → IsLength len → 1 ≤ rest → IsBetween 1 rest (played_length len rest)
played_most None rest known some = record { low = some; high = omega arith }
played_most (Some len) rest known some = record { low = omega (arith, known); high = omega arith }

clip_by : (config : ConfigView) (media : List MediaNameView) (options : Options) (id frames : ℕ) (take : TakeView) (inside : Bool) → nat_lt options.seek frames ≡ inside → All IsMediaName media
    → AreKnownOptions options → (clip : MediaNameView) × IsNamedClip media id clip × (frames ≡ clip.frames)
    → cond inside (Some (take_for (Clip id) options (played_length options.length (frames - options.seek)))) None ≡ Some take → IsKnownTake config media take
clip_by config media options id frames take true inside names known clip h =
    let below : options.seek < frames = ltb-true options.seek frames inside in
    let part = played_most options.length (frames - options.seek) known.len (omega arith) in
    let few : clip.0.frames ≤ MAX_FRAMES = frames_below media id clip.0 names clip.1.at in
    subst (IsKnownTake config media) (some_injective (take_for (Clip id) options (played_length options.length (frames - options.seek))) take h)
    (record {
      spec = record {
        clip = clip.0;
        is = clip.1;
        some = part.low;
        part = omega (arith, part.high, clip.2, below);
        few = few;
      };
      trans = known.trans;
    })
clip_by config media options id frames take false inside names known clip h = cc

no_part : (trans : TransView) (spec : Spec) (auto : Bool) → HasNoPart (record { spec = spec; looped = false; seek = 0; length = 0; trans = trans; auto = auto })
no_part trans spec auto = record { looped = refl; seek = refl; length = refl }

take_by : (config : ConfigView) (media : List MediaNameView) (options : Options) (frames : ℕ) (spec : Spec) (take : TakeView) → All IsMediaName media → AreKnownOptions options
    → IsKnownProducer config media spec frames → take_with options frames spec ≡ Some take → IsKnownTake config media take
take_by config media options frames (Clip id) take names known producer h = clip_by config media options id frames take (nat_lt options.seek frames) refl names known producer h
take_by config media options frames (Colour value) take names known producer h =
    subst (IsKnownTake config media) (some_injective (take_for (Colour value) options 0) take h)
    (record { spec = (producer, no_part options.transition (Colour value) options.auto); trans = known.trans })
take_by config media options frames (RouteChannel channel) take names known producer h =
    subst (IsKnownTake config media) (some_injective (take_for (RouteChannel channel) options 0) take h)
    (record { spec = (producer, no_part options.transition (RouteChannel channel) options.auto); trans = known.trans })
take_by config media options frames (RouteLayer place) take names known producer h =
    subst (IsKnownTake config media) (some_injective (take_for (RouteLayer place) options 0) take h)
    (record { spec = (producer, no_part options.transition (RouteLayer place) options.auto); trans = known.trans })

take_known : (line : Line) (at : ℕ) (take : TakeView) → All IsMediaName line.media → take_at line at ≡ Ok take → IsKnownTake line.config line.media take
unfolding take_at
take_known line at take names h =
    let one = bound (options_at line (at + 1))
    (λ options. word_at line at >>= (λ word. producer_of line at word >>= (λ producer. legal line at (take_with options producer.frames producer.spec)))) take h in
    let two = bound (word_at line at) (λ word. producer_of line at word >>= (λ producer. legal line at (take_with one.value producer.frames producer.spec))) take one.rest in
    let three = bound (producer_of line at two.value) (λ producer. legal line at (take_with one.value producer.frames producer.spec)) take two.rest in
    take_by line.config line.media one.value three.value.frames three.value.spec take names (options_known line (at + 1) one.value one.first)
    (producer_known line at two.value three.value three.first)
    (given_of (take_with one.value three.value.frames three.value.spec) (Illegal line.name at) take three.rest)

-- a producer is known whatever the transition
spec_kept : (config : ConfigView) (media : List MediaNameView) (spec : Spec) (take : TakeView) (trans : TransView) (auto : Bool)
    → IsKnownSpec config media take spec → IsKnownSpec config media (record take { trans = trans; auto = auto }) spec
spec_kept config media (Clip id) take trans auto known = record {
  clip = known.clip;
  is = known.is;
  some = known.some;
  part = known.part;
  few = known.few;
}
spec_kept config media (Colour value) take trans auto known = (known.0, record { looped = known.1.looped; seek = known.1.seek; length = known.1.length })
spec_kept config media (RouteChannel channel) take trans auto known = (known.0, record { looped = known.1.looped; seek = known.1.seek; length = known.1.length })
spec_kept config media (RouteLayer place) take trans auto known = (known.0, record { looped = known.1.looped; seek = known.1.seek; length = known.1.length })

-- LOAD, LOADBG and PLAY
loaded_known : (config : ConfigView) (media : List MediaNameView) (take : TakeView) → IsKnownTake config media take → IsKnownTake config media (loaded take)
loaded_known config media take known = record { spec = spec_kept config media take.spec take cut false known.spec; trans = record { short = omega arith; kept = refl } }

played_known : (config : ConfigView) (media : List MediaNameView) (take : TakeView) → IsKnownTake config media take → IsKnownTake config media (played take)
played_known config media take known = record { spec = spec_kept config media take.spec take take.trans false known.spec; trans = known.trans }

pub load_known : (line : Line) (asked : Cmd) → All IsMediaName line.media → load line ≡ Ok asked → IsKnown line.config line.media asked
unfolding load
load_known line asked names h =
    let one = bound (area_at line 1) (λ area. take_at line 2 >>= (λ take. Ok (cmd.Load (place_of area) (loaded take)))) asked h in
    let two = bound (take_at line 2) (λ take. Ok (cmd.Load (place_of one.value) (loaded take))) asked one.rest in
    subst (IsKnown line.config line.media) (ok_injective (cmd.Load (place_of one.value) (loaded two.value)) asked two.rest)
    (place_known line.config one.value (area_at_known line 1 one.value one.first), loaded_known line.config line.media two.value (take_known line 2 two.value names two.first), refl, refl)

pub load_bg_known : (line : Line) (asked : Cmd) → All IsMediaName line.media → load_bg line ≡ Ok asked → IsKnown line.config line.media asked
unfolding load_bg
load_bg_known line asked names h =
    let one = bound (area_at line 1) (λ area. take_at line 2 >>= (λ take. Ok (cmd.LoadBg (place_of area) take))) asked h in
    let two = bound (take_at line 2) (λ take. Ok (cmd.LoadBg (place_of one.value) take)) asked one.rest in
    subst (IsKnown line.config line.media) (ok_injective (cmd.LoadBg (place_of one.value) two.value) asked two.rest)
    (place_known line.config one.value (area_at_known line 1 one.value one.first), take_known line 2 two.value names two.first)

play_by : (line : Line) (area : Area) (alone : Bool) (asked : Cmd) → All IsMediaName line.media → IsKnownArea line.config area
    → cond alone (Ok (cmd.Play (place_of area))) (take_at line 2 >>= (λ take. Ok (cmd.PlayTake (place_of area) (played take)))) ≡ Ok asked → IsKnown line.config line.media asked
play_by line area true asked names known h =
    subst (IsKnown line.config line.media) (ok_injective (cmd.Play (place_of area)) asked h) (place_known line.config area known)
play_by line area false asked names known h =
    let two = bound (take_at line 2) (λ take. Ok (cmd.PlayTake (place_of area) (played take))) asked h in
    subst (IsKnown line.config line.media) (ok_injective (cmd.PlayTake (place_of area) (played two.value)) asked two.rest)
    (place_known line.config area known, played_known line.config line.media two.value (take_known line 2 two.value names two.first), refl)

pub play_known : (line : Line) (asked : Cmd) → All IsMediaName line.media → play line ≡ Ok asked → IsKnown line.config line.media asked
unfolding play
play_known line asked names h =
    let one = bound (area_at line 1) (λ area. cond (length line.words == 2) (Ok (cmd.Play (place_of area))) (take_at line 2 >>= (λ take. Ok (cmd.PlayTake (place_of area) (played take))))) asked h in
    play_by line one.value (length line.words == 2) asked names (area_at_known line 1 one.value one.first) one.rest
