-- A query, a mark of a recording or a refused event changes no later answer. Frames before the first act.
use Rattle.std.proofs.Common.{◌≡◌, ℕ, Bool, true, false, List, [], ◌∷◌, ◌++◌, reverse, length, map, pos, refl, sym, ap, ap₂, ◌∙◌, subst₂, is_none}
use Rattle.std.proofs.lemmas.List.{reverse-append}
use Rattle.std.specs.Prelude.{Some, flat_map}
use Rattle.play_types.specs.Place.{PlaceView}
use Rattle.play_types.specs.Commands.{mark_of}
use Rattle.play_types.specs.Answer.{micros_of, status_list_of}
use Rattle.play_types.specs.History.{ticks, is_stop}
use Rattle.play_types.specs.declared.setting.Prop.{Prop}
use Rattle.play_types.specs.declared.command.Cmd.{Cmd}
use Rattle.play_types.specs.declared.command.Cmd.TheVariants.{Value as ValueOf, Info as InfoOf}
use Rattle.play_types.specs.declared.event.Tag.{Tag}
use Rattle.play_types.specs.declared.shape.Recording.{Recording}
use Rattle.play_types.specs.declared.event.Event.{Event}
use Rattle.play_types.specs.declared.event.Event.TheVariants.{Do, Batch, Tick, Stop}
use Rattle.play_types.specs.declared.answer.Status.{Status}
use Rattle.play_types.specs.declared.answer.Answer.TheVariants.{Value, Info}
use Rattle.pixel_math.specs.Pixel.{transparent}
use Rattle.history_model.specs.stage.Act.{Act}
use Rattle.history_model.specs.stage.Acts.{acts, acts_back, with_event, is_refused}
use Rattle.history_model.specs.stage.Value.{value, value_at}
use Rattle.history_model.specs.pictures.Media.{Setup, size}
use Rattle.history_model.specs.pictures.Source.{last_foregrounds}
use Rattle.history_model.specs.pictures.Scene.{scene_of}
use Rattle.history_model.specs.pictures.Frame.{scene_pixel, frames_back, frame_pixel}
use Rattle.history_model.specs.pictures.Sound.{scene_sample, sounds_back, frame_sample}
use Rattle.history_model.specs.stage.Answer.{Answered, Frames, channel_frame, channel_numbers, numbers_below, number_count, statuses, status_of, channel_foregrounds, outcome_of, command_answer, answer}
use Rattle.history_model.proofs.Events.{IsSame, IsSame-cons, IsSame-append, IsSame-do, IsSame-batch, acts_back-value, acts_back-info, acts_back-mark, acts_back-refused, ticks-reverse, reverse-middle}

-- two histories agree in everything that later definitions look at
abbrev pub SameHistory : Setup → List Event → List Event → Type 0
SameHistory setup g h = IsSame setup (reverse g) (reverse h)

-- such histories have equal numbers of ticks
same_ticks : (setup : Setup) (g h : List Event) → SameHistory setup g h → ticks g ≡ ticks h
same_ticks setup g h s = sym (ticks-reverse g) ∙ s.ticks ∙ ticks-reverse h

-- their pixels, samples, acts, values and refusals are equal
pub acts-same : (setup : Setup) (g h : List Event) → SameHistory setup g h → acts g ≡ acts h
unfolding acts
acts-same setup g h s = s.acts

pub frame_pixel-same : (setup : Setup) (g h : List Event) → SameHistory setup g h →
    frame_pixel setup g ≡ frame_pixel setup h
unfolding frame_pixel
frame_pixel-same setup g h s = (IsSame-cons setup Tick (reverse g) (reverse h) s).frames

pub frame_sample-same : (setup : Setup) (g h : List Event) → SameHistory setup g h →
    frame_sample setup g ≡ frame_sample setup h
unfolding frame_sample
frame_sample-same setup g h s = (IsSame-cons setup Tick (reverse g) (reverse h) s).sounds

pub pixel-same : (setup : Setup) (g h : List Event) → SameHistory setup g h →
    (channel x y : ℕ) → frame_pixel setup g channel x y ≡ frame_pixel setup h channel x y
pixel-same setup g h s channel x y = λ i. frame_pixel-same setup g h s i channel x y

pub sample-same : (setup : Setup) (g h : List Event) → SameHistory setup g h →
    (channel pair side : ℕ) → frame_sample setup g channel pair side ≡ frame_sample setup h channel pair side
sample-same setup g h s channel pair side = λ i. frame_sample-same setup g h s i channel pair side

pub value-same : (setup : Setup) (g h : List Event) → SameHistory setup g h →
    (place : PlaceView) (prop : Prop) (now : ℕ) → value g place prop now ≡ value h place prop now
unfolding value
value-same setup g h s place prop now = ap (λ past. value_at past place prop now) s.acts

pub is_refused-same : (setup : Setup) (g h : List Event) → SameHistory setup g h →
    (event : Event) → is_refused g event ≡ is_refused h event
unfolding is_refused acts
is_refused-same setup g h s event =
    ap₂ (λ past now. is_none (with_event past now event)) s.acts (same_ticks setup g h s)

pub statuses-same : (setup : Setup) (g h : List Event) → SameHistory setup g h → statuses setup g ≡ statuses setup h
statuses-same setup g h s =
    ap₂ {A = List Act} {B = ℕ} {C = List Status}
    (λ past now. map (λ channel. status_of (channel_foregrounds past now channel)) (channel_numbers setup))
    (acts-same setup g h s) (same_ticks setup g h s)

-- their answers are equal
command-same : (setup : Setup) (g h : List Event) → SameHistory setup g h →
    (refused : Bool) (cmd : Cmd) → command_answer setup g refused cmd ≡ command_answer setup h refused cmd
command-same setup g h s refused (ValueOf place prop) =
    ap (λ v. Value (micros_of v (number_count prop)))
    (value-same setup g h s place prop (ticks g) ∙ ap (value h place prop) (same_ticks setup g h s))
command-same setup g h s refused InfoOf =
    ap (λ list. Info (status_list_of list (length setup.channels))) (statuses-same setup g h s)
command-same setup g h s refused cmd = refl

frames-same : (setup : Setup) (g h : List Event) → SameHistory setup g h →
    Frames (map (channel_frame setup g) (channel_numbers setup)) ≡ Frames (map (channel_frame setup h) (channel_numbers setup))
frames-same setup g h s = λ i. Frames (map (λ channel. record {
  pixels = flat_map
      (λ y. map (λ x. frame_pixel-same setup g h s i channel x y) (numbers_below (size setup channel).width))
      (numbers_below (size setup channel).height);
  samples = flat_map
      (λ pair. frame_sample-same setup g h s i channel pair 0 ∷ frame_sample-same setup g h s i channel pair 1 ∷ [])
      (numbers_below (size setup channel).pairs);
}) (channel_numbers setup))

pub answer-same : (setup : Setup) (g h : List Event) → SameHistory setup g h →
    (event : Event) → is_stop event ≡ false → answer setup g event ≡ answer setup h event
unfolding answer
answer-same setup g h s (Do tag cmd) e =
    ap (λ refused. Answered (command_answer setup g refused cmd)) (is_refused-same setup g h s (Do tag cmd))
    ∙ ap Answered (command-same setup g h s (is_refused h (Do tag cmd)) cmd)
answer-same setup g h s (Batch tag cmds) e =
    ap (λ refused. Answered (outcome_of refused)) (is_refused-same setup g h s (Batch tag cmds))
answer-same setup g h s Tick e = frames-same setup g h s
answer-same setup g h s (Stop tag) e = cc

-- a history without an event that changes nothing
pub SameHistory-without : (setup : Setup) (before : List Event) (event : Event) (later : List Event) →
    IsSame setup (event ∷ reverse before) (reverse before) → SameHistory setup (before ++ event ∷ later) (before ++ later)
SameHistory-without setup before event later s =
    subst₂ (IsSame setup) (sym (reverse-middle before event later)) (sym (reverse-append before later))
    (IsSame-append setup (reverse later) (event ∷ reverse before) (reverse before) s)

-- a query changes nothing
pub SameHistory-value : (setup : Setup) (before : List Event) (tag : Tag) (place : PlaceView) (prop : Prop) (later : List Event) →
    SameHistory setup (before ++ Do tag (ValueOf place prop) ∷ later) (before ++ later)
SameHistory-value setup before tag place prop later =
    SameHistory-without setup before (Do tag (ValueOf place prop)) later
    (IsSame-do setup tag (ValueOf place prop) (reverse before) (acts_back-value tag place prop (reverse before)))

pub SameHistory-info : (setup : Setup) (before : List Event) (tag : Tag) (later : List Event) →
    SameHistory setup (before ++ Do tag InfoOf ∷ later) (before ++ later)
SameHistory-info setup before tag later =
    SameHistory-without setup before (Do tag InfoOf) later
    (IsSame-do setup tag InfoOf (reverse before) (acts_back-info tag (reverse before)))

-- a mark of a recording changes nothing
pub SameHistory-mark : (setup : Setup) (before : List Event) (tag : Tag) (cmd : Cmd) (mark : Recording) (later : List Event) → mark_of cmd ≡ Some mark →
    SameHistory setup (before ++ Do tag cmd ∷ later) (before ++ later)
SameHistory-mark setup before tag cmd mark later is =
    SameHistory-without setup before (Do tag cmd) later
    (IsSame-do setup tag cmd (reverse before) (acts_back-mark tag cmd mark (reverse before) is))

-- a refused event changes nothing
refused_same : (setup : Setup) (event : Event) (back : List Event) →
    is_none (with_event (acts_back back) (ticks back) event) ≡ true → IsSame setup (event ∷ back) back
refused_same setup (Do tag cmd) back e = IsSame-do setup tag cmd back (acts_back-refused (Do tag cmd) back e)
refused_same setup (Batch tag cmds) back e = IsSame-batch setup tag cmds back (acts_back-refused (Batch tag cmds) back e)
refused_same setup Tick back e = cc
refused_same setup (Stop tag) back e = cc

pub SameHistory-refused : (setup : Setup) (before : List Event) (event : Event) (later : List Event) →
    is_refused before event ≡ true → SameHistory setup (before ++ event ∷ later) (before ++ later)
unfolding is_refused acts
SameHistory-refused setup before event later e =
    SameHistory-without setup before event later
    (refused_same setup event (reverse before)
    (ap (λ now. is_none (with_event (acts_back (reverse before)) now event)) (ticks-reverse before) ∙ e))

-- without acts every pixel is transparent and every sample 0
pub frame_pixel-before : (setup : Setup) (history : List Event) → acts history ≡ [] →
    (channel x y : ℕ) → frame_pixel setup history channel x y ≡ transparent
unfolding frame_pixel acts
frame_pixel-before setup history e channel x y =
    let back : List Event = reverse history in
    ap (λ past. scene_pixel (record { setup = setup; frames = frames_back setup back }) (size setup channel) (scene_of past (ticks back) (last_foregrounds back) channel) x y) e

pub frame_sample-before : (setup : Setup) (history : List Event) → acts history ≡ [] →
    (channel pair side : ℕ) → frame_sample setup history channel pair side ≡ pos 0
unfolding frame_sample acts
frame_sample-before setup history e channel pair side =
    let back : List Event = reverse history in
    ap (λ past. scene_sample setup (sounds_back setup back) (scene_of past (ticks back) (last_foregrounds back) channel) pair side) e
