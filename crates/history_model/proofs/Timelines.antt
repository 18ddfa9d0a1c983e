-- A history agrees with its timeline, and later events add entries after those before them.
use Rattle.std.proofs.Common.{◌≡◌, ℕ, ◌+◌, Bool, true, false, List, [], ◌∷◌, ◌++◌, map, reverse, refl, sym, ap, ap₂, ◌∙◌, if◌then◌else◌, unwrap_or, is_none, append_assoc}
use Rattle.std.proofs.lemmas.List.{reverse-append}
use Rattle.std.proofs.lemmas.Option.{none-some, same_Some}
use Rattle.std.specs.Prelude.{Option, Some, None, option_and_then}
use Rattle.std.specs.List.{list_any}
use Rattle.play_types.specs.Place.{PlaceView}
use Rattle.play_types.specs.History.{ticks}
use Rattle.play_types.specs.declared.setting.Prop.{Prop}
use Rattle.play_types.specs.declared.command.Cmd.{Cmd}
use Rattle.play_types.specs.declared.answer.Status.{Status}
use Rattle.play_types.specs.declared.event.Event.{Event}
use Rattle.play_types.specs.declared.event.Tag.{Tag}
use Rattle.play_types.specs.declared.event.Event.TheVariants.{Do, Batch, Tick, Stop}
use Rattle.history_model.specs.stage.Act.{Act, acts_of}
use Rattle.history_model.specs.stage.Acts.{acts, acts_back, channels, is_over, is_refused, with_command, with_commands, with_event}
use Rattle.history_model.specs.stage.Answer.{channel_foregrounds, channel_numbers, statuses, status_of}
use Rattle.history_model.specs.stage.Live.{foreground_at}
use Rattle.history_model.specs.stage.Timeline.{Entry, Did, Ticked, entries_of, timeline, timeline_acts, timeline_back, timeline_ticks, timeline_value}
use Rattle.history_model.specs.stage.Value.{value, value_at}
use Rattle.history_model.specs.pictures.Media.{Setup, size}
use Rattle.history_model.specs.pictures.Source.{last_foregrounds}
use Rattle.history_model.specs.pictures.Scene.{scene_of}
use Rattle.history_model.specs.pictures.Frame.{scene_pixel, frames_back, frame_pixel}
use Rattle.history_model.specs.pictures.Sound.{scene_sample, sounds_back, frame_sample}
use Rattle.history_model.specs.pictures.TimelineFrame.{timeline_foregrounds, timeline_frames, timeline_pixel, timeline_sample, timeline_sounds, timeline_statuses}
use Rattle.history_model.proofs.Events.{ticks-reverse}

-- a timeline agrees with a history that is read backward in everything that later definitions look at
record IsTimelineOf (setup : Setup) (back : List Event) (entries : List Entry) : Type 0 where
  acts : acts_back back ≡ timeline_acts entries
  ticks : ticks back ≡ timeline_ticks entries
  foregrounds : last_foregrounds back ≡ timeline_foregrounds entries
  frames : frames_back setup back ≡ timeline_frames setup entries
  sounds : sounds_back setup back ≡ timeline_sounds setup entries

-- the commands of a batch follow one another, the last one first
pub reverse-cons : {A B : Type 0} (f : A → B) (x : A) (xs : List A) (rest : List B) →
    reverse (map f (x ∷ xs)) ++ rest ≡ reverse (map f xs) ++ (f x ∷ rest)
reverse-cons f x xs rest =
    ap (λ l. l ++ rest) (reverse-append (f x ∷ []) (map f xs)) ∙ append_assoc (reverse (map f xs)) (f x ∷ []) rest

-- what each command does not change, all of them do not change
pub kept_by_all : {A B C : Type 0} (f : A → B) (look : List B → C) → ((x : A) (rest : List B) → look (f x ∷ rest) ≡ look rest) →
    (xs : List A) (rest : List B) → look (reverse (map f xs) ++ rest) ≡ look rest
kept_by_all f look each [] rest = refl
kept_by_all f look each (x ∷ xs) rest =
    ap look (reverse-cons f x xs rest) ∙ kept_by_all f look each xs (f x ∷ rest) ∙ each x rest

-- the acts of an accepted command are those of its entry
one_more : (test : Bool) (more acts : List Act) → (if test then None else Some more) ≡ Some acts → more ≡ acts
one_more true more acts e = absurd (none-some acts e)
one_more false more acts e = same_Some more acts e

acts_of_command : (cmd : Cmd) (entries : List Entry) (more : List Act) →
    with_command (timeline_acts entries) (timeline_ticks entries) cmd ≡ Some more → more ≡ timeline_acts (Did cmd ∷ entries)
acts_of_command cmd entries more e =
    let added = acts_of (timeline_ticks entries) cmd ++ timeline_acts entries in
    sym (one_more (list_any (is_over added (timeline_ticks entries)) (channels added)) added more e)

-- the acts of accepted commands are those of their entries
after_first : (cmd : Cmd) (cmds : List Cmd) (entries : List Entry) (more : List Act) (first : Option (List Act)) →
    with_command (timeline_acts entries) (timeline_ticks entries) cmd ≡ first →
    option_and_then (λ past. with_commands past (timeline_ticks entries) cmds) first ≡ Some more →
    (with_commands (timeline_acts (Did cmd ∷ entries)) (timeline_ticks entries) cmds ≡ Some more →
    more ≡ timeline_acts (reverse (map Did cmds) ++ (Did cmd ∷ entries))) →
    more ≡ timeline_acts (reverse (map Did (cmd ∷ cmds)) ++ entries)
after_first cmd cmds entries more None was rest then_on = absurd (none-some more rest)
after_first cmd cmds entries more (Some past) was rest then_on =
    then_on (ap (λ past. with_commands past (timeline_ticks entries) cmds) (sym (acts_of_command cmd entries past was)) ∙ rest)
    ∙ ap timeline_acts (sym (reverse-cons Did cmd cmds entries))

acts_of_commands : (cmds : List Cmd) (entries : List Entry) (more : List Act) →
    with_commands (timeline_acts entries) (timeline_ticks entries) cmds ≡ Some more → more ≡ timeline_acts (reverse (map Did cmds) ++ entries)
acts_of_commands [] entries more e = sym (same_Some (timeline_acts entries) more e)
acts_of_commands (cmd ∷ cmds) entries more e =
    after_first cmd cmds entries more (with_command (timeline_acts entries) (timeline_ticks entries) cmd) refl e
    (acts_of_commands cmds (Did cmd ∷ entries) more)

-- the timeline after an accepted or a refused event, which is no tick
entered : (setup : Setup) (back : List Event) (entries added : List Entry) (more : Option (List Act)) →
    IsTimelineOf setup back entries → ((past : List Act) → more ≡ Some past → past ≡ timeline_acts (added ++ entries)) →
    unwrap_or more (acts_back back) ≡ timeline_acts (if is_none more then entries else added ++ entries)
entered setup back entries added None h each = h.acts
entered setup back entries added (Some past) h each = each past refl

shown_frames : (setup : Setup) (back : List Event) (entries : List Entry) → IsTimelineOf setup back entries →
    frames_back setup (Tick ∷ back) ≡ timeline_frames setup (Ticked ∷ entries)
shown_frames setup back entries h =
    λ i. λ channel x y.
    scene_pixel (record { setup = setup; frames = h.frames i }) (size setup channel) (scene_of (h.acts i) (h.ticks i) (h.foregrounds i) channel) x y

shown_sounds : (setup : Setup) (back : List Event) (entries : List Entry) → IsTimelineOf setup back entries →
    sounds_back setup (Tick ∷ back) ≡ timeline_sounds setup (Ticked ∷ entries)
shown_sounds setup back entries h =
    λ i. λ channel pair side.
    scene_sample setup (h.sounds i) (scene_of (h.acts i) (h.ticks i) (h.foregrounds i) channel) pair side

ticked : (setup : Setup) (back : List Event) (entries : List Entry) → IsTimelineOf setup back entries →
    IsTimelineOf setup (Tick ∷ back) (Ticked ∷ entries)
ticked setup back entries h = record {
  acts = h.acts;
  ticks = ap (λ n. 1 + n) h.ticks;
  foregrounds = ap₂ (λ acts now. Some (foreground_at acts now)) h.acts h.ticks;
  frames = shown_frames setup back entries h;
  sounds = shown_sounds setup back entries h;
}

-- two timelines differ in their acts at most
record IsBeside (setup : Setup) (a b : List Entry) : Type 0 where
  ticks : timeline_ticks a ≡ timeline_ticks b
  foregrounds : timeline_foregrounds a ≡ timeline_foregrounds b
  frames : timeline_frames setup a ≡ timeline_frames setup b
  sounds : timeline_sounds setup a ≡ timeline_sounds setup b

commands_beside : (setup : Setup) (cmds : List Cmd) (entries : List Entry) → IsBeside setup (reverse (map Did cmds) ++ entries) entries
commands_beside setup cmds entries = record {
  ticks = kept_by_all Did timeline_ticks (λ cmd rest. refl) cmds entries;
  foregrounds = kept_by_all Did timeline_foregrounds (λ cmd rest. refl) cmds entries;
  frames = kept_by_all Did (timeline_frames setup) (λ cmd rest. refl) cmds entries;
  sounds = kept_by_all Did (timeline_sounds setup) (λ cmd rest. refl) cmds entries;
}

unless_refused : (setup : Setup) (refused : Bool) (entries added : List Entry) → IsBeside setup (added ++ entries) entries →
    IsBeside setup (if refused then entries else added ++ entries) entries
unless_refused setup true entries added h = record { ticks = refl; foregrounds = refl; frames = refl; sounds = refl }
unless_refused setup false entries added h = h

-- an event that is no tick adds its entries unless it is refused
done : (setup : Setup) (back : List Event) (entries added : List Entry) (more : Option (List Act)) → IsTimelineOf setup back entries →
    ((past : List Act) → more ≡ Some past → past ≡ timeline_acts (added ++ entries)) → IsBeside setup (added ++ entries) entries →
    (unwrap_or more (acts_back back) ≡ timeline_acts (if is_none more then entries else added ++ entries))
    × IsBeside setup (if is_none more then entries else added ++ entries) entries
done setup back entries added more h each beside =
    (entered setup back entries added more h each, unless_refused setup (is_none more) entries added beside)

done_command : (setup : Setup) (tag : Tag) (cmd : Cmd) (back : List Event) (entries after : List Entry) → IsTimelineOf setup back entries →
    (acts_back (Do tag cmd ∷ back) ≡ timeline_acts after) × IsBeside setup after entries → IsTimelineOf setup (Do tag cmd ∷ back) after
done_command setup tag cmd back entries after h (acts, beside) = record {
  acts = acts;
  ticks = h.ticks ∙ sym beside.ticks;
  foregrounds = h.foregrounds ∙ sym beside.foregrounds;
  frames = h.frames ∙ sym beside.frames;
  sounds = h.sounds ∙ sym beside.sounds;
}

done_batch : (setup : Setup) (tag : Tag) (cmds : List Cmd) (back : List Event) (entries after : List Entry) → IsTimelineOf setup back entries →
    (acts_back (Batch tag cmds ∷ back) ≡ timeline_acts after) × IsBeside setup after entries → IsTimelineOf setup (Batch tag cmds ∷ back) after
done_batch setup tag cmds back entries after h (acts, beside) = record {
  acts = acts;
  ticks = h.ticks ∙ sym beside.ticks;
  foregrounds = h.foregrounds ∙ sym beside.foregrounds;
  frames = h.frames ∙ sym beside.frames;
  sounds = h.sounds ∙ sym beside.sounds;
}

-- the timeline of a history agrees with the history
is_timeline_back : (setup : Setup) (back : List Event) → IsTimelineOf setup back (timeline_back back)
is_timeline_back setup [] = record { acts = refl; ticks = refl; foregrounds = refl; frames = refl; sounds = refl }
is_timeline_back setup (Tick ∷ back) = ticked setup back (timeline_back back) (is_timeline_back setup back)
is_timeline_back setup (Stop tag ∷ back) =
    let h : IsTimelineOf setup back (timeline_back back) = is_timeline_back setup back in
    record { acts = h.acts; ticks = h.ticks; foregrounds = h.foregrounds; frames = h.frames; sounds = h.sounds }
is_timeline_back setup (Do tag cmd ∷ back) =
    let h : IsTimelineOf setup back (timeline_back back) = is_timeline_back setup back in
    done_command setup tag cmd back (timeline_back back) (timeline_back (Do tag cmd ∷ back)) h
    (done setup back (timeline_back back) (Did cmd ∷ []) (with_command (acts_back back) (ticks back) cmd) h
    (λ past e. acts_of_command cmd (timeline_back back) past (ap₂ (λ acts now. with_command acts now cmd) (sym h.acts) (sym h.ticks) ∙ e))
    (commands_beside setup (cmd ∷ []) (timeline_back back)))
is_timeline_back setup (Batch tag cmds ∷ back) =
    let h : IsTimelineOf setup back (timeline_back back) = is_timeline_back setup back in
    done_batch setup tag cmds back (timeline_back back) (timeline_back (Batch tag cmds ∷ back)) h
    (done setup back (timeline_back back) (reverse (map Did cmds)) (with_commands (acts_back back) (ticks back) cmds) h
    (λ past e. acts_of_commands cmds (timeline_back back) past (ap₂ (λ acts now. with_commands acts now cmds) (sym h.acts) (sym h.ticks) ∙ e))
    (commands_beside setup cmds (timeline_back back)))

-- each frame, sample, value and status of a history is that of its timeline
no_media : Setup
no_media = record { channels = []; clips = [] }

pub acts-timeline : (history : List Event) → acts history ≡ timeline_acts (timeline history)
unfolding acts timeline
acts-timeline history = (is_timeline_back no_media (reverse history)).acts

pub ticks-timeline : (history : List Event) → ticks history ≡ timeline_ticks (timeline history)
unfolding timeline
ticks-timeline history = sym (ticks-reverse history) ∙ (is_timeline_back no_media (reverse history)).ticks

pub pixel-timeline : (setup : Setup) (history : List Event) (channel x y : ℕ) →
    frame_pixel setup history channel x y ≡ timeline_pixel setup (timeline history) channel x y
unfolding frame_pixel timeline timeline_pixel
pixel-timeline setup history channel x y = λ i. (is_timeline_back setup (Tick ∷ reverse history)).frames i channel x y

pub sample-timeline : (setup : Setup) (history : List Event) (channel pair side : ℕ) →
    frame_sample setup history channel pair side ≡ timeline_sample setup (timeline history) channel pair side
unfolding frame_sample timeline timeline_sample
sample-timeline setup history channel pair side = λ i. (is_timeline_back setup (Tick ∷ reverse history)).sounds i channel pair side

pub value-timeline : (history : List Event) (place : PlaceView) (prop : Prop) (now : ℕ) →
    value history place prop now ≡ timeline_value (timeline history) place prop now
unfolding value timeline timeline_value
value-timeline history place prop now = ap (λ past. value_at past place prop now) (is_timeline_back no_media (reverse history)).acts

pub statuses-timeline : (setup : Setup) (history : List Event) → statuses setup history ≡ timeline_statuses setup (timeline history)
statuses-timeline setup history =
    ap₂ {A = List Act} {B = ℕ} {C = List Status}
    (λ past now. map (λ channel. status_of (channel_foregrounds past now channel)) (channel_numbers setup))
    (acts-timeline history) (ticks-timeline history)

-- the timeline of one event more
pub timeline-one_more : (history : List Event) (event : Event) →
    timeline (history ++ event ∷ []) ≡ (if is_refused history event then timeline history else entries_of event ++ timeline history)
unfolding timeline is_refused acts
timeline-one_more history event =
    ap timeline_back (reverse-append history (event ∷ []))
    ∙ ap (λ now. if is_none (with_event (acts_back (reverse history)) now event) then timeline_back (reverse history)
    else entries_of event ++ timeline_back (reverse history)) (ticks-reverse history)

-- the timeline of any number of events more
more_by : (refused : Bool) (added all base : List Entry) → (more : List Entry) × (all ≡ more ++ base) →
    (more : List Entry) × ((if refused then all else added ++ all) ≡ more ++ base)
more_by true added all base (more, e) = (more, e)
more_by false added all base (more, e) = (added ++ more, ap (λ l. added ++ l) e ∙ sym (append_assoc added more base))

more_back : (later back : List Event) → (more : List Entry) × (timeline_back (later ++ back) ≡ more ++ timeline_back back)
more_back [] back = ([], refl)
more_back (event ∷ later) back =
    more_by (is_none (with_event (acts_back (later ++ back)) (ticks (later ++ back)) event)) (entries_of event)
    (timeline_back (later ++ back)) (timeline_back back) (more_back later back)

pub timeline-later : (before later : List Event) → (more : List Entry) × (timeline (before ++ later) ≡ more ++ timeline before)
unfolding timeline
timeline-later before later =
    let (more, e) = more_back (reverse later) (reverse before) in
    (more, ap timeline_back (reverse-append before later) ∙ e)
