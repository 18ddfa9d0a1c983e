-- Events that change nothing later: queries, marks of recordings and refused events. Histories that agree still agree after more events.
use Rattle.std.proofs.Common.{◌≡◌, ◌+◌, Bool, true, false, List, [], ◌∷◌, ◌++◌, reverse, refl, sym, ap, ap₂, ◌∙◌, if◌then◌else◌, unwrap_or, is_none, append_assoc, add_comm}
use Rattle.std.proofs.lemmas.List.{reverse-append}
use Rattle.std.specs.Prelude.{Option, Some, None}
use Rattle.std.specs.List.{list_any}
use Rattle.play_types.specs.Commands.{mark_of}
use Rattle.play_types.specs.Place.{PlaceView}
use Rattle.play_types.specs.History.{ticks}
use Rattle.play_types.specs.declared.setting.Prop.{Prop}
use Rattle.play_types.specs.declared.command.Cmd.{Cmd}
use Rattle.play_types.specs.declared.command.Cmd.TheVariants.{Value, Info}
use Rattle.play_types.specs.declared.event.Tag.{Tag}
use Rattle.play_types.specs.declared.shape.Recording.{Recording}
use Rattle.play_types.specs.declared.event.Event.{Event}
use Rattle.play_types.specs.declared.event.Event.TheVariants.{Do, Batch, Tick, Stop}
use Rattle.play_types.proofs.Histories.{ticks-append}
use Rattle.history_model.specs.stage.Act.{Act}
use Rattle.history_model.specs.stage.Live.{foreground_at}
use Rattle.history_model.specs.stage.Acts.{acts, acts_back, is_over, channels, with_event}
use Rattle.history_model.specs.pictures.Media.{Setup, size}
use Rattle.history_model.specs.pictures.Source.{last_foregrounds}
use Rattle.history_model.specs.pictures.Scene.{scene_of}
use Rattle.history_model.specs.pictures.Frame.{scene_pixel, frames_back}
use Rattle.history_model.specs.pictures.Sound.{scene_sample, sounds_back}
use Rattle.history_model.proofs.Recordings.{acts_of-mark}

-- two histories that are read backward agree in everything that later definitions look at
pub record IsSame (setup : Setup) (a b : List Event) : Type 0 where
  pub acts : acts_back a ≡ acts_back b
  pub ticks : ticks a ≡ ticks b
  pub foregrounds : last_foregrounds a ≡ last_foregrounds b
  pub frames : frames_back setup a ≡ frames_back setup b
  pub sounds : sounds_back setup a ≡ sounds_back setup b

-- they agree after one event more
entered : (event : Event) (a b : List Event) → acts_back a ≡ acts_back b → ticks a ≡ ticks b →
    acts_back (event ∷ a) ≡ acts_back (event ∷ b)
entered event a b p q = ap₂ (λ acts now. unwrap_or (with_event acts now event) acts) p q

shown_frames : (setup : Setup) (a b : List Event) → IsSame setup a b →
    frames_back setup (Tick ∷ a) ≡ frames_back setup (Tick ∷ b)
shown_frames setup a b h =
    λ i. λ channel x y.
    scene_pixel (record { setup = setup; frames = h.frames i }) (size setup channel) (scene_of (h.acts i) (h.ticks i) (h.foregrounds i) channel) x y

shown_sounds : (setup : Setup) (a b : List Event) → IsSame setup a b →
    sounds_back setup (Tick ∷ a) ≡ sounds_back setup (Tick ∷ b)
shown_sounds setup a b h =
    λ i. λ channel pair side.
    scene_sample setup (h.sounds i) (scene_of (h.acts i) (h.ticks i) (h.foregrounds i) channel) pair side

pub IsSame-cons : (setup : Setup) (event : Event) (a b : List Event) → IsSame setup a b →
    IsSame setup (event ∷ a) (event ∷ b)
IsSame-cons setup (Do tag cmd) a b h = record {
  acts = entered (Do tag cmd) a b h.acts h.ticks;
  ticks = h.ticks;
  foregrounds = h.foregrounds;
  frames = h.frames;
  sounds = h.sounds;
}
IsSame-cons setup (Batch tag cmds) a b h = record {
  acts = entered (Batch tag cmds) a b h.acts h.ticks;
  ticks = h.ticks;
  foregrounds = h.foregrounds;
  frames = h.frames;
  sounds = h.sounds;
}
IsSame-cons setup Tick a b h = record {
  acts = entered Tick a b h.acts h.ticks;
  ticks = ap (λ n. 1 + n) h.ticks;
  foregrounds = ap₂ (λ acts now. Some (foreground_at acts now)) h.acts h.ticks;
  frames = shown_frames setup a b h;
  sounds = shown_sounds setup a b h;
}
IsSame-cons setup (Stop tag) a b h = record {
  acts = entered (Stop tag) a b h.acts h.ticks;
  ticks = h.ticks;
  foregrounds = h.foregrounds;
  frames = h.frames;
  sounds = h.sounds;
}

-- they agree after any number of events more
pub IsSame-append : (setup : Setup) (later a b : List Event) → IsSame setup a b →
    IsSame setup (later ++ a) (later ++ b)
IsSame-append setup [] a b h = h
IsSame-append setup (event ∷ later) a b h = IsSame-cons setup event (later ++ a) (later ++ b) (IsSame-append setup later a b h)

-- a command or a batch that does not change the acts changes nothing
pub IsSame-do : (setup : Setup) (tag : Tag) (cmd : Cmd) (back : List Event) →
    acts_back (Do tag cmd ∷ back) ≡ acts_back back → IsSame setup (Do tag cmd ∷ back) back
IsSame-do setup tag cmd back e = record { acts = e; ticks = refl; foregrounds = refl; frames = refl; sounds = refl }

pub IsSame-batch : (setup : Setup) (tag : Tag) (cmds : List Cmd) (back : List Event) →
    acts_back (Batch tag cmds ∷ back) ≡ acts_back back → IsSame setup (Batch tag cmds ∷ back) back
IsSame-batch setup tag cmds back e = record { acts = e; ticks = refl; foregrounds = refl; frames = refl; sounds = refl }

-- a query does not change the acts, whether a channel is over a limit or not
kept : (test : Bool) (acts : List Act) → unwrap_or (if test then None else Some acts) acts ≡ acts
kept true acts = refl
kept false acts = refl

pub acts_back-value : (tag : Tag) (place : PlaceView) (prop : Prop) (back : List Event) →
    acts_back (Do tag (Value place prop) ∷ back) ≡ acts_back back
acts_back-value tag place prop back =
    kept (list_any (is_over (acts_back back) (ticks back)) (channels (acts_back back))) (acts_back back)

pub acts_back-info : (tag : Tag) (back : List Event) → acts_back (Do tag Info ∷ back) ≡ acts_back back
acts_back-info tag back =
    kept (list_any (is_over (acts_back back) (ticks back)) (channels (acts_back back))) (acts_back back)

-- a mark of a recording does not change the acts
pub acts_back-mark : (tag : Tag) (cmd : Cmd) (mark : Recording) (back : List Event) → mark_of cmd ≡ Some mark →
    acts_back (Do tag cmd ∷ back) ≡ acts_back back
acts_back-mark tag cmd mark back is =
    let past = acts_back back in
    let now = ticks back in
    ap (λ (own : List Act). unwrap_or (if list_any (is_over (own ++ past) now) (channels (own ++ past)) then None else Some (own ++ past)) past) (acts_of-mark now cmd mark is)
    ∙ kept (list_any (is_over past now) (channels past)) past

-- a refused event does not change the acts
none_kept : (entered : Option (List Act)) (acts : List Act) → is_none entered ≡ true → unwrap_or entered acts ≡ acts
none_kept None acts e = refl
none_kept (Some more) acts e = cc

pub acts_back-refused : (event : Event) (back : List Event) → is_none (with_event (acts_back back) (ticks back) event) ≡ true →
    acts_back (event ∷ back) ≡ acts_back back
acts_back-refused event back e = none_kept (with_event (acts_back back) (ticks back) event) (acts_back back) e

-- a history read backward has its number of ticks
pub ticks-reverse : (history : List Event) → ticks (reverse history) ≡ ticks history
ticks-reverse [] = refl
ticks-reverse (event ∷ history) =
    ap ticks (reverse-append (event ∷ []) history) ∙ ticks-append (reverse history) (event ∷ [])
    ∙ ap (λ n. n + ticks (event ∷ [])) (ticks-reverse history)
    ∙ add_comm (ticks history) (ticks (event ∷ [])) ∙ sym (ticks-append (event ∷ []) history)

-- an event in the middle of a history, read backward
pub reverse-middle : (before : List Event) (event : Event) (later : List Event) →
    reverse (before ++ event ∷ later) ≡ reverse later ++ (event ∷ reverse before)
reverse-middle before event later =
    reverse-append before (event ∷ later)
    ∙ ap (λ xs. xs ++ reverse before) (reverse-append (event ∷ []) later)
    ∙ append_assoc (reverse later) (event ∷ []) (reverse before)
