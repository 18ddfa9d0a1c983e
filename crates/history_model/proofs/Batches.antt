-- A batch is its commands one after another with no tick between, and is refused if one of them is.
use Rattle.std.proofs.Common.{◌≡◌, ℕ, Bool, true, false, List, [], ◌∷◌, ◌++◌, map, reverse, refl, sym, ap, ◌∙◌, subst₂, if◌then◌else◌, unwrap_or, is_none}
use Rattle.std.proofs.lemmas.Bool.{true≢false}
use Rattle.std.proofs.lemmas.List.{reverse-append}
use Rattle.std.specs.Prelude.{Option, Some, None, option_and_then}
use Rattle.play_types.specs.Place.{PlaceView}
use Rattle.play_types.specs.History.{ticks, is_stop}
use Rattle.play_types.specs.declared.setting.Prop.{Prop}
use Rattle.play_types.specs.declared.command.Cmd.{Cmd}
use Rattle.play_types.specs.declared.event.Tag.{Tag}
use Rattle.play_types.specs.declared.event.Event.{Event}
use Rattle.play_types.specs.declared.event.Event.TheVariants.{Do, Batch}
use Rattle.history_model.specs.stage.Act.{Act}
use Rattle.history_model.specs.stage.Acts.{acts, acts_back, is_refused, with_command, with_commands, with_event}
use Rattle.history_model.specs.stage.Answer.{answer, statuses}
use Rattle.history_model.specs.stage.Timeline.{Did, entries_of, timeline, timeline_back}
use Rattle.history_model.specs.stage.Value.{value}
use Rattle.history_model.specs.pictures.Media.{Setup}
use Rattle.history_model.specs.pictures.Source.{last_foregrounds}
use Rattle.history_model.specs.pictures.Frame.{frames_back, frame_pixel}
use Rattle.history_model.specs.pictures.Sound.{sounds_back, frame_sample}
use Rattle.history_model.proofs.Events.{IsSame, IsSame-append, IsSame-batch, acts_back-refused, ticks-reverse, reverse-middle}
use Rattle.history_model.proofs.Later.{SameHistory, answer-same, pixel-same, sample-same, value-same, statuses-same}
use Rattle.history_model.proofs.Timelines.{reverse-cons, kept_by_all}

-- a history read backward, after commands one by one
abbrev asked_back : Tag → List Cmd → List Event → List Event
asked_back tag cmds back = reverse (map (Do tag) cmds) ++ back

-- a batch whose first command is accepted is the rest of the batch after that command
first_accepted : (tag : Tag) (cmd : Cmd) (back : List Event) (more : List Act) → with_command (acts_back back) (ticks back) cmd ≡ Some more →
    acts_back (Do tag cmd ∷ back) ≡ more
first_accepted tag cmd back more e = ap (λ entered. unwrap_or entered (acts_back back)) e

rest_after : (tag : Tag) (cmd : Cmd) (cmds : List Cmd) (back : List Event) (more : List Act) →
    with_command (acts_back back) (ticks back) cmd ≡ Some more →
    with_commands (acts_back back) (ticks back) (cmd ∷ cmds)
    ≡ with_commands (acts_back (Do tag cmd ∷ back)) (ticks (Do tag cmd ∷ back)) cmds
rest_after tag cmd cmds back more e =
    ap (option_and_then (λ past. with_commands past (ticks back) cmds)) e
    ∙ ap (λ past. with_commands past (ticks back) cmds) (sym (first_accepted tag cmd back more e))

-- a batch whose first command is refused is refused
none_then : (cmd : Cmd) (cmds : List Cmd) (back : List Event) → with_command (acts_back back) (ticks back) cmd ≡ None →
    with_commands (acts_back back) (ticks back) (cmd ∷ cmds) ≡ None
none_then cmd cmds back e = ap (option_and_then (λ past. with_commands past (ticks back) cmds)) e

-- the acts of an accepted batch are those of its commands one by one
acts_by : (tag : Tag) (cmd : Cmd) (cmds : List Cmd) (back : List Event) (first : Option (List Act)) →
    with_command (acts_back back) (ticks back) cmd ≡ first →
    is_none (with_commands (acts_back back) (ticks back) (cmd ∷ cmds)) ≡ false →
    (is_none (with_commands (acts_back (Do tag cmd ∷ back)) (ticks (Do tag cmd ∷ back)) cmds) ≡ false →
    with_commands (acts_back (Do tag cmd ∷ back)) (ticks (Do tag cmd ∷ back)) cmds ≡ Some (acts_back (asked_back tag cmds (Do tag cmd ∷ back)))) →
    with_commands (acts_back back) (ticks back) (cmd ∷ cmds) ≡ Some (acts_back (asked_back tag (cmd ∷ cmds) back))
acts_by tag cmd cmds back None was accepted then_on =
    absurd (true≢false (sym (ap is_none (none_then cmd cmds back was)) ∙ accepted))
acts_by tag cmd cmds back (Some more) was accepted then_on =
    let step = rest_after tag cmd cmds back more was in
    step ∙ then_on (sym (ap is_none step) ∙ accepted) ∙ ap (λ events. Some (acts_back events)) (sym (reverse-cons (Do tag) cmd cmds back))

acts_one_by_one : (tag : Tag) (cmds : List Cmd) (back : List Event) → is_none (with_commands (acts_back back) (ticks back) cmds) ≡ false →
    with_commands (acts_back back) (ticks back) cmds ≡ Some (acts_back (asked_back tag cmds back))
acts_one_by_one tag [] back accepted = refl
acts_one_by_one tag (cmd ∷ cmds) back accepted =
    acts_by tag cmd cmds back (with_command (acts_back back) (ticks back) cmd) refl accepted (acts_one_by_one tag cmds (Do tag cmd ∷ back))

-- the entries of an accepted batch are those of its commands one by one
entry_by : (tag : Tag) (cmd : Cmd) (cmds : List Cmd) (back : List Event) (first : Option (List Act)) →
    with_command (acts_back back) (ticks back) cmd ≡ first →
    is_none (with_commands (acts_back back) (ticks back) (cmd ∷ cmds)) ≡ false →
    (is_none (with_commands (acts_back (Do tag cmd ∷ back)) (ticks (Do tag cmd ∷ back)) cmds) ≡ false →
    timeline_back (asked_back tag cmds (Do tag cmd ∷ back)) ≡ reverse (map Did cmds) ++ timeline_back (Do tag cmd ∷ back)) →
    timeline_back (asked_back tag (cmd ∷ cmds) back) ≡ reverse (map Did (cmd ∷ cmds)) ++ timeline_back back
entry_by tag cmd cmds back None was accepted then_on =
    absurd (true≢false (sym (ap is_none (none_then cmd cmds back was)) ∙ accepted))
entry_by tag cmd cmds back (Some more) was accepted then_on =
    ap timeline_back (reverse-cons (Do tag) cmd cmds back)
    ∙ then_on (sym (ap is_none (rest_after tag cmd cmds back more was)) ∙ accepted)
    ∙ ap (λ (refused : Bool). reverse (map Did cmds) ++ (if refused then timeline_back back else Did cmd ∷ timeline_back back)) (ap is_none was)
    ∙ sym (reverse-cons Did cmd cmds (timeline_back back))

entries_one_by_one : (tag : Tag) (cmds : List Cmd) (back : List Event) → is_none (with_commands (acts_back back) (ticks back) cmds) ≡ false →
    timeline_back (asked_back tag cmds back) ≡ reverse (map Did cmds) ++ timeline_back back
entries_one_by_one tag [] back accepted = refl
entries_one_by_one tag (cmd ∷ cmds) back accepted =
    entry_by tag cmd cmds back (with_command (acts_back back) (ticks back) cmd) refl accepted (entries_one_by_one tag cmds (Do tag cmd ∷ back))

-- a history with an accepted batch agrees with the history with its commands in everything that is looked at later
IsSame-batch_one_by_one : (setup : Setup) (tag : Tag) (cmds : List Cmd) (back : List Event) →
    is_none (with_commands (acts_back back) (ticks back) cmds) ≡ false → IsSame setup (Batch tag cmds ∷ back) (asked_back tag cmds back)
IsSame-batch_one_by_one setup tag cmds back accepted = record {
  acts = ap (λ entered. unwrap_or entered (acts_back back)) (acts_one_by_one tag cmds back accepted);
  ticks = sym (kept_by_all (Do tag) ticks (λ cmd rest. refl) cmds back);
  foregrounds = sym (kept_by_all (Do tag) last_foregrounds (λ cmd rest. refl) cmds back);
  frames = sym (kept_by_all (Do tag) (frames_back setup) (λ cmd rest. refl) cmds back);
  sounds = sym (kept_by_all (Do tag) (sounds_back setup) (λ cmd rest. refl) cmds back);
}

timeline_back-batch : (tag : Tag) (cmds : List Cmd) (back : List Event) → is_none (with_commands (acts_back back) (ticks back) cmds) ≡ false →
    timeline_back (Batch tag cmds ∷ back) ≡ timeline_back (asked_back tag cmds back)
timeline_back-batch tag cmds back accepted =
    ap (λ (refused : Bool). if refused then timeline_back back else reverse (map Did cmds) ++ timeline_back back) accepted
    ∙ sym (entries_one_by_one tag cmds back accepted)

-- histories that agree in this and have equal timelines still have equal timelines after more events
timeline_back-later : (setup : Setup) (later a b : List Event) → IsSame setup a b → timeline_back a ≡ timeline_back b →
    timeline_back (later ++ a) ≡ timeline_back (later ++ b)
timeline_back-later setup [] a b h e = e
timeline_back-later setup (event ∷ later) a b h e =
    let same : IsSame setup (later ++ a) (later ++ b) = IsSame-append setup later a b h in
    let rest : timeline_back (later ++ a) ≡ timeline_back (later ++ b) = timeline_back-later setup later a b h e in
    λ i. if is_none (with_event (same.acts i) (same.ticks i) event) then rest i else entries_of event ++ rest i

-- these claims for histories that are read forward
refused_back : (before : List Event) (event : Event) →
    is_none (with_event (acts_back (reverse before)) (ticks (reverse before)) event) ≡ is_refused before event
unfolding is_refused acts
refused_back before event = ap (λ now. is_none (with_event (acts_back (reverse before)) now event)) (ticks-reverse before)

reverse_asked : (before : List Event) (tag : Tag) (cmds : List Cmd) (later : List Event) →
    reverse (before ++ map (Do tag) cmds ++ later) ≡ reverse later ++ asked_back tag cmds (reverse before)
reverse_asked before tag cmds later =
    reverse-append (before ++ map (Do tag) cmds) later
    ∙ ap (λ events. reverse later ++ events) (reverse-append before (map (Do tag) cmds))

SameHistory-batch : (setup : Setup) (before : List Event) (tag : Tag) (cmds : List Cmd) (later : List Event) →
    is_refused before (Batch tag cmds) ≡ false → SameHistory setup (before ++ Batch tag cmds ∷ later) (before ++ map (Do tag) cmds ++ later)
SameHistory-batch setup before tag cmds later accepted =
    subst₂ (IsSame setup) (sym (reverse-middle before (Batch tag cmds) later)) (sym (reverse_asked before tag cmds later))
    (IsSame-append setup (reverse later) (Batch tag cmds ∷ reverse before) (asked_back tag cmds (reverse before))
    (IsSame-batch_one_by_one setup tag cmds (reverse before) (refused_back before (Batch tag cmds) ∙ accepted)))

no_media : Setup
no_media = record { channels = []; clips = [] }

pub answer-batch : (setup : Setup) (before : List Event) (tag : Tag) (cmds : List Cmd) (later : List Event) (next : Event) →
    is_refused before (Batch tag cmds) ≡ false → is_stop next ≡ false →
    answer setup (before ++ Batch tag cmds ∷ later) next ≡ answer setup (before ++ map (Do tag) cmds ++ later) next
answer-batch setup before tag cmds later next accepted goes_on =
    answer-same setup (before ++ Batch tag cmds ∷ later) (before ++ map (Do tag) cmds ++ later)
    (SameHistory-batch setup before tag cmds later accepted) next goes_on

pub pixel-batch : (setup : Setup) (before : List Event) (tag : Tag) (cmds : List Cmd) (later : List Event) (channel x y : ℕ) →
    is_refused before (Batch tag cmds) ≡ false →
    frame_pixel setup (before ++ Batch tag cmds ∷ later) channel x y ≡ frame_pixel setup (before ++ map (Do tag) cmds ++ later) channel x y
pixel-batch setup before tag cmds later channel x y accepted =
    pixel-same setup (before ++ Batch tag cmds ∷ later) (before ++ map (Do tag) cmds ++ later)
    (SameHistory-batch setup before tag cmds later accepted) channel x y

pub sample-batch : (setup : Setup) (before : List Event) (tag : Tag) (cmds : List Cmd) (later : List Event) (channel pair side : ℕ) →
    is_refused before (Batch tag cmds) ≡ false →
    frame_sample setup (before ++ Batch tag cmds ∷ later) channel pair side
    ≡ frame_sample setup (before ++ map (Do tag) cmds ++ later) channel pair side
sample-batch setup before tag cmds later channel pair side accepted =
    sample-same setup (before ++ Batch tag cmds ∷ later) (before ++ map (Do tag) cmds ++ later)
    (SameHistory-batch setup before tag cmds later accepted) channel pair side

pub value-batch : (before : List Event) (tag : Tag) (cmds : List Cmd) (later : List Event) (place : PlaceView) (prop : Prop) (now : ℕ) →
    is_refused before (Batch tag cmds) ≡ false →
    value (before ++ Batch tag cmds ∷ later) place prop now ≡ value (before ++ map (Do tag) cmds ++ later) place prop now
value-batch before tag cmds later place prop now accepted =
    value-same no_media (before ++ Batch tag cmds ∷ later) (before ++ map (Do tag) cmds ++ later)
    (SameHistory-batch no_media before tag cmds later accepted) place prop now

pub statuses-batch : (setup : Setup) (before : List Event) (tag : Tag) (cmds : List Cmd) (later : List Event) →
    is_refused before (Batch tag cmds) ≡ false →
    statuses setup (before ++ Batch tag cmds ∷ later) ≡ statuses setup (before ++ map (Do tag) cmds ++ later)
statuses-batch setup before tag cmds later accepted =
    statuses-same setup (before ++ Batch tag cmds ∷ later) (before ++ map (Do tag) cmds ++ later)
    (SameHistory-batch setup before tag cmds later accepted)

pub timeline-batch : (before : List Event) (tag : Tag) (cmds : List Cmd) (later : List Event) →
    is_refused before (Batch tag cmds) ≡ false →
    timeline (before ++ Batch tag cmds ∷ later) ≡ timeline (before ++ map (Do tag) cmds ++ later)
unfolding timeline
timeline-batch before tag cmds later accepted =
    let each = refused_back before (Batch tag cmds) ∙ accepted in
    ap timeline_back (reverse-middle before (Batch tag cmds) later)
    ∙ timeline_back-later no_media (reverse later) (Batch tag cmds ∷ reverse before) (asked_back tag cmds (reverse before))
    (IsSame-batch_one_by_one no_media tag cmds (reverse before) each) (timeline_back-batch tag cmds (reverse before) each)
    ∙ ap timeline_back (sym (reverse_asked before tag cmds later))

-- each command of an accepted batch is accepted after those before it
accepted_first : (entered : Option (List Act)) (t : ℕ) (rest : List Cmd) →
    is_none (option_and_then (λ past. with_commands past t rest) entered) ≡ false → is_none entered ≡ false
accepted_first None t rest e = e
accepted_first (Some more) t rest e = refl

accepted_by : (tag : Tag) (one : Cmd) (first : List Cmd) (cmd : Cmd) (rest : List Cmd) (back : List Event) (entered : Option (List Act)) →
    with_command (acts_back back) (ticks back) one ≡ entered →
    is_none (with_commands (acts_back back) (ticks back) (one ∷ first ++ cmd ∷ rest)) ≡ false →
    (is_none (with_commands (acts_back (Do tag one ∷ back)) (ticks (Do tag one ∷ back)) (first ++ cmd ∷ rest)) ≡ false →
    is_none (with_command (acts_back (asked_back tag first (Do tag one ∷ back))) (ticks (asked_back tag first (Do tag one ∷ back))) cmd) ≡ false) →
    is_none (with_command (acts_back (asked_back tag (one ∷ first) back)) (ticks (asked_back tag (one ∷ first) back)) cmd) ≡ false
accepted_by tag one first cmd rest back None was accepted then_on =
    absurd (true≢false (sym (ap is_none (none_then one (first ++ cmd ∷ rest) back was)) ∙ accepted))
accepted_by tag one first cmd rest back (Some more) was accepted then_on =
    ap (λ events. is_none (with_command (acts_back events) (ticks events) cmd)) (reverse-cons (Do tag) one first back)
    ∙ then_on (sym (ap is_none (rest_after tag one (first ++ cmd ∷ rest) back more was)) ∙ accepted)

accepted_back : (tag : Tag) (first : List Cmd) (cmd : Cmd) (rest : List Cmd) (back : List Event) →
    is_none (with_commands (acts_back back) (ticks back) (first ++ cmd ∷ rest)) ≡ false →
    is_none (with_command (acts_back (asked_back tag first back)) (ticks (asked_back tag first back)) cmd) ≡ false
accepted_back tag [] cmd rest back accepted = accepted_first (with_command (acts_back back) (ticks back) cmd) (ticks back) rest accepted
accepted_back tag (one ∷ first) cmd rest back accepted =
    accepted_by tag one first cmd rest back (with_command (acts_back back) (ticks back) one) refl accepted
    (accepted_back tag first cmd rest (Do tag one ∷ back))

asked_refused : (before : List Event) (tag : Tag) (first : List Cmd) (cmd : Cmd) →
    is_none (with_command (acts_back (asked_back tag first (reverse before))) (ticks (asked_back tag first (reverse before))) cmd)
    ≡ is_refused (before ++ map (Do tag) first) (Do tag cmd)
asked_refused before tag first cmd =
    ap (λ events. is_none (with_command (acts_back events) (ticks events) cmd)) (sym (reverse-append before (map (Do tag) first)))
    ∙ refused_back (before ++ map (Do tag) first) (Do tag cmd)

pub accepted-each : (before : List Event) (tag : Tag) (first : List Cmd) (cmd : Cmd) (rest : List Cmd) →
    is_refused before (Batch tag (first ++ cmd ∷ rest)) ≡ false → is_refused (before ++ map (Do tag) first) (Do tag cmd) ≡ false
accepted-each before tag first cmd rest accepted =
    sym (asked_refused before tag first cmd)
    ∙ accepted_back tag first cmd rest (reverse before) (refused_back before (Batch tag (first ++ cmd ∷ rest)) ∙ accepted)

-- some command of a refused batch is refused after those before it, which are an accepted batch
abbrev IsRefusedAt : Tag → List Event → List Cmd → List Cmd → Cmd → List Cmd → Type 0
IsRefusedAt tag back cmds first cmd rest =
    (cmds ≡ first ++ cmd ∷ rest) × (is_none (with_commands (acts_back back) (ticks back) first) ≡ false)
    × (is_none (with_command (acts_back (asked_back tag first back)) (ticks (asked_back tag first back)) cmd) ≡ true)

refused_by : (tag : Tag) (one : Cmd) (cmds : List Cmd) (back : List Event) (entered : Option (List Act)) →
    with_command (acts_back back) (ticks back) one ≡ entered →
    is_none (with_commands (acts_back back) (ticks back) (one ∷ cmds)) ≡ true →
    (is_none (with_commands (acts_back (Do tag one ∷ back)) (ticks (Do tag one ∷ back)) cmds) ≡ true →
    (first : List Cmd) × (cmd : Cmd) × (rest : List Cmd) × IsRefusedAt tag (Do tag one ∷ back) cmds first cmd rest) →
    (first : List Cmd) × (cmd : Cmd) × (rest : List Cmd) × IsRefusedAt tag back (one ∷ cmds) first cmd rest
refused_by tag one cmds back None was refused then_on = ([], one, cmds, (refl, refl, ap is_none was))
refused_by tag one cmds back (Some more) was refused then_on =
    let (first, cmd, rest, (parts, accepted, at)) = then_on (sym (ap is_none (rest_after tag one cmds back more was)) ∙ refused) in (
      one ∷ first,
      cmd,
      rest,
      (
        ap (λ l. one ∷ l) parts,
        ap is_none (rest_after tag one first back more was) ∙ accepted,
        ap (λ events. is_none (with_command (acts_back events) (ticks events) cmd)) (reverse-cons (Do tag) one first back) ∙ at,
      ),
    )

refused_at : (tag : Tag) (cmds : List Cmd) (back : List Event) → is_none (with_commands (acts_back back) (ticks back) cmds) ≡ true →
    (first : List Cmd) × (cmd : Cmd) × (rest : List Cmd) × IsRefusedAt tag back cmds first cmd rest
refused_at tag [] back refused = absurd (true≢false (sym refused))
refused_at tag (one ∷ cmds) back refused =
    refused_by tag one cmds back (with_command (acts_back back) (ticks back) one) refl refused (refused_at tag cmds (Do tag one ∷ back))

pub refused-one : (before : List Event) (tag : Tag) (cmds : List Cmd) → is_refused before (Batch tag cmds) ≡ true →
    (first : List Cmd) × (cmd : Cmd) × (rest : List Cmd) × (cmds ≡ first ++ cmd ∷ rest)
    × (is_refused before (Batch tag first) ≡ false) × (is_refused (before ++ map (Do tag) first) (Do tag cmd) ≡ true)
refused-one before tag cmds refused =
    let (first, cmd, rest, (parts, accepted, at)) = refused_at tag cmds (reverse before) (refused_back before (Batch tag cmds) ∙ refused) in
    (first, cmd, rest, parts, sym (refused_back before (Batch tag first)) ∙ accepted, sym (asked_refused before tag first cmd) ∙ at)

-- a refused batch does not change the timeline
pub timeline-refused : (before : List Event) (tag : Tag) (cmds : List Cmd) (later : List Event) →
    is_refused before (Batch tag cmds) ≡ true → timeline (before ++ Batch tag cmds ∷ later) ≡ timeline (before ++ later)
unfolding timeline
timeline-refused before tag cmds later refused =
    let out = refused_back before (Batch tag cmds) ∙ refused in
    ap timeline_back (reverse-middle before (Batch tag cmds) later)
    ∙ timeline_back-later no_media (reverse later) (Batch tag cmds ∷ reverse before) (reverse before)
    (IsSame-batch no_media tag cmds (reverse before) (acts_back-refused (Batch tag cmds) (reverse before) out))
    (ap (λ (test : Bool). if test then timeline_back (reverse before) else reverse (map Did cmds) ++ timeline_back (reverse before)) out)
    ∙ ap timeline_back (sym (reverse-append before later))
