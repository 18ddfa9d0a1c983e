-- What a channel shows, by its live places.
use Rattle.std.proofs.Common.{◌≡◌, ℕ, suc, ◌≤◌, Bool, true, false, cond, List, [], ◌∷◌, ◌++◌, reverse, length, map, filter, refl, sym, ap, ◌∙◌, arith}
use Rattle.std.proofs.lemmas.List.{reverse-append}
use Rattle.std.specs.Prelude.{Option, Some, None, filter_map}
use Rattle.std.specs.List.{cons_option}
use Rattle.play_types.specs.Place.{PlaceView}
use Rattle.play_types.specs.History.{ticks}
use Rattle.play_types.specs.declared.place.TheConstants.{MAX_LIVE_LAYERS}
use Rattle.play_types.specs.declared.command.Cmd.{Cmd}
use Rattle.play_types.specs.declared.event.Tag.{Tag}
use Rattle.play_types.specs.declared.event.Event.{Event}
use Rattle.play_types.specs.declared.event.Event.TheVariants.{Do, Batch, Tick, Stop}
use Rattle.history_model.specs.stage.Act.{Act}
use Rattle.history_model.specs.stage.Acts.{acts, acts_back}
use Rattle.history_model.specs.stage.Answer.{channel_foregrounds, channel_numbers, status_of, statuses}
use Rattle.history_model.specs.stage.Life.{Foreground, Life, empty_place, ready}
use Rattle.history_model.specs.stage.Live.{foreground_at, is_live, layers, state}
use Rattle.history_model.specs.stage.Places.{live_places, places}
use Rattle.history_model.specs.stage.StageHistory.{foreground_of, statuses_of}
use Rattle.history_model.specs.pictures.Media.{Setup}
use Rattle.history_model.specs.pictures.Source.{last_foregrounds}
use Rattle.history_model.specs.pictures.Scene.{scene, scene_of}
use Rattle.history_model.specs.pictures.StageScene.{drawn_after, drawn_live_place, last_shown, next_shown}
use Rattle.history_model.proofs.Events.{ticks-reverse}
use Rattle.history_model.proofs.places.Layers.{standing-live}
use Rattle.history_model.proofs.places.Lists.{empty_unless_live}
use Rattle.history_model.proofs.stage.Histories.{IsWithinLimits-history}

-- what is drawn of layers is what is drawn of the live ones, if nothing is drawn of an empty place
chosen_more : {X : Type 0} (h : ℕ × Life → Option X) (f : ℕ → Life) (m : ℕ) (live : Bool) (numbers : List ℕ) (rest : List X) →
    ((n : ℕ) → h (n, empty_place) ≡ None) → is_live (f m) ≡ live →
    rest ≡ filter_map h (map (λ n. (n, f n)) (filter (λ n. is_live (f n)) numbers)) →
    cons_option (h (m, f m)) rest
    ≡ filter_map h
    (map (λ n. (n, f n)) (cond live (m ∷ filter (λ n. is_live (f n)) numbers) (filter (λ n. is_live (f n)) numbers)))
chosen_more h f m true numbers rest none e same = ap (cons_option (h (m, f m))) same
chosen_more h f m false numbers rest none e same =
    ap (λ (s : Life). cons_option (h (m, s)) rest) (empty_unless_live (f m) e)
    ∙ ap (λ (one : Option _). cons_option one rest) (none m) ∙ same

of_live_ones : {X : Type 0} (h : ℕ × Life → Option X) (f : ℕ → Life) (numbers : List ℕ) → ((n : ℕ) → h (n, empty_place) ≡ None) →
    filter_map (λ n. h (n, f n)) numbers ≡ filter_map h (map (λ n. (n, f n)) (filter (λ n. is_live (f n)) numbers))
of_live_ones h f [] none = refl
of_live_ones h f (m ∷ numbers) none =
    chosen_more h f m (is_live (f m)) numbers (filter_map (λ n. h (n, f n)) numbers) none refl (of_live_ones h f numbers none)

-- the scene of a channel is drawn from its live places
scene_of-live : (past : List Act) (t : ℕ) (foregrounds : Option (PlaceView → Option Foreground)) (channel : ℕ) →
    scene_of past t foregrounds channel ≡ filter_map (drawn_live_place past t foregrounds channel) (live_places past t channel)
scene_of-live past t foregrounds channel =
    of_live_ones (drawn_live_place past t foregrounds channel) (λ layer. state past t (record { channel = channel; layer = layer })) (layers past)
    (λ n. refl)

pub scene-places : (history : List Event) (channel : ℕ) →
    scene history channel ≡ filter_map (drawn_after history channel) (places history channel)
unfolding scene places acts last_shown
scene-places history channel =
    ap (λ (t : ℕ). scene_of (acts_back (reverse history)) t (last_foregrounds (reverse history)) channel) (ticks-reverse history)
    ∙ scene_of-live (acts_back (reverse history)) (ticks history) (last_foregrounds (reverse history)) channel

-- the scene of a channel has no more layers than a channel may have live places
longer_by : {X : Type 0} (one : Option X) (rest : List X) (n : ℕ) → length rest ≤ n → length (cons_option one rest) ≤ suc n
longer_by None rest n few = omega (arith, few)
longer_by (Some x) rest n few = omega (arith, few)

length-filter_map : {X Y : Type 0} (h : X → Option Y) (xs : List X) → length (filter_map h xs) ≤ length xs
length-filter_map h [] = omega arith
length-filter_map h (x ∷ xs) = longer_by (h x) (filter_map h xs) (length xs) (length-filter_map h xs)

pub length-scene : (history : List Event) (channel : ℕ) → length (scene history channel) ≤ MAX_LIVE_LAYERS
length-scene history channel =
    let few = (IsWithinLimits-history history).places channel in
    let fewer = length-filter_map (drawn_after history channel) (places history channel) in
    rw (scene-places history channel) (omega (arith, few, fewer))

-- the foregrounds at the last tick
pub last_shown-start : last_shown [] ≡ None
unfolding last_shown
last_shown-start = refl

last_shown-event : (history : List Event) (event : Event) → last_shown (history ++ event ∷ []) ≡ last_foregrounds (event ∷ reverse history)
unfolding last_shown
last_shown-event history event = ap last_foregrounds (reverse-append history (event ∷ []))

pub last_shown-command : (history : List Event) (tag : Tag) (cmd : Cmd) → last_shown (history ++ Do tag cmd ∷ []) ≡ last_shown history
unfolding last_shown
last_shown-command history tag cmd = last_shown-event history (Do tag cmd)

pub last_shown-batch : (history : List Event) (tag : Tag) (cmds : List Cmd) → last_shown (history ++ Batch tag cmds ∷ []) ≡ last_shown history
unfolding last_shown
last_shown-batch history tag cmds = last_shown-event history (Batch tag cmds)

pub last_shown-stop : (history : List Event) (tag : Tag) → last_shown (history ++ Stop tag ∷ []) ≡ last_shown history
unfolding last_shown
last_shown-stop history tag = last_shown-event history (Stop tag)

shown_at : (past : List Act) (t : ℕ) → foreground_at past t ≡ next_shown (live_places past t)
shown_at past t = λ i. λ place. (ready (sym (standing-live past t place.channel place.layer) i)).foreground

pub last_shown-tick : (history : List Event) → last_shown (history ++ Tick ∷ []) ≡ Some (next_shown (places history))
unfolding last_shown places acts
last_shown-tick history =
    last_shown-event history Tick
    ∙ ap (λ (t : ℕ). Some (foreground_at (acts_back (reverse history)) t)) (ticks-reverse history)
    ∙ ap Some (shown_at (acts_back (reverse history)) (ticks history))

pub next_shown-places : (history : List Event) → next_shown (places history) ≡ foreground_at (acts history) (ticks history)
unfolding places
next_shown-places history = sym (shown_at (acts history) (ticks history))

-- the foregrounds of a channel are those of its live places, and the statuses follow from them
foregrounds-live : (past : List Act) (t channel : ℕ) → channel_foregrounds past t channel ≡ filter_map foreground_of (live_places past t channel)
foregrounds-live past t channel =
    of_live_ones foreground_of (λ layer. state past t (record { channel = channel; layer = layer })) (layers past) (λ n. refl)

pub foregrounds-places : (history : List Event) (channel : ℕ) →
    channel_foregrounds (acts history) (ticks history) channel ≡ filter_map foreground_of (places history channel)
unfolding places
foregrounds-places history channel = foregrounds-live (acts history) (ticks history) channel

pub statuses-places : (setup : Setup) (history : List Event) → statuses setup history ≡ statuses_of setup (places history)
statuses-places setup history = λ i. map (λ channel. status_of (foregrounds-places history channel i)) (channel_numbers setup)
