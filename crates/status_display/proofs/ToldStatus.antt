-- The lines of the status after a history, channel by channel and layer by layer.
use Rattle.std.proofs.Common.{◌≡◌, ℕ, ◌+◌, ◌≤◌, inl, inr, List, [], ◌∷◌, ◌++◌, length, map, take, refl, sym, ap, ◌∙◌, subst}
use Rattle.std.specs.Prelude.{Option, Some, None, filter_map, flat_map, option_map, slice_get}
use Rattle.std.proofs.lemmas.List.{take_all}
use Rattle.std.proofs.lemmas.Option.{get_or_from_slice_get, none-some, slice_get_cases, slice_get_within}
use Rattle.std.specs.List.{cons_option, range_with_len}
use Rattle.std.proofs.lemmas.Grind.{flat_map-append}
use Rattle.std.proofs.lemmas.List.Folds.{flat_map-map}
use Rattle.play_types.specs.History.{ticks}
use Rattle.play_types.specs.Media.{MediaNameView}
use Rattle.play_types.specs.declared.event.Event.{Event}
use Rattle.history_model.specs.pictures.Media.{Setup}
use Rattle.history_model.specs.stage.Answer.{channel_numbers}
use Rattle.history_model.specs.stage.Act.{Act}
use Rattle.history_model.specs.stage.Acts.{acts}
use Rattle.history_model.specs.stage.Answer.{standing_foreground}
use Rattle.history_model.specs.stage.Life.{Foreground}
use Rattle.history_model.specs.stage.Live.{layers}
use Rattle.play_outside.specs.SinkState.{SinkState, after_taking}
use Rattle.play_outside.specs.Sink.{Fails}
use Rattle.play_outside.proofs.Parts.{Fails-at, taken_at}
use Rattle.stage_core.specs.Seen.{layer_view, seen_at, seen_layers}
use Rattle.stage_core.specs.declared.seen.LayerView.{LayerView}
use Rattle.osc_status.specs.declared.layer.LayerStatus.{LayerStatus}
use Rattle.status_display.specs.Status.{status_of_view}
use Rattle.osc_status.specs.Status.{channel_messages, layer_lines, layer_messages, layer_status, layer_statuses, status_at, status_line, status_text, ticks_message}

-- the texts of concatenated lists, list by list
texts_of_texts : {A : Type 0} {B : Type 0} {C : Type 0} (f : B → List C) (g : A → List B) (l : List A) → flat_map f (flat_map g l) ≡ flat_map (λ x. flat_map f (g x)) l
texts_of_texts f g [] = refl
texts_of_texts {C = C} f g (x ∷ l) =
    flat_map-append f (g x) (flat_map g l) ∙ ap (λ (text : List C). flat_map f (g x) ++ text) (texts_of_texts f g l)

-- the lines of a channel
channel_lines : (names : List MediaNameView) (history : List Event) (channel : ℕ)
    → flat_map (status_line (ticks history)) (channel_messages names history channel)
    ≡ status_line (ticks history) (ticks_message channel (ticks history)) ++ flat_map (layer_lines names (ticks history)) (layer_statuses history channel)
unfolding layer_lines
channel_lines names history channel =
    ap (λ (text : List ℕ). status_line (ticks history) (ticks_message channel (ticks history)) ++ text)
    (texts_of_texts (status_line (ticks history)) (layer_messages names) (layer_statuses history channel))

-- the lines of all channels
pub status_lines : (setup : Setup) (names : List MediaNameView) (history : List Event)
    → status_text setup names history
    ≡ flat_map
    (λ channel. status_line (ticks history) (ticks_message channel (ticks history)) ++ flat_map (layer_lines names (ticks history)) (layer_statuses history channel))
    (range_with_len 1 (length setup.channels))
unfolding status_text
status_lines setup names history =
    texts_of_texts (status_line (ticks history)) (channel_messages names history) (channel_numbers setup)
    ∙ (λ i. flat_map (λ channel. channel_lines names history channel i) (channel_numbers setup))

-- the view of a layer gives its status
seen_status : (channel layer : ℕ) (standing : Option Foreground) (statuses : List LayerStatus) (views : List LayerView) → statuses ≡ map (status_of_view channel) views
    → cons_option (option_map (layer_status channel layer) standing) statuses ≡ map (status_of_view channel) (cons_option (option_map (layer_view layer) standing) views)
seen_status channel layer None statuses views same = same
seen_status channel layer (Some foreground) statuses views same = ap (λ (others : List LayerStatus). layer_status channel layer foreground ∷ others) same

seen_statuses : (past : List Act) (count channel : ℕ) (numbers : List ℕ)
    → filter_map (status_at past count channel) numbers ≡ map (status_of_view channel) (filter_map (seen_at past count channel) numbers)
seen_statuses past count channel [] = refl
seen_statuses past count channel (layer ∷ numbers) =
    seen_status channel layer (standing_foreground past count channel layer) (filter_map (status_at past count channel) numbers)
    (filter_map (seen_at past count channel) numbers) (seen_statuses past count channel numbers)

-- what comes of the statuses of the layers, from their views
pub seen_each : {A : Type 0} (f : LayerStatus → List A) (history : List Event) (channel : ℕ)
    → flat_map f (layer_statuses history channel) ≡ flat_map (λ view. f (status_of_view channel view)) (seen_layers history channel)
unfolding layer_statuses
seen_each f history channel =
    ap (flat_map f) (seen_statuses (acts history) (ticks history) channel (layers (acts history)))
    ∙ flat_map-map f (status_of_view channel) (seen_layers history channel)

-- there is no view from this place on
pub no_further : (views : List LayerView) (at : ℕ) → slice_get views at ≡ None → length views ≤ at
no_further views at none = elim (slice_get_cases views at).1 [
  | inl (x, within, there, is) ↦ absurd (none-some x (sym none ∙ there))
  | inr (long, is) ↦ long
]

-- the lines of a layer, from its view
abbrev pub view_lines : List MediaNameView → ℕ → ℕ → LayerView → List ℕ
view_lines names count channel layer = layer_lines names count (status_of_view channel layer)

module _ (names : List MediaNameView) (count : ℕ) (history : List Event) (channel : ℕ) where
  seen_lines : flat_map (layer_lines names count) (layer_statuses history channel) ≡ flat_map (view_lines names count channel) (seen_layers history channel)
  seen_lines = seen_each (layer_lines names count) history channel

  -- the lines of the first layers
  abbrev pub first_lines : ℕ → List ℕ
  first_lines at = flat_map (view_lines names count channel) (take at (seen_layers history channel))

  module _ (at : ℕ) (first state : SinkState) (so_far : state ≡ after_taking first (first_lines at)) where
    -- the lines of one layer more were written
    pub layer_told : (layer : LayerView) (after : SinkState) → slice_get (seen_layers history channel) at ≡ Some layer
        → after ≡ after_taking state (view_lines names count channel layer) → after ≡ after_taking first (first_lines (at + 1))
    layer_told layer after there told =
        let views = seen_layers history channel in
        taken_at (view_lines names count channel) views at layer first state after (slice_get_within views at layer there) so_far
        (told ∙ ap (λ (view : LayerView). after_taking state (view_lines names count channel view)) (sym (get_or_from_slice_get views at layer layer there)))

    -- the sink failed in the lines of a layer
    pub layer_fails : (layer : LayerView) (after : SinkState) → slice_get (seen_layers history channel) at ≡ Some layer
        → Fails (view_lines names count channel layer) state after → Fails (flat_map (layer_lines names count) (layer_statuses history channel)) first after
    layer_fails layer after there fails =
        let views = seen_layers history channel in
        subst (λ text. Fails text first after) (sym seen_lines)
        (Fails-at (view_lines names count channel) views at layer first state after (slice_get_within views at layer there) so_far
        (subst (λ (view : LayerView). Fails (view_lines names count channel view) state after) (sym (get_or_from_slice_get views at layer layer there)) fails))

    -- there is no further layer, so the lines of all layers were written
    pub layers_told : slice_get (seen_layers history channel) at ≡ None → state ≡ after_taking first (flat_map (layer_lines names count) (layer_statuses history channel))
    layers_told none =
        let views = seen_layers history channel in
        so_far ∙ ap (λ (some : List LayerView). after_taking first (flat_map (view_lines names count channel) some)) (take_all at views (no_further views at none))
        ∙ ap (after_taking first) (sym seen_lines)
