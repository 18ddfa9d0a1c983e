-- The messages of the status, added to a list one after another.
use Rattle.std.proofs.Common.{◌≡◌, ℕ, ◌+◌, ◌<◌, false, List, [], ◌∷◌, ◌++◌, length, map, take, get_or, sym, ap, ◌∙◌, add-one, append-nil, append_assoc, arith}
use Rattle.std.specs.Prelude.{Some, None, slice_get}
use Rattle.std.specs.List.{flat_map, range_with_len}
use Rattle.std.proofs.Math.Seq.{take-suc}
use Rattle.std.proofs.lemmas.Grind.{flat_map-append}
use Rattle.std.proofs.lemmas.List.{length-map, map-append, map-id, take_all}
use Rattle.std.proofs.lemmas.List.FromFn.{map-range_with_len_more}
use Rattle.std.proofs.lemmas.Option.{get_or_from_slice_get, slice_get_within}
use Rattle.play_types.specs.Media.{MediaNameView}
use Rattle.play_types.specs.declared.event.Event.{Event}
use Rattle.history_model.specs.scripts.History.{channel_size, setup_of}
use Rattle.server_setup.specs.declared.setup.ServerSetup.{ServerSetup}
use Rattle.script_player.specs.Playouts.{playout_of}
use Rattle.stage_core.specs.Seen.{seen_layers}
use Rattle.stage_core.specs.declared.seen.LayerView.{LayerView}
use Rattle.osc_status.specs.Message.{message_bytes}
use Rattle.osc_status.specs.Status.{channel_messages, layer_messages, layer_statuses, status_messages}
use Rattle.osc_status.specs.declared.message.Message.{Message}
use Rattle.status_display.specs.Status.{status_of_view}
use Rattle.status_display.proofs.ToldStatus.{no_further, seen_each}

-- further messages follow those that were added
pub further : (first so_far all : List (List ℕ)) (a b : List Message) → so_far ≡ first ++ map message_bytes a → all ≡ so_far ++ map message_bytes b
    → all ≡ first ++ map message_bytes (a ++ b)
further first so_far all a b before step =
    step ∙ ap (λ (l : List (List ℕ)). l ++ map message_bytes b) before ∙ append_assoc first (map message_bytes a) (map message_bytes b)
    ∙ ap (λ (l : List (List ℕ)). first ++ l) (sym (map-append message_bytes a b))

-- the items of the first elements, and those of one more
flat_map-take : {X A : Type 0} (f : X → List A) (xs : List X) (at : ℕ) (d : X) → at < length xs
    → flat_map f (take (at + 1) xs) ≡ flat_map f (take at xs) ++ f (get_or xs at d)
flat_map-take {A = A} f xs at d within =
    rw (add-one, take-suc xs at d within, flat_map-append) (ap (λ (last : List A). flat_map f (take at xs) ++ last) (append-nil (f (get_or xs at d))))

-- the messages of a layer, from its view
abbrev pub view_messages : List MediaNameView → ℕ → LayerView → List Message
view_messages names channel layer = layer_messages names (status_of_view channel layer)

module _ (names : List MediaNameView) (history : List Event) (channel : ℕ) where
  -- the messages of the first layers
  abbrev pub first_messages : ℕ → List Message
  first_messages at = flat_map (view_messages names channel) (take at (seen_layers history channel))

  module _ (at : ℕ) (first so_far : List (List ℕ)) (before : so_far ≡ first ++ map message_bytes (first_messages at)) where
    -- the messages of one layer more were added
    pub layer_added : (layer : LayerView) (all : List (List ℕ)) → slice_get (seen_layers history channel) at ≡ Some layer
        → all ≡ so_far ++ map message_bytes (view_messages names channel layer) → all ≡ first ++ map message_bytes (first_messages (at + 1))
    layer_added layer all there step =
        let views = seen_layers history channel in
        further first so_far all (first_messages at) (view_messages names channel layer) before step
        ∙ ap (λ (view : LayerView). first ++ map message_bytes (first_messages at ++ view_messages names channel view)) (sym (get_or_from_slice_get views at layer layer there))
        ∙ ap (λ (messages : List Message). first ++ map message_bytes messages)
        (sym (flat_map-take (view_messages names channel) views at layer (slice_get_within views at layer there)))

    -- there is no further layer, so the messages of all layers were added
    pub layers_added : slice_get (seen_layers history channel) at ≡ None
        → so_far ≡ first ++ map message_bytes (flat_map (layer_messages names) (layer_statuses history channel))
    layers_added none =
        let views = seen_layers history channel in
        before ∙ ap (λ (some : List LayerView). first ++ map message_bytes (flat_map (view_messages names channel) some)) (take_all at views (no_further views at none))
        ∙ ap (λ (messages : List Message). first ++ map message_bytes messages) (sym (seen_each (layer_messages names) history channel))

-- the messages of the channels up to this one
abbrev pub messages_to : List MediaNameView → List Event → ℕ → List Message
messages_to names history at = flat_map (channel_messages names history) (range_with_len 1 at)

range_more : (at : ℕ) → range_with_len 1 at ++ (at + 1) ∷ [] ≡ range_with_len 1 (at + 1)
range_more at =
    ap (λ (numbers : List ℕ). numbers ++ (at + 1) ∷ []) (sym (map-id (range_with_len 1 at)))
    ∙ sym (map-range_with_len_more (λ n. n) 1 at (at + 1) (omega arith)) ∙ map-id (range_with_len 1 (at + 1))

-- the messages of one channel more were added
pub channel_added : (names : List MediaNameView) (history : List Event) (at : ℕ) (so_far all : List (List ℕ)) → so_far ≡ map message_bytes (messages_to names history at)
    → all ≡ so_far ++ map message_bytes (channel_messages names history (at + 1)) → all ≡ map message_bytes (messages_to names history (at + 1))
channel_added names history at so_far all before step =
    further [] so_far all (messages_to names history at) (channel_messages names history (at + 1)) before step
    ∙ ap (λ (last : List Message). map message_bytes (messages_to names history at ++ last)) (sym (append-nil (channel_messages names history (at + 1))))
    ∙ ap (map message_bytes) (sym (flat_map-append (channel_messages names history) (range_with_len 1 at) ((at + 1) ∷ [])))
    ∙ ap (λ (numbers : List ℕ). map message_bytes (flat_map (channel_messages names history) numbers)) (range_more at)

-- the messages of the channels of a setup are those of the status
pub all_messages : (setup : ServerSetup) (history : List Event)
    → messages_to setup.names history (length setup.config.channels) ≡ status_messages (setup_of (playout_of setup false)) setup.names history
all_messages setup history =
    ap (λ (count : ℕ). messages_to setup.names history count) (sym (length-map setup.config.channels channel_size))
