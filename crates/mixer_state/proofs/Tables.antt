-- The entries of places, and where they are kept.
use Rattle.std.proofs.Common.{◌≡◌, ℕ, zero, suc, ◌-◌, ◌<◌, ◌≤◌, ◌==◌, ◌&&◌, Bool, false, inl, inr, List, [], ◌∷◌, length, get_or, set, refl, sym, ap, ◌∙◌, subst, arith, ◌≢◌, eq-eqb, eqb-true, length-set, if◌then◌else◌}
use Rattle.std.specs.Prelude.{All, Err, None, Ok, OnErr, Option, Result}
use Rattle.std.proofs.Math.Seq.{map-set_same}
use Rattle.std.proofs.lemmas.Bool.{cases_Bool, cond-true, cond-false, false≢true}
use Rattle.std.proofs.lemmas.List.Elements.{All-from_get_or, All-get_or, All-head, All-set, All-tail}
use Rattle.std.proofs.lemmas.List.{get_or-map, get_or-set_other, get_or-set_same, map-set}
use Rattle.play_types.specs.Place.{PlaceView}
use Rattle.play_types.specs.Scene.{IsConfigured}
use Rattle.history_model.specs.stage.Trail.{channel_swapped_place}
use Rattle.mixer_state.specs.declared.courses.Courses.{Courses}
use Rattle.mixer_state.specs.Entries.{Entries, channel_in, layer_in, table_of}
use Rattle.mixer_state.specs.inner.Changes.{with_entry, without_channel}
use Rattle.mixer_state.specs.Found.{HaveRoom, LayersView, entries_of, with_layer}

-- functions that agree at each argument are one
pub one_function : {A B : Type 0} (f g : A → B) → ((x : A) → f x ≡ g x) → f ≡ g
one_function f g h = λ i x. h x i

-- no layers, for a channel that is not there
abbrev pub no_layers : LayersView
no_layers = record { room = 0; entries = [] }

none_in : (channels : List LayersView) (at : ℕ) → All (λ (layers : LayersView). layers.entries ≡ []) channels → get_or (entries_of channels) at [] ≡ []
none_in [] at none = refl
none_in (x ∷ xs) zero none = All-head (λ (layers : LayersView). layers.entries ≡ []) x xs none
none_in (x ∷ xs) (suc at) none = none_in xs at (All-tail (λ (layers : LayersView). layers.entries ≡ []) x xs none)

channel_in-none : (channels : List LayersView) (channel : ℕ) → All (λ (layers : LayersView). layers.entries ≡ []) channels →
    channel_in (entries_of channels) channel ≡ []
channel_in-none channels zero none = refl
channel_in-none channels (suc at) none = none_in channels at none

-- without entries no place has one
pub table-none : (channels : List LayersView) (place : PlaceView) → All (λ (layers : LayersView). layers.entries ≡ []) channels →
    table_of (entries_of channels) place ≡ None
table-none channels place none =
    ap (λ (found : List (ℕ × Courses)). layer_in found place.layer) (channel_in-none channels place.channel none)

pub HaveRoom-none : (channels : List LayersView) → HaveRoom 0 channels
HaveRoom-none channels = All-from_get_or (λ (layers : LayersView). 0 ≤ layers.room) channels no_layers (λ i within. omega arith)

-- room for fewer
pub HaveRoom-less : (spare less : ℕ) (channels : List LayersView) → less ≤ spare → HaveRoom spare channels → HaveRoom less channels
HaveRoom-less spare less channels h room =
    All-from_get_or (λ (layers : LayersView). less ≤ layers.room) channels no_layers
    (λ i within. omega (arith, h, All-get_or (λ (layers : LayersView). spare ≤ layers.room) channels i no_layers within room))

pub HaveRoom-set : (spare less : ℕ) (channels : List LayersView) (at : ℕ) (layers : LayersView) → less ≤ spare → less ≤ layers.room →
    HaveRoom spare channels → HaveRoom less (set channels at layers)
HaveRoom-set spare less channels at layers h fits room =
    All-set (λ (l : LayersView). less ≤ l.room) channels at layers fits (HaveRoom-less spare less channels h room)

pub HaveRoom-at : (spare : ℕ) (channels : List LayersView) (at : ℕ) (d : LayersView) → at < length channels → HaveRoom spare channels →
    spare ≤ (get_or channels at d).room
HaveRoom-at spare channels at d within room = All-get_or (λ (l : LayersView). spare ≤ l.room) channels at d within room

-- what holds at any end holds at an error
pub err_keeps : {T E P : Type 0} (r : Result T E) → P → OnErr r P
err_keeps (Ok value) h = tt
err_keeps (Err error) h = h

channel_in-from_one : (entries : Entries) (channel : ℕ) → 1 ≤ channel → channel_in entries channel ≡ get_or entries (channel - 1) []
channel_in-from_one entries zero h = absurd (omega (arith, h))
channel_in-from_one entries (suc at) h = let e : at ≡ suc at - 1 = omega arith in ap (λ (n : ℕ). get_or entries n []) e

-- the layers of a channel are those that are kept for it
pub channel_in-kept : (channels : List LayersView) (channel : ℕ) (d : LayersView) → IsConfigured (length channels) channel →
    channel_in (entries_of channels) channel ≡ (get_or channels (channel - 1) d).entries
channel_in-kept channels channel d of_channel =
    channel_in-from_one (entries_of channels) channel of_channel.0
    ∙ get_or-map (λ (layers : LayersView). layers.entries) channels (channel - 1) d [] (omega (arith, of_channel.0, of_channel.1))

module _ (channels : List LayersView) (channel : ℕ) (layers : LayersView) (of_channel : IsConfigured (length channels) channel) where
  set_same : channel_in (entries_of (set channels (channel - 1) layers)) channel ≡ layers.entries
  set_same =
      let count : length (set channels (channel - 1) layers) ≡ length channels = length-set channels (channel - 1) layers in
      let here : channel - 1 < length channels = omega (arith, of_channel.0, of_channel.1) in
      channel_in-kept (set channels (channel - 1) layers) channel layers (subst (λ (n : ℕ). IsConfigured n channel) (sym count) of_channel)
      ∙ ap (λ (l : LayersView). l.entries) (get_or-set_same channels (channel - 1) layers layers here)

  set_other : (other : ℕ) → (channel == other) ≡ false →
      channel_in (entries_of (set channels (channel - 1) layers)) other ≡ channel_in (entries_of channels) other
  set_other zero n = refl
  set_other (suc at) n =
      let one : 1 ≤ suc at = omega arith in
      let apart : suc at - 1 ≢ channel - 1 = λ e. false≢true (sym n ∙ eq-eqb channel (suc at) (omega (arith, of_channel.0, e))) in
      channel_in-from_one (entries_of (set channels (channel - 1) layers)) (suc at) one
      ∙ ap (λ (es : Entries). get_or es (suc at - 1) []) (map-set (λ (l : LayersView). l.entries) channels (channel - 1) layers)
      ∙ get_or-set_other (entries_of channels) (channel - 1) (suc at - 1) layers.entries [] apart
      ∙ sym (channel_in-from_one (entries_of channels) (suc at) one)

  -- the layers of each channel, once those of one are replaced
  pub channel_in-set : (other : ℕ) →
      channel_in (entries_of (set channels (channel - 1) layers)) other
      ≡ (if channel == other then layers.entries else channel_in (entries_of channels) other)
  channel_in-set other =
      elim (cases_Bool (channel == other)) [
        | inl e ↦
            ap (channel_in (entries_of (set channels (channel - 1) layers))) (sym (eqb-true channel other e))
            ∙ set_same ∙ sym (cond-true (channel == other) layers.entries (channel_in (entries_of channels) other) e)
        | inr n ↦ set_other other n ∙ sym (cond-false (channel == other) layers.entries (channel_in (entries_of channels) other) n)
      ]

  -- the entry of each place, once that of one is replaced
  pub table-set : (d : LayersView) (layer : ℕ) (entry : Option Courses) →
      layer_in layers.entries ≡ with_layer layer entry (layer_in (get_or channels (channel - 1) d).entries) →
      table_of (entries_of (set channels (channel - 1) layers))
      ≡ with_entry (record { channel = channel; layer = layer }) entry (table_of (entries_of channels))
  table-set d layer entry changed =
      one_function _ _ (λ place.
      let here = λ (b : Bool). if b && (layer == place.layer) then entry else table_of (entries_of channels) place in
      ap (λ (found : List (ℕ × Courses)). layer_in found place.layer) (channel_in-set place.channel)
      ∙ elim (cases_Bool (channel == place.channel)) [
        | inl e ↦
            ap (λ (b : Bool). layer_in (if b then layers.entries else channel_in (entries_of channels) place.channel) place.layer) e
            ∙ ap (λ (f : ℕ → Option Courses). f place.layer) changed
            ∙ ap (λ (found : List (ℕ × Courses)). if layer == place.layer then entry else layer_in found place.layer)
            (sym (channel_in-kept channels channel d of_channel)
            ∙ ap (channel_in (entries_of channels)) (eqb-true channel place.channel e))
            ∙ sym (ap here e)
        | inr n ↦
            ap (λ (b : Bool). layer_in (if b then layers.entries else channel_in (entries_of channels) place.channel) place.layer) n
            ∙ sym (ap here n)
      ])

  -- and once those of a channel are removed
  pub table-clear : layers.entries ≡ [] →
      table_of (entries_of (set channels (channel - 1) layers)) ≡ without_channel channel (table_of (entries_of channels))
  table-clear none =
      one_function _ _ (λ place.
      ap (λ (found : List (ℕ × Courses)). layer_in found place.layer) (channel_in-set place.channel)
      ∙ elim (cases_Bool (channel == place.channel)) [
        | inl e ↦
            ap (λ (b : Bool). layer_in (if b then layers.entries else channel_in (entries_of channels) place.channel) place.layer) e
            ∙ ap (λ (found : List (ℕ × Courses)). layer_in found place.layer) none
            ∙ sym (cond-true (channel == place.channel) None (table_of (entries_of channels) place) e)
        | inr n ↦
            ap (λ (b : Bool). layer_in (if b then layers.entries else channel_in (entries_of channels) place.channel) place.layer) n
            ∙ sym (cond-false (channel == place.channel) None (table_of (entries_of channels) place) n)
      ])

module _ (channels : List LayersView) (n : ℕ) (layers : LayersView) where
  -- the entry of each place, once the layers of a channel are changed at one of them
  pub table-changed : (place : PlaceView) (layer : ℕ) (old : LayersView) (entry : Option Courses) → n ≡ place.channel → layer ≡ place.layer →
      old ≡ get_or channels (n - 1) old → IsConfigured (length channels) place.channel →
      layer_in layers.entries ≡ with_layer layer entry (layer_in old.entries) →
      table_of (entries_of (set channels (n - 1) layers)) ≡ with_entry place entry (table_of (entries_of channels))
  table-changed place layer old entry e f is_old of_channel changed =
      ap (λ (k : ℕ). table_of (entries_of (set channels (k - 1) layers))) e
      ∙ table-set channels place.channel layers of_channel old place.layer entry
      (changed ∙ ap (λ (k : ℕ). with_layer k entry (layer_in old.entries)) f
      ∙ ap (λ (l : LayersView). with_layer place.layer entry (layer_in l.entries)) (is_old ∙ ap (λ (k : ℕ). get_or channels (k - 1) old) e))

  pub table-cleared : (channel : ℕ) → n ≡ channel → IsConfigured (length channels) channel → layers.entries ≡ [] →
      table_of (entries_of (set channels (n - 1) layers)) ≡ without_channel channel (table_of (entries_of channels))
  table-cleared channel e of_channel none =
      ap (λ (k : ℕ). table_of (entries_of (set channels (k - 1) layers))) e ∙ table-clear channels channel layers of_channel none

  -- if the entries of a channel stay, all stay
  pub entries-same : (old : LayersView) → old ≡ get_or channels (n - 1) old → layers.entries ≡ old.entries →
      entries_of (set channels (n - 1) layers) ≡ entries_of channels
  entries-same old is_old same =
      map-set_same (λ (l : LayersView). l.entries) channels (n - 1) layers old (same ∙ ap (λ (l : LayersView). l.entries) is_old)

flip_false : (a b : ℕ) → (a == b) ≡ false → (b == a) ≡ false
flip_false a b n =
    elim (cases_Bool (b == a)) [
      | inl e ↦ absurd (false≢true (sym n ∙ eq-eqb a b (sym (eqb-true b a e))))
      | inr m ↦ m
    ]

-- the channel that a channel is exchanged with
abbrev other_channel : ℕ → ℕ → ℕ → ℕ
other_channel a b n = if n == a then b else (if n == b then a else n)

module _ (channels swapped : List LayersView) (a b : ℕ) (of_a : IsConfigured (length channels) a) (of_b : IsConfigured (length channels) b)
    (d : LayersView) (at : swapped ≡ set (set channels (a - 1) (get_or channels (b - 1) d)) (b - 1) (get_or channels (a - 1) d)) where
  looked_up : (n : ℕ) → channel_in (entries_of swapped) n
      ≡ (if b == n then (get_or channels (a - 1) d).entries else (if a == n then (get_or channels (b - 1) d).entries else channel_in (entries_of channels) n))
  looked_up n =
      let count : length (set channels (a - 1) (get_or channels (b - 1) d)) ≡ length channels = length-set channels (a - 1) (get_or channels (b - 1) d) in
      ap (λ (xs : List LayersView). channel_in (entries_of xs) n) at
      ∙ channel_in-set (set channels (a - 1) (get_or channels (b - 1) d)) b (get_or channels (a - 1) d) (subst (λ (k : ℕ). IsConfigured k b) (sym count) of_b) n
      ∙ ap (λ (rest : List (ℕ × Courses)). if b == n then (get_or channels (a - 1) d).entries else rest)
      (channel_in-set channels a (get_or channels (b - 1) d) of_a n)

  exchanged : (n : ℕ) → channel_in (entries_of swapped) n ≡ channel_in (entries_of channels) (other_channel a b n)
  exchanged n =
      let of_first = channel_in-kept channels a d of_a in
      let of_second = channel_in-kept channels b d of_b in
      let from : ℕ → List (ℕ × Courses) = channel_in (entries_of channels) in
      looked_up n
      ∙ elim (cases_Bool (n == a)) [
        | inl e ↦
            let same : n ≡ a = eqb-true n a e in
            elim (cases_Bool (b == n)) [
              | inl f ↦
                  cond-true (b == n) _ _ f ∙ sym of_first ∙ ap from (sym same ∙ sym (eqb-true b n f))
                  ∙ ap from (sym (cond-true (n == a) b _ e))
              | inr f ↦
                  cond-false (b == n) _ _ f ∙ cond-true (a == n) _ _ (eq-eqb a n (sym same)) ∙ sym of_second
                  ∙ ap from (sym (cond-true (n == a) b _ e))
            ]
        | inr k ↦ elim (cases_Bool (n == b)) [
          | inl f ↦
              cond-true (b == n) _ _ (eq-eqb b n (sym (eqb-true n b f))) ∙ sym of_first
              ∙ ap from (sym (cond-false (n == a) b _ k ∙ cond-true (n == b) a n f))
          | inr f ↦
              cond-false (b == n) _ _ (flip_false n b f) ∙ cond-false (a == n) _ _ (flip_false n a k)
              ∙ ap from (sym (cond-false (n == a) b _ k ∙ cond-false (n == b) a n f))
        ]
      ]

  -- the entry of each place, once two channels are exchanged
  pub table-swap : (place : PlaceView) → table_of (entries_of swapped) place ≡ table_of (entries_of channels) (channel_swapped_place a b place)
  table-swap place =
      let from = λ (p : PlaceView). table_of (entries_of channels) p in
      let on = λ (n : ℕ). layer_in (channel_in (entries_of channels) n) place.layer in
      ap (λ (found : List (ℕ × Courses)). layer_in found place.layer) (exchanged place.channel)
      ∙ elim (cases_Bool (place.channel == a)) [
        | inl e ↦ ap on (cond-true (place.channel == a) b _ e) ∙ ap from (sym (cond-true (place.channel == a) (record place { channel = b }) _ e))
        | inr k ↦ elim (cases_Bool (place.channel == b)) [
          | inl e ↦
              ap on (cond-false (place.channel == a) b _ k ∙ cond-true (place.channel == b) a _ e)
              ∙ ap from (sym (cond-false (place.channel == a) (record place { channel = b }) _ k ∙ cond-true (place.channel == b) (record place { channel = a }) place e))
          | inr f ↦
              ap on (cond-false (place.channel == a) b _ k ∙ cond-false (place.channel == b) a _ f)
              ∙ ap from (sym (cond-false (place.channel == a) (record place { channel = b }) _ k ∙ cond-false (place.channel == b) (record place { channel = a }) place f))
        ]
      ]
