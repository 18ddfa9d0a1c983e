-- What is seen of the layers of a channel, place by place, and that a channel that the stage lacks has none.
use Rattle.std.proofs.Common.{◌≡◌, ℕ, zero, suc, ◌+◌, ◌-◌, ◌<◌, Bool, true, false, ◌&&◌, eqb, List, [], ◌∷◌, length, get_or, drop, filter, filter_map, map, slice_get, refl, sym, ap, ◌∙◌, subst, arith, ne_eqb, drop-cons, cond, if◌then◌else◌}
use Rattle.std.specs.Prelude.{Option, Some, None, option_map}
use Rattle.std.specs.List.{cons_option}
use Rattle.std.proofs.lemmas.Bool.{cond-false}
use Rattle.play_types.specs.Place.{PlaceView}
use Rattle.play_types.specs.Scene.{IsConfigured}
use Rattle.play_types.specs.History.{ticks}
use Rattle.play_types.specs.declared.command.Cmd.{Cmd}
use Rattle.play_types.specs.declared.command.Cmd.TheVariants.{Load, LoadBg, Play, PlayTake, Pause, Resume, StopLayer, ClearLayer, ClearChannel, SwapLayers, SwapChannels, Set, CommitMixer, ResetLayer, ResetChannel, AddFile, RemoveFile, Value, Info}
use Rattle.play_types.specs.declared.event.Event.{Event}
use Rattle.history_model.specs.commands.Channels.{IsServed}
use Rattle.history_model.specs.stage.Act.{Act}
use Rattle.history_model.specs.stage.Acts.{acts}
use Rattle.history_model.specs.stage.Life.{Foreground, Life, empty_place, life}
use Rattle.history_model.specs.stage.Live.{is_live, layers, state}
use Rattle.history_model.specs.stage.Places.{Places, live_places, places}
use Rattle.history_model.specs.stage.Trail.{acts_on_content, content_origin, same_place, trail}
use Rattle.history_model.proofs.places.Lists.{empty_unless_live}
use Rattle.layer_state.specs.Shown.{front_of}
use Rattle.layer_state.specs.declared.front.Front.{Front}
use Rattle.stage_core.specs.Kept.{AreServed}
use Rattle.stage_core.specs.Seen.{layer_view, seen_at, seen_layers}
use Rattle.stage_core.specs.declared.seen.LayerView.{LayerView}
use Rattle.stage_core.specs.inner.Seen.{seen_of, view_of}

-- what is seen of a place is seen of its foreground
pub seen-front : (place : ℕ × Life) (front : Front) → option_map front_of place.1.foreground ≡ Some front → seen_of place ≡ Some (view_of place.0 front)
seen-front place front e = by_foreground place.1.foreground e
  where
    by_foreground : (found : Option Foreground) → option_map front_of found ≡ Some front → option_map (layer_view place.0) found ≡ Some (view_of place.0 front)
    by_foreground None e = absurd (cc)
    by_foreground (Some f) e = let same : front_of f ≡ front = cc in ap (λ (one : Front). Some (view_of place.0 one)) same

pub seen-none : (place : ℕ × Life) → option_map front_of place.1.foreground ≡ None → seen_of place ≡ None
seen-none place e = by_foreground place.1.foreground e
  where
    by_foreground : (found : Option Foreground) → option_map front_of found ≡ None → option_map (layer_view place.0) found ≡ None
    by_foreground None e = refl
    by_foreground (Some f) e = absurd (cc)

-- one place in front of the others
module _ (xs : Places) (i : ℕ) (x : ℕ × Life) (within : i < length xs) (read : get_or xs i x ≡ x) where
  first_left : drop i xs ≡ x ∷ drop (i + 1) xs
  first_left =
      let one : suc i ≡ i + 1 = omega arith in
      drop-cons xs i x within ∙ ap (λ (n : ℕ). get_or xs i x ∷ drop n xs) one ∙ ap (λ (y : ℕ × Life). y ∷ drop (i + 1) xs) read

  pub seen_more : (told : Option LayerView) → seen_of x ≡ told → filter_map seen_of (drop i xs) ≡ cons_option told (filter_map seen_of (drop (i + 1) xs))
  seen_more told e =
      ap (filter_map seen_of) first_left ∙ ap (λ (one : Option LayerView). cons_option one (filter_map seen_of (drop (i + 1) xs))) e

-- an item behind the first one
pub behind_first : (told : LayerView) (more : List LayerView) (n : ℕ) → (n ≡ 0 → ⊥) → slice_get (told ∷ more) n ≡ slice_get more (n - 1)
behind_first told more zero some = absurd (some refl)
behind_first told more (suc n) some = let e : suc n - 1 ≡ n = omega arith in ap (slice_get more) (sym e)

-- what is seen of layers is seen of the live ones among them
chosen_more : {X : Type 0} (h : ℕ × Life → Option X) (f : ℕ → Life) (m : ℕ) (live : Bool) (numbers : List ℕ) (rest : List X) →
    ((n : ℕ) → h (n, empty_place) ≡ None) → is_live (f m) ≡ live →
    rest ≡ filter_map h (map (λ n. (n, f n)) (filter (λ n. is_live (f n)) numbers)) →
    cons_option (h (m, f m)) rest
    ≡ filter_map h
    (map (λ n. (n, f n)) (cond live (m ∷ filter (λ n. is_live (f n)) numbers) (filter (λ n. is_live (f n)) numbers)))
chosen_more h f m true numbers rest none e same = ap (cons_option (h (m, f m))) same
chosen_more h f m false numbers rest none e same =
    ap (λ (s : Life). cons_option (h (m, s)) rest) (empty_unless_live (f m) e)
    ∙ ap (λ (one : Option _). cons_option one rest) (none m) ∙ same

of_live_ones : {X : Type 0} (h : ℕ × Life → Option X) (f : ℕ → Life) (numbers : List ℕ) → ((n : ℕ) → h (n, empty_place) ≡ None) →
    filter_map (λ n. h (n, f n)) numbers ≡ filter_map h (map (λ n. (n, f n)) (filter (λ n. is_live (f n)) numbers))
of_live_ones h f [] none = refl
of_live_ones h f (m ∷ numbers) none =
    chosen_more h f m (is_live (f m)) numbers (filter_map (λ n. h (n, f n)) numbers) none refl (of_live_ones h f numbers none)

seen-live : (past : List Act) (t channel : ℕ) → filter_map (seen_at past t channel) (layers past) ≡ filter_map seen_of (live_places past t channel)
seen-live past t channel =
    of_live_ones seen_of (λ layer. state past t (record { channel = channel; layer = layer })) (layers past) (λ n. refl)

pub seen-places : (history : List Event) (channel : ℕ) → filter_map seen_of (places history channel) ≡ seen_layers history channel
unfolding places
seen-places history channel = sym (seen-live (acts history) (ticks history) channel)

-- a channel that is not one of those that commands name
apart : (n c d : ℕ) → IsConfigured n c → (IsConfigured n d → ⊥) → eqb c d ≡ false
apart n c d named outside = ne_eqb c d (λ e. outside (subst (IsConfigured n) e named))

elsewhere : (n : ℕ) (at place : PlaceView) → IsConfigured n at.channel → (IsConfigured n place.channel → ⊥) → same_place at place ≡ false
elsewhere n at place named outside = ap (λ (b : Bool). b && eqb at.layer place.layer) (apart n at.channel place.channel named outside)

not_acted : (n : ℕ) (cmd : Cmd) (place : PlaceView) → IsServed n cmd → (IsConfigured n place.channel → ⊥) → acts_on_content cmd place ≡ false
not_acted n (Load at take) place h outside = elsewhere n at place h.0 outside
not_acted n (LoadBg at take) place h outside = elsewhere n at place h.0 outside
not_acted n (Play at) place h outside = elsewhere n at place h outside
not_acted n (PlayTake at take) place h outside = elsewhere n at place h.0 outside
not_acted n (Pause at) place h outside = elsewhere n at place h outside
not_acted n (Resume at) place h outside = elsewhere n at place h outside
not_acted n (StopLayer at) place h outside = elsewhere n at place h outside
not_acted n (ClearLayer at) place h outside = elsewhere n at place h outside
not_acted n (ClearChannel channel) place h outside = apart n channel place.channel h outside
not_acted n (SwapLayers a b transforms) place h outside = refl
not_acted n (SwapChannels a b transforms) place h outside = refl
not_acted n (Set setting) place h outside = refl
not_acted n (CommitMixer channel) place h outside = refl
not_acted n (ResetLayer at) place h outside = refl
not_acted n (ResetChannel channel) place h outside = refl
not_acted n (AddFile marked name) place h outside = refl
not_acted n (RemoveFile marked) place h outside = refl
not_acted n (Value at prop) place h outside = refl
not_acted n Info place h outside = refl

-- two swapped places or channels, neither of which is meant
apart_from : (n c d : ℕ) → IsConfigured n c → (IsConfigured n d → ⊥) → eqb d c ≡ false
apart_from n c d named outside = ne_eqb d c (λ e. outside (subst (IsConfigured n) (sym e) named))

elsewhere_from : (n : ℕ) (at place : PlaceView) → IsConfigured n at.channel → (IsConfigured n place.channel → ⊥) → same_place place at ≡ false
elsewhere_from n at place named outside = ap (λ (b : Bool). b && eqb place.layer at.layer) (apart_from n at.channel place.channel named outside)

stays : (n : ℕ) (cmd : Cmd) (place : PlaceView) → IsServed n cmd → (IsConfigured n place.channel → ⊥) → content_origin cmd place ≡ place
stays n (Load at take) place h outside = refl
stays n (LoadBg at take) place h outside = refl
stays n (Play at) place h outside = refl
stays n (PlayTake at take) place h outside = refl
stays n (Pause at) place h outside = refl
stays n (Resume at) place h outside = refl
stays n (StopLayer at) place h outside = refl
stays n (ClearLayer at) place h outside = refl
stays n (ClearChannel channel) place h outside = refl
stays n (SwapLayers a b transforms) place h outside =
    cond-false (same_place place a) b (if same_place place b then a else place) (elsewhere_from n a place h.0 outside)
    ∙ cond-false (same_place place b) a place (elsewhere_from n b place h.1 outside)
stays n (SwapChannels a b transforms) place h outside =
    cond-false (eqb place.channel a) (record place { channel = b }) (if eqb place.channel b then record place { channel = a } else place)
    (apart_from n a place.channel h.0 outside)
    ∙ cond-false (eqb place.channel b) (record place { channel = a }) place (apart_from n b place.channel h.1 outside)
stays n (Set setting) place h outside = refl
stays n (CommitMixer channel) place h outside = refl
stays n (ResetLayer at) place h outside = refl
stays n (ResetChannel channel) place h outside = refl
stays n (AddFile marked name) place h outside = refl
stays n (RemoveFile marked) place h outside = refl
stays n (Value at prop) place h outside = refl
stays n Info place h outside = refl

no_trail : (n : ℕ) (past : List Act) (place : PlaceView) → AreServed n past → (IsConfigured n place.channel → ⊥) → trail past place ≡ []
no_trail n [] place served outside = refl
no_trail n (act ∷ before) place served outside =
    cond-false (acts_on_content act.cmd place) (act ∷ trail before (content_origin act.cmd place)) (trail before (content_origin act.cmd place))
    (not_acted n act.cmd place served.0 outside)
    ∙ ap (trail before) (stays n act.cmd place served.0 outside)
    ∙ no_trail n before place served.1 outside

none_of : {X : Type 0} (f : ℕ → Option X) (numbers : List ℕ) → ((n : ℕ) → f n ≡ None) → filter_map f numbers ≡ []
none_of f [] none = refl
none_of f (n ∷ numbers) none = ap (λ (one : Option _). cons_option one (filter_map f numbers)) (none n) ∙ none_of f numbers none

-- no layer is seen on such a channel
pub seen-outside : (n : ℕ) (history : List Event) (channel : ℕ) → AreServed n (acts history) → (IsConfigured n channel → ⊥) → seen_layers history channel ≡ []
seen-outside n history channel served outside =
    none_of (seen_at (acts history) (ticks history) channel) (layers (acts history))
    (λ layer. ap (λ (past : List Act). option_map (layer_view layer) (life past (ticks history)).foreground)
    (no_trail n (acts history) (record { channel = channel; layer = layer }) served outside))
