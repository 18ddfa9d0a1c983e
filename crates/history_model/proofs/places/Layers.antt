-- The layers that acts loaded or swapped: they rise, and no other layer holds anything.
use Rattle.std.proofs.Common.{◌≡◌, ℕ, ◌-◌, ◌<◌, ◌==◌, eqb, ltb, Bool, true, false, cond, ◌||◌, ◌⊎◌, inl, inr, List, [], ◌∷◌, map, filter, refl, sym, ap, ◌∙◌, arith, eq-eqb, ne_eqb, lt-ltb, le-ltb, eqb-true, if◌then◌else◌}
use Rattle.std.proofs.lemmas.Bool.{false≢true, cases_eq, cases_order, cases_Bool, cond-true, cond-false, or_parts, and_parts}
use Rattle.std.specs.List.{list_any}
use Rattle.play_types.specs.Place.{PlaceView}
use Rattle.play_types.specs.declared.command.Cmd.{Cmd}
use Rattle.play_types.specs.declared.command.Cmd.TheVariants.{Load, LoadBg, Play, PlayTake, Pause, Resume, StopLayer, ClearLayer, ClearChannel, SwapLayers, SwapChannels, Set, CommitMixer, ResetLayer, ResetChannel, AddFile, RemoveFile, Value, Info}
use Rattle.history_model.specs.stage.Act.{Act}
use Rattle.history_model.specs.stage.Trail.{same_place, swapped_place, channel_swapped_place, content_origin, acts_on_content, trail}
use Rattle.history_model.specs.stage.Life.{Life, after, effect, empty_place, life}
use Rattle.history_model.specs.stage.Live.{is_live, layers, state, with_layers_of, with_number}
use Rattle.history_model.specs.stage.Places.{Places, AreAbove, ArePlaces, live_places, standing}
use Rattle.history_model.proofs.places.Lists.{empty_unless_live}

-- whether a number is in a list
abbrev pub is_in : ℕ → List ℕ → Bool
is_in n numbers = list_any (λ m. m == n) numbers

-- numbers that are above a number, and numbers that rise
abbrev pub AreMore : ℕ → List ℕ → Type 0
AreMore n [] = Unit {0}
AreMore n (m ∷ more) = (n < m) × AreMore n more

abbrev pub AreRising : List ℕ → Type 0
AreRising [] = Unit {0}
AreRising (m ∷ more) = AreMore m more × AreRising more

AreMore-lower : (numbers : List ℕ) (m n : ℕ) → m < n → AreMore n numbers → AreMore m numbers
AreMore-lower [] m n low more = tt
AreMore-lower (k ∷ numbers) m n low more = (omega (arith, more.0), AreMore-lower numbers m n low more.1)

-- the three cases of a rising list with one more number
with_number-at : (n m : ℕ) (more : List ℕ) → n ≡ m → with_number n (m ∷ more) ≡ m ∷ more
with_number-at n m more e = cond-true (eqb n m) _ _ (eq-eqb n m e)

with_number-before : (n m : ℕ) (more : List ℕ) → n < m → with_number n (m ∷ more) ≡ n ∷ m ∷ more
with_number-before n m more low =
    cond-false (eqb n m) _ _ (ne_eqb n m (λ e. omega arith)) ∙ cond-true (ltb n m) _ _ (lt-ltb n m low)

with_number-behind : (n m : ℕ) (more : List ℕ) → m < n → with_number n (m ∷ more) ≡ m ∷ with_number n more
with_number-behind n m more high =
    cond-false (eqb n m) _ _ (ne_eqb n m (λ e. omega arith)) ∙ cond-false (ltb n m) _ _ (le-ltb n m (omega arith))

AreMore-with_number : (n k : ℕ) (numbers : List ℕ) → k < n → AreMore k numbers → AreMore k (with_number n numbers)
AreMore-with_number n k [] low more = (low, tt)
AreMore-with_number n k (m ∷ numbers) low more = elim (cases_order n m) [
  | inl e ↦ rw (with_number-at n m numbers e) more
  | inr apart ↦ elim apart [
    | inl before ↦ rw (with_number-before n m numbers before) (low, more)
    | inr behind ↦ rw (with_number-behind n m numbers behind) (more.0, AreMore-with_number n k numbers low more.1)
  ]
]

pub AreRising-with_number : (n : ℕ) (numbers : List ℕ) → AreRising numbers → AreRising (with_number n numbers)
AreRising-with_number n [] rising = (tt, tt)
AreRising-with_number n (m ∷ numbers) rising = elim (cases_order n m) [
  | inl e ↦ rw (with_number-at n m numbers e) rising
  | inr apart ↦ elim apart [
    | inl before ↦
        rw (with_number-before n m numbers before) ((before, AreMore-lower numbers n m before rising.0), rising)
    | inr behind ↦
        rw (with_number-behind n m numbers behind)
        (AreMore-with_number n m numbers behind rising.0, AreRising-with_number n numbers rising.1)
  ]
]

-- a number that is not in the list with one more is neither that one nor in the list
pub apart_from : (n m : ℕ) (numbers : List ℕ) → is_in n (with_number m numbers) ≡ false → (eqb m n ≡ false) × (is_in n numbers ≡ false)
apart_from n m [] e = or_parts (eqb m n) false e
apart_from n m (k ∷ numbers) e = elim (cases_order m k) [
  | inl same ↦
      let without : is_in n (k ∷ numbers) ≡ false = sym (ap (is_in n) (with_number-at m k numbers same)) ∙ e in
      let parts = or_parts (eqb k n) (is_in n numbers) without in (ap (λ x. eqb x n) same ∙ parts.0, without)
  | inr apart ↦ elim apart [
    | inl before ↦
        or_parts (eqb m n) (is_in n (k ∷ numbers)) (sym (ap (is_in n) (with_number-before m k numbers before)) ∙ e)
    | inr behind ↦
        let parts = or_parts (eqb k n) (is_in n (with_number m numbers)) (sym (ap (is_in n) (with_number-behind m k numbers behind)) ∙ e) in
        let rest = apart_from n m numbers parts.1 in
        (rest.0, ap (λ b. b || is_in n numbers) parts.0 ∙ rest.1)
  ]
]

-- a number that is put into a list is in it
pub is_in-with_number : (n : ℕ) (numbers : List ℕ) → is_in n (with_number n numbers) ≡ true
is_in-with_number n numbers = elim (cases_Bool (is_in n (with_number n numbers))) [
  | inl e ↦ e
  | inr e ↦ absurd (false≢true (sym (apart_from n n numbers e).0 ∙ eq-eqb n n refl))
]

-- the layers of acts rise
rising_more : (cmd : Cmd) (found : List ℕ) → AreRising found → AreRising (with_layers_of cmd found)
rising_more (Load at take) found r = AreRising-with_number at.layer found r
rising_more (LoadBg at take) found r = AreRising-with_number at.layer found r
rising_more (Play at) found r = r
rising_more (PlayTake at take) found r = AreRising-with_number at.layer found r
rising_more (Pause at) found r = r
rising_more (Resume at) found r = r
rising_more (StopLayer at) found r = r
rising_more (ClearLayer at) found r = r
rising_more (ClearChannel channel) found r = r
rising_more (SwapLayers a b transforms) found r =
    AreRising-with_number a.layer (with_number b.layer found) (AreRising-with_number b.layer found r)
rising_more (SwapChannels a b transforms) found r = r
rising_more (Set setting) found r = r
rising_more (CommitMixer channel) found r = r
rising_more (ResetLayer at) found r = r
rising_more (ResetChannel channel) found r = r
rising_more (AddFile marked name) found r = r
rising_more (RemoveFile marked) found r = r
rising_more (Value at prop) found r = r
rising_more Info found r = r

AreRising-layers : (acts : List Act) → AreRising (layers acts)
AreRising-layers [] = tt
AreRising-layers (act ∷ before) = rising_more act.cmd (layers before) (AreRising-layers before)

-- a layer that a command does not add was not there before
was_apart : (n : ℕ) (cmd : Cmd) (found : List ℕ) → is_in n (with_layers_of cmd found) ≡ false → is_in n found ≡ false
was_apart n (Load at take) found e = (apart_from n at.layer found e).1
was_apart n (LoadBg at take) found e = (apart_from n at.layer found e).1
was_apart n (Play at) found e = e
was_apart n (PlayTake at take) found e = (apart_from n at.layer found e).1
was_apart n (Pause at) found e = e
was_apart n (Resume at) found e = e
was_apart n (StopLayer at) found e = e
was_apart n (ClearLayer at) found e = e
was_apart n (ClearChannel channel) found e = e
was_apart n (SwapLayers a b transforms) found e =
    (apart_from n b.layer found (apart_from n a.layer (with_number b.layer found) e).1).1
was_apart n (SwapChannels a b transforms) found e = e
was_apart n (Set setting) found e = e
was_apart n (CommitMixer channel) found e = e
was_apart n (ResetLayer at) found e = e
was_apart n (ResetChannel channel) found e = e
was_apart n (AddFile marked name) found e = e
was_apart n (RemoveFile marked) found e = e
was_apart n (Value at prop) found e = e
was_apart n Info found e = e

-- a command does not act on the content of a place whose layer it names nowhere
not_there : (at place : PlaceView) → eqb at.layer place.layer ≡ false → same_place at place ≡ true → ⊥
not_there at place apart there = false≢true (sym apart ∙ (and_parts (at.channel == place.channel) _ there).1)

-- a command that acts on such an empty place leaves it empty
leaves_empty : (cmd : Cmd) (place : PlaceView) (found : List ℕ) → is_in place.layer (with_layers_of cmd found) ≡ false →
    acts_on_content cmd place ≡ true → effect cmd empty_place ≡ empty_place
leaves_empty (Load at take) place found e there = absurd (not_there at place (apart_from place.layer at.layer found e).0 there)
leaves_empty (LoadBg at take) place found e there = absurd (not_there at place (apart_from place.layer at.layer found e).0 there)
leaves_empty (Play at) place found e there = refl
leaves_empty (PlayTake at take) place found e there = absurd (not_there at place (apart_from place.layer at.layer found e).0 there)
leaves_empty (Pause at) place found e there = refl
leaves_empty (Resume at) place found e there = refl
leaves_empty (StopLayer at) place found e there = refl
leaves_empty (ClearLayer at) place found e there = refl
leaves_empty (ClearChannel channel) place found e there = refl
leaves_empty (SwapLayers a b transforms) place found e there = refl
leaves_empty (SwapChannels a b transforms) place found e there = refl
leaves_empty (Set setting) place found e there = refl
leaves_empty (CommitMixer channel) place found e there = refl
leaves_empty (ResetLayer at) place found e there = refl
leaves_empty (ResetChannel channel) place found e there = refl
leaves_empty (AddFile marked name) place found e there = refl
leaves_empty (RemoveFile marked) place found e there = refl
leaves_empty (Value at prop) place found e there = refl
leaves_empty Info place found e there = refl

-- the layer from which the content of such a place came is not among them either
other_layer : (a place : PlaceView) → eqb a.layer place.layer ≡ false → same_place place a ≡ false
other_layer a place apart = elim (cases_Bool (same_place place a)) [
  | inr e ↦ e
  | inl e ↦
      let same : eqb place.layer a.layer ≡ true = (and_parts (place.channel == a.channel) _ e).1 in
      absurd (false≢true (sym apart ∙ eq-eqb a.layer place.layer (sym (eqb-true place.layer a.layer same))))
]

swapped-other : (a b place : PlaceView) → same_place place a ≡ false → same_place place b ≡ false → (swapped_place a b place).layer ≡ place.layer
swapped-other a b place not_a not_b =
    ap {A = PlaceView} (λ p. p.layer)
    (cond-false (same_place place a) b _ not_a ∙ cond-false (same_place place b) a place not_b)

channel_swapped : (a b : ℕ) (place : PlaceView) → (channel_swapped_place a b place).layer ≡ place.layer
channel_swapped a b place = by_case (place.channel == a) (place.channel == b)
  where
    by_case : (is_a is_b : Bool) →
        (if is_a then record place { channel = b } else (if is_b then record place { channel = a } else place)).layer ≡ place.layer
    by_case true is_b = refl
    by_case false true = refl
    by_case false false = refl

origin_layer : (cmd : Cmd) (place : PlaceView) (found : List ℕ) → is_in place.layer (with_layers_of cmd found) ≡ false →
    (content_origin cmd place).layer ≡ place.layer
origin_layer (Load at take) place found e = refl
origin_layer (LoadBg at take) place found e = refl
origin_layer (Play at) place found e = refl
origin_layer (PlayTake at take) place found e = refl
origin_layer (Pause at) place found e = refl
origin_layer (Resume at) place found e = refl
origin_layer (StopLayer at) place found e = refl
origin_layer (ClearLayer at) place found e = refl
origin_layer (ClearChannel channel) place found e = refl
origin_layer (SwapLayers a b transforms) place found e =
    let first = apart_from place.layer a.layer (with_number b.layer found) e in
    let second = apart_from place.layer b.layer found first.1 in
    swapped-other a b place (other_layer a place first.0) (other_layer b place second.0)
origin_layer (SwapChannels a b transforms) place found e = channel_swapped a b place
origin_layer (Set setting) place found e = refl
origin_layer (CommitMixer channel) place found e = refl
origin_layer (ResetLayer at) place found e = refl
origin_layer (ResetChannel channel) place found e = refl
origin_layer (AddFile marked name) place found e = refl
origin_layer (RemoveFile marked) place found e = refl
origin_layer (Value at prop) place found e = refl
origin_layer Info place found e = refl

-- an act on an empty place that leaves it empty, or none
still_empty : (on : Bool) (act : Act) (earlier : List Act) (t : ℕ) → ((u : ℕ) → life earlier u ≡ empty_place) →
    (on ≡ true → effect act.cmd empty_place ≡ empty_place) → life (if on then act ∷ earlier else earlier) t ≡ empty_place
still_empty true act earlier t was leaves =
    ap (λ (s : Life). after s (t - act.ticks)) (ap (effect act.cmd) (was act.ticks) ∙ leaves refl)
still_empty false act earlier t was leaves = was t

-- a layer that no act loaded or swapped holds nothing
pub state-other_layer : (acts : List Act) (t : ℕ) (place : PlaceView) → is_in place.layer (layers acts) ≡ false → state acts t place ≡ empty_place
state-other_layer [] t place e = refl
state-other_layer (act ∷ before) t place e =
    let origin : PlaceView = content_origin act.cmd place in
    let was : is_in origin.layer (layers before) ≡ false =
    ap (λ n. is_in n (layers before)) (origin_layer act.cmd place (layers before) e) ∙ was_apart place.layer act.cmd (layers before) e in
    still_empty (acts_on_content act.cmd place) act (trail before origin) t
    (λ u. state-other_layer before u origin was) (leaves_empty act.cmd place (layers before) e)

-- the live ones among numbers, each with its life
abbrev chosen : (ℕ → Life) → List ℕ → Places
chosen f numbers = map (λ n. (n, f n)) (filter (λ n. is_live (f n)) numbers)

-- the list has at each number its life, if a number that is left out has an empty one
standing-more : (f : ℕ → Life) (m n : ℕ) (live : Bool) (numbers : List ℕ) → is_live (f m) ≡ live → (m ≡ n) ⊎ (m ≡ n → ⊥) →
    ((eqb m n || is_in n numbers) ≡ false → f n ≡ empty_place) →
    ((is_in n numbers ≡ false → f n ≡ empty_place) → standing (chosen f numbers) n ≡ f n) →
    standing (map (λ k. (k, f k)) (cond live (m ∷ filter (λ k. is_live (f k)) numbers) (filter (λ k. is_live (f k)) numbers))) n ≡ f n
standing-more f m n true numbers e (inl same) out rest =
    cond-true (eqb m n) (f m) (standing (chosen f numbers) n) (eq-eqb m n same) ∙ ap f same
standing-more f m n true numbers e (inr apart) out rest =
    cond-false (eqb m n) (f m) (standing (chosen f numbers) n) (ne_eqb m n apart)
    ∙ rest (λ o. out (ap (λ b. b || is_in n numbers) (ne_eqb m n apart) ∙ o))
standing-more f m n false numbers e (inl same) out rest =
    rest (λ o. empty_unless_live (f n) (sym (ap (λ k. is_live (f k)) same) ∙ e))
standing-more f m n false numbers e (inr apart) out rest =
    rest (λ o. out (ap (λ b. b || is_in n numbers) (ne_eqb m n apart) ∙ o))

standing-chosen : (f : ℕ → Life) (numbers : List ℕ) (n : ℕ) → (is_in n numbers ≡ false → f n ≡ empty_place) →
    standing (chosen f numbers) n ≡ f n
standing-chosen f [] n out = sym (out refl)
standing-chosen f (m ∷ numbers) n out =
    standing-more f m n (is_live (f m)) numbers refl (cases_eq m n) out (standing-chosen f numbers n)

-- the list is a list of places if the numbers rise
above_more : (f : ℕ → Life) (m n : ℕ) (live : Bool) (numbers : List ℕ) → m < n → AreAbove m (chosen f numbers) →
    AreAbove m (map (λ k. (k, f k)) (cond live (n ∷ filter (λ k. is_live (f k)) numbers) (filter (λ k. is_live (f k)) numbers)))
above_more f m n true numbers low above = (low, above)
above_more f m n false numbers low above = above

AreAbove-chosen : (f : ℕ → Life) (m : ℕ) (numbers : List ℕ) → AreMore m numbers → AreAbove m (chosen f numbers)
AreAbove-chosen f m [] more = tt
AreAbove-chosen f m (n ∷ numbers) more = above_more f m n (is_live (f n)) numbers more.0 (AreAbove-chosen f m numbers more.1)

places_more : (f : ℕ → Life) (m : ℕ) (live : Bool) (numbers : List ℕ) → is_live (f m) ≡ live → AreAbove m (chosen f numbers) →
    ArePlaces (chosen f numbers) →
    ArePlaces (map (λ k. (k, f k)) (cond live (m ∷ filter (λ k. is_live (f k)) numbers) (filter (λ k. is_live (f k)) numbers)))
places_more f m true numbers e above rest = (e, above, rest)
places_more f m false numbers e above rest = rest

ArePlaces-chosen : (f : ℕ → Life) (numbers : List ℕ) → AreRising numbers → ArePlaces (chosen f numbers)
ArePlaces-chosen f [] rising = tt
ArePlaces-chosen f (m ∷ numbers) rising =
    places_more f m (is_live (f m)) numbers refl (AreAbove-chosen f m numbers rising.0) (ArePlaces-chosen f numbers rising.1)

-- the live places of a channel are in rising layer, are live, and have at each layer what it holds
pub ArePlaces-live : (acts : List Act) (t channel : ℕ) → ArePlaces (live_places acts t channel)
ArePlaces-live acts t channel =
    ArePlaces-chosen (λ layer. state acts t (record { channel = channel; layer = layer })) (layers acts) (AreRising-layers acts)

pub standing-live : (acts : List Act) (t channel layer : ℕ) →
    standing (live_places acts t channel) layer ≡ state acts t (record { channel = channel; layer = layer })
standing-live acts t channel layer =
    standing-chosen (λ n. state acts t (record { channel = channel; layer = n })) (layers acts) layer
    (state-other_layer acts t (record { channel = channel; layer = layer }))
