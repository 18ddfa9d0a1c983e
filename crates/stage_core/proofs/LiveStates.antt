-- A live state that shows a stage shows it after each command too, and refuses what the stage refuses.
use Rattle.std.proofs.Common.{◌≡◌, ℕ, ◌+◌, ◌-◌, ◌<◌, ◌≤◌, eqb, Bool, true, false, ◌&&◌, ◌⊎◌, inl, inr, List, [], length, get_or, set, refl, sym, ap, ◌∙◌, arith, eq-eqb, ne_eqb, length-set, if◌then◌else◌}
use Rattle.std.proofs.lemmas.Bool.{cases_eq, cond-true, cond-false}
use Rattle.std.proofs.lemmas.List.{get_or-set_same, get_or-set_other}
use Rattle.std.proofs.lemmas.List.Edits.{swap_is}
use Rattle.std.specs.List.{swap}
use Rattle.play_types.specs.ChannelItems.{with_channel_item}
use Rattle.play_types.specs.Place.{PlaceView}
use Rattle.play_types.specs.Scene.{IsConfigured}
use Rattle.play_types.specs.Setting.{SettingView}
use Rattle.play_types.specs.declared.command.Cmd.{Cmd}
use Rattle.play_types.specs.declared.command.Cmd.TheVariants.{Load, LoadBg, Play, PlayTake, Pause, Resume, StopLayer, ClearLayer, ClearChannel, SwapLayers, SwapChannels, Set, CommitMixer, ResetLayer, ResetChannel, AddFile, RemoveFile, Value, Info}
use Rattle.history_model.specs.stage.Life.{Life, effect}
use Rattle.history_model.specs.stage.Places.{Places, changed_at, standing, with_place}
use Rattle.history_model.specs.stage.StageState.{exchanged, exchanged_channel, live_after, placed_at, waiting_count_after}
use Rattle.history_model.specs.commands.Channels.{IsServed}
use Rattle.stage_core.specs.LiveState.{LiveView, Channels, live_with, changed_place, count_of, life_at, places_of, with_exchanged, with_life}

-- an element of a list that is written over, and the others
pub at_one : {X : Type 0} (xs : List X) (x d : X) (at k : ℕ) → IsConfigured (length xs) at → IsConfigured (length xs) k →
    get_or (set xs (at - 1) x) (k - 1) d ≡ (if eqb at k then x else get_or xs (k - 1) d)
at_one xs x d at k a c = elim (cases_eq at k) [
  | inl e ↦
      let same : k - 1 ≡ at - 1 = omega arith in
      let within : at - 1 < length xs = omega (arith, a.0, a.1) in
      ap (λ i. get_or (set xs (at - 1) x) i d) same ∙ get_or-set_same xs (at - 1) x d within
      ∙ sym (cond-true (eqb at k) x (get_or xs (k - 1) d) (eq-eqb at k e))
  | inr apart ↦
      get_or-set_other xs (at - 1) (k - 1) x d (λ same. apart (omega (arith, a.0, c.0)))
      ∙ sym (cond-false (eqb at k) x (get_or xs (k - 1) d) (ne_eqb at k apart))
]

-- a layer is put at a place
module _ (channels : Channels) where
  pub length-with_life : (at : PlaceView) (life : Life) → length (with_life at life channels) ≡ length channels
  length-with_life at life = length-set channels (at.channel - 1) (with_place (places_of at.channel channels) at.layer life)

  pub places_of-with_life : (at : PlaceView) (life : Life) (k : ℕ) → IsConfigured (length channels) at.channel → IsConfigured (length channels) k →
      places_of k (with_life at life channels) ≡ placed_at at life k (places_of k channels)
  places_of-with_life at life k a c =
      at_one channels (with_place (places_of at.channel channels) at.layer life) [] at.channel k a c
      ∙ elim (cases_eq at.channel k) [
        | inl e ↦
            cond-true (eqb at.channel k) (with_place (places_of at.channel channels) at.layer life) (places_of k channels) (eq-eqb at.channel k e)
            ∙ ap (λ (n : ℕ). with_place (places_of n channels) at.layer life) e
            ∙ sym (cond-true (eqb at.channel k) (with_place (places_of k channels) at.layer life) (places_of k channels) (eq-eqb at.channel k e))
        | inr apart ↦
            cond-false (eqb at.channel k) (with_place (places_of at.channel channels) at.layer life) (places_of k channels) (ne_eqb at.channel k apart)
            ∙ sym (cond-false (eqb at.channel k) (with_place (places_of k channels) at.layer life) (places_of k channels) (ne_eqb at.channel k apart))
      ]

  places_of-changed : (at : PlaceView) (cmd : Cmd) (k : ℕ) → IsConfigured (length channels) at.channel → IsConfigured (length channels) k →
      places_of k (changed_place at cmd channels) ≡ changed_at at cmd k (places_of k channels)
  places_of-changed at cmd k a c =
      places_of-with_life at (effect cmd (life_at at channels)) k a c
      ∙ elim (cases_eq at.channel k) [
        | inl e ↦
            ap (λ (n : ℕ). placed_at at (effect cmd (standing (places_of n channels) at.layer)) k (places_of k channels)) e
        | inr apart ↦
            cond-false (eqb at.channel k) (with_place (places_of k channels) at.layer (effect cmd (life_at at channels))) (places_of k channels) (ne_eqb at.channel k apart)
            ∙ sym (cond-false (eqb at.channel k) (with_place (places_of k channels) at.layer (effect cmd (standing (places_of k channels) at.layer))) (places_of k channels)
            (ne_eqb at.channel k apart))
      ]

  pub length-with_exchanged : (a b : PlaceView) → length (with_exchanged a b channels) ≡ length channels
  length-with_exchanged a b =
      let middle : Channels = with_life a (life_at b channels) channels in
      length-set middle (b.channel - 1) (with_place (places_of b.channel middle) b.layer (life_at a channels))
      ∙ length-with_life a (life_at b channels)

-- two places are exchanged
places_of-exchanged : (channels : Channels) (a b : PlaceView) (k : ℕ) → IsConfigured (length channels) a.channel → IsConfigured (length channels) b.channel →
    IsConfigured (length channels) k →
    places_of k (with_exchanged a b channels) ≡ exchanged a b (λ n. places_of n channels) k
places_of-exchanged channels a b k first second c =
    let middle : Channels = with_life a (life_at b channels) channels in
    let count : length middle ≡ length channels = length-with_life channels a (life_at b channels) in
    let there : IsConfigured (length middle) b.channel = (second.0, omega (arith, second.1, count)) in
    let here : IsConfigured (length middle) k = (c.0, omega (arith, c.1, count)) in
    places_of-with_life middle b (life_at a channels) k there here
    ∙ ap (placed_at b (life_at a channels) k) (places_of-with_life channels a (life_at b channels) k first c)

-- and all places of two channels
places_of-swap : (channels : Channels) (a b k : ℕ) → IsConfigured (length channels) a → IsConfigured (length channels) b → IsConfigured (length channels) k →
    places_of k (swap channels (a - 1) (b - 1)) ≡ places_of (exchanged_channel a b k) channels
places_of-swap channels a b k first second c =
    let in_a : a - 1 < length channels = omega (arith, first.0, first.1) in
    let in_b : b - 1 < length channels = omega (arith, second.0, second.1) in
    let middle : Channels = set channels (a - 1) (places_of b channels) in
    let count : length middle ≡ length channels = length-set channels (a - 1) (places_of b channels) in
    let there : IsConfigured (length middle) b = (second.0, omega (arith, second.1, count)) in
    let here : IsConfigured (length middle) k = (c.0, omega (arith, c.1, count)) in
    let both : places_of k (swap channels (a - 1) (b - 1))
    ≡ (if eqb b k then places_of a channels else (if eqb a k then places_of b channels else places_of k channels)) =
    ap (places_of k) (sym (swap_is channels (a - 1) (b - 1) [] in_a in_b))
    ∙ at_one middle (places_of a channels) [] b k there here
    ∙ ap (λ (rest : Places). if eqb b k then places_of a channels else rest) (at_one channels (places_of b channels) [] a k first c) in
    both ∙ by_cases (cases_eq k a) (cases_eq k b)
  where
    by_cases : ((k ≡ a) ⊎ (k ≡ a → ⊥)) → ((k ≡ b) ⊎ (k ≡ b → ⊥)) →
        (if eqb b k then places_of a channels else (if eqb a k then places_of b channels else places_of k channels))
        ≡ places_of (if eqb k a then b else (if eqb k b then a else k)) channels
    by_cases (inl e) (inl f) =
        cond-true (eqb b k) _ _ (eq-eqb b k (sym f)) ∙ ap (λ n. places_of n channels) (sym e ∙ f)
        ∙ ap (λ n. places_of n channels) (sym (cond-true (eqb k a) b (if eqb k b then a else k) (eq-eqb k a e)))
    by_cases (inl e) (inr g) =
        cond-false (eqb b k) _ _ (ne_eqb b k (λ f. g (sym f))) ∙ cond-true (eqb a k) _ _ (eq-eqb a k (sym e))
        ∙ ap (λ n. places_of n channels) (sym (cond-true (eqb k a) b (if eqb k b then a else k) (eq-eqb k a e)))
    by_cases (inr g) (inl f) =
        cond-true (eqb b k) _ _ (eq-eqb b k (sym f))
        ∙ ap (λ n. places_of n channels) (sym (cond-false (eqb k a) b (if eqb k b then a else k) (ne_eqb k a g) ∙ cond-true (eqb k b) a k (eq-eqb k b f)))
    by_cases (inr g) (inr h) =
        cond-false (eqb b k) _ _ (ne_eqb b k (λ f. h (sym f))) ∙ cond-false (eqb a k) _ _ (ne_eqb a k (λ f. g (sym f)))
        ∙ ap (λ n. places_of n channels) (sym (cond-false (eqb k a) b (if eqb k b then a else k) (ne_eqb k a g) ∙ cond-false (eqb k b) a k (ne_eqb k b h)))

-- the places after a command, channel by channel
module _ (live : LiveView) (k : ℕ) (c : IsConfigured (length live.places) k) where
  pub places_after : (cmd : Cmd) → IsServed (length live.places) cmd →
      places_of k (live_with cmd live).places ≡ live_after cmd (λ n. places_of n live.places) k
  places_after (Load at take) h = places_of-changed live.places at (Load at take) k h.0 c
  places_after (LoadBg at take) h = places_of-changed live.places at (LoadBg at take) k h.0 c
  places_after (Play at) h = places_of-changed live.places at (Play at) k h c
  places_after (PlayTake at take) h = places_of-changed live.places at (PlayTake at take) k h.0 c
  places_after (Pause at) h = places_of-changed live.places at (Pause at) k h c
  places_after (Resume at) h = places_of-changed live.places at (Resume at) k h c
  places_after (StopLayer at) h = places_of-changed live.places at (StopLayer at) k h c
  places_after (ClearLayer at) h = places_of-changed live.places at (ClearLayer at) k h c
  places_after (ClearChannel cleared) h = at_one live.places [] [] cleared k h c
  places_after (SwapLayers a b transforms) h = places_of-exchanged live.places a b k h.0 h.1 c
  places_after (SwapChannels a b transforms) h = places_of-swap live.places a b k h.0 h.1 c
  places_after (Set setting) h = refl
  places_after (CommitMixer committed) h = refl
  places_after (ResetLayer at) h = refl
  places_after (ResetChannel reset) h = refl
  places_after (AddFile marked name) h = refl
  places_after (RemoveFile marked) h = refl
  places_after (Value at prop) h = refl
  places_after Info h = refl

-- the numbers of waiting settings after a command
setting_counted : (setting : SettingView) (deferred : Bool) (waiting : List ℕ) (k : ℕ) → IsConfigured (length waiting) setting.place.channel → IsConfigured (length waiting) k →
    count_of k (if deferred then with_channel_item setting.place.channel (count_of setting.place.channel waiting + 1) waiting else waiting)
    ≡ (if deferred && eqb setting.place.channel k then 1 + count_of k waiting else count_of k waiting)
setting_counted setting false waiting k a c = refl
setting_counted setting true waiting k a c =
    let at : ℕ = setting.place.channel in
    at_one waiting (count_of at waiting + 1) 0 at k a c
    ∙ elim (cases_eq at k) [
      | inl e ↦
          let more : count_of at waiting + 1 ≡ 1 + count_of k waiting = ap (λ (n : ℕ). count_of n waiting + 1) e ∙ omega arith in
          ap (λ (n : ℕ). if eqb at k then n else count_of k waiting) more
      | inr apart ↦
          cond-false (eqb at k) (count_of at waiting + 1) (count_of k waiting) (ne_eqb at k apart)
          ∙ sym (cond-false (eqb at k) (1 + count_of k waiting) (count_of k waiting) (ne_eqb at k apart))
    ]

pub waiting_after : (cmd : Cmd) (live : LiveView) (n k : ℕ) → n ≤ length live.waiting → IsServed n cmd → IsConfigured (length live.waiting) k →
    count_of k (live_with cmd live).waiting ≡ waiting_count_after cmd k (count_of k live.waiting)
waiting_after (Load at take) live n k few h c = refl
waiting_after (LoadBg at take) live n k few h c = refl
waiting_after (Play at) live n k few h c = refl
waiting_after (PlayTake at take) live n k few h c = refl
waiting_after (Pause at) live n k few h c = refl
waiting_after (Resume at) live n k few h c = refl
waiting_after (StopLayer at) live n k few h c = refl
waiting_after (ClearLayer at) live n k few h c = refl
waiting_after (ClearChannel cleared) live n k few h c = refl
waiting_after (SwapLayers a b transforms) live n k few h c = refl
waiting_after (SwapChannels a b transforms) live n k few h c = refl
waiting_after (Set setting) live n k few h c = setting_counted setting setting.deferred live.waiting k (h.0, omega (arith, h.1)) c
waiting_after (CommitMixer committed) live n k few h c = at_one live.waiting 0 0 committed k (h.0, omega (arith, h.1)) c
waiting_after (ResetLayer at) live n k few h c = refl
waiting_after (ResetChannel reset) live n k few h c = refl
waiting_after (AddFile marked name) live n k few h c = refl
waiting_after (RemoveFile marked) live n k few h c = refl
waiting_after (Value at prop) live n k few h c = refl
waiting_after Info live n k few h c = refl
