-- By when acts came, and which commands keep a list of live places within its limit.
use Rattle.std.proofs.Common.{◌≡◌, ℕ, ◌≤◌, ◌==◌, Bool, true, false, ◌||◌, inl, inr, List, [], ◌∷◌, ◌++◌, length, refl, sym, ap, ◌∙◌, arith, is_some, ne_eqb, if◌then◌else◌}
use Rattle.std.proofs.lemmas.Bool.{false≢true, cases_eq, or_right}
use Rattle.std.specs.Prelude.{Option, Some, None, option_map}
use Rattle.std.specs.List.{list_any}
use Rattle.play_types.specs.Place.{PlaceView}
use Rattle.play_types.specs.Take.{TakeView}
use Rattle.play_types.specs.declared.command.Cmd.{Cmd}
use Rattle.play_types.specs.declared.command.Cmd.TheVariants.{Load, LoadBg, Play, PlayTake, Pause, Resume, StopLayer, ClearLayer, ClearChannel, SwapLayers, SwapChannels, Set, CommitMixer, ResetLayer, ResetChannel, AddFile, RemoveFile, Value, Info}
use Rattle.history_model.specs.stage.Act.{Act, acts_of}
use Rattle.history_model.specs.stage.Life.{Life, Foreground, after_play, effect, with_mark}
use Rattle.history_model.specs.stage.Live.{is_live}
use Rattle.history_model.specs.stage.Places.{AreBy, ArePlaces, Places, changed_at, standing}
use Rattle.history_model.proofs.places.Lists.{length-with_place}
use Rattle.history_model.proofs.places.Layers.{is_in}

-- the acts of commands after `t` ticks are no later
pub AreBy-more : (acts : List Act) (t : ℕ) (cmd : Cmd) → t ≤ t → AreBy t acts → AreBy t (acts_of t cmd ++ acts)
AreBy-more acts t (Load at take) now by = (now, by)
AreBy-more acts t (LoadBg at take) now by = (now, by)
AreBy-more acts t (Play at) now by = (now, by)
AreBy-more acts t (PlayTake at take) now by = (now, (now, by))
AreBy-more acts t (Pause at) now by = (now, by)
AreBy-more acts t (Resume at) now by = (now, by)
AreBy-more acts t (StopLayer at) now by = (now, by)
AreBy-more acts t (ClearLayer at) now by = (now, by)
AreBy-more acts t (ClearChannel cleared) now by = (now, by)
AreBy-more acts t (SwapLayers a b transforms) now by = (now, by)
AreBy-more acts t (SwapChannels a b transforms) now by = (now, by)
AreBy-more acts t (Set setting) now by = (now, by)
AreBy-more acts t (CommitMixer committed) now by = (now, by)
AreBy-more acts t (ResetLayer at) now by = (now, by)
AreBy-more acts t (ResetChannel reset) now by = (now, by)
AreBy-more acts t (AddFile marked name) now by = by
AreBy-more acts t (RemoveFile marked) now by = by
AreBy-more acts t (Value at prop) now by = by
AreBy-more acts t Info now by = by

pub AreBy-later : (acts : List Act) (m n : ℕ) → m ≤ n → AreBy m acts → AreBy n acts
AreBy-later [] m n low by = tt
AreBy-later (act ∷ before) m n low by = (omega (arith, by.0), AreBy-later before m n low by.1)

-- some commands make no place live
pub was_played : (background : Option TakeView) (s : Life) → s.background ≡ background → is_live (after_play background s) ≡ true → is_live s ≡ true
was_played None s e live = paused_live false s live
  where
    paused_live : (paused : Bool) (s : Life) → (is_some (option_map (with_mark paused) s.foreground) || is_some s.background) ≡ true → is_live s ≡ true
    paused_live paused s live = by_foreground s.foreground live
      where
        by_foreground : (foreground : Option Foreground) → (is_some (option_map (with_mark paused) foreground) || is_some s.background) ≡ true →
            (is_some foreground || is_some s.background) ≡ true
        by_foreground None live = live
        by_foreground (Some f) live = refl
was_played (Some take) s e live = or_right (is_some s.foreground) (is_some s.background) (ap is_some e)

pub was_marked : (paused : Bool) (foreground : Option Foreground) (backed : Bool) → (is_some (option_map (with_mark paused) foreground) || backed) ≡ true →
    (is_some foreground || backed) ≡ true
was_marked paused None backed live = live
was_marked paused (Some f) backed live = refl

-- commands that make no place live make no list of places longer
pub no_longer : (here : Bool) (changed places : Places) → length changed ≤ length places → length (if here then changed else places) ≤ length places
no_longer true changed places fewer = fewer
no_longer false changed places fewer = omega arith

pub no_longer_at : (at : PlaceView) (cmd : Cmd) (channel : ℕ) (places : Places) → ArePlaces places →
    ((s : Life) → is_live (effect cmd s) ≡ true → is_live s ≡ true) → length (changed_at at cmd channel places) ≤ length places
no_longer_at at cmd channel places p was =
    no_longer (at.channel == channel) _ places
    (length-with_place places at.layer (effect cmd (standing places at.layer)) p (was (standing places at.layer)))

-- if no number passes a test, none of a list does, and if a number of a list passes it, `list_any` is true
pub none_passes : (test : ℕ → Bool) (numbers : List ℕ) → ((n : ℕ) → test n ≡ false) → list_any test numbers ≡ false
none_passes test [] each = refl
none_passes test (n ∷ numbers) each = ap (λ (b : Bool). b || list_any test numbers) (each n) ∙ none_passes test numbers each

pub one_passes : (test : ℕ → Bool) (numbers : List ℕ) (n : ℕ) → is_in n numbers ≡ true → test n ≡ true → list_any test numbers ≡ true
one_passes test [] n among passes = absurd (false≢true among)
one_passes test (m ∷ numbers) n among passes = elim (cases_eq m n) [
  | inl e ↦ ap (λ (b : Bool). b || list_any test numbers) (ap test e ∙ passes)
  | inr apart ↦
      or_right (test m) (list_any test numbers)
      (one_passes test numbers n (sym (ap (λ (b : Bool). b || is_in n numbers) (ne_eqb m n apart)) ∙ among) passes)
]
