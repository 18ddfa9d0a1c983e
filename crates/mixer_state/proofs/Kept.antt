-- What a mixer keeps.
use Rattle.std.proofs.Common.{◌≡◌, ℕ, ◌+◌, ◌<◌, List, [], length, get_or, set, replicate, zero, suc, ◌-◌, inl, inr, sym, ap, ◌∙◌, subst, arith, length-set}
use Rattle.std.proofs.lemmas.Bool.{cases_eq}
use Rattle.std.proofs.lemmas.List.{get_or_default, get_or-set_other, get_or-set_same}
use Rattle.std.proofs.lemmas.List.Elements.{All-nil}
use Rattle.play_types.specs.Scene.{IsConfigured}
use Rattle.play_types.specs.Setting.{SettingView}
use Rattle.mixer_state.specs.Entries.{table_of}
use Rattle.mixer_state.specs.Found.{PlacesView}
use Rattle.mixer_state.specs.Kept.{AreOn, IsKept}
use Rattle.mixer_state.specs.Ranges.{AreRunning}

-- the waiting settings of each channel, once those of one are replaced
pub on-set : (waiting : List (List SettingView)) (at : ℕ) (settings : List SettingView) → at < length waiting → AreOn (at + 1) settings →
    ((i : ℕ) → AreOn (i + 1) (get_or waiting i [])) → (i : ℕ) → AreOn (i + 1) (get_or (set waiting at settings) i [])
on-set waiting at settings within on before i =
    elim (cases_eq i at) [
      | inl e ↦
          subst (λ (n : ℕ). AreOn (n + 1) (get_or (set waiting at settings) n [])) (sym e)
          (subst (AreOn (at + 1)) (sym (get_or-set_same waiting at settings [] within)) on)
      | inr n ↦ subst (AreOn (i + 1)) (sym (get_or-set_other waiting at i settings [] n)) (before i)
    ]

pub IsKept-places : (places after : PlacesView) (latest later : ℕ) (waiting : List (List SettingView)) → IsKept places latest waiting →
    after.channels ≡ places.channels → AreRunning later (table_of after.entries) → IsKept after later waiting
IsKept-places places after latest later waiting kept same running = record {
  counted = kept.counted ∙ sym same;
  running = running;
  on_channels = kept.on_channels;
}

pub IsKept-waiting : (places : PlacesView) (latest at : ℕ) (waiting : List (List SettingView)) (settings : List SettingView) → IsKept places latest waiting →
    at < length waiting → AreOn (at + 1) settings → IsKept places latest (set waiting at settings)
IsKept-waiting places latest at waiting settings kept within on = record {
  counted = length-set waiting at settings ∙ kept.counted;
  running = kept.running;
  on_channels = on-set waiting at settings within on kept.on_channels;
}

-- the settings that were found to wait on a channel are those of its list
pub waited-at : (waiting : List (List SettingView)) (channel n : ℕ) (settings found : List SettingView) → IsConfigured (length waiting) channel →
    n ≡ channel → found ≡ get_or waiting (n - 1) found → settings ≡ found → settings ≡ get_or waiting (channel - 1) []
waited-at waiting channel n settings found of_channel e is_found same =
    same ∙ is_found ∙ ap (λ (k : ℕ). get_or waiting (k - 1) found) e
    ∙ get_or_default waiting (channel - 1) found [] (omega (arith, of_channel.0, of_channel.1))

-- no setting waits
pub AreOn-none : (channel n i : ℕ) → AreOn channel (get_or (replicate n []) i [])
AreOn-none channel zero i = All-nil (λ (setting : SettingView). setting.place.channel ≡ channel)
AreOn-none channel (suc n) zero = All-nil (λ (setting : SettingView). setting.place.channel ≡ channel)
AreOn-none channel (suc n) (suc i) = AreOn-none channel n i
