use Rattle.std.proofs.Common.{◌≡◌, ◌++◌, ◌∷◌, ◌-◌, ◌<◌, [], ℕ, List, length, get_or, set, sym, ap, ◌∙◌, subst, arith, length-set, ◌==◌, if◌then◌else◌}
use Rattle.std.proofs.lemmas.List.{get_or_default}
use Rattle.play_types.specs.Place.{PlaceView}
use Rattle.play_types.specs.Scene.{IsConfigured}
use Rattle.play_types.specs.Setting.{SettingView}
use Rattle.mixer_state.specs.Entries.{deferred_setting, waiting_lists}
use Rattle.mixer_state.specs.Mixer.{MixerView, waiting_on}
use Rattle.mixer_state.proofs.Pasts.{takes_deferred, waiting-push}
use Rattle.mixer_state.proofs.mixer.Mixer.defer.Goals as goal

pub returns-clause-acts : goal.returns-clause-acts
returns-clause-acts c ticks =
    let setting : SettingView = c.args.setting.now in
    let channel : ℕ = setting.place.channel in
    let lists : List (List SettingView) = c.self.inside.waiting.items in
    let count : length lists ≡ c.args.self.now.channels = ap (λ (m : MixerView). m.channels) c.self.view_is in
    let configured = λ (n : ℕ) (h : IsConfigured c.args.self.now.channels n). subst (λ (k : ℕ). IsConfigured k n) (sym count) h in
    let within : channel - 1 < length lists = omega (arith, c.requires.0, c.requires.1, count) in
    let at : c.from.result ≡ channel = c.from.ensures ∙ c.channel.ensures.value ∙ ap (λ (p : PlaceView). p.channel) c.place.ensures in
    let earlier : c.index_mut-waiting.result.now ≡ get_or lists (channel - 1) [] =
    c.index_mut-waiting.ensures.value ∙ ap (λ (n : ℕ). get_or lists (n - 1) c.index_mut-waiting.result.now) at
    ∙ get_or_default lists (channel - 1) c.index_mut-waiting.result.now [] within in
    let after : set lists (c.from.result - 1) c.push.new.self ≡ set lists (channel - 1) (get_or lists (channel - 1) [] ++ setting ∷ []) =
    ap (λ (n : ℕ). set lists (n - 1) c.push.new.self) at
    ∙ ap (set lists (channel - 1)) (c.push.ensures ∙ ap (λ (xs : List SettingView). xs ++ setting ∷ []) earlier) in
    takes_deferred c.args.self.now _ setting ticks (ap (λ (m : MixerView). m.tuned) c.self.view_is)
    (length-set lists (c.from.result - 1) c.push.new.self ∙ count) (ap (λ (m : MixerView). m.latest) c.self.view_is)
    (λ other of_other.
    ap (λ (xs : List (List SettingView)). get_or (waiting_lists xs) (other - 1) []) after
    ∙ waiting-push lists channel other (configured channel c.requires) (configured other of_other) setting
    ∙ ap (λ (m : MixerView). if channel == other then deferred_setting setting ∷ waiting_on m other else waiting_on m other) c.self.view_is)
