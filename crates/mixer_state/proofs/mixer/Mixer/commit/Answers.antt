use Rattle.std.proofs.Common.{◌≡◌, ◌-◌, ◌+◌, ◌<◌, ◌==◌, [], ℕ, List, length, get_or, set, sym, ap, ◌∙◌, subst, arith, length-set, if◌then◌else◌}
use Rattle.std.proofs.lemmas.List.Elements.{All-nil}
use Rattle.play_types.specs.Scene.{IsConfigured}
use Rattle.play_types.specs.Setting.{SettingView}
use Rattle.mixer_state.specs.Entries.{table_of, waiting_lists}
use Rattle.mixer_state.specs.Mixer.{MixerView, waiting_on}
use Rattle.mixer_state.specs.inner.Changes.{with_settings}
use Rattle.mixer_state.specs.Kept.{AreOn, IsKept}
use Rattle.mixer_state.proofs.Kept.{IsKept-places, IsKept-waiting, waited-at}
use Rattle.mixer_state.proofs.Pasts.{commit_represents, waiting-at, waiting-clear}
use Rattle.mixer_state.proofs.mixer.Mixer.commit.Goals as goal

pub start_all-requires-clause-on : goal.start_all-requires-clause-on
start_all-requires-clause-on c =
    let channel : ℕ = c.args.channel in
    let one : channel - 1 + 1 ≡ channel = omega (arith, c.requires.channel.0) in
    subst (AreOn channel) (sym (waited-at c.self.inside.waiting.items c.args.channel c.from.result c.as_slice.result.now c.index_mut-waiting.result.now
    (subst (λ (m : MixerView). IsConfigured m.channels c.args.channel) (sym c.self.view_is) c.requires.channel)
    c.from.ensures c.index_mut-waiting.ensures.value c.as_slice.ensures.value))
    (subst (λ (n : ℕ). AreOn n (get_or c.self.inside.waiting.items (channel - 1) [])) one (c.self.invariant.on_channels (channel - 1)))

pub invariant_of-self-2 : goal.invariant_of-self-2
invariant_of-self-2 c =
    let inside = c.self.inside in
    let lists : List (List SettingView) = inside.waiting.items in
    let within : c.args.channel - 1 < length lists =
    omega (arith, c.requires.channel.0, c.requires.channel.1, ap (λ (m : MixerView). m.channels) c.self.view_is) in
    let after : set lists (c.from.result - 1) c.clear.new.self ≡ set lists (c.args.channel - 1) [] =
    ap (λ (n : ℕ). set lists (n - 1) c.clear.new.self) c.from.ensures ∙ ap (set lists (c.args.channel - 1)) c.clear.ensures in
    subst (IsKept c.start_all.new.self c.args.ticks) (sym after)
    (IsKept-waiting c.start_all.new.self c.args.ticks (c.args.channel - 1) lists []
    (IsKept-places inside.places c.start_all.new.self inside.latest c.args.ticks lists c.self.invariant c.start_all.ensures.channels c.start_all.ensures.running)
    within (All-nil (λ (setting : SettingView). setting.place.channel ≡ c.args.channel - 1 + 1)))

pub returns-clause-acts : goal.returns-clause-acts
returns-clause-acts c acts represents =
    let inside = c.self.inside in
    let channel : ℕ = c.args.channel in
    let lists : List (List SettingView) = inside.waiting.items in
    let settings : List SettingView = get_or lists (channel - 1) [] in
    let count : length lists ≡ c.args.self.now.channels = ap (λ (m : MixerView). m.channels) c.self.view_is in
    let configured = λ (n : ℕ) (h : IsConfigured c.args.self.now.channels n). subst (λ (k : ℕ). IsConfigured k n) (sym count) h in
    let after : set lists (c.from.result - 1) c.clear.new.self ≡ set lists (channel - 1) [] =
    ap (λ (n : ℕ). set lists (n - 1) c.clear.new.self) c.from.ensures ∙ ap (set lists (channel - 1)) c.clear.ensures in
    commit_represents c.args.self.now _ acts c.args.ticks represents channel settings
    (sym (ap (λ (m : MixerView). waiting_on m channel) c.self.view_is) ∙ waiting-at lists channel (configured channel c.requires.channel))
    c.requires.channel
    (c.in_ok-start_all.ensures.ok
    ∙ ap (with_settings c.args.ticks (table_of inside.places.entries)) (waited-at c.self.inside.waiting.items c.args.channel c.from.result c.as_slice.result.now c.index_mut-waiting.result.now
    (subst (λ (m : MixerView). IsConfigured m.channels c.args.channel) (sym c.self.view_is) c.requires.channel)
    c.from.ensures c.index_mut-waiting.ensures.value c.as_slice.ensures.value)
    ∙ ap (λ (m : MixerView). with_settings c.args.ticks (table_of m.tuned) settings) c.self.view_is)
    (length-set lists (c.from.result - 1) c.clear.new.self ∙ count) (omega arith)
    (λ other of_other.
    ap (λ (xs : List (List SettingView)). get_or (waiting_lists xs) (other - 1) []) after
    ∙ waiting-clear lists channel other (configured channel c.requires.channel) (configured other of_other)
    ∙ ap (λ (m : MixerView). if channel == other then [] else waiting_on m other) c.self.view_is)
