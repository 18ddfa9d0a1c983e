-- The list of waiting settings agrees with the definitions by the acts that follow.
use Rattle.std.proofs.Common.{◌≡◌, ℕ, ◌==◌, eqb, Bool, true, false, ◌&&◌, ◌||◌, not, inl, inr, List, [], ◌∷◌, ◌++◌, map, reverse, refl, sym, ap, ap₂, ◌∙◌, eq-eqb, eqb-true, ne_eqb, append-nil, if◌then◌else◌}
use Rattle.std.specs.Prelude.{filter, filter_map, Some, None}
use Rattle.std.specs.List.{cons_option, list_any}
use Rattle.std.proofs.lemmas.Bool.{cases_eq, false≢true}
use Rattle.std.proofs.lemmas.List.{map-append, reverse-append}
use Rattle.std.proofs.lemmas.List.Elements.{filter-append}
use Rattle.play_types.specs.Place.{PlaceView}
use Rattle.play_types.specs.Setting.{SettingView}
use Rattle.play_types.specs.declared.setting.Prop.{Prop}
use Rattle.play_types.specs.declared.command.Cmd.{Cmd}
use Rattle.play_types.specs.declared.command.Cmd.TheVariants.{CommitMixer, Set}
use Rattle.history_model.specs.stage.WaitingList.{listed_acts, listed_value_at, resolved_act, waiting_after, waiting_list}
use Rattle.history_model.specs.stage.Act.{Act, act_after}
use Rattle.history_model.specs.stage.Resolved.{Commits, Deferral, Defers, Neither, deferral, deferred_on, is_commit, is_commit_of, is_no_commit, resolved_acts, resolved_in_order, resolved_with, settled_act, uncommitted, waiting_settings, with_settled}
use Rattle.history_model.specs.stage.Trail.{tuning}
use Rattle.history_model.specs.stage.Value.{tuned_value, value_at}

-- the test for equal numbers is symmetric
pub eqb_turned : (m n : ℕ) → eqb m n ≡ eqb n m
eqb_turned m n = elim (cases_eq m n) [
  | inl e ↦ eq-eqb m n e ∙ sym (eq-eqb n m (sym e))
  | inr apart ↦ ne_eqb m n apart ∙ sym (ne_eqb n m (λ e. apart (sym e)))
]

same_either : {A : Type 0} (b : Bool) (x : A) → (if b then x else x) ≡ x
same_either true x = refl
same_either false x = refl

-- whether a commit of the channel is among the acts
abbrev is_committed : ℕ → List Act → Bool
is_committed channel acts = list_any (λ (act : Act). is_commit_of channel (deferral act.cmd)) acts

-- the settings with the deferred one of this channel, if this is one
abbrev with_deferred : Deferral → ℕ → List SettingView → List SettingView
with_deferred (Defers setting) channel settings = if setting.place.channel == channel then setting ∷ settings else settings
with_deferred (Commits committed) channel settings = settings
with_deferred Neither channel settings = settings

-- the deferred settings of a channel that no commit of the channel follows, among acts in their order
abbrev waiting_in_order : List Act → ℕ → List SettingView
waiting_in_order [] channel = []
waiting_in_order (act ∷ later) channel =
    let settings = waiting_in_order later channel in
    if is_committed channel later then settings else with_deferred (deferral act.cmd) channel settings

-- whether a channel is committed by one act more
or_none : (b : Bool) → (b || false) ≡ b
or_none true = refl
or_none false = refl

committed-last : (channel : ℕ) (acts : List Act) (act : Act) →
    is_committed channel (acts ++ act ∷ []) ≡ (is_committed channel acts || is_commit_of channel (deferral act.cmd))
committed-last channel [] act = or_none (is_commit_of channel (deferral act.cmd))
committed-last channel (first ∷ acts) act =
    ap (λ (b : Bool). is_commit_of channel (deferral first.cmd) || b) (committed-last channel acts act)
    ∙ or_apart (is_commit_of channel (deferral first.cmd)) (is_committed channel acts) (is_commit_of channel (deferral act.cmd))
  where
    or_apart : (x y z : Bool) → (x || (y || z)) ≡ ((x || y) || z)
    or_apart true y z = refl
    or_apart false y z = refl

-- the settings that wait after one act more at the end
abbrev with_last : Deferral → ℕ → List SettingView → List SettingView
with_last (Defers setting) channel settings = if setting.place.channel == channel then settings ++ setting ∷ [] else settings
with_last (Commits committed) channel settings = if committed == channel then [] else settings
with_last Neither channel settings = settings

at_both_ends : (first : Deferral) (last : SettingView) (channel : ℕ) (settings : List SettingView) →
    with_deferred first channel (with_last (Defers last) channel settings) ≡ with_last (Defers last) channel (with_deferred first channel settings)
at_both_ends (Defers setting) last channel settings = by_own (setting.place.channel == channel) (last.place.channel == channel)
  where
    by_own : (own other : Bool) →
        (if own then setting ∷ (if other then settings ++ last ∷ [] else settings) else (if other then settings ++ last ∷ [] else settings))
        ≡ (if other then (if own then setting ∷ settings else settings) ++ last ∷ [] else (if own then setting ∷ settings else settings))
    by_own true true = refl
    by_own true false = refl
    by_own false true = refl
    by_own false false = refl
at_both_ends (Commits committed) last channel settings = refl
at_both_ends Neither last channel settings = refl

waiting_step : (last first : Deferral) (channel : ℕ) (committed : Bool) (settings : List SettingView) →
    (if committed || is_commit_of channel last then with_last last channel settings
    else with_deferred first channel (with_last last channel settings))
    ≡ with_last last channel (if committed then settings else with_deferred first channel settings)
waiting_step (Defers setting) first channel true settings = refl
waiting_step (Defers setting) first channel false settings = at_both_ends first setting channel settings
waiting_step (Commits committed) first channel true settings = refl
waiting_step (Commits committed) first channel false settings = by_own (committed == channel)
  where
    by_own : (own : Bool) →
        (if own then (if own then [] else settings) else with_deferred first channel (if own then [] else settings))
        ≡ (if own then [] else with_deferred first channel settings)
    by_own true = refl
    by_own false = refl
waiting_step Neither first channel true settings = refl
waiting_step Neither first channel false settings = refl

waiting_alone : (last : Deferral) (channel : ℕ) → with_deferred last channel [] ≡ with_last last channel []
waiting_alone (Defers setting) channel = refl
waiting_alone (Commits committed) channel = sym (same_either (committed == channel) [])
waiting_alone Neither channel = refl

waiting_in_order-last : (acts : List Act) (act : Act) (channel : ℕ) →
    waiting_in_order (acts ++ act ∷ []) channel ≡ with_last (deferral act.cmd) channel (waiting_in_order acts channel)
waiting_in_order-last [] act channel = waiting_alone (deferral act.cmd) channel
waiting_in_order-last (first ∷ acts) act channel =
    ap₂ (λ (committed : Bool) (settings : List SettingView). if committed then settings else with_deferred (deferral first.cmd) channel settings)
    (committed-last channel acts act) (waiting_in_order-last acts act channel)
    ∙ waiting_step (deferral act.cmd) (deferral first.cmd) channel (is_committed channel acts) (waiting_in_order acts channel)

-- the settings that wait after one act more, in the list that has the last setting first
abbrev waiting_by : Deferral → ℕ → List SettingView → List SettingView
waiting_by (Defers setting) channel earlier = if setting.place.channel == channel then setting ∷ earlier else earlier
waiting_by (Commits committed) channel earlier = if committed == channel then [] else earlier
waiting_by Neither channel earlier = earlier

waiting-reversed : (last : Deferral) (channel : ℕ) (settings : List SettingView) →
    reverse (with_last last channel settings) ≡ waiting_by last channel (reverse settings)
waiting-reversed (Defers setting) channel settings = by_own (setting.place.channel == channel)
  where
    by_own : (own : Bool) → reverse (if own then settings ++ setting ∷ [] else settings) ≡ (if own then setting ∷ reverse settings else reverse settings)
    by_own true = reverse-append settings (setting ∷ [])
    by_own false = refl
waiting-reversed (Commits committed) channel settings = by_own (committed == channel)
  where
    by_own : (own : Bool) → reverse (if own then [] else settings) ≡ (if own then [] else reverse settings)
    by_own true = refl
    by_own false = refl
waiting-reversed Neither channel settings = refl

waiting_after-by : (cmd : Cmd) (channel : ℕ) (earlier : List SettingView) → waiting_after cmd channel earlier ≡ waiting_by (deferral cmd) channel earlier
waiting_after-by (Set setting) channel earlier = by_mark setting.deferred
  where
    by_mark : (deferred : Bool) →
        (if deferred && (setting.place.channel == channel) then setting ∷ earlier else earlier)
        ≡ waiting_by (if deferred then Defers setting else Neither) channel earlier
    by_mark true = refl
    by_mark false = refl
waiting_after-by cmd channel earlier = refl

-- the settings that wait after one act more, and so the list
waiting_kind : (kind : Deferral) (channel : ℕ) (earlier : List SettingView) →
    (if is_commit_of channel kind then [] else cons_option (deferred_on channel kind) earlier) ≡ waiting_by kind channel earlier
waiting_kind (Defers setting) channel earlier = by_own (setting.place.channel == channel)
  where
    by_own : (own : Bool) → cons_option (if own then Some setting else None) earlier ≡ (if own then setting ∷ earlier else earlier)
    by_own true = refl
    by_own false = refl
waiting_kind (Commits committed) channel earlier = refl
waiting_kind Neither channel earlier = refl

pub waiting_settings-act : (act : Act) (before : List Act) (channel : ℕ) →
    waiting_settings (act ∷ before) channel ≡ waiting_after act.cmd channel (waiting_settings before channel)
waiting_settings-act act before channel =
    by_commit (is_commit_of channel (deferral act.cmd))
    ∙ waiting_kind (deferral act.cmd) channel (waiting_settings before channel)
    ∙ sym (waiting_after-by act.cmd channel (waiting_settings before channel))
  where
    by_commit : (commits : Bool) →
        filter_map (λ (one : Act). deferred_on channel (deferral one.cmd)) (if commits then [] else act ∷ uncommitted channel before)
        ≡ (if commits then [] else cons_option (deferred_on channel (deferral act.cmd)) (waiting_settings before channel))
    by_commit true = refl
    by_commit false = refl

pub waiting_settings-listed : (acts : List Act) (channel : ℕ) → waiting_settings acts channel ≡ waiting_list acts channel
waiting_settings-listed [] channel = refl
waiting_settings-listed (act ∷ before) channel =
    waiting_settings-act act before channel ∙ ap (waiting_after act.cmd channel) (waiting_settings-listed before channel)

-- the list is that of the acts in their order, reversed
waiting_in_order-listed : (acts : List Act) (channel : ℕ) → reverse (waiting_in_order (reverse acts) channel) ≡ waiting_list acts channel
waiting_in_order-listed [] channel = refl
waiting_in_order-listed (act ∷ before) channel =
    ap (λ (acts : List Act). reverse (waiting_in_order acts channel)) (reverse-append (act ∷ []) before)
    ∙ ap reverse (waiting_in_order-last (reverse before) act channel)
    ∙ waiting-reversed (deferral act.cmd) channel (waiting_in_order (reverse before) channel)
    ∙ sym (waiting_after-by act.cmd channel (reverse (waiting_in_order (reverse before) channel)))
    ∙ ap (waiting_after act.cmd channel) (waiting_in_order-listed before channel)

-- moving a setting behind its commit adds no commit
committed-settled : (setting : SettingView) (acts : List Act) (channel : ℕ) → is_committed channel (with_settled setting acts) ≡ is_committed channel acts
committed-settled setting [] channel = refl
committed-settled setting (act ∷ later) channel =
    by_here (is_commit_of setting.place.channel (deferral act.cmd)) (committed-settled setting later channel)
  where
    by_here : (here : Bool) → is_committed channel (with_settled setting later) ≡ is_committed channel later →
        is_committed channel (if here then act ∷ settled_act act.ticks setting ∷ later else act ∷ with_settled setting later)
        ≡ (is_commit_of channel (deferral act.cmd) || is_committed channel later)
    by_here true rest = refl
    by_here false rest = ap (λ (b : Bool). is_commit_of channel (deferral act.cmd) || b) rest

committed-with : (channel : ℕ) (kind : Deferral) (act : Act) (later resolved : List Act) → deferral act.cmd ≡ kind →
    is_committed channel resolved ≡ is_committed channel later →
    is_committed channel (resolved_with kind act resolved) ≡ (is_commit_of channel (deferral act.cmd) || is_committed channel later)
committed-with channel (Defers setting) act later resolved is rest =
    committed-settled setting resolved channel ∙ rest
    ∙ ap (λ (kind : Deferral). is_commit_of channel kind || is_committed channel later) (sym is)
committed-with channel (Commits committed) act later resolved is rest = ap (λ (b : Bool). is_commit_of channel (deferral act.cmd) || b) rest
committed-with channel Neither act later resolved is rest = ap (λ (b : Bool). is_commit_of channel (deferral act.cmd) || b) rest

committed-resolved : (acts : List Act) (channel : ℕ) → is_committed channel (resolved_in_order acts) ≡ is_committed channel acts
committed-resolved [] channel = refl
committed-resolved (act ∷ later) channel =
    committed-with channel (deferral act.cmd) act later (resolved_in_order later) refl (committed-resolved later channel)

-- a setting that is moved among acts in two parts, and among settings that take effect
with_settled-append : (setting : SettingView) (front back : List Act) →
    with_settled setting (front ++ back)
    ≡ with_settled setting front ++ (if is_committed setting.place.channel front then back else with_settled setting back)
with_settled-append setting [] back = refl
with_settled-append setting (act ∷ front) back =
    by_here (is_commit_of setting.place.channel (deferral act.cmd)) (with_settled-append setting front back)
  where
    by_here : (here : Bool) →
        with_settled setting (front ++ back)
        ≡ with_settled setting front ++ (if is_committed setting.place.channel front then back else with_settled setting back) →
        (if here then act ∷ settled_act act.ticks setting ∷ (front ++ back) else act ∷ with_settled setting (front ++ back))
        ≡ (if here then act ∷ settled_act act.ticks setting ∷ front else act ∷ with_settled setting front)
        ++ (if here || is_committed setting.place.channel front then back else with_settled setting back)
    by_here true rest = refl
    by_here false rest = ap (λ (acts : List Act). act ∷ acts) rest

with_settled-settled : (setting : SettingView) (ticks : ℕ) (settings : List SettingView) →
    with_settled setting (map (settled_act ticks) settings) ≡ map (settled_act ticks) settings
with_settled-settled setting ticks [] = refl
with_settled-settled setting ticks (first ∷ settings) = ap (λ (acts : List Act). settled_act ticks first ∷ acts) (with_settled-settled setting ticks settings)

-- what one act more at the end adds to the resolved ones
abbrev added : Deferral → Act → List Act → List Act
added (Defers setting) act acts = []
added (Commits committed) act acts = act ∷ map (settled_act act.ticks) (waiting_in_order acts committed)
added Neither act acts = act ∷ []

-- it adds these acts too if an act that is no deferred setting comes first
waiting_unchanged : (first : Act) (acts : List Act) (channel : ℕ) →
    ((settings : List SettingView) → with_deferred (deferral first.cmd) channel settings ≡ settings) →
    waiting_in_order acts channel ≡ waiting_in_order (first ∷ acts) channel
waiting_unchanged first acts channel same = by_commit (is_committed channel acts)
  where
    by_commit : (committed : Bool) →
        waiting_in_order acts channel
        ≡ (if committed then waiting_in_order acts channel else with_deferred (deferral first.cmd) channel (waiting_in_order acts channel))
    by_commit true = refl
    by_commit false = sym (same (waiting_in_order acts channel))

added_unchanged : (last : Deferral) (first act : Act) (acts : List Act) →
    ((channel : ℕ) (settings : List SettingView) → with_deferred (deferral first.cmd) channel settings ≡ settings) →
    added last act acts ≡ added last act (first ∷ acts)
added_unchanged (Defers setting) first act acts same = refl
added_unchanged (Commits committed) first act acts same =
    ap (λ (settings : List SettingView). act ∷ map (settled_act act.ticks) settings) (waiting_unchanged first acts committed (same committed))
added_unchanged Neither first act acts same = refl

-- if a deferred setting comes first, it adds what the commits of its channel leave
commit_tail : (act : Act) (setting : SettingView) (settings : List SettingView) (rest : List Act) (here there own : Bool) →
    rest ≡ map (settled_act act.ticks) settings → (own ≡ true → here ≡ there) →
    (if here then act ∷ map (settled_act act.ticks) settings
    else (if own then act ∷ settled_act act.ticks setting ∷ map (settled_act act.ticks) settings else act ∷ rest))
    ≡ act ∷ map (settled_act act.ticks) (if there then settings else (if own then setting ∷ settings else settings))
commit_tail act setting settings rest true true own e same = refl
commit_tail act setting settings rest true false true e same = absurd (false≢true (sym (same refl)))
commit_tail act setting settings rest true false false e same = refl
commit_tail act setting settings rest false true true e same = absurd (false≢true (same refl))
commit_tail act setting settings rest false true false e same = ap (λ (acts : List Act). act ∷ acts) e
commit_tail act setting settings rest false false true e same = refl
commit_tail act setting settings rest false false false e same = ap (λ (acts : List Act). act ∷ acts) e

settled_tail : (last : Deferral) (setting : SettingView) (first act : Act) (acts : List Act) → deferral act.cmd ≡ last →
    deferral first.cmd ≡ Defers setting →
    (if is_committed setting.place.channel acts then added last act acts else with_settled setting (added last act acts))
    ≡ added last act (first ∷ acts)
settled_tail (Defers other) setting first act acts is deferred = same_either (is_committed setting.place.channel acts) []
settled_tail (Commits committed) setting first act acts is deferred =
    let settings : List SettingView = waiting_in_order acts committed in
    let channel : ℕ = setting.place.channel in
    ap (λ (kind : Deferral).
    if is_committed channel acts then act ∷ map (settled_act act.ticks) settings
    else (if is_commit_of channel kind then act ∷ settled_act act.ticks setting ∷ map (settled_act act.ticks) settings
    else act ∷ with_settled setting (map (settled_act act.ticks) settings))) is
    ∙ ap (λ (own : Bool).
    if is_committed channel acts then act ∷ map (settled_act act.ticks) settings
    else (if own then act ∷ settled_act act.ticks setting ∷ map (settled_act act.ticks) settings
    else act ∷ with_settled setting (map (settled_act act.ticks) settings))) (eqb_turned committed channel)
    ∙ commit_tail act setting settings (with_settled setting (map (settled_act act.ticks) settings))
    (is_committed channel acts) (is_committed committed acts) (eqb channel committed)
    (with_settled-settled setting act.ticks settings)
    (λ own. ap (λ (n : ℕ). is_committed n acts) (eqb-true channel committed own))
    ∙ ap (λ (kind : Deferral).
    act ∷ map (settled_act act.ticks) (if is_committed committed acts then settings else with_deferred kind committed settings)) (sym deferred)
settled_tail Neither setting first act acts is deferred =
    ap (λ (kind : Deferral).
    if is_committed setting.place.channel acts then act ∷ []
    else (if is_commit_of setting.place.channel kind then act ∷ settled_act act.ticks setting ∷ [] else act ∷ [])) is
    ∙ same_either (is_committed setting.place.channel acts) (act ∷ [])

resolved_step : (kind : Deferral) (first act : Act) (acts : List Act) → deferral first.cmd ≡ kind →
    resolved_with kind first (resolved_in_order acts ++ added (deferral act.cmd) act acts)
    ≡ resolved_with kind first (resolved_in_order acts) ++ added (deferral act.cmd) act (first ∷ acts)
resolved_step (Defers setting) first act acts is =
    with_settled-append setting (resolved_in_order acts) (added (deferral act.cmd) act acts)
    ∙ ap (λ (committed : Bool).
    with_settled setting (resolved_in_order acts)
    ++ (if committed then added (deferral act.cmd) act acts else with_settled setting (added (deferral act.cmd) act acts)))
    (committed-resolved acts setting.place.channel)
    ∙ ap (λ (rest : List Act). with_settled setting (resolved_in_order acts) ++ rest)
    (settled_tail (deferral act.cmd) setting first act acts refl is)
resolved_step (Commits committed) first act acts is =
    ap (λ (rest : List Act). first ∷ (resolved_in_order acts ++ rest))
    (added_unchanged (deferral act.cmd) first act acts (λ channel settings. ap (λ (kind : Deferral). with_deferred kind channel settings) is))
resolved_step Neither first act acts is =
    ap (λ (rest : List Act). first ∷ (resolved_in_order acts ++ rest))
    (added_unchanged (deferral act.cmd) first act acts (λ channel settings. ap (λ (kind : Deferral). with_deferred kind channel settings) is))

resolved_alone : (kind : Deferral) (act : Act) → resolved_with kind act [] ≡ added kind act []
resolved_alone (Defers setting) act = refl
resolved_alone (Commits committed) act = refl
resolved_alone Neither act = refl

resolved_in_order-last : (acts : List Act) (act : Act) →
    resolved_in_order (acts ++ act ∷ []) ≡ resolved_in_order acts ++ added (deferral act.cmd) act acts
resolved_in_order-last [] act = resolved_alone (deferral act.cmd) act
resolved_in_order-last (first ∷ acts) act =
    ap (resolved_with (deferral first.cmd) first) (resolved_in_order-last acts act)
    ∙ resolved_step (deferral first.cmd) first act acts refl

-- the acts that replace an act
reverse-map : (ticks : ℕ) (settings : List SettingView) → reverse (map (settled_act ticks) settings) ≡ map (settled_act ticks) (reverse settings)
reverse-map ticks [] = refl
reverse-map ticks (setting ∷ settings) =
    reverse-append (settled_act ticks setting ∷ []) (map (settled_act ticks) settings)
    ∙ ap (λ (acts : List Act). acts ++ settled_act ticks setting ∷ []) (reverse-map ticks settings)
    ∙ sym (ap (map (settled_act ticks)) (reverse-append (setting ∷ []) settings)
    ∙ map-append (settled_act ticks) (reverse settings) (setting ∷ []))

settled_stay : (ticks : ℕ) (settings : List SettingView) → filter is_no_commit (map (settled_act ticks) settings) ≡ map (settled_act ticks) settings
settled_stay ticks [] = refl
settled_stay ticks (setting ∷ settings) = ap (λ (acts : List Act). settled_act ticks setting ∷ acts) (settled_stay ticks settings)

stands_for : (cmd : Cmd) (ticks : ℕ) (before : List Act) →
    filter is_no_commit (reverse (added (deferral cmd) (act_after ticks cmd) (reverse before))) ≡ resolved_act cmd ticks before
stands_for (Set setting) ticks before = by_mark setting.deferred refl
  where
    by_mark : (deferred : Bool) → setting.deferred ≡ deferred →
        filter is_no_commit (reverse (added (if deferred then Defers setting else Neither) (act_after ticks (Set setting)) (reverse before)))
        ≡ (if deferred then [] else settled_act ticks setting ∷ [])
    by_mark true e = refl
    by_mark false e =
        ap (λ (deferred : Bool). if not (is_commit (if deferred then Defers setting else Neither)) then act_after ticks (Set setting) ∷ [] else []) e
        ∙ (λ i. act_after ticks (Set (record setting { deferred = e i })) ∷ [])
stands_for (CommitMixer channel) ticks before =
    let settings : List SettingView = waiting_in_order (reverse before) channel in
    let started : List Act = map (settled_act ticks) settings in
    let commit : Act = act_after ticks (CommitMixer channel) in
    ap (filter is_no_commit) (reverse-append (commit ∷ []) started)
    ∙ filter-append is_no_commit (reverse started) (commit ∷ [])
    ∙ append-nil (filter is_no_commit (reverse started))
    ∙ ap (filter is_no_commit) (reverse-map ticks settings)
    ∙ settled_stay ticks (reverse settings)
    ∙ ap (map (settled_act ticks)) (waiting_in_order-listed before channel)
stands_for cmd ticks before = refl

pub resolved_acts-act : (act : Act) (before : List Act) →
    resolved_acts (act ∷ before) ≡ resolved_act act.cmd act.ticks before ++ resolved_acts before
resolved_acts-act act before =
    let more : List Act = added (deferral act.cmd) act (reverse before) in
    ap (λ (acts : List Act). filter is_no_commit (reverse (resolved_in_order acts))) (reverse-append (act ∷ []) before)
    ∙ ap (λ (acts : List Act). filter is_no_commit (reverse acts)) (resolved_in_order-last (reverse before) act)
    ∙ ap (filter is_no_commit) (reverse-append (resolved_in_order (reverse before)) more)
    ∙ filter-append is_no_commit (reverse more) (reverse (resolved_in_order (reverse before)))
    ∙ ap (λ (acts : List Act). acts ++ resolved_acts before) (stands_for act.cmd act.ticks before)

pub resolved_acts-listed : (acts : List Act) → resolved_acts acts ≡ listed_acts acts
resolved_acts-listed [] = refl
resolved_acts-listed (act ∷ before) =
    resolved_acts-act act before ∙ ap (λ (acts : List Act). resolved_act act.cmd act.ticks before ++ acts) (resolved_acts-listed before)

pub value_at-listed : (acts : List Act) (place : PlaceView) (prop : Prop) (t : ℕ) → value_at acts place prop t ≡ listed_value_at acts place prop t
value_at-listed acts place prop t = ap (λ (past : List Act). tuned_value (tuning past place) prop t) (resolved_acts-listed acts)
