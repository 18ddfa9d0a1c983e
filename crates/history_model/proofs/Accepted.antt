-- A history leaves each channel within its limits, and so a commit and a mark of a recording are never refused.
use Rattle.std.proofs.Common.{◌≡◌, ℕ, ◌+◌, Bool, true, false, ◌||◌, ◌==◌, List, [], ◌∷◌, ◌++◌, length, reverse, nat_lt, refl, sym, ap, ◌∙◌, if◌then◌else◌, unwrap_or, is_none}
use Rattle.std.proofs.lemmas.Bool.{or_parts}
use Rattle.std.specs.Prelude.{Option, Some, None, option_and_then}
use Rattle.std.specs.List.{list_any}
use Rattle.play_types.specs.Commands.{mark_of}
use Rattle.play_types.specs.Setting.{SettingView}
use Rattle.play_types.specs.History.{ticks}
use Rattle.play_types.specs.declared.place.TheConstants.{MAX_LIVE_LAYERS}
use Rattle.play_types.specs.declared.setting.TheConstants.{MAX_WAITING_SETTINGS}
use Rattle.play_types.specs.declared.command.Cmd.{Cmd}
use Rattle.play_types.specs.declared.command.Cmd.TheVariants.{CommitMixer}
use Rattle.play_types.specs.declared.event.Tag.{Tag}
use Rattle.play_types.specs.declared.shape.Recording.{Recording}
use Rattle.play_types.specs.declared.event.Event.{Event}
use Rattle.play_types.specs.declared.event.Event.TheVariants.{Do, Batch, Tick, Stop}
use Rattle.history_model.specs.stage.Act.{Act, act_after, acts_of}
use Rattle.history_model.specs.stage.Acts.{acts, acts_back, channels, is_over, is_refused, with_command, with_commands}
use Rattle.history_model.specs.stage.Live.{live_layers}
use Rattle.history_model.specs.stage.Resolved.{waiting_settings}
use Rattle.history_model.proofs.Listed.{waiting_settings-act}
use Rattle.history_model.proofs.Events.{ticks-reverse}
use Rattle.history_model.proofs.Liveness.{live_layers-ticks}
use Rattle.history_model.proofs.Recordings.{acts_of-mark}

-- whether some channel is over a limit after the acts and ticks
abbrev some_over : List Act → ℕ → Bool
some_over past t = list_any (is_over past t) (channels past)

-- ticks do not change whether some channel is over a limit
some_over-ticks : (past : List Act) (t u : ℕ) → some_over past t ≡ some_over past u
some_over-ticks past t u =
    λ i. list_any
    (λ channel. nat_lt MAX_LIVE_LAYERS (length (live_layers-ticks past t u channel i)) || nat_lt MAX_WAITING_SETTINGS (length (waiting_settings past channel)))
    (channels past)

-- after an accepted command no channel is over a limit
within_by : (test : Bool) (more past : List Act) (t : ℕ) → some_over more t ≡ test → some_over past t ≡ false →
    some_over (unwrap_or (if test then None else Some more) past) t ≡ false
within_by true more past t is was = was
within_by false more past t is was = is

within_command : (cmd : Cmd) (past : List Act) (t : ℕ) → some_over past t ≡ false → some_over (unwrap_or (with_command past t cmd) past) t ≡ false
within_command cmd past t was =
    let more = acts_of t cmd ++ past in
    within_by (some_over more t) more past t refl was

-- after accepted commands no channel is over a limit
within_rest : (cmds : List Cmd) (past kept : List Act) (t : ℕ) (first : Option (List Act)) → some_over (unwrap_or first past) t ≡ false →
    some_over kept t ≡ false →
    ((more : List Act) → some_over more t ≡ false → some_over (unwrap_or (with_commands more t cmds) kept) t ≡ false) →
    some_over (unwrap_or (option_and_then (λ more. with_commands more t cmds) first) kept) t ≡ false
within_rest cmds past kept t None first was each = was
within_rest cmds past kept t (Some more) first was each = each more first

within_commands : (cmds : List Cmd) (past kept : List Act) (t : ℕ) → some_over past t ≡ false → some_over kept t ≡ false →
    some_over (unwrap_or (with_commands past t cmds) kept) t ≡ false
within_commands [] past kept t now was = now
within_commands (cmd ∷ cmds) past kept t now was =
    within_rest cmds past kept t (with_command past t cmd) (within_command cmd past t now) was
    (λ more within. within_commands cmds more kept t within was)

within_back : (back : List Event) → some_over (acts_back back) (ticks back) ≡ false
within_back [] = refl
within_back (Do tag cmd ∷ back) = within_command cmd (acts_back back) (ticks back) (within_back back)
within_back (Batch tag cmds ∷ back) =
    within_commands cmds (acts_back back) (acts_back back) (ticks back) (within_back back) (within_back back)
within_back (Tick ∷ back) = some_over-ticks (acts_back back) (1 + ticks back) (ticks back) ∙ within_back back
within_back (Stop tag ∷ back) = within_back back

-- if no number of a list passes a test, none passes a narrower one
none_of_fewer : (wide narrow : ℕ → Bool) → ((n : ℕ) → wide n ≡ false → narrow n ≡ false) → (numbers : List ℕ) →
    list_any wide numbers ≡ false → list_any narrow numbers ≡ false
none_of_fewer wide narrow each [] none = refl
none_of_fewer wide narrow each (n ∷ numbers) none =
    let parts = or_parts (wide n) (list_any wide numbers) none in
    ap (λ b. b || list_any narrow numbers) (each n parts.0) ∙ none_of_fewer wide narrow each numbers parts.1

-- after a commit a channel has the live layers of before, and no more waiting settings
fewer_wait : (live own : Bool) (waiting : List SettingView) → (live || nat_lt MAX_WAITING_SETTINGS (length waiting)) ≡ false →
    (live || nat_lt MAX_WAITING_SETTINGS (length {A = SettingView} (if own then [] else waiting))) ≡ false
fewer_wait live true waiting within = ap (λ b. b || false) (or_parts live (nat_lt MAX_WAITING_SETTINGS (length waiting)) within).0
fewer_wait live false waiting within = within

commit_within : (past : List Act) (t committed : ℕ) → some_over past t ≡ false → some_over (act_after t (CommitMixer committed) ∷ past) t ≡ false
commit_within past t committed within =
    none_of_fewer (is_over past t) (is_over (act_after t (CommitMixer committed) ∷ past) t)
    (λ channel each.
    ap (λ (waiting : List SettingView). nat_lt MAX_LIVE_LAYERS (length (live_layers past t channel)) || nat_lt MAX_WAITING_SETTINGS (length waiting))
    (waiting_settings-act (act_after t (CommitMixer committed)) past channel)
    ∙ fewer_wait (nat_lt MAX_LIVE_LAYERS (length (live_layers past t channel))) (committed == channel) (waiting_settings past channel) each)
    (channels past) within

entered_by : Bool → List Act → Option (List Act)
entered_by test more = if test then None else Some more

accepted_by : (test : Bool) (more : List Act) → test ≡ false → is_none (entered_by test more) ≡ false
unfolding entered_by
accepted_by test more within = ap (λ b. is_none (entered_by b more)) within

pub commit-accepted : (history : List Event) (tag : Tag) (committed : ℕ) → is_refused history (Do tag (CommitMixer committed)) ≡ false
unfolding is_refused acts entered_by
commit-accepted history tag committed =
    let past = acts_back (reverse history) in
    let now = ticks history in
    let more = act_after now (CommitMixer committed) ∷ past in
    accepted_by (some_over more now) more
    (commit_within past now committed (ap (some_over past) (sym (ticks-reverse history)) ∙ within_back (reverse history)))

pub mark-accepted : (history : List Event) (tag : Tag) (cmd : Cmd) (mark : Recording) → mark_of cmd ≡ Some mark → is_refused history (Do tag cmd) ≡ false
unfolding is_refused acts entered_by
mark-accepted history tag cmd mark is =
    let past = acts_back (reverse history) in
    let now = ticks history in
    ap (λ (own : List Act). is_none (entered_by (some_over (own ++ past) now) (own ++ past))) (acts_of-mark now cmd mark is)
    ∙ accepted_by (some_over past now) past (ap (some_over past) (sym (ticks-reverse history)) ∙ within_back (reverse history))
