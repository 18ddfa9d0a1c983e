use Rattle.std.proofs.Common.{◌≡◌, ◌+◌, ◌∷◌, ℕ, List, drop, sym, ap, ap₂, ◌∙◌, subst, arith, add-one, drop-cons}
use Rattle.std.proofs.lemmas.List.Elements.{All-drop}
use Rattle.play_types.specs.declared.command.Cmd.{Cmd}
use Rattle.play_types.specs.declared.place.TheConstants.{MAX_CHANNELS}
use Rattle.history_model.specs.commands.Channels.{IsServed}
use Rattle.stage_core.specs.inner.Settled.{counted, settings_of, settings_of_all, waiting_with}
use Rattle.stage_core.proofs.Needs.{settings_of_all-same}
use Rattle.stage_core.proofs.needed.settings_of_all.Goals as goal

pub settings_of-requires : goal.settings_of-requires
settings_of-requires c = subst (IsServed MAX_CHANNELS) (sym c.cmd-item.is) (c.requires c.loop-cmd.cmd-index c.cmd-item.result c.loop-cmd-test.true)

pub loop-cmd-preserved : goal.loop-cmd-preserved
loop-cmd-preserved c =
    let cmds : List Cmd = c.args.cmds.now in
    let at : ℕ = c.loop-cmd.cmd-index in
    let cmd : Cmd = c.cmd-item.result in
    let before : ℕ → ℕ = counted c.loop-cmd.waiting in
    let rest : List Cmd = drop (at + 1) cmds in
    let cut : drop at cmds ≡ cmd ∷ rest =
    drop-cons cmds at cmd c.loop-cmd-test.true ∙ ap₂ (λ (one : Cmd) (k : ℕ). one ∷ drop k cmds) (sym c.cmd-item.is) (sym (add-one at)) in
    let all : settings_of_all before (drop at cmds) ≡ settings_of before cmd + settings_of_all (waiting_with cmd before) rest = ap (settings_of_all before) cut in
    let same : settings_of_all (counted c.settings_of.new.waiting) rest ≡ settings_of_all (waiting_with cmd before) rest =
    settings_of_all-same MAX_CHANNELS rest (counted c.settings_of.new.waiting) (waiting_with cmd before) (All-drop (IsServed MAX_CHANNELS) (at + 1) cmds c.requires)
    c.in_ok-settings.ensures.after in
    omega (arith, all, same, c.loop-cmd.invariant, c.in_ok-settings.ensures.count, c.in_ok-count.ensures)
