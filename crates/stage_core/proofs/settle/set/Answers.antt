use Rattle.std.proofs.Common.{true, false, ◌∷◌, sym, ◌∙◌, subst}
use Rattle.play_types.specs.Setting.{SettingView}
use Rattle.play_types.specs.declared.command.Cmd.TheVariants.{Set}
use Rattle.history_model.specs.stage.Act.{act_after}
use Rattle.mixer_state.specs.Past.{Represents, TakesCommand}
use Rattle.stage_core.proofs.Mixing.{marked, when_ok}
use Rattle.stage_core.proofs.settle.set.Goals as goal

pub returns-else-not-defer-clause-past : goal.returns-else-not-defer-clause-past
returns-else-not-defer-clause-past c acts represents =
    subst (λ (s : SettingView). Represents c.defer.new.self (act_after c.args.ticks (Set s) ∷ acts) c.args.ticks)
    (marked c.args.setting.now true (sym c.deferred.ensures ∙ c.if-deferred.true))
    (c.if-not-defer.ensures.acts c.args.ticks acts represents)

pub returns-else-deferred-clause-past : goal.returns-else-deferred-clause-past
returns-else-deferred-clause-past c acts represents =
    subst (λ (s : SettingView). Represents c.set.new.self (act_after c.args.ticks (Set s) ∷ acts) c.args.ticks)
    (marked c.args.setting.now false (sym c.deferred.ensures ∙ c.if-deferred.false))
    (when_ok c.set.result c.unwrap.result
    (TakesCommand (Set (record c.args.setting.now { deferred = false })) c.args.ticks c.args.mixer.now c.set.new.self) c.unwrap.ensures c.set.ensures.acts acts represents)
