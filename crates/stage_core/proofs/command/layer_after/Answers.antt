use Rattle.std.proofs.Common.{sym, ap, ◌∙◌}
use Rattle.play_types.specs.Take.{TakeView}
use Rattle.play_types.specs.declared.command.Cmd.{Cmd}
use Rattle.history_model.specs.stage.Life.{effect}
use Rattle.play_types.specs.declared.command.Cmd.TheVariants.{LoadBg, Play}
use Rattle.stage_core.proofs.command.layer_after.Goals as goal

pub returns-in-Load : goal.returns-in-Load
returns-in-Load c = c.load.ensures.effect c.in-Load.field-0 ∙ ap (λ (cmd : Cmd). effect cmd c.args.before) (sym c.in-Load.is)

pub returns-in-LoadBg : goal.returns-in-LoadBg
returns-in-LoadBg c = c.load_bg.ensures.effect c.in-LoadBg.field-0 ∙ ap (λ (cmd : Cmd). effect cmd c.args.before) (sym c.in-LoadBg.is)

pub returns-in-Play : goal.returns-in-Play
returns-in-Play c = c.play.ensures.effect c.in-Play.field-0 ∙ ap (λ (cmd : Cmd). effect cmd c.args.before) (sym c.in-Play.is)

-- the take is put into the background without `auto`, and started
pub returns-in-PlayTake : goal.returns-in-PlayTake
returns-in-PlayTake c =
    let at = c.in-PlayTake.field-0 in
    c.play-in-PlayTake.ensures.effect at
    ∙ ap (effect (Play at))
    (c.load_bg-in-PlayTake.ensures.effect at ∙ ap (λ (take : TakeView). effect (LoadBg at take) c.args.before) c.without_auto.ensures)
    ∙ ap (λ (cmd : Cmd). effect cmd c.args.before) (sym c.in-PlayTake.is)

pub returns-in-Pause : goal.returns-in-Pause
returns-in-Pause c = c.pause.ensures.effect c.in-Pause.field-0 ∙ ap (λ (cmd : Cmd). effect cmd c.args.before) (sym c.in-Pause.is)

pub returns-in-Resume : goal.returns-in-Resume
returns-in-Resume c = c.resume.ensures.effect c.in-Resume.field-0 ∙ ap (λ (cmd : Cmd). effect cmd c.args.before) (sym c.in-Resume.is)

pub returns-in-StopLayer : goal.returns-in-StopLayer
returns-in-StopLayer c = c.stop.ensures.effect c.in-StopLayer.field-0 ∙ ap (λ (cmd : Cmd). effect cmd c.args.before) (sym c.in-StopLayer.is)

pub returns-in-ClearLayer : goal.returns-in-ClearLayer
returns-in-ClearLayer c = c.clear.ensures.effect c.in-ClearLayer.field-0 ∙ ap (λ (cmd : Cmd). effect cmd c.args.before) (sym c.in-ClearLayer.is)

pub returns-in-ClearChannel : goal.returns-in-ClearChannel
returns-in-ClearChannel c =
    c.clear-in-ClearChannel.ensures.channel c.in-ClearChannel.field-0 ∙ ap (λ (cmd : Cmd). effect cmd c.args.before) (sym c.in-ClearChannel.is)
