use Rattle.std.proofs.Common.{◌≡◌, ◌-◌, ◌<◌, [], false, length, sym, ap, ◌∙◌, refl, subst, arith}
use Rattle.play_types.specs.declared.command.Cmd.TheVariants.{SwapChannels}
use Rattle.play_types.specs.declared.shape.CommandShape.TheVariants as shape
use Rattle.history_model.specs.commands.Channels.{IsServed}
use Rattle.stage_core.specs.LiveState.{LiveView, Channels, is_some_over}
use Rattle.stage_core.proofs.Exchanges.{over-set, over-swap}
use Rattle.stage_core.proofs.Shapes.{of_shape}
use Rattle.stage_core.proofs.live_state.LiveState.apply.Goals as goal

-- no channel has more after one is emptied
pub returns-in-ClearChannel-clause-few : goal.returns-in-ClearChannel-clause-few
returns-in-ClearChannel-clause-few c =
    let places : Channels = c.self.inside.places in
    let few : is_some_over places ≡ false = ap (λ (b : LiveView). is_some_over b.places) c.self.view_is ∙ c.requires.few in
    ap is_some_over c.clear.ensures ∙ over-set places (c.in-ClearChannel.channel - 1) [] few refl

-- nor after two are exchanged
pub returns-in-SwapChannels-clause-few : goal.returns-in-SwapChannels-clause-few
returns-in-SwapChannels-clause-few c =
    let places : Channels = c.self-in-SwapChannels.inside.places in
    let few : is_some_over places ≡ false = ap (λ (b : LiveView). is_some_over b.places) c.self-in-SwapChannels.view_is ∙ c.requires.few in
    let count : length c.args.self.now.places ≡ length places = ap (λ (b : LiveView). length b.places) (sym c.self-in-SwapChannels.view_is) in
    let cmd : c.args.cmd.now ≡ SwapChannels c.in-SwapChannels.a c.in-SwapChannels.b c.in-SwapChannels.field-2 =
    of_shape c.args.cmd.now (shape.SwapChannels c.in-SwapChannels.a c.in-SwapChannels.b c.in-SwapChannels.field-2) (sym c.shape.ensures ∙ c.in-SwapChannels.is) in
    let served = subst (IsServed (length c.args.self.now.places)) cmd c.requires.served in
    let first : c.in-SwapChannels.a - 1 < length places = omega (arith, served.0.0, served.0.1, count) in
    let second : c.in-SwapChannels.b - 1 < length places = omega (arith, served.1.0, served.1.1, count) in
    ap is_some_over c.exchange_channels.ensures ∙ over-swap places (c.in-SwapChannels.a - 1) (c.in-SwapChannels.b - 1) first second few
