use Rattle.std.proofs.Common.{◌≡◌, ◌≤◌, ◌<◌, All, length, sym, ap, ◌∙◌, arith, subst}
use Rattle.std.specs.Prelude.{Some, slice_get}
use Rattle.std.specs.Option.{option_copied}
use Rattle.std.proofs.lemmas.List.{take_all}
use Rattle.play_types.specs.Config.{ChannelView}
use Rattle.play_types.specs.declared.geometry.Geometry.{Geometry}
use Rattle.band_render.proofs.Plans.{widest_more}
use Rattle.band_render.proofs.rooms.widest.Goals as goal

pub loop-at-preserved : goal.loop-at-preserved
loop-at-preserved c =
    let channels = c.args.channels.now in
    let lt : c.loop-at.at < length channels = omega (arith, c.loop-at-test.true, c.len-at-end.ensures.value) in
    let there : slice_get channels c.loop-at.at ≡ Some c.unwrap.result.now = sym c.get.ensures ∙ ap option_copied c.unwrap.ensures in
    widest_more channels c.loop-at.at c.unwrap.result.now c.loop-at.widest c.max-widest.result lt there
    (omega (arith, c.max-widest.ensures)) (omega (arith, c.max-widest.ensures, ap (λ (s : Geometry). s.width) c.geometry.ensures.value)) c.loop-at.invariant

pub returns : goal.returns
returns c =
    subst (All (λ (channel : ChannelView). channel.width ≤ c.loop-at.widest))
    (take_all c.loop-at.at c.args.channels.now (omega (arith, c.loop-at-test.false, c.loop-at.auto.at-end, c.len-at-end.ensures.value)))
    c.loop-at.invariant
