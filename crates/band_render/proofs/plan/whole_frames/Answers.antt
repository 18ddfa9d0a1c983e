use Rattle.std.proofs.Common.{◌≡◌, ◌+◌, ◌++◌, ◌<◌, length, ap, sym, ◌∙◌, arith}
use Rattle.std.specs.Prelude.{Some, slice_get}
use Rattle.std.specs.Option.{option_copied}
use Rattle.play_types.specs.declared.geometry.Geometry.{Geometry}
use Rattle.band_render.specs.Rows.{rows_from, rows_of_bands}
use Rattle.band_render.proofs.Plans.{channels_more, plan_small}
use Rattle.band_render.proofs.plan.whole_frames.Goals as goal

pub loop-at-preserved : goal.loop-at-preserved
loop-at-preserved c =
    let channels = c.channels-channels.result.now in
    let at = c.loop-at.at in
    let lt : at < length channels = omega (arith, c.loop-at-test.true, c.len-at-end.ensures.value) in
    let there : slice_get channels at ≡ Some c.unwrap.result.now = sym c.get.ensures ∙ ap option_copied c.unwrap.ensures in
    record {
      many = omega (arith, c.push.ensures.many, c.loop-at.invariant.many);
      room = omega (arith, c.push.ensures.room, c.loop-at.invariant.room);
      rows = channels_more channels at c.unwrap.result.now (rows_of_bands c.loop-at.bands.items) (rows_of_bands c.push.new.bands.items) lt there c.loop-at.invariant.rows
          (c.push.ensures.rows
          ∙ ap (λ (s : Geometry). rows_of_bands c.loop-at.bands.items ++ rows_from (at + 1) s 0 s.height) c.geometry-size.ensures.value);
    }

pub returns-clause-small : goal.returns-clause-small
returns-clause-small c =
    let few = c.channels-channels.ensures.range.parts.few_channels in
    let many = ap length c.channels-channels.ensures.value in
    plan_small c.channels-channels.result.now c.loop-at.at (rows_of_bands c.loop-at.bands.items) c.len-at-end.ensures.channels (omega (arith, few, many))
    (omega (arith, c.loop-at.auto.at-end, c.len-at-end.ensures.value)) c.loop-at.invariant.rows
