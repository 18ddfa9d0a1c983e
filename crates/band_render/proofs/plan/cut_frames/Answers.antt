use Rattle.std.proofs.Common.{◌<◌, length, ◌∙◌, arith}
use Rattle.band_render.specs.Rows.{rows_of_bands}
use Rattle.band_render.proofs.Plans.{enough_more, frames_more}
use Rattle.band_render.proofs.plan.cut_frames.Goals as goal

pub loop-at-preserved : goal.loop-at-preserved
loop-at-preserved c =
    let frames = c.args.tick.now.prev.now in
    let lt : c.loop-at.at < length frames = omega (arith, c.loop-at-test.true, c.channels-at-end.ensures.value, c.requires.tick) in
    record {
      many = omega (arith, c.cut_frame.ensures.many, c.loop-at.invariant.many);
      room = c.cut_frame.ensures.room ∙ c.loop-at.invariant.room;
      numbers = c.cut_frame.ensures.numbers c.loop-at.invariant.numbers;
      enough = enough_more c.args.workers frames c.loop-at.at c.size-size.result c.loop-at.bands.len c.cut_frame.new.bands.len lt c.size-size.ensures.value
          c.loop-at.invariant.enough (omega (arith, c.cut_frame.ensures.many, c.frame_cut-cut.ensures.enough));
      rows = frames_more frames c.loop-at.at c.size-size.result (rows_of_bands c.loop-at.bands.items) (rows_of_bands c.cut_frame.new.bands.items) lt
          c.size-size.ensures.value c.loop-at.invariant.rows c.cut_frame.ensures.rows;
    }
