use Rattle.std.proofs.Common.{◌≡◌, sym, ap, ◌∙◌, arith}
use Rattle.std.specs.Prelude.{Some, slice_get}
use Rattle.std.proofs.lemmas.Option.{slice_get-get_or}
use Rattle.play_schedule.proofs.Orders.{not_after}
use Rattle.play_schedule.proofs.order.order_of.Goals as goal

pub loop-at-preserved : goal.loop-at-preserved
loop-at-preserved c =
    let cues = c.args.cues.now in
    let cue = c.index-cues-at.result in
    let found : slice_get cues c.loop-at.at ≡ Some cue = slice_get-get_or cues c.loop-at.at cue (omega arith) ∙ ap Some (sym c.index-cues-at.is) in
    c.in_ok-add_cue.ensures cues c.args.ticks found (not_after c.args.ticks cues c.loop-at.at cue c.requires found) c.loop-at.invariant
