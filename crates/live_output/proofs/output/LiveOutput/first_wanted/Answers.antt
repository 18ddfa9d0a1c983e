use Rattle.std.proofs.Common.{◌≡◌, ◌<◌, List, length, subst}
use Rattle.std.specs.Prelude.{get_or}
use Rattle.live_output.specs.declared.reader.Reader.{Reader}
use Rattle.live_output.proofs.Wanted.{all_up_to, one_up_to}
use Rattle.live_output.proofs.output.LiveOutput.first_wanted.Goals as goal

pub loop-reader-preserved : goal.loop-reader-preserved
loop-reader-preserved g c =
    let readers = c.args.self.now.readers.items in
    let i = c.loop-reader.reader-index in
    let reader = c.reader-item.result in
    let inside : i < length readers = subst (λ (l : List (Reader g.row.W.Denot)). i < length l) c.deref-reader-items.ensures.value c.loop-reader-test.true in
    let is : reader ≡ get_or readers i reader = subst (λ (l : List (Reader g.row.W.Denot)). reader ≡ get_or l i reader) c.deref-reader-items.ensures.value c.reader-item.is in record {
      all = all_up_to readers i c.loop-reader.first c.min-first.result reader inside is c.min-first.ensures c.loop-reader.invariant.all;
      one = one_up_to readers i c.loop-reader.first c.min-first.result _ reader inside is c.min-first.ensures c.loop-reader.invariant.one;
    }
