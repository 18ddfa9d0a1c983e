use Rattle.std.proofs.Common.{rules, ◌≡◌, ◌+◌, ◌-◌, ◌++◌, ℕ, List, take, drop, subst, sym, ap, arith, append_assoc, ◌∙◌}
use Rattle.std.proofs.Math.Seq.{take-add}
use Rattle.live_output.specs.Cut.{IsCut}
use Rattle.live_output.proofs.cutter.FrameCutter.write.Goals as goal

pub loop-from-preserved : goal.loop-from-preserved
loop-from-preserved c = record {
  fits = omega (arith, c.min-count.ensures, c.loop-from-test.true);
  size = c.add.ensures.size ∙ c.loop-from.invariant.size;
  cut =
      λ written cut.
      let from : ℕ = c.loop-from.from in
      let count : ℕ = c.min-count.result in
      let piece : List ℕ = c.args.piece.now in
      let so_far = c.add.ensures.cut (written ++ take from piece) (c.loop-from.invariant.cut written cut) in
      let long : from + count - from ≡ count = omega arith in
      let parts : take from piece ++ take (from + count - from) (drop from piece) ≡ take (from + count) piece =
      ap (λ (n : ℕ). take from piece ++ take n (drop from piece)) long ∙ sym (take-add from count piece) in
      subst (λ (l : List ℕ). IsCut l c.add.new.self) (append_assoc written (take from piece) (take (from + count - from) (drop from piece)) ∙ ap (λ (l : List ℕ). written ++ l) parts) so_far;
  rings = search rules;
}
