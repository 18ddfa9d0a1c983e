use Rattle.std.proofs.Common.{◌≤◌, ℕ, List, ap, arith, inl, inr, refl, subst, sym}
use Rattle.std.specs.Prelude.{All, slice_set}
use Rattle.live_output.specs.declared.reader.Reader.{Reader}
use Rattle.live_output.specs.declared.window.FrameWindow.{FrameWindow}
use Rattle.live_output.proofs.Wanted.{all_after_one}
use Rattle.live_output.proofs.output.LiveOutput.write_to.Goals as goal

pub returns-clause-kept : goal.returns-clause-kept
returns-clause-kept g c =
    λ kept. let before = c.args.self.now in
    let same = c.give_back.ensures.same in
    let readers : List (Reader g.row.W.Denot) = slice_set before.readers.items c.args.at c.write-progress.new.self in
    let gone = ap (λ (w : FrameWindow). w.gone) same in
    c.let_go.ensures.kept (elim kept [
      | inl many ↦ inl (rw same many)
      | inr all ↦ inr (
          subst (λ (n : ℕ). All (λ (r : Reader g.row.W.Denot). n ≤ r.next) readers) (sym gone)
          (all_after_one before.readers.items readers c.args.at before.window.gone c.index_mut.result.now c.write-progress.new.self
          (omega (arith, c.requires, before.readers.ok)) c.index_mut.ensures.value c.write-progress.ensures.next refl all)
          )
    ])
