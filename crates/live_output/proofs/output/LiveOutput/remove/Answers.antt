use Rattle.std.proofs.Common.{◌≤◌, inl, inr, subst, sym, arith, List}
use Rattle.std.specs.Prelude.{All}
use Rattle.live_output.specs.declared.reader.Reader.{Reader}
use Rattle.live_output.proofs.Wanted.{all_removed}
use Rattle.live_output.proofs.output.LiveOutput.remove.Goals as goal

pub returns-clause-kept : goal.returns-clause-kept
returns-clause-kept g c =
    λ kept. let gone = c.args.self.now.window.gone in
    c.let_go.ensures.kept (elim kept [
      | inl many ↦ inl many
      | inr all ↦ inr (
          subst (λ (l : List (Reader g.row.W.Denot)). All (λ (r : Reader g.row.W.Denot). gone ≤ r.next) l) (sym c.remove-reader.ensures.items)
          (all_removed (λ (r : Reader g.row.W.Denot). gone ≤ r.next) c.args.self.now.readers.items c.args.at (omega (arith, c.requires, c.args.self.now.readers.ok)) all)
          )
    ])
