use Rattle.std.proofs.Common.{◌≤◌, List, ◌∙◌, subst, sym}
use Rattle.std.specs.Prelude.{Any}
use Rattle.live_output.specs.declared.reader.Reader.{Reader}
use Rattle.live_output.proofs.Wanted.{any_more}
use Rattle.live_output.proofs.output.LiveOutput.add.Goals as goal

pub returns-clause-added : goal.returns-clause-added
returns-clause-added g c = record {
  reader = c.new.result;
  came = (c.new.ensures.fresh.0, c.new.ensures.fresh.1);
  first = c.new.ensures.fresh.2 ∙ c.count-first.ensures;
  added = c.push_reserved.ensures.items;
}

pub returns-clause-held : goal.returns-clause-held
returns-clause-held g c =
    λ held number since until. subst (λ (l : List (Reader g.row.W.Denot)). Any (λ (r : Reader g.row.W.Denot). r.next ≤ number) l) (sym c.push_reserved.ensures.items)
    (any_more (λ (r : Reader g.row.W.Denot). r.next ≤ number) c.args.self.now.readers.items c.new.result (held number since until))
