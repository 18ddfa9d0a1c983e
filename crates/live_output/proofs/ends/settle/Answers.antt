use Rattle.std.proofs.Common.{List, ℕ, sym, subst, ◌∙◌}
use Rattle.std.specs.Prelude.{get_or}
use Rattle.rtrb.specs.Ring.{known_items, received}
use Rattle.live_output.specs.Got.{HasGot}
use Rattle.live_output.proofs.Written.{got_written}
use Rattle.live_output.proofs.ends.settle.Goals as goal

pub returns-clause-got : goal.returns-clause-got
returns-clause-got g c =
    λ written cut served k d inside.
    let reader = get_or c.args.output.now.readers.items k d in
    got_written g.W.Write.contents written c.args.cutter.now (received c.slots_beside.new.self) (known_items c.slots_beside.new.self) reader cut
    (c.slots_beside.ensures.fifo ∙ c.slots_beside.ensures.producer.1)
    (subst (λ (l : List (List ℕ)). HasGot g.W.Write.contents l reader) (sym c.slots_beside.ensures.looked.1) (served k d inside))
