use Rattle.std.proofs.Common.{length, ap}
use Rattle.rtrb.specs.Ring.{received}
use Rattle.live_output.proofs.Wanted.{held_wanted}
use Rattle.live_output.proofs.output.LiveOutput.let_go.Goals as goal

pub returns-clause-held : goal.returns-clause-held
returns-clause-held g c =
    λ number since until. let window = c.let_go_before.new.self in
    held_wanted c.args.self.now.readers.items window.frames.items (received window.inbox) window.gone c.first_wanted-first.result _ number window.last
    (ap length c.let_go_before.ensures.same.0) c.first_wanted-first.ensures.one c.let_go_before.ensures.gone since until
