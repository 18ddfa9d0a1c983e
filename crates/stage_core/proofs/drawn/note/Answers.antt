use Rattle.stage_core.proofs.Routing.{few_after}
use Rattle.stage_core.proofs.drawn.note.Goals as goal

pub show-requires-clause-few : goal.show-requires-clause-few
show-requires-clause-few c = few_after c.args.place (c.in-Some.spec, c.in-Some.frame) c.args.routes.now c.requires.few
