use Rattle.std.proofs.Common.{sym, ap, ◌∙◌}
use Rattle.script_player.specs.Clients.{batch_in}
use Rattle.script_player.proofs.Connections.{batch_there, none_found}
use Rattle.script_player.proofs.clients.Clients.batch.Goals as goal

pub returns-in-Some : goal.returns-in-Some
returns-in-Some c =
    c.batch_in.ensures
    ∙ sym (batch_there c.args.tag c.in-Some.at c.args.self.now.list.items c.index.result.now (sym c.find.ensures ∙ c.in-Some.is) (sym c.index.ensures))

pub returns-in-None : goal.returns-in-None
returns-in-None c = sym (ap batch_in (none_found c.args.tag c.args.self.now.list.items (sym c.find.ensures ∙ c.in-None.is)))
