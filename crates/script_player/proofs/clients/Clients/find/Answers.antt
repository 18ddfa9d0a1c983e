use Rattle.std.proofs.Common.{◌∙◌}
use Rattle.script_player.proofs.clients.Clients.find.Goals as goal

pub returns : goal.returns
returns c = c.copied.ensures ∙ c.get.ensures.value ∙ c.args.self.now.placed c.args.tag
