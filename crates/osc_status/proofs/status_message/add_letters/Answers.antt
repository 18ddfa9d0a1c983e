use Rattle.std.proofs.Common.{append-nil}
use Rattle.osc_status.proofs.Characters.{plain_kept}
use Rattle.osc_status.proofs.status_message.add_letters.Goals as goal

pub returns : goal.returns
returns g c = rw (append-nil, plain_kept c.args.letters.now c.requires) at c.add_text.ensures
