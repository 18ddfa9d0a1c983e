use Rattle.osc_status.proofs.Messages.{one_message}
use Rattle.osc_status.proofs.laws.bytes_have_one_message.Goals as goal

pub returns : goal.returns
returns c = one_message
