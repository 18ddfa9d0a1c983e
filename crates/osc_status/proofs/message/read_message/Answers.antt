use Rattle.std.proofs.Common.{arith}
use Rattle.osc_status.proofs.Messages.{is_none, is_read, is_read_again}
use Rattle.osc_status.proofs.message.read_message.Goals as goal

pub returns-clause-read : goal.returns-clause-read
returns-clause-read c = is_read c.args.bytes.now c.message_in.result (λ i. omega (arith, c.type_inv.bytes i)) c.message_in.ensures

pub returns-clause-again : goal.returns-clause-again
returns-clause-again c message of = is_read_again c.args.bytes.now c.message_in.result message c.message_in.ensures of

pub returns-clause-none : goal.returns-clause-none
returns-clause-none c = is_none c.args.bytes.now c.message_in.result (λ i. omega (arith, c.type_inv.bytes i)) c.message_in.ensures
