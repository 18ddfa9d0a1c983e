use Rattle.std.proofs.Common.{[]}
use Rattle.conn_worker.specs.Explained.{covered}
use Rattle.conn_worker.specs.Rounds.{bytes_in}
use Rattle.stage_lock.specs.Calls.{tag_of}
use Rattle.server_laws.proofs.IsAnsweredAgain.{all_answered, not_server}
use Rattle.server_laws.proofs.IsOpenedAgain.{opened_again}
use Rattle.server_laws.proofs.laws.answers_are_written_again.Goals as goal

pub returns-clause-answers : goal.returns-clause-answers
returns-clause-answers g c = λ program worker session history link_run digests link some.
    all_answered program digests (tag_of worker session) history [] (covered link.explained.conversation) (not_server worker session some) link.explained.order

pub returns-clause-openings : goal.returns-clause-openings
returns-clause-openings g c = λ program worker session history link_run digests link before later one event whole makes.
    opened_again program digests (tag_of worker session) (covered link.explained.conversation) (bytes_in link.explained.conversation.rounds) link.explained.steps before later one event whole makes
