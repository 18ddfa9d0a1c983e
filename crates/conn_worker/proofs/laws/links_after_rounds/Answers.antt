use Rattle.conn_worker.proofs.Telling.{rounds_faults, rounds_idle, rounds_looks, rounds_read, rounds_taken}
use Rattle.conn_worker.proofs.laws.links_after_rounds.Goals as goal

pub returns-clause-taken : goal.returns-clause-taken
returns-clause-taken c = rounds_taken

pub returns-clause-faults : goal.returns-clause-faults
returns-clause-faults c = rounds_faults

pub returns-clause-read : goal.returns-clause-read
returns-clause-read c = rounds_read

pub returns-clause-idle : goal.returns-clause-idle
returns-clause-idle c = rounds_idle

pub returns-clause-looks : goal.returns-clause-looks
returns-clause-looks c = rounds_looks
