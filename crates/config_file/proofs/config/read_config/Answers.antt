use Rattle.std.proofs.lemmas.Bool.{false≢true}
use Rattle.toml.specs.View.{table_view}
use Rattle.config_file.proofs.Reading.{told_read, not_toml}
use Rattle.config_file.proofs.config.read_config.Goals as goal

pub returns-in-Ok : goal.returns-in-Ok
returns-in-Ok c = told_read c.args.bytes.now (table_view c.in-Ok.table) c.config_of.result c.in-Ok.ensures.ok.0 c.in-Ok.ensures.ok.1 c.config_of.ensures

pub returns-else-is_memory : goal.returns-else-is_memory
returns-else-is_memory c = not_toml c.args.bytes.now (c.in-Err.ensures.refused (λ memory. false≢true (c.if-is_memory.ensures.1 memory)))
