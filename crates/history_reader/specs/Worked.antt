-- Words for the worked examples.
use Rattle.history_model.specs.Worked.{one_pixel}
use Rattle.history_model.specs.scripts.History.{Playout}
use Rattle.history_model.specs.scripts.Output.{plain_config}

-- one channel of one pixel, whose journal holds at most one command
abbrev pub short_journal : Playout
short_journal = record one_pixel { config = record (plain_config 1 1) { journal_limit = 1 } }
