use Rattle.std.proofs.Common.{subst}
use Rattle.play_journal.specs.Journal.{IsJournal}
use Rattle.play_journal.proofs.Kept.{is_journal}
use Rattle.play_journal.proofs.journal.Journal.held.Goals as goal

pub returns-clause-range : goal.returns-clause-range
returns-clause-range c =
    subst IsJournal c.self.view_is
    (is_journal _ c.self.inside.entries c.self.inside.after c.self.inside.stop c.self.invariant.0)
