use Rattle.made_script.proofs.Tallying.{IsCounted}
use Rattle.made_script.proofs.generating.commands_in.Given as goal

-- the events before the runs that are left were counted
abbrev pub invariant-loop-run : goal.invariant-loop-run
invariant-loop-run l = IsCounted l.journal.events l.commands l.run-iterator
