use Rattle.play_ticker.proofs.WrittenSets.{GoesBack}
use Rattle.play_ticker.proofs.writing.give_back.Given as goal

abbrev pub invariant-loop : goal.invariant-loop
invariant-loop g l = GoesBack l.initial.pipe l.pipe
