use Rattle.std.specs.List.{AllWithin}
use Rattle.history_replay.specs.Replay.{IsTextName}
use Rattle.server_run.proofs.run_memory.read_names.Given as goal

abbrev pub invariant-loop-at : goal.invariant-loop-at
invariant-loop-at l = AllWithin IsTextName l.names 0 l.at
