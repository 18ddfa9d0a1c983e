use Rattle.std.proofs.Common.{◌≡◌, ◌+◌, ◌++◌, length, reverse, vec_capacity, vec_len}
use Rattle.server_run.specs.inner.Workers.{doors_of, passes_of}
use Rattle.server_run.proofs.connection_workers.release.Given as goal

-- the last workers have given their passes and doors back, and the others are left
abbrev pub invariant-loop-worker : goal.invariant-loop-worker
invariant-loop-worker g l = record {
  passes : l.passes.items ++ passes_of (reverse l.connection_workers.items)
      ≡ l.initial.passes.items ++ passes_of (reverse l.initial.connection_workers.items);
  doors : l.doors.items ++ doors_of (reverse l.connection_workers.items)
      ≡ l.initial.doors.items ++ doors_of (reverse l.initial.connection_workers.items);
  passes_many : vec_len l.passes + vec_len l.connection_workers ≡ vec_len l.initial.passes + vec_len l.initial.connection_workers;
  doors_many : vec_len l.doors + vec_len l.connection_workers ≡ vec_len l.initial.doors + vec_len l.initial.connection_workers;
  passes_room : vec_capacity l.passes ≡ vec_capacity l.initial.passes;
  doors_room : vec_capacity l.doors ≡ vec_capacity l.initial.doors;
}

abbrev pub decreases-loop-worker : goal.decreases-loop-worker
decreases-loop-worker g l = length l.connection_workers.items
