use Rattle.std.proofs.Common.{◌≡◌, ◌+◌, ◌≤◌, ◌∷◌, ◌++◌, All, length, reverse, vec_capacity, vec_len}
use Rattle.stage_lock.specs.Views.{SharedView}
use Rattle.server_run.specs.inner.Threads.{counts_of, sessions_in, ticker_pass, worker_passes}
use Rattle.server_run.specs.inner.Workers.{MayCome, MayWork, door_states, doors_of, passes_of}
use Rattle.server_run.proofs.connection_workers.engage.Given as goal

-- the last doors are in workers, and the others are left
abbrev pub invariant-loop-door : goal.invariant-loop-door
invariant-loop-door g l = record {
  connection_workers : vec_len l.connection_workers + vec_len l.doors ≡ vec_len l.initial.doors;
  passes : l.initial.passes.items ≡ l.passes.items ++ passes_of (reverse l.connection_workers.items);
  doors : l.initial.doors.items ≡ l.doors.items ++ doors_of (reverse l.connection_workers.items);
  passes_left : vec_len l.doors ≤ vec_len l.passes;
  sessions_left : vec_len l.sessions ≡ vec_len l.doors;
  room : vec_capacity l.connection_workers ≡ vec_capacity l.initial.connection_workers;
  passes_room : vec_capacity l.passes ≡ vec_capacity l.initial.passes;
  doors_room : vec_capacity l.doors ≡ vec_capacity l.initial.doors;
  may_work : (stage : SharedView) → l.initial.passes.items ≡ ticker_pass stage ∷ worker_passes stage (vec_len l.initial.doors)
      → counts_of l.initial.sessions.items ≡ sessions_in stage.sizes.given (vec_len l.initial.doors) → All (MayCome g.D.Listener.state) l.initial.doors.items
      → (l.passes.items ≡ ticker_pass stage ∷ worker_passes stage (vec_len l.doors))
      × (counts_of l.sessions.items ≡ sessions_in stage.sizes.given (vec_len l.doors))
      × All (MayCome g.D.Listener.state) l.doors.items
      × All (MayWork (door_states g.D.Listener.state g.D.Line.Sink.state) stage) l.connection_workers.items;
}

abbrev pub decreases-loop-door : goal.decreases-loop-door
decreases-loop-door g l = length l.doors.items
