use Rattle.std.proofs.Common.{◌≡◌, ◌<◌, ◌≤◌, ◌⊎◌, ℕ, length}
use Rattle.std.specs.Prelude.{Any, get_or}
use Rattle.rtrb.specs.Ring.{received}
use Rattle.live_output.specs.declared.reader.Reader.{Reader}
use Rattle.live_output.proofs.output.LiveOutput.first_wanted.Given as goal

-- no reader so far has a position before `first`, and `first` is the position of a reader or the number of the next frame to come
abbrev pub invariant-loop-reader : goal.invariant-loop-reader
invariant-loop-reader g l = record {
  all : (k : ℕ) (d : Reader g.row.W.Denot) → k < l.reader-index → l.first ≤ (get_or l.self.readers.items k d).next;
  one : (l.first ≡ length (received l.self.window.inbox)) ⊎ Any {X = Reader g.row.W.Denot} (λ reader. reader.next ≤ l.first) l.self.readers.items;
}
