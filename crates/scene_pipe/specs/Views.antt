-- The two ends of a pipe in contracts.
use Rattle.std.specs.Prelude.{ℕ, List}
use Rattle.std.specs.Global.{Global}
use denote.RawPtr.{Ptr}
use Rattle.rtrb.specs.Shared.{Names}
use Rattle.rtrb.specs.declared.producer.Producer.{Producer}
use Rattle.rtrb.specs.declared.consumer.Consumer.{Consumer}
use Rattle.play_types.specs.declared.drawn.Drawn.{Drawn}
use Rattle.scene_pipe.specs.declared.item.Taken.{Taken}
use Rattle.scene_pipe.specs.declared.item.Returned.{Returned}

-- the identity of a ring
pub record RingId : Type 0 where
  pub words : Ptr
  pub slots : Ptr
  pub names : Names
  pub heap : Global

-- the number of items that a ring has room for
abbrev pub slots_of : RingId → ℕ
slots_of ring = ring.names.0

module _ {T P : Type 0} where
  -- the ring that an end pushes into
  abbrev pub producer_ring : Producer T Global P → RingId
  producer_ring p = record { words = p.end.words; slots = p.end.slots; names = p.end.names; heap = p.end.heap }

  -- the ring that an end pops from
  abbrev pub consumer_ring : Consumer T Global P → RingId
  consumer_ring c = record { words = c.end.words; slots = c.end.slots; names = c.end.names; heap = c.end.heap }

-- the end that stages: the rings that lead to the other end and back, the number of channels of its scenes, the scenes that it
-- holds, and all that it sent and that came back, in order
pub record StageView : Type 0 where
  pub pipe : RingId × RingId
  pub channels : ℕ
  pub held : List (List (List Drawn))
  pub sent : List Taken
  pub returned : List Returned

-- the end that writes: the rings of its pipe, the number of channels of its scenes, and all that it took and gave back, in order
pub record WriteView : Type 0 where
  pub pipe : RingId × RingId
  pub channels : ℕ
  pub taken : List Taken
  pub given : List Returned
