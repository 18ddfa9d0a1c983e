-- What a link exposes of its reads.
use Rattle.std.specs.Prelude.{ℕ, Bool, false, List, []}
use Rattle.play_outside.specs.declared.link.Look.{Look}

-- all bytes that were read, in order; the reads that did not fail, in order; and whether a read has answered End
pub record Reading : Type 0 where
  pub bytes : List ℕ
  pub looks : List Look
  pub ended : Bool

-- no read was made yet
abbrev pub unread : Reading
unread = record { bytes = []; looks = []; ended = false }
