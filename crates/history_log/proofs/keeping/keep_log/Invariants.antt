use Rattle.std.proofs.Common.{◌≡◌, []}
use Rattle.history_log.proofs.Pieces.{IsKeeping}
use Rattle.history_log.proofs.keeping.keep_log.Given as goal

-- the text of some pieces was written, and the place is after them
abbrev pub invariant-loop : goal.invariant-loop
invariant-loop g l = record {
  of : l.pass.stage ≡ l.stage;
  text : l.text ≡ [];
  keeping : IsKeeping l.stage.sizes.given l.names (record { pass = l.initial.pass; sink = g.K.Sink.state l.initial.log })
      (record { pass = l.pass; sink = g.K.Sink.state l.log }) l.place;
}
