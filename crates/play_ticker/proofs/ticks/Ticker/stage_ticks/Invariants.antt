use Rattle.std.proofs.Common.{◌≡◌}
use Rattle.play_ticker.proofs.StagedTicks.{IsStaging}
use Rattle.play_ticker.proofs.ticks.Ticker.stage_ticks.Given as goal

-- one tick was made for each pulse, and its scenes were sent
abbrev pub invariant-loop : goal.invariant-loop
invariant-loop g l = record {
  of : l.pass.stage ≡ l.self.stage.now;
  first : l.pass.number ≡ 0;
  channels : l.pipe.channels ≡ l.self.stage.now.sizes.channels;
  staging : IsStaging l.self.stage.now.sizes.given
      (record { pass = l.initial.pass; clock = g.C.Clock.state l.initial.clock; pipe = l.initial.pipe })
      (record { pass = l.pass; clock = g.C.Clock.state l.clock; pipe = l.pipe });
}
