use Rattle.std.proofs.Common.{◌≡◌, length}
use Rattle.play_ticker.specs.Frames.{setup_for}
use Rattle.play_ticker.proofs.WrittenSets.{IsWriting}
use Rattle.play_ticker.proofs.ticks.Ticker.write_all.Given as goal

-- each set that was taken was rendered, written and given back
abbrev pub invariant-loop : goal.invariant-loop
invariant-loop g l = record {
  channels : l.pipe.channels ≡ length l.renderer;
  outs : length l.outs ≡ length l.renderer;
  writing : IsWriting g.O.Sink.state (record { setup = setup_for l.initial.renderer l.self.media.now; given = l.self.stage.now.sizes.given }) l.self.media.now
      (record { pipe = l.initial.pipe; frames = l.initial.renderer; outs = l.initial.outs })
      (record { pipe = l.pipe; frames = l.renderer; outs = l.outs });
}
