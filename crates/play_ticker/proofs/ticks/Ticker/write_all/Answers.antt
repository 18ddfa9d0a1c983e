use Rattle.std.proofs.Common.{◌∙◌, sym}
use Rattle.play_ticker.specs.Frames.{setup_for}
use Rattle.play_ticker.specs.Outputs.{Beginning}
use Rattle.play_ticker.specs.inner.Writing.{Writing}
use Rattle.play_ticker.proofs.WrittenSets.{IsWriting, failed_open, writing_done, writing_failed, writing_first, writing_goes}
use Rattle.play_ticker.proofs.ticks.Ticker.write_all.Goals as goal

pub loop-init : goal.loop-init
loop-init g c = record {
  channels = c.requires.channels;
  outs = c.requires.outs;
  writing = writing_first g.O.Sink.state c.args.self.now.stage.now.sizes.given c.args.self.now.media.now (record { pipe = c.args.pipe.now; frames = c.args.renderer.now; outs = c.args.outs.now })
      c.frames_represent_histories.ensures.other c.requires.last c.requires.taken c.requires.given;
}

pub loop-preserved : goal.loop-preserved
loop-preserved g c =
    let begin : Beginning = record { setup = setup_for c.args.renderer.now c.args.self.now.media.now; given = c.args.self.now.stage.now.sizes.given } in
    let base : Writing g.row.O.Denot = record { pipe = c.args.pipe.now; frames = c.args.renderer.now; outs = c.args.outs.now } in
    let old : Writing g.row.O.Denot = record { pipe = c.loop.pipe; frames = c.loop.renderer; outs = c.loop.outs } in
    let new : Writing g.row.O.Denot = record { pipe = c.write_next.new.pipe; frames = c.write_next.new.renderer; outs = c.write_next.new.outs } in
    let goes : IsWriting g.O.Sink.state begin c.args.self.now.media.now base new =
    writing_goes g.O.Sink.state begin c.args.self.now.media.now base old new
    c.frames_represent_histories.ensures.other c.frames_represent_histories.ensures.tick c.frames_of_a_tick.ensures
    (record { channels = c.requires.channels; outs = c.requires.outs }) c.in-Written.ensures.channels c.in-Written.ensures.step c.loop.invariant.writing in
    record {
      channels = goes.same.channels ∙ c.requires.channels ∙ sym goes.frames;
      outs = goes.many ∙ c.requires.outs ∙ sym goes.frames;
      writing = goes;
    }

pub returns-in-Done : goal.returns-in-Done
returns-in-Done g c =
    writing_done g.O.Sink.state (record { setup = setup_for c.args.renderer.now c.args.self.now.media.now; given = c.args.self.now.stage.now.sizes.given }) c.args.self.now.media.now
    (record { pipe = c.args.pipe.now; frames = c.args.renderer.now; outs = c.args.outs.now })
    (record { pipe = c.loop.pipe; frames = c.loop.renderer; outs = c.loop.outs })
    (record { pipe = c.write_next.new.pipe; frames = c.write_next.new.renderer; outs = c.write_next.new.outs })
    c.in-Done.ensures.step.0 c.in-Done.ensures.step.2 c.loop.invariant.writing

pub returns-in-Failed : goal.returns-in-Failed
returns-in-Failed g c =
    writing_failed g.O.Sink.state (record { setup = setup_for c.args.renderer.now c.args.self.now.media.now; given = c.args.self.now.stage.now.sizes.given }) c.args.self.now.media.now c.in-Failed.channel
    (record { pipe = c.args.pipe.now; frames = c.args.renderer.now; outs = c.args.outs.now })
    (record { pipe = c.loop.pipe; frames = c.loop.renderer; outs = c.loop.outs })
    (record { pipe = c.write_next.new.pipe; frames = c.write_next.new.renderer; outs = c.write_next.new.outs })
    c.give_back.new.pipe c.frames_of_a_tick.ensures
    (record { channels = c.requires.channels; outs = c.requires.outs })
    c.in-Failed.ensures.step.0 c.in-Failed.ensures.step.1 c.give_back.ensures c.loop.invariant.writing

pub give_back-requires : goal.give_back-requires
give_back-requires g c =
    failed_open g.O.Sink.state (record { setup = setup_for c.args.renderer.now c.args.self.now.media.now; given = c.args.self.now.stage.now.sizes.given }) c.args.self.now.media.now c.in-Failed.channel
    (record { pipe = c.args.pipe.now; frames = c.args.renderer.now; outs = c.args.outs.now })
    (record { pipe = c.loop.pipe; frames = c.loop.renderer; outs = c.loop.outs })
    (record { pipe = c.write_next.new.pipe; frames = c.write_next.new.renderer; outs = c.write_next.new.outs })
    c.in-Failed.ensures.step.1 c.loop.invariant.writing
