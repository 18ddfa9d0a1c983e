use Rattle.std.proofs.Common.{◌<◌, ◌≤◌, ap, ◌∙◌, refl, arith}
use Rattle.play_types.specs.History.{ticks}
use Rattle.play_journal.specs.Journal.{JournalView}
use Rattle.play_recorder.specs.inner.Frames.{events_in}
use Rattle.play_recorder.proofs.FrameReplays.{as_many, frame_after_tick, ready_after_skipped, ready_after_tick}
use Rattle.play_recorder.proofs.frame_replay.FrameReplay.tick.Goals as goal

pub render-requires-after_bounds : goal.render-requires-after_bounds
render-requires-after_bounds g c κs within =
    as_many c.args.self.now c.tick.new.self c.args.self.now.renderer c.requires.ready c.tick.ensures.made c.tick.ensures.scenes

pub returns-then-before-self-clause-ready : goal.returns-then-before-self-clause-ready
returns-then-before-self-clause-ready g c =
    let replay = c.args.self.now in
    let before = c.ticks-before.ensures.value ∙ ap (λ (j : JournalView). ticks j.events) c.journal.ensures in
    let late : replay.skipped ≤ ticks (events_in replay) = omega (arith, c.if-before-self.true, before) in
    ready_after_tick replay c.tick.new.self c.render.new.self c.requires.ready c.tick.ensures.made c.tick.ensures.scenes c.render.ensures.rendered late

pub returns-then-before-self-clause-frames : goal.returns-then-before-self-clause-frames
returns-then-before-self-clause-frames g c =
    let replay = c.args.self.now in
    let before = c.ticks-before.ensures.value ∙ ap (λ (j : JournalView). ticks j.events) c.journal.ensures in
    let late : replay.skipped ≤ ticks (events_in replay) = omega (arith, c.if-before-self.true, before) in
    frame_after_tick replay c.tick.new.self c.render.new.self c.requires.ready c.tick.ensures.made c.tick.ensures.scenes c.render.ensures.rendered late

pub returns-else-before-self-clause-ready : goal.returns-else-before-self-clause-ready
returns-else-before-self-clause-ready g c =
    let replay = c.args.self.now in
    let before = c.ticks-before.ensures.value ∙ ap (λ (j : JournalView). ticks j.events) c.journal.ensures in
    let early : ticks (events_in replay) < replay.skipped = omega (arith, c.if-before-self.false, before) in
    ready_after_skipped replay c.tick.new.self replay.renderer c.requires.ready c.tick.ensures.made c.tick.ensures.scenes refl early
