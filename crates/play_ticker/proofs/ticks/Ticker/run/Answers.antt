use Rattle.std.proofs.Common.{◌≡◌, ◌∙◌, ℕ, Option, List, sym, ap, subst}
use Rattle.std.specs.Vec.{with_items}
use Rattle.std.proofs.lemmas.List.{with_items_is}
use Rattle.stage_lock.specs.Views.{SharedView}
use Rattle.play_ticker.specs.Ends.{HasEnded}
use Rattle.play_ticker.specs.Frames.{setup_for}
use Rattle.play_ticker.specs.Outputs.{AreWritten, Beginning, Shown, shown_from}
use Rattle.play_ticker.specs.inner.Staging.{Staging}
use Rattle.play_ticker.specs.inner.Writing.{Writing}
use Rattle.play_ticker.specs.declared.ending.TickEnd.TheVariants.{OutFault}
use Rattle.play_ticker.proofs.Joining.{AreSettled, end_by, joined_end, joined_outs, sent_closed, settled, written_length}
use Rattle.play_ticker.proofs.ticks.Ticker.run.Goals as goal

pub settle-requires-clause-finished : goal.settle-requires-clause-finished
settle-requires-clause-finished g c =
    sent_closed c.args.self.now.stage.now.sizes.given c.run_sides-failed.result.1
    (record { pass = c.args.pass.now; clock = g.C.Clock.state c.args.clock.now; pipe = c.args.ends.now.stage_end })
    (record { pass = c.run_sides-failed.new.pass; clock = g.C.Clock.state c.run_sides-failed.new.clock; pipe = c.run_sides-failed.new.ends.stage_end })
    c.run_sides-failed.ensures.staged

pub returns-in-Some-clause-outs : goal.returns-in-Some-clause-outs
returns-in-Some-clause-outs g c =
    let channels : ℕ = c.args.self.now.stage.now.sizes.channels in
    let base : Writing g.row.O.Denot = record { pipe = c.args.ends.now.write_end; frames = c.args.renderer.now; outs = c.as_mut_slice.result.now } in
    let now : Writing g.row.O.Denot = record { pipe = c.run_sides-failed.new.ends.write_end; frames = c.run_sides-failed.new.renderer; outs = c.run_sides-failed.new.outs } in
    let first : Staging = record { pass = c.args.pass.now; clock = g.C.Clock.state c.args.clock.now; pipe = c.args.ends.now.stage_end } in
    let last : Staging = record { pass = c.run_sides-failed.new.pass; clock = g.C.Clock.state c.run_sides-failed.new.clock; pipe = c.run_sides-failed.new.ends.stage_end } in
    let begin : Beginning = record { setup = setup_for c.args.renderer.now c.args.self.now.media.now; given = c.args.self.now.stage.now.sizes.given } in
    let shown : Shown = shown_from begin last.pass.seen in
    let same : AreSettled channels now.pipe last.pipe =
    settled channels now.pipe c.settle.new.write last.pipe c.settle.new.stage c.settle.ensures.write c.settle.ensures.stage c.settle.ensures.taken c.settle.ensures.returned c.settle.ensures.none_passed
    (c.run_sides-failed.ensures.written.same.channels ∙ c.requires.pipe.write_channels) (c.run_sides-failed.ensures.staged.same.channels ∙ c.requires.pipe.stage_channels) in
    let written : AreWritten g.O.Sink.state (end_by c.run_sides-failed.result.0 c.run_sides-failed.result.1) shown base.outs now.outs =
    joined_outs g.O.Sink.state c.run_sides-failed.result.0 c.run_sides-failed.result.1 channels begin base now first last c.free_scenes_before_the_news.ensures same
    c.run_sides-failed.ensures.written c.run_sides-failed.ensures.staged c.requires.pipe.stage_channels in
    let all : (with_items c.args.outs.now now.outs).items ≡ now.outs =
    with_items_is c.args.outs.now now.outs
    (written_length g.O.Sink.state (end_by c.run_sides-failed.result.0 c.run_sides-failed.result.1) shown base.outs now.outs written ∙ c.as_mut_slice.ensures.len) in
    subst (λ (outs : List g.row.O.Denot). AreWritten g.O.Sink.state (OutFault c.in-Some.channel) shown c.args.outs.now.items outs) (sym all)
    (subst (λ (outs : List g.row.O.Denot). AreWritten g.O.Sink.state (OutFault c.in-Some.channel) shown outs now.outs) c.as_mut_slice.ensures.value
    (subst (λ (failed : Option ℕ). AreWritten g.O.Sink.state (end_by failed c.run_sides-failed.result.1) shown base.outs now.outs) c.in-Some.is written))

pub returns-in-None-clause-outs : goal.returns-in-None-clause-outs
returns-in-None-clause-outs g c =
    let channels : ℕ = c.args.self.now.stage.now.sizes.channels in
    let base : Writing g.row.O.Denot = record { pipe = c.args.ends.now.write_end; frames = c.args.renderer.now; outs = c.as_mut_slice.result.now } in
    let now : Writing g.row.O.Denot = record { pipe = c.run_sides-failed.new.ends.write_end; frames = c.run_sides-failed.new.renderer; outs = c.run_sides-failed.new.outs } in
    let first : Staging = record { pass = c.args.pass.now; clock = g.C.Clock.state c.args.clock.now; pipe = c.args.ends.now.stage_end } in
    let last : Staging = record { pass = c.run_sides-failed.new.pass; clock = g.C.Clock.state c.run_sides-failed.new.clock; pipe = c.run_sides-failed.new.ends.stage_end } in
    let begin : Beginning = record { setup = setup_for c.args.renderer.now c.args.self.now.media.now; given = c.args.self.now.stage.now.sizes.given } in
    let shown : Shown = shown_from begin last.pass.seen in
    let same : AreSettled channels now.pipe last.pipe =
    settled channels now.pipe c.settle.new.write last.pipe c.settle.new.stage c.settle.ensures.write c.settle.ensures.stage c.settle.ensures.taken c.settle.ensures.returned c.settle.ensures.none_passed
    (c.run_sides-failed.ensures.written.same.channels ∙ c.requires.pipe.write_channels) (c.run_sides-failed.ensures.staged.same.channels ∙ c.requires.pipe.stage_channels) in
    let written : AreWritten g.O.Sink.state (end_by c.run_sides-failed.result.0 c.run_sides-failed.result.1) shown base.outs now.outs =
    joined_outs g.O.Sink.state c.run_sides-failed.result.0 c.run_sides-failed.result.1 channels begin base now first last c.free_scenes_before_the_news.ensures same
    c.run_sides-failed.ensures.written c.run_sides-failed.ensures.staged c.requires.pipe.stage_channels in
    let all : (with_items c.args.outs.now now.outs).items ≡ now.outs =
    with_items_is c.args.outs.now now.outs
    (written_length g.O.Sink.state (end_by c.run_sides-failed.result.0 c.run_sides-failed.result.1) shown base.outs now.outs written ∙ c.as_mut_slice.ensures.len) in
    subst (λ (outs : List g.row.O.Denot). AreWritten g.O.Sink.state c.run_sides-failed.result.1 shown c.args.outs.now.items outs) (sym all)
    (subst (λ (outs : List g.row.O.Denot). AreWritten g.O.Sink.state c.run_sides-failed.result.1 shown outs now.outs) c.as_mut_slice.ensures.value
    (subst (λ (failed : Option ℕ). AreWritten g.O.Sink.state (end_by failed c.run_sides-failed.result.1) shown base.outs now.outs) c.in-None.is written))

pub returns-in-Some-clause-ended : goal.returns-in-Some-clause-ended
returns-in-Some-clause-ended g c =
    let channels : ℕ = c.args.self.now.stage.now.sizes.channels in
    let base : Writing g.row.O.Denot = record { pipe = c.args.ends.now.write_end; frames = c.args.renderer.now; outs = c.as_mut_slice.result.now } in
    let now : Writing g.row.O.Denot = record { pipe = c.run_sides-failed.new.ends.write_end; frames = c.run_sides-failed.new.renderer; outs = c.run_sides-failed.new.outs } in
    let first : Staging = record { pass = c.args.pass.now; clock = g.C.Clock.state c.args.clock.now; pipe = c.args.ends.now.stage_end } in
    let last : Staging = record { pass = c.run_sides-failed.new.pass; clock = g.C.Clock.state c.run_sides-failed.new.clock; pipe = c.run_sides-failed.new.ends.stage_end } in
    let same : AreSettled channels now.pipe last.pipe =
    settled channels now.pipe c.settle.new.write last.pipe c.settle.new.stage c.settle.ensures.write c.settle.ensures.stage c.settle.ensures.taken c.settle.ensures.returned c.settle.ensures.none_passed
    (c.run_sides-failed.ensures.written.same.channels ∙ c.requires.pipe.write_channels) (c.run_sides-failed.ensures.staged.same.channels ∙ c.requires.pipe.stage_channels) in
    subst
    (λ (failed : Option ℕ). HasEnded c.args.self.now.stage.now.sizes.given (end_by failed c.run_sides-failed.result.1) (record { pass = first.pass; clock = first.clock }) (record { pass = last.pass; clock = last.clock }))
    c.in-Some.is
    (joined_end g.O.Sink.state c.run_sides-failed.result.0 c.run_sides-failed.result.1 channels (record { setup = setup_for c.args.renderer.now c.args.self.now.media.now; given = c.args.self.now.stage.now.sizes.given }) base now first last same
    c.run_sides-failed.ensures.written c.run_sides-failed.ensures.staged
    (c.requires.ready.renderer ∙ sym (ap (λ (s : SharedView). s.sizes.channels) c.run_sides-failed.ensures.of)))

pub returns-in-None-clause-ended : goal.returns-in-None-clause-ended
returns-in-None-clause-ended g c =
    let channels : ℕ = c.args.self.now.stage.now.sizes.channels in
    let base : Writing g.row.O.Denot = record { pipe = c.args.ends.now.write_end; frames = c.args.renderer.now; outs = c.as_mut_slice.result.now } in
    let now : Writing g.row.O.Denot = record { pipe = c.run_sides-failed.new.ends.write_end; frames = c.run_sides-failed.new.renderer; outs = c.run_sides-failed.new.outs } in
    let first : Staging = record { pass = c.args.pass.now; clock = g.C.Clock.state c.args.clock.now; pipe = c.args.ends.now.stage_end } in
    let last : Staging = record { pass = c.run_sides-failed.new.pass; clock = g.C.Clock.state c.run_sides-failed.new.clock; pipe = c.run_sides-failed.new.ends.stage_end } in
    let same : AreSettled channels now.pipe last.pipe =
    settled channels now.pipe c.settle.new.write last.pipe c.settle.new.stage c.settle.ensures.write c.settle.ensures.stage c.settle.ensures.taken c.settle.ensures.returned c.settle.ensures.none_passed
    (c.run_sides-failed.ensures.written.same.channels ∙ c.requires.pipe.write_channels) (c.run_sides-failed.ensures.staged.same.channels ∙ c.requires.pipe.stage_channels) in
    subst
    (λ (failed : Option ℕ). HasEnded c.args.self.now.stage.now.sizes.given (end_by failed c.run_sides-failed.result.1) (record { pass = first.pass; clock = first.clock }) (record { pass = last.pass; clock = last.clock }))
    c.in-None.is
    (joined_end g.O.Sink.state c.run_sides-failed.result.0 c.run_sides-failed.result.1 channels (record { setup = setup_for c.args.renderer.now c.args.self.now.media.now; given = c.args.self.now.stage.now.sizes.given }) base now first last same
    c.run_sides-failed.ensures.written c.run_sides-failed.ensures.staged
    (c.requires.ready.renderer ∙ sym (ap (λ (s : SharedView). s.sizes.channels) c.run_sides-failed.ensures.of)))
