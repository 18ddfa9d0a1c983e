use Rattle.std.proofs.Common.{◌∙◌, sym, subst}
use Rattle.play_outside.specs.SinkState.{SinkState}
use Rattle.play_outside.specs.declared.sink.Sent.TheVariants as sent
use Rattle.history_log.specs.Log.{Moment}
use Rattle.history_log.proofs.Pieces.{HasLooked, IsKeeping, log_ends, none_kept, one_looked, piece_kept}
use Rattle.history_log.proofs.keeping.keep_log.Goals as goal

pub loop-init : goal.loop-init
loop-init g c = record {
  of = c.requires.of;
  text = c.new-text.ensures;
  keeping = none_kept c.args.stage.now.sizes.given c.args.names.now (record { pass = c.args.pass.now; sink = g.K.Sink.state c.args.log.now }) c.start-place.result c.start-place.ensures;
}

pub write_runs-requires : goal.write_runs-requires
write_runs-requires g c =
    let old : Moment = record { pass = c.args.pass.now; sink = g.K.Sink.state c.args.log.now } in
    let now : Moment = record { pass = c.loop.pass; sink = g.K.Sink.state c.loop.log } in
    let found : Moment = record { pass = c.look-is_all.new.pass; sink = g.K.Sink.state c.loop.log } in
    let looked : HasLooked c.args.stage.now.sizes.given c.args.names.now old found c.look-is_all.new.place c.look-is_all.new.room =
    one_looked c.args.stage.now.sizes.given c.args.names.now old now c.look-is_all.new.pass c.loop.place c.look-is_all.new.place c.look-is_all.new.room c.look-is_all.result
    c.loop.invariant.keeping c.look-is_all.ensures.looks in
    record { none = c.loop.invariant.text; apart = looked.are.apart }

pub returns-in_err-write_runs-clause-keeps : goal.returns-in_err-write_runs-clause-keeps
returns-in_err-write_runs-clause-keeps g c =
    let old : Moment = record { pass = c.args.pass.now; sink = g.K.Sink.state c.args.log.now } in
    let now : Moment = record { pass = c.loop.pass; sink = g.K.Sink.state c.loop.log } in
    let found : Moment = record { pass = c.look-is_all.new.pass; sink = g.K.Sink.state c.loop.log } in
    let looked : HasLooked c.args.stage.now.sizes.given c.args.names.now old found c.look-is_all.new.place c.look-is_all.new.room =
    one_looked c.args.stage.now.sizes.given c.args.names.now old now c.look-is_all.new.pass c.loop.place c.look-is_all.new.place c.look-is_all.new.room c.look-is_all.result
    c.loop.invariant.keeping c.look-is_all.ensures.looks in
    rw c.from_residual.ensures
    (log_ends c.args.stage.now.sizes.given sent.Failed c.args.names.now old found (g.K.Sink.state c.write_runs.new.log) c.look-is_all.new.place c.look-is_all.new.room looked
    (rw c.in_err-write_runs.ensures at c.write_runs.ensures.sends) (λ all. absurd (cc (all))))

pub returns-then-has_stop-clause-keeps : goal.returns-then-has_stop-clause-keeps
returns-then-has_stop-clause-keeps g c =
    let old : Moment = record { pass = c.args.pass.now; sink = g.K.Sink.state c.args.log.now } in
    let now : Moment = record { pass = c.loop.pass; sink = g.K.Sink.state c.loop.log } in
    let found : Moment = record { pass = c.look-is_all.new.pass; sink = g.K.Sink.state c.loop.log } in
    let looked : HasLooked c.args.stage.now.sizes.given c.args.names.now old found c.look-is_all.new.place c.look-is_all.new.room =
    one_looked c.args.stage.now.sizes.given c.args.names.now old now c.look-is_all.new.pass c.loop.place c.look-is_all.new.place c.look-is_all.new.room c.look-is_all.result
    c.loop.invariant.keeping c.look-is_all.ensures.looks in
    log_ends c.args.stage.now.sizes.given sent.All c.args.names.now old found (g.K.Sink.state c.write_runs.new.log) c.look-is_all.new.place c.look-is_all.new.room looked
    (rw c.in_ok-write_runs.ensures at c.write_runs.ensures.sends) (λ _. sym c.has_stop.ensures ∙ c.if-has_stop.true)

pub loop-preserved-then-is_all : goal.loop-preserved-then-is_all
loop-preserved-then-is_all g c =
    let old : Moment = record { pass = c.args.pass.now; sink = g.K.Sink.state c.args.log.now } in
    let now : Moment = record { pass = c.loop.pass; sink = g.K.Sink.state c.loop.log } in
    let found : Moment = record { pass = c.look-is_all.new.pass; sink = g.K.Sink.state c.loop.log } in
    let looked : HasLooked c.args.stage.now.sizes.given c.args.names.now old found c.look-is_all.new.place c.look-is_all.new.room =
    one_looked c.args.stage.now.sizes.given c.args.names.now old now c.look-is_all.new.pass c.loop.place c.look-is_all.new.place c.look-is_all.new.room c.look-is_all.result
    c.loop.invariant.keeping c.look-is_all.ensures.looks in
    let kept : IsKeeping c.args.stage.now.sizes.given c.args.names.now old (record { pass = c.look-is_all.new.pass; sink = g.K.Sink.state c.write_runs.new.log }) c.look-is_all.new.place =
    piece_kept c.args.stage.now.sizes.given c.args.names.now old found (g.K.Sink.state c.write_runs.new.log) c.look-is_all.new.place c.look-is_all.new.room looked
    (rw c.in_ok-write_runs.ensures at c.write_runs.ensures.sends) in
    record {
      of = c.look-is_all.ensures.of;
      text = c.write_runs.ensures.none;
      keeping = subst (λ (sink : SinkState). IsKeeping c.args.stage.now.sizes.given c.args.names.now old (record { pass = c.look-is_all.new.pass; sink = sink }) c.look-is_all.new.place)
          (sym c.rest.ensures) kept;
    }

pub loop-preserved : goal.loop-preserved
loop-preserved g c =
    let old : Moment = record { pass = c.args.pass.now; sink = g.K.Sink.state c.args.log.now } in
    let now : Moment = record { pass = c.loop.pass; sink = g.K.Sink.state c.loop.log } in
    let found : Moment = record { pass = c.look-is_all.new.pass; sink = g.K.Sink.state c.loop.log } in
    let looked : HasLooked c.args.stage.now.sizes.given c.args.names.now old found c.look-is_all.new.place c.look-is_all.new.room =
    one_looked c.args.stage.now.sizes.given c.args.names.now old now c.look-is_all.new.pass c.loop.place c.look-is_all.new.place c.look-is_all.new.room c.look-is_all.result
    c.loop.invariant.keeping c.look-is_all.ensures.looks in
    record {
      of = c.look-is_all.ensures.of;
      text = c.write_runs.ensures.none;
      keeping = piece_kept c.args.stage.now.sizes.given c.args.names.now old found (g.K.Sink.state c.write_runs.new.log) c.look-is_all.new.place c.look-is_all.new.room looked
          (rw c.in_ok-write_runs.ensures at c.write_runs.ensures.sends);
    }
