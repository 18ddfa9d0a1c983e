use Rattle.std.proofs.Common.{◌≡◌, ◌++◌, ◌∷◌, [], ◌+◌, ◌∙◌, ap₂, refl, sym, subst, arith, replicate}
use Rattle.std.proofs.lemmas.Result.{err_from_is_err_and}
use Rattle.play_types.specs.declared.event.Event.TheVariants.{Tick}
use Rattle.play_outside.specs.Gathered.{Adds, Gathered}
use Rattle.play_outside.specs.declared.sink.Sent.TheVariants as sent
use Rattle.play_outside.proofs.Gathering.{Sends-gathered}
use Rattle.script_player.specs.Playouts.{playout_of}
use Rattle.script_player.specs.Shown.{shown_tick, shown_ticks}
use Rattle.script_player.specs.Player.{events_in, playout_in}
use Rattle.script_player.proofs.Counting.{ticks-replicate, ticks_made}
use Rattle.script_player.proofs.Following.{makes_nothing, makes_then}
use Rattle.script_player.proofs.Ticking.{no_ticks, tick-more, tick_added, tick_failed}
use Rattle.script_player.proofs.player.Player.tick.Goals as goal

pub loop-turn-init : goal.loop-turn-init
loop-turn-init g c = record {
  ready = c.requires.ready;
  makes = makes_nothing c.args.self.now;
  told = refl;
  shown = c.requires.shown.last;
  added = no_ticks (g.D.Display.shown c.args.display.now) (playout_in c.args.self.now) (events_in c.args.self.now) (g.D.Display.waiting c.args.display.now) _ c.requires.shown.none_waits;
}

pub add_tick-requires-clause-time : goal.add_tick-requires-clause-time
add_tick-requires-clause-time g c =
    let before = c.loop-turn.invariant in
    let made = ticks_made (replicate c.loop-turn._turn Tick) c.args.self.now c.loop-turn.self before.makes in
    omega (arith, made, ticks-replicate c.loop-turn._turn, c.requires.time, c.loop-turn-test.true)

pub loop-turn-preserved : goal.loop-turn-preserved
loop-turn-preserved g c =
    let before = c.loop-turn.invariant in
    let old = c.args.self.now in
    let turn = c.loop-turn._turn in
    let shown = g.D.Display.shown c.args.display.now in
    let waiting = g.D.Display.waiting c.loop-turn.display in
    record {
      ready = c.add_tick.ensures.ready;
      makes = makes_then (replicate turn Tick) (Tick ∷ []) (replicate (turn + 1) Tick) old c.loop-turn.self c.add_tick.new.self before.makes c.add_tick.ensures.makes (tick-more [] turn);
      told = c.add_tick.ensures.told ∙ before.told;
      shown = c.add_tick.ensures.shown;
      added = tick_added shown (playout_in old) (events_in old) turn waiting (g.D.Display.waiting c.add_tick.new.display) _ _ _ before.added
          (subst (λ text. Gathered (waiting ++ text) (g.D.Display.waiting c.add_tick.new.display) (g.K.Sink.state c.loop-turn.out) (g.K.Sink.state c.add_tick.new.out))
          (λ i. shown_tick (before.told i) (ap₂ playout_of before.makes.setup before.makes.digests i) (before.makes.history i))
          (rw c.in_ok-add_tick.ensures at c.add_tick.ensures.added));
    }

pub returns-in_err-add_tick-clause-written : goal.returns-in_err-add_tick-clause-written
returns-in_err-add_tick-clause-written g c =
    let p = err_from_is_err_and c.from_residual.result c.from_residual.ensures.1 in
    let before = c.loop-turn.invariant in
    let old = c.args.self.now in
    let shown = g.D.Display.shown c.args.display.now in
    let waiting = g.D.Display.waiting c.loop-turn.display in
    rw (p.1, p.2)
    (tick_failed shown (playout_in old) (events_in old) c.loop-turn._turn c.args.count waiting (g.D.Display.waiting c.add_tick.new.display) _ _ _ c.loop-turn-test.true before.added
    (subst (λ text. Adds sent.Failed (waiting ++ text) (g.D.Display.waiting c.add_tick.new.display) (g.K.Sink.state c.loop-turn.out) (g.K.Sink.state c.add_tick.new.out))
    (λ i. shown_tick (before.told i) (ap₂ playout_of before.makes.setup before.makes.digests i) (before.makes.history i))
    (rw c.in_err-add_tick.ensures at c.add_tick.ensures.added)))

pub finish-requires : goal.finish-requires
finish-requires g c = record { setup = c.loop-turn.self.setup; events = events_in c.loop-turn.self; last = c.loop-turn.invariant.shown }

pub returns-in_err-add_tick-clause-told : goal.returns-in_err-add_tick-clause-told
returns-in_err-add_tick-clause-told g c = c.add_tick.ensures.told ∙ c.loop-turn.invariant.told

pub returns-clause-told : goal.returns-clause-told
returns-clause-told g c = c.finish.ensures.told ∙ c.loop-turn.invariant.told

pub returns-clause-shown : goal.returns-clause-shown
returns-clause-shown g c = record { last = c.finish.ensures.shows _ _ c.loop-turn.invariant.shown; none_waits = c.finish.ensures.none_waits }

pub returns-clause-makes : goal.returns-clause-makes
returns-clause-makes g c =
    let all : c.loop-turn._turn ≡ c.args.count = omega arith in
    rw all at c.loop-turn.invariant.makes

pub returns-clause-written : goal.returns-clause-written
returns-clause-written g c =
    let all : c.loop-turn._turn ≡ c.args.count = omega arith in
    let text = shown_ticks (g.D.Display.shown c.args.display.now) (playout_in c.args.self.now) (events_in c.args.self.now) c.args.count in
    Sends-gathered sent.All text (g.D.Display.waiting c.loop-turn.display) _ _ _ (rw all at c.loop-turn.invariant.added) (rw c.in_ok-finish.ensures at c.finish.ensures.sends)

pub returns-in_err-finish-clause-told : goal.returns-in_err-finish-clause-told
returns-in_err-finish-clause-told g c = c.finish.ensures.told ∙ c.loop-turn.invariant.told

pub returns-in_err-finish-clause-written : goal.returns-in_err-finish-clause-written
returns-in_err-finish-clause-written g c =
    let p = err_from_is_err_and c.from_residual-in_err-finish.result c.from_residual-in_err-finish.ensures.1 in
    let all : c.loop-turn._turn ≡ c.args.count = omega arith in
    let text = shown_ticks (g.D.Display.shown c.args.display.now) (playout_in c.args.self.now) (events_in c.args.self.now) c.args.count in
    rw (p.1, p.2)
    (Sends-gathered sent.Failed text (g.D.Display.waiting c.loop-turn.display) _ _ _ (rw all at c.loop-turn.invariant.added) (rw c.in_err-finish.ensures at c.finish.ensures.sends))
