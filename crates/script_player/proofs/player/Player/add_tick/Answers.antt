use Rattle.std.proofs.Common.{◌≡◌, ◌+◌, refl, sym, ap, subst}
use Rattle.play_types.specs.History.{ticks}
use Rattle.stage_core.specs.Stage.{StageView}
use Rattle.script_player.specs.Player.{events_in}
use Rattle.script_player.proofs.Stepping.{from_if, from_ok, tick_taken}
use Rattle.script_player.proofs.Ticked.{made_after, ready_after_tick}
use Rattle.script_player.proofs.player.Player.add_tick.Goals as goal

pub unwrap-number-requires : goal.unwrap-number-requires
unwrap-number-requires g c = tick_taken c.args.self.now.stage c.tick.result c.tick.ensures.fault c.requires.ready.running c.requires.time

pub add_tick-requires : goal.add_tick-requires
add_tick-requires g c =
    let made = from_ok c.tick.result c.unwrap-number.result c.unwrap-number.ensures c.tick.ensures.journal in
    let drawn = from_ok c.tick.result c.unwrap-number.result c.unwrap-number.ensures c.tick.ensures.scenes in
    let number = from_if (λ n. n ≡ ticks (events_in c.args.self.now) + 1) c.tick.result c.unwrap-number.result c.unwrap-number.ensures c.tick.ensures.number in
    record {
      events = events_in c.args.self.now;
      made = made_after c.args.self.now c.tick.new.self c.tick.new.scenes c.requires.ready made drawn _ refl refl refl number;
      last = c.requires.shown;
    }

pub returns-clause-ready : goal.returns-clause-ready
returns-clause-ready g c =
    let made = from_ok c.tick.result c.unwrap-number.result c.unwrap-number.ensures c.tick.ensures.journal in
    let drawn = from_ok c.tick.result c.unwrap-number.result c.unwrap-number.ensures c.tick.ensures.scenes in
    ready_after_tick c.args.self.now c.tick.new.self c.tick.new.scenes c.requires.ready made drawn

pub returns-clause-makes : goal.returns-clause-makes
returns-clause-makes g c =
    let made = from_ok c.tick.result c.unwrap-number.result c.unwrap-number.ensures c.tick.ensures.journal in
    record {
      setup = refl;
      digests = refl;
      memory = refl;
      clients = refl;
      channels = ap (λ (s : StageView). s.channels) made;
      history = ap (λ (s : StageView). s.journal.events) made;
    }

pub returns-clause-shown : goal.returns-clause-shown
returns-clause-shown g c =
    let made = from_ok c.tick.result c.unwrap-number.result c.unwrap-number.ensures c.tick.ensures.journal in
    let drawn = from_ok c.tick.result c.unwrap-number.result c.unwrap-number.ensures c.tick.ensures.scenes in
    let number = from_if (λ n. n ≡ ticks (events_in c.args.self.now) + 1) c.tick.result c.unwrap-number.result c.unwrap-number.ensures c.tick.ensures.number in
    subst (g.D.Display.shows c.add_tick.new.self c.args.self.now.setup) (sym (ap (λ (s : StageView). s.journal.events) made))
    (c.add_tick.ensures.shows (events_in c.args.self.now)
    (made_after c.args.self.now c.tick.new.self c.tick.new.scenes c.requires.ready made drawn _ refl refl refl number) c.requires.shown)

pub returns-clause-added : goal.returns-clause-added
returns-clause-added g c =
    let made = from_ok c.tick.result c.unwrap-number.result c.unwrap-number.ensures c.tick.ensures.journal in
    let drawn = from_ok c.tick.result c.unwrap-number.result c.unwrap-number.ensures c.tick.ensures.scenes in
    let number = from_if (λ n. n ≡ ticks (events_in c.args.self.now) + 1) c.tick.result c.unwrap-number.result c.unwrap-number.ensures c.tick.ensures.number in
    c.add_tick.ensures.added (events_in c.args.self.now)
    (made_after c.args.self.now c.tick.new.self c.tick.new.scenes c.requires.ready made drawn _ refl refl refl number) c.requires.shown
