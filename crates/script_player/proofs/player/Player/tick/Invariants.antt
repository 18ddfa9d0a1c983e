use Rattle.std.proofs.Common.{◌≡◌, replicate}
use Rattle.play_types.specs.declared.event.Event.TheVariants.{Tick}
use Rattle.play_outside.specs.Gathered.{Gathered}
use Rattle.script_player.specs.Shown.{shown_ticks}
use Rattle.script_player.specs.Player.{IsReady, MakesEvents, events_in, playout_in}
use Rattle.script_player.proofs.player.Player.tick.Given as goal

-- what is shown of the ticks before this one was written or waits
abbrev pub invariant-loop-turn : goal.invariant-loop-turn
invariant-loop-turn g l = record {
  ready : IsReady l.self;
  makes : MakesEvents (replicate l._turn Tick) l.initial.self l.self;
  told : g.D.Display.shown l.display ≡ g.D.Display.shown l.initial.display;
  shown : g.D.Display.shows l.display l.self.setup (events_in l.self);
  added : Gathered (shown_ticks (g.D.Display.shown l.initial.display) (playout_in l.initial.self) (events_in l.initial.self) l._turn) (g.D.Display.waiting l.display)
      (g.K.Sink.state l.initial.out) (g.K.Sink.state l.out);
}
