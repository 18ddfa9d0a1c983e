use Rattle.script_player.proofs.Following.{makes_event}
use Rattle.script_player.proofs.Stepping.{from_ok, stop_taken}
use Rattle.play_types.specs.declared.event.Event.TheVariants.{Stop}
use Rattle.script_player.proofs.player.Player.stop.Goals as goal

pub unwrap-requires : goal.unwrap-requires
unwrap-requires c = stop_taken c.args.self.now.stage.journal.events c.stop.result c.stop.ensures.ended c.requires.running

pub returns : goal.returns
returns c = makes_event c.args.self.now (Stop c.args.tag) c.stop.new.self (from_ok c.stop.result c.unwrap.result c.unwrap.ensures c.stop.ensures.journal)
