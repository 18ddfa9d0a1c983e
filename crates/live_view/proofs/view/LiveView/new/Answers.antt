use Rattle.std.proofs.Common.{false, refl, sym, subst, arith}
use Rattle.std.proofs.lemmas.Bool.{false≢true}
use Rattle.script_player.specs.Player.{IsReady}
use Rattle.script_player.specs.Playouts.{playout_of}
use Rattle.script_player.specs.Shown.{Replies}
use Rattle.live_view.specs.View.{log_run}
use Rattle.live_view.proofs.view.LiveView.new.Goals as goal

pub returns-clause-view : goal.returns-clause-view
returns-clause-view g c =
    let small = c.new-script.ensures.small in
    record {
      played = record {
        ready = subst IsReady (sym c.new-script.ensures.player) c.in_ok-player.ensures.ready;
        taken = c.new-script.ensures.taken (log_run (playout_of c.args.setup false)) (c.in_ok-player.ensures.represents Replies refl);
        ticks = (let none = small.0 in omega (arith, none));
        lines = (let none = small.1 in omega (arith, none));
        room = omega arith;
      };
      frames = λ is. absurd (false≢true is);
      workers = (c.requires.some_workers, c.requires.few_workers);
    }
