use Rattle.std.proofs.Common.{false, refl, sym}
use Rattle.script_player.specs.Playouts.{playout_of}
use Rattle.script_player.specs.Shown.{Replies}
use Rattle.script_player.proofs.Beginning.{as_itself}
use Rattle.script_film.proofs.Films.{handed_on, none_replayed, not_replayed, replayed_well, runs_for}
use Rattle.script_film.proofs.recording.replayed.Goals as goal

pub returns-in_err-player : goal.returns-in_err-player
returns-in_err-player g c = none_replayed _ c.from_residual.result _ c.from_residual.ensures.1

pub new-replay-requires-clause-new : goal.new-replay-requires-clause-new
new-replay-requires-clause-new g c = as_itself Replies (playout_of c.args.setup false) c.in_ok-player.player (c.in_ok-player.ensures.represents Replies refl)

pub returns-in_err-outcome : goal.returns-in_err-outcome
returns-in_err-outcome g c =
    let playout = playout_of c.args.setup false in
    let handed = c.from_residual-in_err-outcome in
    let fault = c.in_err-outcome.field-0.0 in
    let runs = runs_for playout c.in_ok-player.player _ _ _ _ _ _ (c.in_ok-player.ensures.represents Replies refl) c.new-replay.ensures.player c.play.ensures in
    handed_on playout fault handed.result _ _ (not_replayed playout _ _ _ _ _ runs fault c.in_err-outcome.ensures refl refl) handed.ensures.1

pub returns : goal.returns
returns g c =
    let playout = playout_of c.args.setup false in
    replayed_well playout _ _ _ _ _ (runs_for playout c.in_ok-player.player _ _ _ _ _ _ (c.in_ok-player.ensures.represents Replies refl) c.new-replay.ensures.player c.play.ensures) (sym c.in_ok-outcome.ensures)

pub new-replay-requires-clause-shown : goal.new-replay-requires-clause-shown
new-replay-requires-clause-shown g c = record { last = tt; none_waits = refl }

pub play-requires-clause-new : goal.play-requires-clause-new
play-requires-clause-new g c = c.new-replay.ensures.new _
