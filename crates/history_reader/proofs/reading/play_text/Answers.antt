use Rattle.std.proofs.Common.{refl, ◌∙◌}
use Rattle.std.specs.Prelude.{Ok}
use Rattle.script_player.specs.Shown.{Replies}
use Rattle.history_reader.proofs.ReadTexts.{new_player, not_played, plays_on}
use Rattle.history_reader.proofs.reading.play_text.Goals as goal

pub play_lines-requires-clause-new : goal.play_lines-requires-clause-new
play_lines-requires-clause-new g c = new_player _ c.in_ok-player.player (c.in_ok-player.ensures.represents Replies refl)

pub returns-in-Ok : goal.returns-in-Ok
returns-in-Ok g c = (
  plays_on _ _ (c.in_ok-player.ensures.represents Replies refl).on c.args.text.now (Ok c.in-Ok.end) _ c.in-Ok.ensures.plays,
  c.in-Ok.ensures.setup ∙ c.in_ok-player.ensures.setup,
)

pub returns-in-Err : goal.returns-in-Err
returns-in-Err g c = not_played c.args.setup _ (c.in_ok-player.ensures.represents Replies refl).on c.args.text.now c.in-Err.fault _ c.in-Err.ensures.plays
