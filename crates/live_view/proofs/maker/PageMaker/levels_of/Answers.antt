use Rattle.std.proofs.Common.{ap, ◌∙◌}
use Rattle.view_status.specs.Levels.{levels_of}
use Rattle.live_view.proofs.Pages.{levels_of_history}
use Rattle.live_view.proofs.maker.PageMaker.levels_of.Goals as goal

pub returns : goal.returns
returns c =
    c.levels_of.ensures ∙ ap levels_of c.sound.ensures.value
    ∙ levels_of_history c.args.self.player.now c.args.self.renderer.now c.requires.frames c.args.channel c.requires.channel c.args.self.pictures c.args.self.fresh c.sound.ensures.range
