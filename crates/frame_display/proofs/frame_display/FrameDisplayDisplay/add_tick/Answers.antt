use Rattle.std.proofs.Common.{◌++◌, ap, subst}
use Rattle.play_outside.specs.Gathered.{Adds}
use Rattle.frame_display.proofs.Rendering.{fit_setup, frames_of_tick, scene_for_each, shows_tick}
use Rattle.frame_display.proofs.frame_display.FrameDisplayDisplay.add_tick.Goals as goal

pub render-requires-sync-R : goal.render-requires-sync-R
render-requires-sync-R g c κs within = c.requires.last.0

pub add-requires-sync-R : goal.add-requires-sync-R
add-requires-sync-R g c κs within = c.requires.last.0

pub render-requires-after_bounds : goal.render-requires-after_bounds
render-requires-after_bounds g c κs within =
    let next = c.requires in
    scene_for_each c.args.tick.setup.now next.events c.args.self.now.renderer c.args.tick.scenes.now next.last.1 next.made.scenes

pub add-requires-after_bounds : goal.add-requires-after_bounds
add-requires-after_bounds g c κs within =
    let next = c.requires in
    fit_setup c.args.tick.setup.now next.events c.args.tick.scenes.now c.args.self.now.renderer c.render.new.self next.last.1 next.made.scenes c.render.ensures.rendered

pub returns-clause-shows : goal.returns-clause-shows
returns-clause-shows g c = λ events made last.
    (last.0, shows_tick c.args.tick.setup.now events c.args.tick.scenes.now c.args.self.now.renderer c.render.new.self last.1 made.scenes c.render.ensures.rendered)

pub returns-clause-added : goal.returns-clause-added
returns-clause-added g c = λ events made last.
    let text = frames_of_tick c.args.tick.setup.now events c.args.tick.scenes.now c.args.self.now.renderer c.render.new.self last.1 made.scenes c.render.ensures.rendered c.args.tick.digests c.args.tick.number made.number in
    subst (λ t. Adds c.add.result (c.args.self.now.lines ++ t) c.add.new.lines (g.K.Sink.state c.args.out.now) (g.K.Sink.state c.add.new.out)) text c.add.ensures
