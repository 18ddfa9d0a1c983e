use Rattle.live_view.proofs.Rendering.{next_frames, scene_for_each}
use Rattle.live_view.proofs.display.ViewDisplayDisplay.add_tick.Goals as goal

pub render-requires-after_bounds : goal.render-requires-after_bounds
render-requires-after_bounds g c κs within =
    let next = c.requires in
    scene_for_each c.args.tick.setup.now next.events c.args.self.now.renderer (next.last.1 c.if-self.true) c.args.tick.scenes.now next.made.scenes

pub returns-then-self-gt0-clause-shows : goal.returns-then-self-gt0-clause-shows
returns-then-self-gt0-clause-shows g c = λ events made last.
    (last.0, λ fresh. next_frames c.args.tick.setup.now events c.args.self.now.renderer (last.1 c.if-self.true) c.args.tick.scenes.now made.scenes c.render.new.self c.render.ensures.rendered)
