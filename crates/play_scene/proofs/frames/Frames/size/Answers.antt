use Rattle.std.proofs.Common.{arith}
use Rattle.play_scene.proofs.Channels.{channel_part, part_inside}
use Rattle.play_scene.proofs.frames.Frames.size.Goals as goal

pub index-requires : goal.index-requires
index-requires c =
    let inside = part_inside c.self.inside.parts.items c.self.inside.pixels.items c.args.self.now c.args.channel c.from.result c.self.view_is c.requires c.from.ensures in
    omega (arith, inside, c.self.inside.parts.ok.0)

pub returns-clause-value : goal.returns-clause-value
returns-clause-value c =
    (channel_part c.self.inside.parts.items c.self.inside.pixels.items c.args.self.now c.args.channel c.from.result c.index.result.now c.self.invariant c.self.view_is c.requires c.from.ensures c.index.ensures).size

pub returns-clause-range : goal.returns-clause-range
returns-clause-range c =
    (channel_part c.self.inside.parts.items c.self.inside.pixels.items c.args.self.now c.args.channel c.from.result c.index.result.now c.self.invariant c.self.view_is c.requires c.from.ensures c.index.ensures).whole
