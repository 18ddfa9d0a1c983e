use Rattle.std.proofs.Common.{◌≡◌, ℕ, ◌+◌, ◌-◌, List, length, take, drop, ap, ap₂, ◌∙◌, arith}
use Rattle.play_scene.specs.Frames.{picture_length}
use Rattle.play_scene.proofs.Channels.{channel_part, part_inside}
use Rattle.play_scene.proofs.frames.Frames.bytes.Goals as goal

pub index-part-requires : goal.index-part-requires
index-part-requires c =
    let inside = part_inside c.self.inside.parts.items c.self.inside.pixels.items c.args.self.now c.args.channel c.from.result c.self.view_is c.requires c.from.ensures in
    omega (arith, inside, c.self.inside.parts.ok.0)

pub overflow_add-result : goal.overflow_add-result
overflow_add-result c =
    let here = channel_part c.self.inside.parts.items c.self.inside.pixels.items c.args.self.now c.args.channel c.from.result c.index-part.result.now c.self.invariant c.self.view_is c.requires c.from.ensures c.index-part.ensures in
    omega (arith, here.within, c.picture_length.ensures, c.self.inside.pixels.ok.0, c.self.inside.pixels.ok.1)

pub slice_bounds-result-end : goal.slice_bounds-result-end
slice_bounds-result-end c =
    let here = channel_part c.self.inside.parts.items c.self.inside.pixels.items c.args.self.now c.args.channel c.from.result c.index-part.result.now c.self.invariant c.self.view_is c.requires c.from.ensures c.index-part.ensures in
    omega (arith, here.within, c.picture_length.ensures, ap length c.deref.ensures.value)

pub returns-clause-value : goal.returns-clause-value
returns-clause-value c =
    let part = c.index-part.result.now in
    let here = channel_part c.self.inside.parts.items c.self.inside.pixels.items c.args.self.now c.args.channel c.from.result part c.self.invariant c.self.view_is c.requires c.from.ensures c.index-part.ensures in
    let long : part.start + c.picture_length.result - part.start ≡ picture_length part.size = omega (arith, c.picture_length.ensures) in
    ap₂ (λ (m : ℕ) (l : List ℕ). take m (drop part.start l)) long c.deref.ensures.value ∙ here.bytes

pub returns-clause-range : goal.returns-clause-range
returns-clause-range c =
    (channel_part c.self.inside.parts.items c.self.inside.pixels.items c.args.self.now c.args.channel c.from.result c.index-part.result.now c.self.invariant c.self.view_is c.requires c.from.ensures c.index-part.ensures).whole
