use Rattle.std.proofs.Common.{◌-◌, ◌∙◌, ap, length, sym, arith}
use Rattle.play_scene.specs.declared.part.Part.{Part}
use Rattle.play_scene.proofs.Channels.{channel_part, channel_sound, part_inside}
use Rattle.play_scene.proofs.Parts.{parts_set}
use Rattle.play_scene.proofs.frames.Frames.put_sound.Goals as goal

pub index_mut-requires : goal.index_mut-requires
index_mut-requires c =
    let inside = part_inside c.self.inside.parts.items c.self.inside.pixels.items c.args.self.now c.args.channel c.from.result c.self.view_is c.requires.channel c.from.ensures in
    omega (arith, inside, c.self.inside.parts.ok.0)

pub put_sound-requires : goal.put_sound-requires
put_sound-requires c =
    let here = channel_part c.self.inside.parts.items c.self.inside.pixels.items c.args.self.now c.args.channel c.from.result c.index_mut.result.now c.self.invariant c.self.view_is c.requires.channel c.from.ensures c.index_mut.ensures.value in
    record { fits = c.requires.fits ∙ sym (ap length here.sound) }

pub invariant_of-self : goal.invariant_of-self
invariant_of-self c =
    let part = c.index_mut.result.now in
    let here = channel_part c.self.inside.parts.items c.self.inside.pixels.items c.args.self.now c.args.channel c.from.result part c.self.invariant c.self.view_is c.requires.channel c.from.ensures c.index_mut.ensures.value in
    parts_set c.self.inside.parts.items c.self.inside.pixels.items (c.from.result - 1) c.put_sound.new.self part here.inside
    (c.put_sound.ensures.size ∙ ap (λ (p : Part). p.size) c.index_mut.ensures.value)
    (c.put_sound.ensures.start ∙ ap (λ (p : Part). p.start) c.index_mut.ensures.value)
    c.self.invariant

pub returns : goal.returns
returns c =
    let part = c.index_mut.result.now in
    let here = channel_part c.self.inside.parts.items c.self.inside.pixels.items c.args.self.now c.args.channel c.from.result part c.self.invariant c.self.view_is c.requires.channel c.from.ensures c.index_mut.ensures.value in
    channel_sound c.self.inside.parts.items c.self.inside.pixels.items c.args.self.now (c.from.result - 1) c.args.channel c.args.bytes.now part
    c.put_sound.new.self c.self.view_is c.index_mut.ensures.value here c.put_sound.ensures.size c.put_sound.ensures.sound
