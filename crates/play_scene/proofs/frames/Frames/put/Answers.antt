use Rattle.std.proofs.Common.{ℕ, ◌+◌, ◌-◌, ◌≤◌, List, length, sym, subst, ap, ◌∙◌, arith}
use Rattle.play_scene.specs.Parts.{ArePartsOf, frames_of}
use Rattle.play_scene.proofs.Channels.{channel_part, channel_put, length-part, part_inside}
use Rattle.play_scene.proofs.Parts.{parts_put}
use Rattle.play_scene.proofs.Pieces.{copied_piece}
use Rattle.play_scene.proofs.frames.Frames.put.Goals as goal

pub index-requires : goal.index-requires
index-requires c =
    let inside = part_inside c.self.inside.parts.items c.self.inside.pixels.items c.args.self.now c.args.channel c.from.result c.self.view_is c.requires.channel c.from.ensures in
    omega (arith, inside, c.self.inside.parts.ok.0)

pub overflow_add-start : goal.overflow_add-start
overflow_add-start c =
    let here = channel_part c.self.inside.parts.items c.self.inside.pixels.items c.args.self.now c.args.channel c.from.result c.index.result.now c.self.invariant c.self.view_is c.requires.channel c.from.ensures c.index.ensures in
    let room = length-part (c.from.result - 1) c.args.channel c.self.inside.parts.items c.self.inside.pixels.items c.args.self.now c.index.result.now here in
    omega (arith, here.within, room, c.requires.fits, c.self.inside.pixels.ok.0, c.self.inside.pixels.ok.1)

pub overflow_add-start-2 : goal.overflow_add-start-2
overflow_add-start-2 c =
    let here = channel_part c.self.inside.parts.items c.self.inside.pixels.items c.args.self.now c.args.channel c.from.result c.index.result.now c.self.invariant c.self.view_is c.requires.channel c.from.ensures c.index.ensures in
    let room = length-part (c.from.result - 1) c.args.channel c.self.inside.parts.items c.self.inside.pixels.items c.args.self.now c.index.result.now here in
    omega (arith, here.within, room, c.requires.fits, c.self.inside.pixels.ok.0, c.self.inside.pixels.ok.1)

pub slice_bounds-copy_from_slice-end : goal.slice_bounds-copy_from_slice-end
slice_bounds-copy_from_slice-end c =
    let here = channel_part c.self.inside.parts.items c.self.inside.pixels.items c.args.self.now c.args.channel c.from.result c.index.result.now c.self.invariant c.self.view_is c.requires.channel c.from.ensures c.index.ensures in
    let room = length-part (c.from.result - 1) c.args.channel c.self.inside.parts.items c.self.inside.pixels.items c.args.self.now c.index.result.now here in
    let long = ap length c.deref_mut.ensures.value in
    let fits : c.index.result.now.start + c.args.at + length c.args.bytes.now ≤ length c.deref_mut.result.now =
    omega (arith, here.within, room, c.requires.fits, long) in
    fits

pub invariant_of-self : goal.invariant_of-self
invariant_of-self c =
    let here = channel_part c.self.inside.parts.items c.self.inside.pixels.items c.args.self.now c.args.channel c.from.result c.index.result.now c.self.invariant c.self.view_is c.requires.channel c.from.ensures c.index.ensures in
    let room = length-part (c.from.result - 1) c.args.channel c.self.inside.parts.items c.self.inside.pixels.items c.args.self.now c.index.result.now here in
    let pixels = c.self.inside.pixels in
    let piece = c.args.bytes.now in
    let start = c.index.result.now.start + c.args.at in
    let fits : start + length piece ≤ length pixels.items = omega (arith, here.within, room, c.requires.fits) in
    let written = copied_piece pixels start (start + length piece - start) c.copy_from_slice.new.self piece c.deref_mut.result.now
    c.deref_mut.ensures.value c.copy_from_slice.ensures.after (omega arith) fits in
    subst (λ (list : List ℕ). ArePartsOf list c.self.inside.parts.items) (sym written)
    (parts_put c.self.inside.parts.items pixels.items start piece (omega (arith, here.aligned, c.requires.place)) fits c.requires.pixels c.self.invariant)

pub returns : goal.returns
returns c =
    let here = channel_part c.self.inside.parts.items c.self.inside.pixels.items c.args.self.now c.args.channel c.from.result c.index.result.now c.self.invariant c.self.view_is c.requires.channel c.from.ensures c.index.ensures in
    let room = length-part (c.from.result - 1) c.args.channel c.self.inside.parts.items c.self.inside.pixels.items c.args.self.now c.index.result.now here in
    let pixels = c.self.inside.pixels in
    let parts = c.self.inside.parts.items in
    let piece = c.args.bytes.now in
    let start = c.index.result.now.start + c.args.at in
    let fits : start + length piece ≤ length pixels.items = omega (arith, here.within, room, c.requires.fits) in
    let written = copied_piece pixels start (start + length piece - start) c.copy_from_slice.new.self piece c.deref_mut.result.now
    c.deref_mut.ensures.value c.copy_from_slice.ensures.after (omega arith) fits in
    ap (frames_of parts) written
    ∙ channel_put parts pixels.items c.args.self.now (c.from.result - 1) c.args.channel c.args.at piece c.index.result.now
    c.self.invariant c.self.view_is c.index.ensures here c.requires.fits
