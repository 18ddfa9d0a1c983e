use Rattle.std.proofs.Common.{ℕ, Vec, length, ap, sym, ◌∙◌}
use Rattle.play_scene.specs.Frames.{pictures_length, pixels_of, with_pixels}
use Rattle.play_scene.specs.Parts.{frames_of}
use Rattle.play_scene.proofs.Parts.{frames_exchanged, length_there, parts_exchanged, pixels_there}
use Rattle.play_scene.proofs.frames.Frames.exchange.Goals as goal

pub invariant_of-self : goal.invariant_of-self
invariant_of-self c =
    parts_exchanged c.self.inside.parts.items c.self.inside.pixels.items c.args.pixels.now.items c.swap.new.x.items
    (ap (λ (v : Vec ℕ _). v.items) c.swap.ensures.x_after) (c.requires.length ∙ sym (ap pictures_length c.self.view_is)) c.requires.pixels c.self.invariant

pub returns-clause-frames : goal.returns-clause-frames
returns-clause-frames c =
    let parts = c.self.inside.parts.items in
    ap (λ (v : Vec ℕ _). frames_of parts v.items) c.swap.ensures.x_after
    ∙ frames_exchanged parts c.self.inside.pixels.items c.args.pixels.now.items
    ∙ ap (with_pixels c.args.pixels.now.items) c.self.view_is

pub returns-clause-pixels : goal.returns-clause-pixels
returns-clause-pixels c =
    let parts = c.self.inside.parts.items in
    let pixels = c.self.inside.pixels.items in
    ap (λ (v : Vec ℕ _). v.items) c.swap.ensures.y_after
    ∙ sym (pixels_there parts pixels c.self.invariant.counted)
    ∙ ap pixels_of c.self.view_is

pub returns-clause-length : goal.returns-clause-length
returns-clause-length c =
    let parts = c.self.inside.parts.items in
    let pixels = c.self.inside.pixels.items in
    ap (λ (v : Vec ℕ _). length v.items) c.swap.ensures.y_after
    ∙ c.self.invariant.counted
    ∙ sym (length_there parts pixels)
    ∙ ap pictures_length c.self.view_is
    ∙ sym c.requires.length
