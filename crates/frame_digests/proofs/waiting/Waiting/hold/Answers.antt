use Rattle.std.proofs.Common.{◌∷◌, [], ◌++◌, Bool, ◌∙◌, sym, ap}
use Rattle.std.specs.Prelude.{if◌then◌else◌}
use Rattle.frame_digests.specs.declared.waiting.WaitingLine.{WaitingLine}
use Rattle.frame_digests.proofs.Lines.{line_held}
use Rattle.frame_digests.proofs.waiting.Waiting.hold.Goals as goal

pub returns-in-Some-clause-text : goal.returns-in-Some-clause-text
returns-in-Some-clause-text c =
    let line : WaitingLine = record { channel = c.args.channel; tick = c.args.tick; frame = c.in-Some.at } in
    let before = c.place_of.new.self.lines.items in
    line_held c.is_ok.result c.place_of.new.self.frames.items before c.push.new.self.items line c.args.frame.now c.args.sound.now _ c.in-Some.ensures.place c.place_of.ensures.text
    (c.push.ensures.items ∙ ap (λ (b : Bool). if b then before ++ line ∷ [] else before) (sym c.is_ok.ensures.value))
