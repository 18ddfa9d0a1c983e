use Rattle.std.proofs.Common.{◌≡◌, inl, inr, [], sym, ap, ◌∙◌}
use Rattle.history_model.specs.text.Commands.{part_words}
use Rattle.cmd_print.proofs.Spaced.{nothing_added}
use Rattle.cmd_print.proofs.take.add_part.Goals as goal

pub returns-in-Colour : goal.returns-in-Colour
returns-in-Colour g c =
    let none : part_words c.args.take.spec c.args.take ≡ [] = elim c.in-Colour.is [
      | inl colour ↦ ap (λ spec. part_words spec c.args.take) (sym c.spec.ensures ∙ colour.1)
      | inr other ↦ elim other [
        | inl channel ↦ ap (λ spec. part_words spec c.args.take) (sym c.spec.ensures ∙ channel.1)
        | inr place ↦ ap (λ spec. part_words spec c.args.take) (sym c.spec.ensures ∙ place.1)
      ]
    ] in
    rw none (nothing_added c.args.text.now (g.K.Sink.state c.args.to.now))
