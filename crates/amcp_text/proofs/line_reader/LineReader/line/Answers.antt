use Rattle.std.proofs.Common.{◌≡◌, true, false, ◌∷◌, sym, ap, ◌∙◌}
use Rattle.amcp_text.specs.Lines.{Line, lines_of}
use Rattle.amcp_text.proofs.ReaderLaws.{lines_unheld, lines_held}
use Rattle.amcp_text.proofs.line_reader.LineReader.line.Goals as goal

pub returns-then-not-self-clause-line : goal.returns-then-not-self-clause-line
returns-then-not-self-clause-line c = λ bytes s.
    let unheld : c.args.self.now.held ≡ false = rw (← c.self.view_is) c.if-not-self.true in
    lines_unheld c.args.self.now bytes s unheld

pub returns-clause-line : goal.returns-clause-line
returns-clause-line c = λ bytes s rest.
    let held : c.args.self.now.held ≡ true = rw (← c.self.view_is) c.if-not-self.false in
    (lines_held c.args.self.now bytes s held).first rest ∙ ap (λ (l : Line). l ∷ lines_of rest) (sym c.whole_line.ensures)
