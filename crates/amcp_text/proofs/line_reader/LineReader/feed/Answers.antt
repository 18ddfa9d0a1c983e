use Rattle.std.proofs.Common.{◌≡◌, false, sym, ◌∙◌}
use Rattle.amcp_text.proofs.ReaderLaws.{Represents-piece, Represents-line_end}
use Rattle.amcp_text.proofs.line_reader.LineReader.feed.Goals as goal

pub returns-in-Some-clause-stands : goal.returns-in-Some-clause-stands
returns-in-Some-clause-stands c = λ bytes s.
    let unheld : c.args.self.now.held ≡ false = rw (← c.self.view_is) c.if-self.false in
    let kept = c.self-in-Some.inside in
    Represents-line_end c.args.self.now (record { kept = kept.kept.items; over = kept.over; held = kept.held }) c.args.piece.now bytes c.in-Some.end
    (sym c.in-Some.ensures) unheld (c.self-in-Some.view_is ∙ c.keep.ensures) s

pub returns-in-None-clause-stands : goal.returns-in-None-clause-stands
returns-in-None-clause-stands c = λ bytes s.
    let unheld : c.args.self.now.held ≡ false = rw (← c.self.view_is) c.if-self.false in
    rw c.keep-in-None.ensures (Represents-piece c.args.self.now c.args.piece.now bytes (sym c.in-None.ensures) unheld s)
