use Rattle.std.proofs.Common.{sym, subst}
use Rattle.std.specs.Prelude.{Some}
use Rattle.mixer_state.specs.Entries.{Entries, table_of}
use Rattle.mixer_state.specs.Ranges.{AreRunning}
use Rattle.mixer_state.proofs.Ways.{AreRunning-with}
use Rattle.mixer_state.proofs.places.Places.start.Goals as goal

pub returns-clause-running : goal.returns-clause-running
returns-clause-running c =
    subst (AreRunning c.args.ticks) (sym c.in_ok-put.ensures.ok)
    (AreRunning-with c.args.ticks c.place-place.result (Some c.after-courses.result) (table_of c.args.self.now.entries) c.after-courses.ensures.range
    c.requires.running)

pub returns-in_err-put-clause-running : goal.returns-in_err-put-clause-running
returns-in_err-put-clause-running c =
    subst (λ (entries : Entries). AreRunning c.args.ticks (table_of entries)) (sym c.in_err-put.ensures.err) c.requires.running
