use Rattle.std.proofs.Common.{◌≡◌, ◌∷◌, ◌++◌, [], List, length, subst, sym, ap, ◌∙◌, arith}
use Rattle.play_journal.specs.Room.{AreKept, runs_in}
use Rattle.play_journal.specs.Runs.{Run}
use Rattle.play_journal.specs.declared.room.KeptRun.{KeptRun}
use Rattle.play_journal.proofs.Rooms.{are_kept_plain, empty_kept, kept_plain}
use Rattle.play_journal.proofs.room.LogRoom.add_kept.Goals as goal

pub returns-then-len-ge-ROOM_RUNS-clause-empty : goal.returns-then-len-ge-ROOM_RUNS-clause-empty
returns-then-len-ge-ROOM_RUNS-clause-empty c = λ none.
    let i = c.self.inside in
    let no_runs = (empty_kept i.runs.items i.cmds.items c.self.invariant.0 (c.self.view_is ∙ none)).0 in
    absurd (grind (arith, no_runs, c.len.ensures, c.if-len-ge-ROOM_RUNS.true))

pub invariant_of-self : goal.invariant_of-self
invariant_of-self c =
    let i = c.self.inside in (
      subst (λ (runs : List KeptRun). AreKept runs i.cmds.items) (sym c.push_reserved.ensures.items)
          (are_kept_plain i.runs.items i.cmds.items c.args.run c.self.invariant.0 c.requires),
      omega (arith, c.push_reserved.ensures.capacity, c.self.invariant.1),
      c.self.invariant.2,
    )

pub returns-clause-runs : goal.returns-clause-runs
returns-clause-runs c =
    let i = c.self.inside in
    ap (λ (runs : List KeptRun). runs_in runs i.cmds.items) c.push_reserved.ensures.items
    ∙ kept_plain i.runs.items i.cmds.items c.args.run c.self.invariant.0
    ∙ ap (λ (runs : List Run). runs ++ runs_in (c.args.run ∷ []) []) c.self.view_is
