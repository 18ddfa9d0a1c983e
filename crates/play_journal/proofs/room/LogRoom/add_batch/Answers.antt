use Rattle.std.proofs.Common.{◌≡◌, ◌∷◌, ◌++◌, [], List, length, refl, subst, sym, ap, ap₂, ◌∙◌, arith}
use Rattle.play_types.specs.declared.command.Cmd.{Cmd}
use Rattle.play_types.specs.declared.event.Event.TheVariants as event
use Rattle.play_journal.specs.Reading.{one_run}
use Rattle.play_journal.specs.Room.{AreKept, runs_in}
use Rattle.play_journal.specs.Runs.{Run}
use Rattle.play_journal.specs.declared.room.KeptRun.{KeptRun}
use Rattle.play_journal.specs.declared.room.KeptRun.TheVariants.{Batch}
use Rattle.play_journal.proofs.Rooms.{are_kept_more, batch_kept, batch_whole, empty_kept, kept_more}
use Rattle.play_journal.proofs.room.LogRoom.add_batch.Goals as goal

pub returns-then-len-ge-ROOM_RUNS-clause-empty : goal.returns-then-len-ge-ROOM_RUNS-clause-empty
returns-then-len-ge-ROOM_RUNS-clause-empty c = λ none fits.
    let i = c.self.inside in
    let no_runs = (empty_kept i.runs.items i.cmds.items c.self.invariant.0 (c.self.view_is ∙ none)).0 in
    absurd (grind (arith, no_runs, c.len.ensures, c.if-len-ge-ROOM_RUNS.true))

pub returns-then-len-cmds-gt-ROOM_COMMANDS-clause-empty : goal.returns-then-len-cmds-gt-ROOM_COMMANDS-clause-empty
returns-then-len-cmds-gt-ROOM_COMMANDS-clause-empty c = λ none fits.
    let i = c.self.inside in
    let no_cmds = (empty_kept i.runs.items i.cmds.items c.self.invariant.0 (c.self.view_is ∙ none)).1 in
    absurd (grind (arith, no_cmds, fits, c.len-2.ensures, c.if-len-cmds-gt-ROOM_COMMANDS.true))

pub invariant_of-self : goal.invariant_of-self
invariant_of-self c =
    let i = c.self.inside in
    let cmds : List Cmd = c.args.cmds.now in
    let run : KeptRun = Batch c.args.tag (length cmds) in (
      subst (λ (runs : List KeptRun). AreKept runs c.push_all.new.to.items) (sym c.push_reserved.ensures.items)
          (subst (λ (all : List Cmd). AreKept (i.runs.items ++ run ∷ []) all) (sym c.push_all.ensures.items)
          (are_kept_more i.runs.items i.cmds.items cmds run c.self.invariant.0 (batch_kept cmds (length cmds) refl))),
      omega (arith, c.push_reserved.ensures.capacity, c.self.invariant.1),
      omega (arith, c.push_all.ensures.capacity, c.self.invariant.2),
    )

pub returns-clause-runs : goal.returns-clause-runs
returns-clause-runs c =
    let i = c.self.inside in
    let cmds : List Cmd = c.args.cmds.now in
    let run : KeptRun = Batch c.args.tag (length cmds) in
    ap₂ (λ (runs : List KeptRun) (all : List Cmd). runs_in runs all) c.push_reserved.ensures.items c.push_all.ensures.items
    ∙ kept_more i.runs.items i.cmds.items cmds run c.self.invariant.0
    ∙ ap₂ (λ (runs : List Run) (own : List Cmd). runs ++ one_run (event.Batch c.args.tag own) ∷ []) c.self.view_is (batch_whole cmds (length cmds) refl)
