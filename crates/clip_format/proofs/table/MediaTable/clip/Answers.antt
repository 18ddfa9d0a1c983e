use Rattle.std.proofs.Common.{refl, subst}
use Rattle.clip_format.specs.Table.{IsMediaTable, IsReady}
use Rattle.clip_format.proofs.Looking.{entry_at, ready_at}
use Rattle.clip_format.proofs.table.MediaTable.clip.Goals as goal

pub returns-in-Ok-clause-lowered : goal.returns-in-Ok-clause-lowered
returns-in-Ok-clause-lowered c =
    let at = entry_at c.self.inside.clips.entries c.args.self.now c.args.id (c.in_ok-clip.field-0-0.now, c.in_ok-clip.clip.now) c.self.view_is c.in_ok-clip.ensures.entry in
    let table = subst IsMediaTable c.self.view_is c.self.invariant in
    (subst IsReady c.in-Ok.is (ready_at c.args.self.now c.args.id _ table at)).1

pub returns-in-Ok-clause-version : goal.returns-in-Ok-clause-version
returns-in-Ok-clause-version c =
    let at = entry_at c.self.inside.clips.entries c.args.self.now c.args.id (c.in_ok-clip.field-0-0.now, c.in_ok-clip.clip.now) c.self.view_is c.in_ok-clip.ensures.entry in
    let table = subst IsMediaTable c.self.view_is c.self.invariant in
    (subst IsReady c.in-Ok.is (ready_at c.args.self.now c.args.id _ table at)).0

pub returns-in-Err-clause-value : goal.returns-in-Err-clause-value
returns-in-Err-clause-value c =
    let at = entry_at c.self.inside.clips.entries c.args.self.now c.args.id (c.in_ok-clip.field-0-0.now, c.in_ok-clip.clip.now) c.self.view_is c.in_ok-clip.ensures.entry in
    rw (at, c.in-Err.is) refl
