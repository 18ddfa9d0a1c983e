use Rattle.std.proofs.Common.{sym, ap, subst, ◌∙◌}
use Rattle.clip_format.specs.Shown.{entries_of}
use Rattle.clip_format.specs.Table.{IsMediaTable}
use Rattle.clip_format.proofs.Adding.{entries_of-insert, IsMediaTable-append}
use Rattle.clip_format.proofs.table.MediaTable.add.Goals as goal

pub invariant_of-self-2 : goal.invariant_of-self-2
invariant_of-self-2 c =
    let table = subst IsMediaTable c.self.view_is c.self.invariant in
    let after = ap entries_of c.in_ok-insert.ensures.entries ∙ entries_of-insert c.self.inside.clips.entries c.into_string.result c.args.clip c.args.name c.args.self.now c.into_string.ensures c.self.view_is c.requires.above in
    subst IsMediaTable (sym after) (IsMediaTable-append c.args.self.now _ table c.requires.few c.requires.above c.requires.ready)

pub returns-clause-ok : goal.returns-clause-ok
returns-clause-ok c =
    ap entries_of c.in_ok-insert.ensures.entries
    ∙ entries_of-insert c.self.inside.clips.entries c.into_string.result c.args.clip c.args.name c.args.self.now c.into_string.ensures c.self.view_is c.requires.above
