use Rattle.std.proofs.Common.{◌≡◌, ◌++◌, take, vec_capacity}
use Rattle.play_journal.proofs.room.push_all.Given as goal

-- the commands before the next one were added
abbrev pub invariant-loop-cmd : goal.invariant-loop-cmd
invariant-loop-cmd l = record {
  items : l.to.items ≡ l.initial.to.items ++ take l.cmd-index l.cmds;
  capacity : vec_capacity l.to ≡ vec_capacity l.initial.to;
}
