use Rattle.std.proofs.Common.{◌≡◌, ◌+◌, drop}
use Rattle.stage_core.specs.inner.Settled.{counted, settings_of_all}
use Rattle.stage_core.proofs.needed.settings_of_all.Given as goal

-- what is counted and what the commands that are left need is what all need
abbrev pub invariant-loop-cmd : goal.invariant-loop-cmd
invariant-loop-cmd l = settings_of_all (counted l.fn.waiting) l.fn.cmds ≡ l.count + settings_of_all (counted l.waiting) (drop l.cmd-index l.fn.cmds)
