use Rattle.std.proofs.Common.{◌≡◌, drop}
use Rattle.play_recorder.specs.inner.Begun.{followed_all}
use Rattle.play_recorder.proofs.finder.FilmFinder.follow_all.Given as goal

-- the first finder after all commands is this finder after those that are left
abbrev pub invariant-loop-cmd : goal.invariant-loop-cmd
invariant-loop-cmd l = followed_all l.fn.self l.fn.cmds ≡ followed_all l.self (drop l.cmd-index l.fn.cmds)
