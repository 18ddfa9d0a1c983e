use Rattle.std.proofs.Common.{◌≡◌, false, drop, length}
use Rattle.stage_core.specs.LiveState.{live_with_all, is_some_over, some_is_refused_on}
use Rattle.stage_core.proofs.live_state.LiveState.apply_all.Given as goal

-- what the commands make of the live state at first, those that are left make of the live state now
abbrev pub invariant-loop-cmd : goal.invariant-loop-cmd
invariant-loop-cmd l = record {
  refused : some_is_refused_on l.fn.cmds l.fn.self ≡ some_is_refused_on (drop l.cmd-index l.fn.cmds) l.self;
  after : live_with_all l.fn.cmds l.fn.self ≡ live_with_all (drop l.cmd-index l.fn.cmds) l.self;
  few : is_some_over l.self.places ≡ false;
  count : length l.self.places ≡ length l.fn.self.places;
}
