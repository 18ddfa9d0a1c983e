use Rattle.std.proofs.Common.{◌≡◌, ◌≤◌, List, drop, take}
use Rattle.history_model.specs.stage.Act.{Act}
use Rattle.history_model.specs.stage.StageState.{acts_after_all}
use Rattle.mixer_state.specs.Past.{Represents}
use Rattle.stage_core.specs.inner.Settled.{CanTake, settings_of_all, waits_on}
use Rattle.stage_core.proofs.settle.settle_all.Given as goal

-- the mixer represents the acts of the commands so far, can take those that are left, and has the memory for them
abbrev pub invariant-loop-cmd : goal.invariant-loop-cmd
invariant-loop-cmd l = record {
  channels : l.mixer.channels ≡ l.fn.mixer.channels;
  taken : CanTake (drop l.cmd-index l.fn.cmds) l.fn.ticks l.mixer;
  memory : settings_of_all (waits_on l.mixer) (drop l.cmd-index l.fn.cmds) ≤ l.mixer.spare;
  past : (earlier : List Act) → Represents l.fn.mixer earlier l.fn.ticks →
      Represents l.mixer (acts_after_all l.fn.ticks (take l.cmd-index l.fn.cmds) earlier) l.fn.ticks;
}
