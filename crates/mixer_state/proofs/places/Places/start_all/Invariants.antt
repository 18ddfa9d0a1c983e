use Rattle.std.proofs.Common.{◌≡◌, ◌+◌, ◌≤◌, length, take}
use Rattle.mixer_state.specs.Entries.{table_of}
use Rattle.mixer_state.specs.inner.Changes.{with_settings}
use Rattle.mixer_state.specs.Ranges.{AreRunning}
use Rattle.mixer_state.proofs.places.Places.start_all.Given as goal

-- the settings so far are started, and there is room for the others
abbrev pub invariant-loop-setting : goal.invariant-loop-setting
invariant-loop-setting l = record {
  table : table_of l.self.entries ≡ with_settings l.ticks (table_of l.initial.self.entries) (take l.setting-index l.settings);
  running : AreRunning l.ticks (table_of l.self.entries);
  channels : l.self.channels ≡ l.initial.self.channels;
  room : length l.settings ≤ l.self.spare + l.setting-index;
  spare : l.initial.self.spare ≤ l.self.spare + l.setting-index;
}
