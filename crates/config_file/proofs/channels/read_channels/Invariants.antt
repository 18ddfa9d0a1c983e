use Rattle.std.proofs.Common.{◌≡◌, ◌+◌, ◌++◌, length, drop}
use Rattle.toml.specs.View.{items_view}
use Rattle.config_file.specs.Configuration.{channels_of, element_faults, list_of, of_each}
use Rattle.config_file.proofs.channels.read_channels.Given as goal

-- the elements so far have no fault, and the channels so far are theirs
abbrev pub invariant-loop-index : goal.invariant-loop-index
invariant-loop-index l = record {
  faults : of_each element_faults 1 (list_of (items_view l.elements)) ≡ of_each element_faults (l.index + 1) (list_of (items_view (drop l.index l.elements)));
  values : channels_of (list_of (items_view l.elements)) ≡ l.channels ++ channels_of (list_of (items_view (drop l.index l.elements)));
  len : length l.channels ≡ l.index;
}
