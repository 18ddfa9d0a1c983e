use Rattle.std.proofs.Common.{◌≡◌, ◌+◌, drop}
use Rattle.toml.specs.View.{items_view}
use Rattle.config_file.specs.Configuration.{list_of, of_each, unknown_of_element}
use Rattle.config_file.proofs.channels.check_elements.Given as goal

-- the elements so far have no unknown key
abbrev pub invariant-loop-index : goal.invariant-loop-index
invariant-loop-index l =
    of_each unknown_of_element 1 (list_of (items_view l.elements)) ≡ of_each unknown_of_element (l.index + 1) (list_of (items_view (drop l.index l.elements)))
