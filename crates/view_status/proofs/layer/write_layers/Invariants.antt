use Rattle.std.proofs.Common.{◌≡◌, ◌++◌, ◌-◌, length, take}
use Rattle.std.specs.List.{flat_map}
use Rattle.stage_core.specs.Seen.{seen_layers}
use Rattle.view_status.specs.Status.{layer_tokens, source_of}
use Rattle.view_status.proofs.layer.write_layers.Given as goal

-- the layers before this one were written
abbrev pub invariant-layers : goal.invariant-layers
invariant-layers l =
    l.document ≡ l.initial.document
    ++ flat_map (layer_tokens (source_of l.source) l.channel) (take l.at (seen_layers l.source.stage.now.journal.events l.channel))

-- each turn writes a layer
abbrev pub decreases-layers : goal.decreases-layers
decreases-layers l = length (seen_layers l.source.stage.now.journal.events l.channel) - l.at
