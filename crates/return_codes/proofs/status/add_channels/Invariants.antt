use Rattle.std.proofs.Common.{◌++◌, take, length}
use Rattle.std.specs.List.{flat_map, zip, enumerate_from}
use Rattle.play_outside.specs.Gathered.{Gathered}
use Rattle.return_codes.proofs.Lines.{numbered_line}
use Rattle.return_codes.proofs.status.add_channels.Given as goal

-- the channels before this one were added
abbrev pub invariant-loop-at : goal.invariant-loop-at
invariant-loop-at g l =
    Gathered (l.initial.text ++ flat_map (numbered_line l.style) (take (length l.yielded) (enumerate_from 0 (zip l.channels l.statuses)))) l.text
    (g.K.Sink.state l.initial.to) (g.K.Sink.state l.to)
