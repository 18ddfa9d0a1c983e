use Rattle.std.proofs.Common.{◌≤◌, ◌++◌, take}
use Rattle.std.specs.List.{flat_map}
use Rattle.amcp_text.specs.Escapes.{escaped}
use Rattle.play_outside.specs.Gathered.{Gathered}
use Rattle.amcp_text.proofs.Escapes.{IsPlain}
use Rattle.fixed_params.proofs.quote.add_escaped.Given as goal

-- the bytes before the last escape's end were added, and those after it have no escape
abbrev pub invariant-loop-at : goal.invariant-loop-at
invariant-loop-at g l = record {
  order : l.added ≤ l.at;
  plain : IsPlain l.added l.at l.name;
  gathered : Gathered (l.initial.text ++ flat_map escaped (take l.added l.name)) l.text (g.K.Sink.state l.initial.to) (g.K.Sink.state l.to);
}
