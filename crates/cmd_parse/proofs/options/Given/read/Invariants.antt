use Rattle.std.proofs.Common.{◌≡◌, ◌-◌, ◌≤◌, length, drop}
use Rattle.std.specs.Prelude.{IfSome}
use Rattle.cmd_parse.specs.inner.Options.{no_options}
use Rattle.cmd_parse.proofs.OptionLaws.{run}
use Rattle.cmd_parse.proofs.options.Given.read.Given as goal

abbrev pub invariant-loop-at : goal.invariant-loop-at
invariant-loop-at l = record {
  same : run l.line 0 l.at (drop l.at l.line.words) l.options ≡ run l.line 0 l.first (drop l.first l.line.words) no_options;
  frames : IfSome l.options.length (λ frames. 1 ≤ frames);
}

abbrev pub decreases-loop-at : goal.decreases-loop-at
decreases-loop-at l = length l.line.words - l.at
