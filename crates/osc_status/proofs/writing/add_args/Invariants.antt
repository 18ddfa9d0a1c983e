use Rattle.std.proofs.Common.{◌++◌, take, map}
use Rattle.std.specs.List.{AllByRecursion, flat_map}
use Rattle.play_outside.specs.Gathered.{Gathered}
use Rattle.osc_status.specs.Message.{IsArg, value_bytes}
use Rattle.osc_status.specs.Written.{arg_value}
use Rattle.osc_status.proofs.writing.add_args.Given as goal

-- the arguments before this one are those of a message, and were added
abbrev pub invariant-loop-arg : goal.invariant-loop-arg
invariant-loop-arg g l = record {
  fit : AllByRecursion IsArg (map arg_value (take l.arg-index l.args));
  added : Gathered (l.initial.pieces ++ flat_map (λ arg. value_bytes (arg_value arg)) (take l.arg-index l.args)) l.pieces (g.K.Sink.state l.initial.to) (g.K.Sink.state l.to);
}
