use Rattle.std.proofs.Common.{ℕ, ap, map, ◌∙◌, arith}
use Rattle.std.specs.List.{range_with_len}
use Rattle.std.proofs.lemmas.List.{length_push}
use Rattle.std.proofs.lemmas.Iterator.{YieldsList-from_slice}
use Rattle.std.proofs.lemmas.Iterator.Consumers.{YieldsList-turn, YieldsList-end}
use Rattle.real_devices.specs.Fresh.{quiet_sink}
use Rattle.real_devices.specs.State.{file_state}
use Rattle.real_devices.proofs.Marks.{marks_turn}
use Rattle.real_devices.proofs.outs.make_outs.Goals as goal

pub overflow_add-mark : goal.overflow_add-mark
overflow_add-mark g c =
    let turn = YieldsList-turn (YieldsList-from_slice c.args.config.now.channels cc) c.loop-channel.yielded _ c.loop-channel.yielded_by _ _ c.in-Some.channel c.in-Some.is c.next.ensures.steps in
    omega (arith, turn.0, c.loop-channel.invariant.mark, c.channels.ensures.range.parts.few_channels)

pub loop-channel-preserved : goal.loop-channel-preserved
loop-channel-preserved g c = record {
  mark = omega (arith, c.loop-channel.invariant.mark, length_push c.loop-channel.yielded c.in-Some.channel);
  outs =
      marks_turn file_state quiet_sink c.loop-channel.outs.items c.in_ok-out.out c.push.new.self.items c.loop-channel.yielded c.in-Some.channel c.loop-channel.mark
      c.loop-channel.invariant.mark c.loop-channel.invariant.outs c.in_ok-out.ensures c.in-Ok.ensures.items;
}

pub returns : goal.returns
returns g c =
    let end = YieldsList-end (YieldsList-from_slice c.args.config.now.channels cc) c.loop-channel.yielded _ c.loop-channel.yielded_by _ _ c.in-None.is c.next.ensures.steps in
    c.loop-channel.invariant.outs ∙ ap (λ (n : ℕ). map quiet_sink (range_with_len 1 n)) end.1
