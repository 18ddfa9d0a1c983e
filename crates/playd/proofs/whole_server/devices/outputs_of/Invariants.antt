use Rattle.std.proofs.Common.{◌≡◌, All, Some, None, option_map, take, vec_len}
use Rattle.play_outside.specs.Fresh.{IsNewSink}
use Rattle.play_outside.specs.declared.held.sink.HeldSink.{HeldSink}
use Rattle.play_server.specs.Site.{AreNumbered}
use Rattle.playd.proofs.whole_server.devices.outputs_of.Given as goal

abbrev pub invariant-loop-place : goal.invariant-loop-place
invariant-loop-place l = record {
  count : vec_len l.outs ≡ l.place;
  new : All (λ (out : HeldSink). IsNewSink (record { taken = Some out.sink.taken.items; faults = out.sink.planned.count; mark = out.sink.mark; at_fault = option_map (λ count. take count out.sink.taken.items) out.sink.at_fault; reading = None; idle = 0 })) l.outs.items;
  marks : AreNumbered (λ (out : HeldSink). out.sink.mark) l.outs.items;
}
