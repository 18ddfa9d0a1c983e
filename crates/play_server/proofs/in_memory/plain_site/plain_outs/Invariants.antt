use Rattle.std.proofs.Common.{◌≡◌, vec_len}
use Rattle.play_outside.specs.declared.plain.sink.PlainSink.{PlainSink}
use Rattle.play_server.specs.Site.{AreNumbered}
use Rattle.play_server.proofs.in_memory.plain_site.plain_outs.Given as goal

abbrev pub invariant-loop-place : goal.invariant-loop-place
invariant-loop-place l = record {
  count : vec_len l.outs ≡ l.place;
  marks : AreNumbered (λ (out : PlainSink). out.mark) l.outs.items;
}
