use Rattle.std.proofs.Common.{rules}
use Rattle.play_server.proofs.AreUnused.{unused_devices-new}
use Rattle.play_server.proofs.in_memory.mem_site.MemSiteSite.ready.Goals as goal

pub returns-in-Some-clause-ready : goal.returns-in-Some-clause-ready
returns-in-Some-clause-ready g c = record {
  new = unused_devices-new (record { clock = g.C.Clock.state; door = g.D.Listener.state; out = g.O.Sink.state }) c.in-Some.kept.devices c.in-Some.kept.unused;
  doors = search rules;
  outs = search rules;
}
