use Rattle.std.proofs.Common.{◌≡◌, ◌+◌, ◌++◌, length, sym, ap, subst, ◌∙◌, arith, vec_len}
use Rattle.std.specs.Prelude.{option_to_list}
use Rattle.server_run.specs.inner.Threads.{HasRoomBack, ticker_pass}
use Rattle.server_run.specs.declared.log_thread.LogThread.{LogThread}
use Rattle.server_run.specs.declared.shared_run.SharedRun.{SharedRun}
use Rattle.server_run.proofs.Reverse.{only_one}
use Rattle.server_run.proofs.WorkerPasses.{log_given, new_many, parts_many, passes_given, sessions_many}
use Rattle.server_run.proofs.run_memory.RunMemory.begin.Goals as goal

pub unwrap-log_pass-requires : goal.unwrap-log_pass-requires
unwrap-log_pass-requires g c =
    let stage = c.args.self.stage in
    let count = vec_len c.args.devices.doors in
    let before = c.args.self.passes.ok.0 ∙ ap length c.requires.memory.passes in
    c.pop.ensures.variant.1 (omega (arith, before, c.requires.memory.many, new_many stage))

pub engage-requires-clause-none : goal.engage-requires-clause-none
engage-requires-clause-none g c κs within = c.requires.memory.connection_workers

pub engage-requires-clause-room : goal.engage-requires-clause-room
engage-requires-clause-room g c κs within = c.requires.memory.room

pub engage-requires-clause-passes : goal.engage-requires-clause-passes
engage-requires-clause-passes g c κs within =
    let stage = c.args.self.stage in
    let count = vec_len c.args.devices.doors in
    let log = log_given stage count c.args.self.passes.items c.pop.new.self.items c.unwrap-log_pass.result c.requires.memory.passes c.requires.memory.many
    (c.pop.ensures.items ∙ ap (λ o. c.pop.new.self.items ++ option_to_list o) c.unwrap-log_pass.ensures) in
    let left : vec_len c.pop.new.self ≡ count + 1 = c.pop.new.self.ok.0 ∙ ap length log.0 ∙ parts_many stage count in
    omega (arith, left)

pub engage-requires-clause-sessions : goal.engage-requires-clause-sessions
engage-requires-clause-sessions g c κs within =
    c.args.self.sessions.ok.0 ∙ sessions_many c.args.self.sessions.items c.args.self.stage.sizes.given (vec_len c.args.devices.doors) c.requires.memory.sessions

pub unwrap-pass-requires : goal.unwrap-pass-requires
unwrap-pass-requires g c =
    let stage = c.args.self.stage in
    let count = vec_len c.args.devices.doors in
    let log = log_given stage count c.args.self.passes.items c.pop.new.self.items c.unwrap-log_pass.result c.requires.memory.passes c.requires.memory.many
    (c.pop.ensures.items ∙ ap (λ o. c.pop.new.self.items ++ option_to_list o) c.unwrap-log_pass.ensures) in
    let given = passes_given stage count c.pop.new.self.items c.engage.new.passes.items c.engage.new.connection_workers.items log.0
    (sym c.engage.new.connection_workers.ok.0 ∙ c.engage.ensures.connection_workers) c.engage.ensures.passes in
    let left = c.engage.new.passes.ok.0 ∙ ap length given.0 in
    c.pop-2.ensures.variant.1 (omega (arith, left))

pub returns-clause-begun : goal.returns-clause-begun
returns-clause-begun g c =
    let stage = c.args.self.stage in
    let count = vec_len c.args.devices.doors in
    let log = log_given stage count c.args.self.passes.items c.pop.new.self.items c.unwrap-log_pass.result c.requires.memory.passes c.requires.memory.many
    (c.pop.ensures.items ∙ ap (λ o. c.pop.new.self.items ++ option_to_list o) c.unwrap-log_pass.ensures) in
    let given = passes_given stage count c.pop.new.self.items c.engage.new.passes.items c.engage.new.connection_workers.items log.0
    (sym c.engage.new.connection_workers.ok.0 ∙ c.engage.ensures.connection_workers) c.engage.ensures.passes in
    let popped = only_one c.pop-2.new.self.items (ticker_pass stage) c.unwrap-pass.result
    (sym given.0 ∙ c.pop-2.ensures.items ∙ ap (λ o. c.pop-2.new.self.items ++ option_to_list o) c.unwrap-pass.ensures) in
    let before = c.args.self.passes.ok.0 ∙ ap length c.requires.memory.passes in
    let within = c.args.self.passes.ok.1 in
    let room = c.pop-2.ensures.capacity ∙ c.engage.ensures.passes_room ∙ c.pop.ensures.capacity in
    let doors_within = c.args.devices.doors.ok.1 in
    let doors_room = c.engage.ensures.doors_room in
    record {
      passes = record { ticker = c.new-ticker.ensures.pass ∙ popped.1; connection_workers = given.1; log = ap (λ (l : LogThread g.row.O.Denot). l.pass) c.new-log.ensures ∙ log.1 };
      devices_held = record {
        clock = c.new-ticker.ensures.clock;
        doors = sym c.engage.ensures.doors;
        outs = ap (λ outs. outs.items) c.new-ticker.ensures.outs;
        log = ap (λ (l : LogThread g.row.O.Denot). l.log) c.new-log.ensures;
      };
      renderer = c.new-ticker.ensures.renderer;
      ends = c.new-ticker.ensures.ends;
      stage = ap (λ (s : SharedRun g.row.D.Denot g.row.O.Denot). s.stage) c.new.ensures;
      names = ap (λ (s : SharedRun g.row.D.Denot g.row.O.Denot). s.names) c.new.ensures;
      history = ap (λ (s : SharedRun g.row.D.Denot g.row.O.Denot). s.history) c.new.ensures;
      room = subst (HasRoomBack count) (sym c.new.ensures) (record {
        passes = popped.0;
        passes_room = omega (arith, before, new_many stage, c.requires.memory.many, within, room);
        doors = c.engage.ensures.none_left;
        doors_room = omega (arith, doors_within, doors_room);
      });
    }

pub returns-clause-may_work : goal.returns-clause-may_work
returns-clause-may_work g c =
    let stage = c.args.self.stage in
    let count = vec_len c.args.devices.doors in
    let log = log_given stage count c.args.self.passes.items c.pop.new.self.items c.unwrap-log_pass.result c.requires.memory.passes c.requires.memory.many
    (c.pop.ensures.items ∙ ap (λ o. c.pop.new.self.items ++ option_to_list o) c.unwrap-log_pass.ensures) in
    c.engage.ensures.may_work stage log.0 c.requires.memory.sessions c.requires.may_come
