use Rattle.std.proofs.Common.{◌≡◌, ℕ, suc, List, [], ◌∷◌, ◌++◌, All, append-nil, length, map, reverse, refl, sym, ap, subst, ◌∙◌, arith, vec_len}
use Rattle.std.specs.Prelude.{IfSome, option_to_list}
use Rattle.std.proofs.lemmas.List.Elements.{All-nil, All-pop, All-push}
use Rattle.server_run.specs.inner.Threads.{sessions_in, ticker_pass, worker_passes}
use Rattle.server_run.specs.inner.Workers.{MayCome, MayWork, door_states}
use Rattle.server_run.specs.declared.connection_workers.ConnectionWorker.{ConnectionWorker}
use Rattle.server_run.proofs.Reverse.{none, taken_more}
use Rattle.server_run.proofs.WorkerPasses.{last_worker}
use Rattle.server_run.proofs.connection_workers.engage.Goals as goal

pub loop-door-init : goal.loop-door-init
loop-door-init g c =
    let Worker = ConnectionWorker g.row.D.Denot in
    let count : vec_len c.args.connection_workers.now ≡ 0 = c.args.connection_workers.now.ok.0 ∙ ap length c.requires.none in
    record {
      connection_workers = omega (arith, count);
      passes = sym (append-nil c.args.passes.now.items)
          ∙ ap (λ (ws : List Worker). c.args.passes.now.items ++ map (λ (worker : Worker). worker.pass) (reverse ws)) (sym c.requires.none);
      doors = sym (append-nil c.args.doors.now.items)
          ∙ ap (λ (ws : List Worker). c.args.doors.now.items ++ map (λ (worker : Worker). worker.door) (reverse ws)) (sym c.requires.none);
      passes_left = c.requires.passes;
      sessions_left = c.requires.sessions;
      room = refl;
      passes_room = refl;
      doors_room = refl;
      may_work = λ stage passes sessions come. (
        passes,
        sessions,
        come,
        subst (All (MayWork (door_states g.D.Listener.state g.D.Line.Sink.state) stage)) (sym c.requires.none) (All-nil (MayWork (door_states g.D.Listener.state g.D.Line.Sink.state) stage)),
      );
    }

pub unwrap-pass-requires : goal.unwrap-pass-requires
unwrap-pass-requires g c =
    c.pop-in-Some.ensures.variant.1 (let left = c.loop-door.invariant.passes_left in let fewer = c.in-Some.ensures.len in omega (arith, left, fewer))

pub unwrap-session-requires : goal.unwrap-session-requires
unwrap-session-requires g c =
    c.pop-in-Some-2.ensures.variant.1 (let left = c.loop-door.invariant.sessions_left in let fewer = c.in-Some.ensures.len in omega (arith, left, fewer))

pub push_reserved-requires : goal.push_reserved-requires
push_reserved-requires g c =
    let many = c.loop-door.invariant.connection_workers in
    let fewer = c.in-Some.ensures.len in
    let room = c.loop-door.invariant.room in
    let enough = c.requires.room in
    omega (arith, many, fewer, room, enough)

pub loop-door-preserved : goal.loop-door-preserved
loop-door-preserved g c =
    let Worker = ConnectionWorker g.row.D.Denot in
    let states = door_states g.D.Listener.state g.D.Line.Sink.state in
    let taken = c.loop-door.invariant in
    let passes : c.loop-door.passes.items ≡ c.pop-in-Some.new.self.items ++ c.unwrap-pass.result ∷ [] =
    c.pop-in-Some.ensures.items ∙ ap (λ o. c.pop-in-Some.new.self.items ++ option_to_list o) c.unwrap-pass.ensures in
    let pass_left = c.pop-in-Some.ensures.len in
    let pass_one = ap (λ o. length (option_to_list o)) c.unwrap-pass.ensures in
    let session_left = c.pop-in-Some-2.ensures.len in
    let session_one = ap (λ o. length (option_to_list o)) c.unwrap-session.ensures in
    let door_left = c.in-Some.ensures.len in
    let more = c.push_reserved.ensures.len in
    let many = taken.connection_workers in
    let passes_left = taken.passes_left in
    let sessions_left = taken.sessions_left in
    record {
      connection_workers = omega (arith, many, door_left, more);
      passes =
          taken_more (λ (worker : Worker). worker.pass) c.args.passes.now.items c.loop-door.passes.items c.pop-in-Some.new.self.items c.loop-door.connection_workers.items _ c.unwrap-pass.result
          taken.passes passes refl
          ∙ ap (λ (ws : List Worker). c.pop-in-Some.new.self.items ++ map (λ (worker : Worker). worker.pass) (reverse ws)) (sym c.push_reserved.ensures.items);
      doors =
          taken_more (λ (worker : Worker). worker.door) c.args.doors.now.items c.loop-door.doors.items c.pop.new.self.items c.loop-door.connection_workers.items _ c.in-Some.door
          taken.doors c.in-Some.ensures.items refl
          ∙ ap (λ (ws : List Worker). c.pop.new.self.items ++ map (λ (worker : Worker). worker.door) (reverse ws)) (sym c.push_reserved.ensures.items);
      passes_left = omega (arith, passes_left, pass_left, pass_one, door_left);
      sessions_left = omega (arith, sessions_left, session_left, session_one, door_left);
      room = c.push_reserved.ensures.capacity ∙ taken.room;
      passes_room = c.pop-in-Some.ensures.capacity ∙ taken.passes_room;
      doors_room = c.in-Some.ensures.capacity ∙ taken.doors_room;
      may_work = λ stage passes_are sessions_are come.
          let so = taken.may_work stage passes_are sessions_are come in
          let count = vec_len c.pop.new.self in
          let more : vec_len c.loop-door.doors ≡ suc count = omega (arith, door_left) in
          let sessions : c.loop-door.sessions.items ≡ c.pop-in-Some-2.new.self.items ++ c.unwrap-session.result ∷ [] =
          c.pop-in-Some-2.ensures.items ∙ ap (λ o. c.pop-in-Some-2.new.self.items ++ option_to_list o) c.unwrap-session.ensures in
          let last = last_worker stage count c.loop-door.passes.items c.pop-in-Some.new.self.items c.unwrap-pass.result
          c.loop-door.sessions.items c.pop-in-Some-2.new.self.items c.unwrap-session.result
          (so.0 ∙ ap (λ (n : ℕ). ticker_pass stage ∷ worker_passes stage n) more) (so.1 ∙ ap (sessions_in stage.sizes.given) more) passes sessions in
          let other = All-pop (MayCome g.D.Listener.state) c.loop-door.doors.items c.pop.new.self.items c.pop.result c.pop.ensures.items so.2 in (
            last.passes,
            last.sessions,
            other.0,
            subst (All (MayWork states stage)) (sym c.push_reserved.ensures.items)
                (All-push (MayWork states stage) c.loop-door.connection_workers.items _ so.3 (record {
                  pass = last.running;
                  door = subst (λ o. IfSome o (MayCome g.D.Listener.state)) c.in-Some.is other.1;
                  served = last.served;
                })),
          );
    }

pub returns : goal.returns
returns g c =
    let Worker = ConnectionWorker g.row.D.Denot in
    let taken = c.loop-door.invariant in
    let empty : c.loop-door.doors.items ≡ [] = none c.loop-door.doors.items (sym c.loop-door.doors.ok.0 ∙ c.in_default.ensures.cases.0) in
    let left : c.pop.new.self.items ≡ [] = sym (append-nil c.pop.new.self.items) ∙ sym c.in_default.ensures.items ∙ empty in
    let many = taken.connection_workers in
    let zero_left = c.in_default.ensures.cases.0 in
    record {
      connection_workers = omega (arith, many, zero_left);
      passes = taken.passes;
      doors = taken.doors ∙ ap (λ (ds : List g.row.D.Denot). ds ++ map (λ (worker : Worker). worker.door) (reverse c.loop-door.connection_workers.items)) empty;
      none_left = left;
      passes_room = taken.passes_room;
      doors_room = c.in_default.ensures.capacity ∙ taken.doors_room;
      may_work = λ stage passes sessions come. (taken.may_work stage passes sessions come).3;
    }
