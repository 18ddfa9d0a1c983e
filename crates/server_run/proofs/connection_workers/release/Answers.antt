use Rattle.std.proofs.Common.{◌≡◌, List, [], ◌++◌, append-nil, map, reverse, sym, ap, ◌∙◌, arith}
use Rattle.server_run.specs.declared.connection_workers.ConnectionWorker.{ConnectionWorker}
use Rattle.server_run.proofs.Reverse.{given_more, none}
use Rattle.server_run.proofs.connection_workers.release.Goals as goal

pub push_reserved-requires : goal.push_reserved-requires
push_reserved-requires g c =
    let many = c.loop-worker.invariant.passes_many in
    let room = c.loop-worker.invariant.passes_room in
    let enough = c.requires.passes in
    let fewer = c.in-Some.ensures.len in
    omega (arith, many, room, enough, fewer)

pub push_reserved-requires-in-Some : goal.push_reserved-requires-in-Some
push_reserved-requires-in-Some g c =
    let many = c.loop-worker.invariant.doors_many in
    let room = c.loop-worker.invariant.doors_room in
    let enough = c.requires.doors in
    let fewer = c.in-Some.ensures.len in
    omega (arith, many, room, enough, fewer)

pub loop-worker-preserved : goal.loop-worker-preserved
loop-worker-preserved g c =
    let Worker = ConnectionWorker g.row.D.Denot in
    let given = c.loop-worker.invariant in
    let fewer = c.in-Some.ensures.len in
    let passes_many = given.passes_many in
    let doors_many = given.doors_many in
    let pass_more = c.push_reserved.ensures.len in
    let door_more = c.push_reserved-in-Some.ensures.len in
    record {
      passes = given_more (λ (worker : Worker). worker.pass) _ c.loop-worker.passes.items c.push_reserved.new.self.items c.loop-worker.connection_workers.items c.pop.new.self.items c.in-Some.worker
          given.passes c.in-Some.ensures.items c.push_reserved.ensures.items;
      doors = given_more (λ (worker : Worker). worker.door) _ c.loop-worker.doors.items c.push_reserved-in-Some.new.self.items c.loop-worker.connection_workers.items c.pop.new.self.items c.in-Some.worker
          given.doors c.in-Some.ensures.items c.push_reserved-in-Some.ensures.items;
      passes_many = omega (arith, passes_many, fewer, pass_more);
      doors_many = omega (arith, doors_many, fewer, door_more);
      passes_room = c.push_reserved.ensures.capacity ∙ given.passes_room;
      doors_room = c.push_reserved-in-Some.ensures.capacity ∙ given.doors_room;
    }

pub returns : goal.returns
returns g c =
    let Worker = ConnectionWorker g.row.D.Denot in
    let given = c.loop-worker.invariant in
    let empty : c.loop-worker.connection_workers.items ≡ [] = none c.loop-worker.connection_workers.items (sym c.loop-worker.connection_workers.ok.0 ∙ c.in_default.ensures.cases.0) in
    record {
      passes =
          sym (append-nil c.loop-worker.passes.items)
          ∙ ap (λ (ws : List Worker). c.loop-worker.passes.items ++ map (λ (worker : Worker). worker.pass) (reverse ws)) (sym empty) ∙ given.passes;
      doors =
          sym (append-nil c.loop-worker.doors.items)
          ∙ ap (λ (ws : List Worker). c.loop-worker.doors.items ++ map (λ (worker : Worker). worker.door) (reverse ws)) (sym empty) ∙ given.doors;
    }
