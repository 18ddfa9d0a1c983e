use Rattle.std.proofs.Common.{◌≡◌, ℕ, ◌+◌, ◌<◌, [], ◌∷◌, ◌++◌, arith, refl, sym, subst, ◌∙◌}
use Rattle.play_outside.specs.declared.listener.TheConstants.{MOST_AWAY}
use Rattle.conn_worker.specs.Server.{setting_in}
use Rattle.conn_worker.specs.Work.{AtDoor, Setting, Takes, links_come, number_came}
use Rattle.conn_worker.proofs.Doors.{few_sessions, number_came-more, takes_away, takes_more, takes_number}
use Rattle.conn_worker.proofs.server.Server.work_from.Goals as goal

pub loop-init : goal.loop-init
loop-init g c =
    let none : c.args.served ≡ c.args.served + 0 = omega arith in
    record {
      of = c.requires.of;
      number = refl;
      few = omega arith;
      running = c.requires.running;
      away = c.requires.away;
      turned = ([], (refl, none));
    }

pub ask_door-requires-clause-served : goal.ask_door-requires-clause-served
ask_door-requires-clause-served g c = let few = c.loop.invariant.few in let other = c.if-last.false in omega (arith, few, other)

pub loop-preserved : goal.loop-preserved
loop-preserved g c =
    let L = g.row.D-Line.Denot in
    let setting : ℕ → Setting L = λ n. setting_in c.args.self.now n g.D.Line.Sink.state in
    let first : AtDoor L = record { pass = c.args.pass.now; door = g.D.Listener.state c.args.door.now } in
    let before : AtDoor L = record { pass = c.loop.pass; door = g.D.Listener.state c.loop.door } in
    let after : AtDoor L = record { pass = c.ask_door.new.pass; door = g.D.Listener.state c.ask_door.new.door } in
    let turns = c.loop.invariant.turned.0 in
    let found = c.in-Ok.ensures.takes in
    let turn = found.0 in
    let next : ℕ = c.args.served + 1 + number_came turns in
    let last : c.loop.last ≡ c.args.served + number_came turns = c.loop.invariant.turned.1.1 in
    let number : c.loop.last + 1 ≡ next = omega (arith, last) in
    let takes : Takes (setting c.args.pass.now.number) next turn before after =
    subst (λ (n : ℕ). Takes (setting c.args.pass.now.number) n turn before after) number
    (subst (λ (n : ℕ). Takes (setting n) (c.loop.last + 1) turn before after) c.loop.invariant.number found.1.0) in
    let away : after.door.away ≡ before.door.away = takes_away (setting c.args.pass.now.number) next turn before after takes in
    let other = c.if-last.false in
    let few = c.loop.invariant.few in
    let came : c.in-Ok.came ≡ c.loop.last + links_come turn = found.1.1.0 in
    let more : number_came (turns ++ turn ∷ []) ≡ number_came turns + links_come turn = number_came-more turns turn in
    record {
      of = c.in-Ok.ensures.of;
      number = takes_number (setting c.args.pass.now.number) next turn before after takes ∙ c.loop.invariant.number;
      few = few_sessions turn c.loop.last c.in-Ok.came few other came;
      running = found.1.1.1;
      away = subst (λ (n : ℕ). n < MOST_AWAY) (sym away) c.loop.invariant.away;
      turned = (
        turns ++ turn ∷ [],
        (
          takes_more (setting c.args.pass.now.number) (c.args.served + 1) turns turn first before after c.loop.invariant.turned.1.0 takes,
          omega (arith, last, came, more),
        ),
      );
    }
