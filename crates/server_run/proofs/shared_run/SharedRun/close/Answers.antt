use Rattle.std.proofs.Common.{◌≡◌, List, ◌++◌, length, reverse, refl, sym, ap, subst, ◌∙◌, arith, vec_len}
use Rattle.stage_lock.specs.Closing.{AreAll, IsLeft}
use Rattle.stage_lock.specs.Views.{PassView}
use Rattle.server_run.specs.inner.Threads.{passes_back}
use Rattle.server_run.specs.inner.Workers.{doors_of}
use Rattle.server_run.proofs.WorkerPasses.{put_back}
use Rattle.server_run.proofs.shared_run.SharedRun.close.Goals as goal

pub push_reserved-requires : goal.push_reserved-requires
push_reserved-requires g c =
    let none : vec_len c.args.self.passes ≡ 0 = c.args.self.passes.ok.0 ∙ ap length c.requires.room.passes in
    let room = c.requires.room.passes_room in
    omega (arith, none, room)

pub release-requires-clause-passes : goal.release-requires-clause-passes
release-requires-clause-passes g c =
    let none : vec_len c.args.self.passes ≡ 0 = c.args.self.passes.ok.0 ∙ ap length c.requires.room.passes in
    let room = c.requires.room.passes_room in
    let one = c.push_reserved.ensures.len in
    let two = c.push_reserved-2.ensures.len in
    let still = c.push_reserved-2.ensures.capacity ∙ c.push_reserved.ensures.capacity in
    omega (arith, none, room, one, two, still)

pub release-requires-clause-doors : goal.release-requires-clause-doors
release-requires-clause-doors g c =
    let none : vec_len c.args.self.doors ≡ 0 = c.args.self.doors.ok.0 ∙ ap length c.requires.room.doors in
    let room = c.requires.room.doors_room in
    omega (arith, none, room)

pub close-requires : goal.close-requires
close-requires g c =
    subst (AreAll c.args.self.stage)
    (sym (put_back c.args.threads c.args.self.passes.items c.push_reserved.new.self.items c.push_reserved-2.new.self.items c.release.new.passes.items _ _
    c.requires.room.passes (ap (λ r. r.0) c.into_parts-log_pass.ensures) (ap (λ r. r.0) c.into_parts-pass.ensures)
    c.push_reserved.ensures.items c.push_reserved-2.ensures.items c.release.ensures.passes))
    c.requires.passes

pub returns : goal.returns
returns g c =
    let threads = c.args.threads in
    let log = c.into_parts-log_pass.ensures in
    let ticker = c.into_parts-pass.ensures in
    let passes : c.release.new.passes.items ≡ passes_back threads =
    put_back threads c.args.self.passes.items c.push_reserved.new.self.items c.push_reserved-2.new.self.items c.release.new.passes.items _ _
    c.requires.room.passes (ap (λ r. r.0) log) (ap (λ r. r.0) ticker)
    c.push_reserved.ensures.items c.push_reserved-2.ensures.items c.release.ensures.passes in
    record {
      left = subst (λ (ps : List PassView). IsLeft c.args.self.stage ps c.close.result) passes c.close.ensures;
      names = refl;
      devices_held = record {
        clock = sym (ap (λ r. r.1) ticker);
        doors = sym (c.release.ensures.doors ∙ ap (λ ds. ds ++ doors_of (reverse threads.others.connection_workers.items)) c.requires.room.doors);
        outs = sym (ap (λ r. r.2.items) ticker);
        log = sym (ap (λ r. r.1) log);
      };
      history = refl;
    }
