use Rattle.std.proofs.Common.{rules, arith, ◌≡◌, ◌∙◌, ◌∷◌, [], ap, length, length-append, sym}
use Rattle.stage_lock.specs.Views.{PassView, SharedView, Sizes}
use Rattle.stage_lock.specs.Calls.{new_pass}
use Rattle.stage_lock.specs.Seats.{enrolled, first_of, newcomer, pass_view}
use Rattle.stage_lock.specs.Rule.{Seat}
use Rattle.stage_lock.proofs.Sharing.{all_enrolled, enrolled_more}
use Rattle.stage_lock.proofs.shared.enroll_all.Goals as goal

pub loop-number-preserved : goal.loop-number-preserved
loop-number-preserved c =
    let h = c.loop-number.invariant in
    let sizes : Sizes = c.args.first.me.0.sizes in
    let stage : SharedView = record { table_id = c.args.first.table_id; sizes = sizes } in
    let p : PassView = pass_view c.enroll-seat.result.table_id c.enroll-seat.result.me.0 in
    let table = c.enroll-seat.ensures.of ∙ h.of in
    let view : c.enroll-seat.result.me.0 ≡ newcomer sizes c.loop-number.number = ap (λ (m : Seat). m.0) c.enroll-seat.ensures.made ∙ ap (λ (m : Seat). newcomer m.0.sizes m.0.count) h.me in
    let is : p ≡ new_pass stage c.loop-number.number = λ i. pass_view (table i) (view i) in
    let items = c.push_reserved.ensures.items in
    record {
      of = c.enroll-seat.ensures.same ∙ h.of;
      me = c.enroll-seat.ensures.first ∙ ap (λ (m : Seat). (enrolled m.0, m.1)) h.me;
      count = omega (arith, h.count, ap length items, length-append c.loop-number.list.items (p ∷ []));
      capacity = c.push_reserved.ensures.capacity ∙ h.capacity;
      list = rw items (enrolled_more stage c.loop-number.number c.loop-number.list.items p h.list h.count is);
    }

pub returns : goal.returns
returns c =
    let h = c.loop-number.invariant in
    let sizes : Sizes = c.args.first.me.0.sizes in
    let stage : SharedView = record { table_id = c.args.first.table_id; sizes = sizes } in
    let p : PassView = pass_view c.loop-number.first.table_id c.loop-number.first.me.0 in
    let view : c.loop-number.first.me.0 ≡ first_of sizes c.loop-number.number = ap (λ (m : Seat). m.0) h.me in
    let is : p ≡ new_pass stage 0 = λ i. pass_view (h.of i) (view i) in
    let items : c.insert.new.self.items ≡ p ∷ c.loop-number.list.items = search rules in
    let number : c.loop-number.number ≡ c.args.passes = omega (arith, c.loop-number-test.false, c.loop-number.auto.number-end, c.requires.passes.1) in
    items ∙ all_enrolled stage c.loop-number.list.items p h.list (h.count ∙ (number ∙ sym c.requires.passes.0)) is
