use Rattle.std.proofs.Common.{◌≡◌, length, refl, arith}
use Rattle.script_player.proofs.Connections.{adds, placed_added}
use Rattle.script_player.proofs.clients.Clients.add.Goals as goal

pub invariant_of-self-2 : goal.invariant_of-self-2
invariant_of-self-2 c = record {
  placed = λ other.
      let old = c.args.self.now in
      let last : c.len-at.result ≡ length old.list.items = omega (arith, c.len-at.ensures, old.list.ok.0) in
      placed_added c.args.tag other c.len-at.result _ _ old.list.items c.push_reserved.new.self.items _
      (rw c.in_ok-reserve.ensures.items at c.push_reserved.ensures.items) refl last c.requires.new (old.placed other)
      (c.in_ok-insert.ensures.updates.0 (other.worker, other.session));
}

pub returns : goal.returns
returns c =
    let old = c.args.self.now in (
      omega (arith, c.len-at.ensures, old.list.ok.0),
      adds c.args.tag c.args.session old.list.items c.push_reserved.new.self.items _ (rw c.in_ok-reserve.ensures.items at c.push_reserved.ensures.items) refl refl,
    )
