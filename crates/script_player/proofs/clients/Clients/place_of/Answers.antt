use Rattle.std.proofs.Common.{◌≡◌, sym, ◌∙◌}
use Rattle.std.specs.Prelude.{None}
use Rattle.std.specs.List.{position}
use Rattle.script_player.proofs.Connections.{place_added}
use Rattle.script_player.proofs.Places.{is_of}
use Rattle.script_player.proofs.clients.Clients.place_of.Goals as goal

pub returns : goal.returns
returns c =
    let old = c.args.self.now.list.items in
    let none : position (is_of c.args.tag) old ≡ None = sym c.find.ensures ∙ c.in_default.is in
    place_added c.args.tag c.in_ok-session.session old c.add.new.self.list.items c.add.result c.add.ensures none c.in_ok-session.ensures.batch
    c.in_ok-session.ensures.represents c.in_ok-session.ensures.between
