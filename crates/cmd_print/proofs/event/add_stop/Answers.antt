use Rattle.std.proofs.Common.{◌≡◌, true, false, sym, ◌∙◌}
use Rattle.history_model.specs.scripts.History.{same_tag, server}
use Rattle.history_model.specs.text.History.{stop_line}
use Rattle.cmd_print.proofs.event.add_stop.Goals as goal

pub returns-then-is_server : goal.returns-then-is_server
unfolding stop_line
returns-then-is_server g c =
    let own : same_tag c.args.tag server ≡ true = sym c.is_server.ensures ∙ c.if-is_server.true in
    rw own c.add.ensures.adds

pub returns-else-is_server : goal.returns-else-is_server
unfolding stop_line
returns-else-is_server g c =
    let other : same_tag c.args.tag server ≡ false = sym c.is_server.ensures ∙ c.if-is_server.false in
    rw other c.add_line.ensures
