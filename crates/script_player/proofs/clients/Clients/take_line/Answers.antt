use Rattle.std.proofs.Common.{◌∙◌, sym, subst}
use Rattle.script_player.specs.Clients.{ClientTakesLine, step_in}
use Rattle.script_player.proofs.Connections.{aimed_replaced, batch_replaced, heard, served_at, tag_at}
use Rattle.script_player.proofs.clients.Clients.take_line.Goals as goal

pub returns-clause-takes : goal.returns-clause-takes
returns-clause-takes c = λ playout played no_memory same_config same_names none are.
    let place = c.in_ok-at.ensures in
    let old = c.index_mut-client.result.now in
    let there = sym c.index_mut-client.ensures.value in
    let clients = c.place_of.new.self.list.items in
    let now = place.3 playout played are in
    heard (record { playout = playout; played = played; tag = c.args.tag; text = c.args.text.now; no_memory = no_memory }) (step_in c.take_client_line.result) clients c.in_ok-at.at old c.take_client_line.new.client
    place.1 there now c.take_client_line.ensures.tag
    (subst (λ t. ClientTakesLine (record { playout = playout; played = played; tag = t; text = c.args.text.now; no_memory = no_memory }) (step_in c.take_client_line.result) c.take_client_line.new.client)
    (sym (tag_at c.args.tag c.in_ok-at.at clients old place.1 there))
    (c.take_client_line.ensures.takes playout played no_memory same_config same_names none (served_at playout c.args.tag c.in_ok-at.at clients old played place.1 there now)))

pub returns-clause-filled : goal.returns-clause-filled
returns-clause-filled c = λ asks none.
    let place = c.in_ok-at.ensures in
    c.take_client_line.ensures.filled asks
    (sym (batch_replaced c.args.tag c.in_ok-at.at c.place_of.new.self.list.items c.index_mut-client.result.now c.take_client_line.new.client place.1 (sym c.index_mut-client.ensures.value)
    c.take_client_line.ensures.tag) ∙ none)

pub returns-clause-aimed : goal.returns-clause-aimed
returns-clause-aimed c = λ aimed.
    let place = c.in_ok-at.ensures in
    aimed_replaced c.args.setup.now.config c.in_ok-at.at c.place_of.new.self.list.items c.index_mut-client.result.now c.take_client_line.new.client place.0 (sym c.index_mut-client.ensures.value)
    c.take_client_line.ensures.aimed (place.2 c.args.setup.now.config aimed)
