use Rattle.std.proofs.Common.{[], refl, sym, ap, subst, append-nil}
use Rattle.std.specs.Prelude.{None, Ok, Some}
use Rattle.history_model.specs.scripts.History.{Playout}
use Rattle.history_model.specs.sessions.Request.{text_token}
use Rattle.play_session.specs.Step.{viewed}
use Rattle.script_player.specs.Clients.{ClientsTakeLine, HasTokenOf, NextText, batch_of, step_in}
use Rattle.script_player.specs.Player.{FollowsStep, Given, events_in}
use Rattle.script_player.proofs.Following.{follows_nothing, no_tick_made, ready_clients}
use Rattle.script_player.proofs.Lines.{step_followed}
use Rattle.script_player.proofs.player.Player.take_client_line.Goals as goal

pub follow_step-requires-clause-ready : goal.follow_step-requires-clause-ready
follow_step-requires-clause-ready g c = ready_clients c.args.self.now c.take_line.new.self c.requires (c.in_ok-given.ensures.aimed c.requires.batches)

pub returns-in-None-clause-ready : goal.returns-in-None-clause-ready
returns-in-None-clause-ready g c = ready_clients c.args.self.now c.take_line.new.self c.requires (c.in_ok-given.ensures.aimed c.requires.batches)

pub returns-in-Some-clause-plays : goal.returns-in-Some-clause-plays
returns-in-Some-clause-plays g c = λ shown playout played none on represents.
    let given = c.in-Some.given in
    let step = given.step in
    let old = record c.args.self.now { clients = c.take_line.new.self } in
    let token = subst (HasTokenOf c.args.text.now) c.in-Some.is c.in_ok-given.ensures.token in
    let follows = c.follow_step.ensures.follows (text_token c.args.text.now) token in
    let next : NextText = record { playout = playout; played = played; tag = c.args.tag; text = c.args.text.now; no_memory = follows.no_memory } in
    let took = c.in_ok-given.ensures.takes playout played follows.no_memory (ap (λ (p : Playout). p.config) represents.on) (ap (λ (p : Playout). p.names) represents.on) none represents.clients in
    let takes : ClientsTakeLine next (Some step) c.take_line.new.self.list.items =
    subst (λ f. ClientsTakeLine next (step_in f) c.take_line.new.self.list.items) c.in-Some.is took in
    step_followed next shown (Some step) (viewed step (batch_of c.args.tag c.take_line.new.self.list.items)) c.follow_step.result old c.follow_step.new.self _ _ on represents.memory represents.on represents.history
    follows refl takes refl

pub returns-in-None-clause-plays : goal.returns-in-None-clause-plays
returns-in-None-clause-plays g c = λ shown playout played none on represents.
    let old = record c.args.self.now { clients = c.take_line.new.self } in
    let given : Given = record { player = old; tag = c.args.tag; step = None; token = text_token c.args.text.now } in
    let follows : FollowsStep given (Ok None) old (g.K.Sink.state c.args.out.now) (g.K.Sink.state c.args.out.now) = follows_nothing given _ refl refl refl in
    let next : NextText = record { playout = playout; played = played; tag = c.args.tag; text = c.args.text.now; no_memory = follows.no_memory } in
    let took = c.in_ok-given.ensures.takes playout played follows.no_memory (ap (λ (p : Playout). p.config) represents.on) (ap (λ (p : Playout). p.names) represents.on) none represents.clients in
    let takes : ClientsTakeLine next None c.take_line.new.self.list.items = subst (λ f. ClientsTakeLine next (step_in f) c.take_line.new.self.list.items) c.in-None.is took in
    step_followed next shown None None (Ok None) old old _ _ on represents.memory represents.on represents.history follows refl takes refl

pub returns-in-Some-clause-makes : goal.returns-in-Some-clause-makes
returns-in-Some-clause-makes g c =
    let token = subst (HasTokenOf c.args.text.now) c.in-Some.is c.in_ok-given.ensures.token in
    let old = record c.args.self.now { clients = c.take_line.new.self } in
    let follows = c.follow_step.ensures.follows (text_token c.args.text.now) token in
    let made = no_tick_made follows.made old c.follow_step.new.self follows.makes c.follow_step.ensures.ticks in
    record { setup = made.setup; channels = made.channels; made = made.made; none = made.none; history = made.history }

pub returns-in-None-clause-makes : goal.returns-in-None-clause-makes
returns-in-None-clause-makes g c = record { setup = refl; channels = refl; made = []; none = refl; history = sym (append-nil (events_in c.args.self.now)) }

pub returns-in_err-given-clause-makes : goal.returns-in_err-given-clause-makes
returns-in_err-given-clause-makes g c = record { setup = refl; channels = refl; made = []; none = refl; history = sym (append-nil (events_in c.args.self.now)) }
