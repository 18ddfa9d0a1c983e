use Rattle.std.proofs.Common.{rules, ◌≢◌, ◌<◌, ◌∷◌, [], List, length, refl, sym, ◌∙◌, subst, arith}
use Rattle.play_types.specs.declared.command.Cmd.{Cmd}
use Rattle.play_types.specs.declared.event.Event.TheVariants.{Batch}
use Rattle.script_player.specs.Player.{DoesRequest, batch_request}
use Rattle.script_player.proofs.Connections.{aimed_of}
use Rattle.script_player.proofs.Following.{batch_answered, does_request, going_on, no_tick_after, ready_after}
use Rattle.script_player.proofs.Replying.{batch_fits}
use Rattle.script_player.proofs.player.Player.do_batch.Goals as goal

some : (commands : List Cmd) → commands ≢ [] → 0 < length commands
some [] filled = absurd (filled refl)
some (command ∷ commands) filled = omega arith

pub apply_batch-requires-clause-some : goal.apply_batch-requires-clause-some
apply_batch-requires-clause-some c = some c.batch-commands.result.now (λ none. c.requires.filled (sym c.batch-commands.ensures ∙ none))

pub apply_batch-requires-clause-each : goal.apply_batch-requires-clause-each
apply_batch-requires-clause-each c =
    let old = c.args.self.now in
    let aimed = aimed_of old.setup.config c.args.tag old.clients.list.items c.requires.ready.batches in
    let same = c.requires.ready.channels in
    search rules

pub reply_to-requires : goal.reply_to-requires
reply_to-requires c = going_on c.args.self.now (length c.batch-commands.result.now) c.apply_batch.result c.requires.ready c.apply_batch.ensures.fault

pub returns-clause-ready : goal.returns-clause-ready
returns-clause-ready c =
    let one = Batch c.args.tag c.batch-commands.result.now in
    ready_after one c.apply_batch.result c.args.self.now c.apply_batch.new.self refl c.requires.ready c.apply_batch.ensures.journal c.apply_batch.ensures.err

pub returns-clause-ticks : goal.returns-clause-ticks
returns-clause-ticks c =
    no_tick_after (Batch c.args.tag c.batch-commands.result.now) c.apply_batch.result c.args.self.now c.apply_batch.new.self refl c.apply_batch.ensures.journal c.apply_batch.ensures.err

pub returns-clause-fits : goal.returns-clause-fits
returns-clause-fits c =
    let old = c.args.self.now in
    let commands = c.batch-commands.result.now in
    batch_fits old c.args.tag commands c.apply_batch.result c.reply_to.result c.apply_batch.ensures.answer c.reply_to.ensures

pub returns-clause-does : goal.returns-clause-does
returns-clause-does c =
    let old = c.args.self.now in
    let commands = c.batch-commands.result.now in
    subst (λ l. DoesRequest c.args.tag (batch_request old c.args.tag l) c.reply_to.result old (record old { stage = c.apply_batch.new.self })) c.batch-commands.ensures
    (does_request c.args.tag (batch_request old c.args.tag commands) c.apply_batch.result c.reply_to.result old c.apply_batch.new.self c.requires.ready
    (batch_answered old c.args.tag commands c.apply_batch.result c.apply_batch.ensures.answer) c.apply_batch.ensures.journal c.apply_batch.ensures.room
    c.apply_batch.ensures.err c.apply_batch.ensures.fault c.reply_to.ensures)
