use Rattle.std.proofs.Common.{refl, subst}
use Rattle.play_types.specs.declared.event.Event.TheVariants.{Do}
use Rattle.script_player.specs.Player.{RepliesTo, command_request}
use Rattle.script_player.proofs.Following.{command_answered, does_request, going_on, no_tick_after, ready_after}
use Rattle.script_player.proofs.Replying.{command_fits}
use Rattle.script_player.proofs.player.Player.do_command.Goals as goal

pub reply_to-requires : goal.reply_to-requires
reply_to-requires c = going_on c.args.self.now 1 c.apply.result c.requires.ready c.apply.ensures.fault

pub returns-clause-ready : goal.returns-clause-ready
returns-clause-ready c =
    ready_after (Do c.args.tag c.args.cmd) c.apply.result c.args.self.now c.apply.new.self refl c.requires.ready c.apply.ensures.journal c.apply.ensures.err

pub returns-clause-ticks : goal.returns-clause-ticks
returns-clause-ticks c = no_tick_after (Do c.args.tag c.args.cmd) c.apply.result c.args.self.now c.apply.new.self refl c.apply.ensures.journal c.apply.ensures.err

pub returns-clause-fits : goal.returns-clause-fits
returns-clause-fits c =
    let old = c.args.self.now in
    command_fits old c.args.tag c.args.cmd c.apply.result c.reply_to.result c.requires.ready c.apply.ensures.answer
    (subst (λ n. RepliesTo n c.apply.result c.reply_to.result) c.name-name.ensures c.reply_to.ensures)

pub returns-clause-does : goal.returns-clause-does
returns-clause-does c =
    let old = c.args.self.now in
    does_request c.args.tag (command_request old c.args.tag c.args.cmd) c.apply.result c.reply_to.result old c.apply.new.self c.requires.ready
    (command_answered old c.args.tag c.args.cmd c.apply.result c.requires.ready c.apply.ensures.answer) c.apply.ensures.journal c.apply.ensures.room
    c.apply.ensures.err c.apply.ensures.fault (subst (λ n. RepliesTo n c.apply.result c.reply_to.result) c.name-name.ensures c.reply_to.ensures)
