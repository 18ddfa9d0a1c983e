use Rattle.std.proofs.Common.{refl, sym, ap, subst}
use Rattle.std.specs.Prelude.{Some}
use Rattle.std.proofs.lemmas.Result.{err_from_is_err_and}
use Rattle.history_model.specs.scripts.Generator.{generator_playout}
use Rattle.script_player.specs.Shown.{Frames}
use Rattle.script_player.specs.Display.{IsShownBy}
use Rattle.script_player.specs.declared.player.Player.{Player}
use Rattle.script_player.proofs.Stepping.{always}
use Rattle.made_script.proofs.Making.{counted_after, halted, none_counted}
use Rattle.made_script.proofs.made_run.MadeRun.take_line.Goals as goal

pub returns-in_err-reply-clause-takes : goal.returns-in_err-reply-clause-takes
returns-in_err-reply-clause-takes g c = λ lines made.
    let p = err_from_is_err_and c.from_residual.result c.from_residual.ensures.1 in
    rw (p.1, p.2)
    (halted lines c.args.line.now c.args.self.now _ c.in_err-reply.field-0.0 _ _ c.take_line-played.new.out.taken.items made
    (λ had. c.in_err-reply.ensures.plays Frames generator_playout had.played (sym c.requires.frames) c.requires.one_line had.runs_on had.represents)
    (ap Some c.new-written.ensures.taken) refl
    (λ message held. rw c.as_slice.ensures.value at (c.update.ensures message held)) refl c.requires.accepted)

pub returns-in-Some-clause-takes : goal.returns-in-Some-clause-takes
returns-in-Some-clause-takes g c = λ lines made.
    counted_after lines c.args.line.now c.args.self.now c.count.new.self c.in-Some.reply _ c.take_line-played.new.self c.update.new.self _ _ c.take_line-played.new.out.taken.items
    c.count.ensures.player c.count.ensures.hasher made
    (λ had. rw c.in-Some.is at (c.in_ok-reply.ensures.plays Frames generator_playout had.played (sym c.requires.frames) c.requires.one_line had.runs_on had.represents))
    (ap Some c.new-written.ensures.taken) refl
    (λ message held. rw c.as_slice.ensures.value at (c.update.ensures message held)) c.count.ensures.counts

pub returns-clause-takes : goal.returns-clause-takes
returns-clause-takes g c = λ lines made.
    none_counted lines c.args.line.now c.args.self.now _ _ _ c.take_line-played.new.out.taken.items made
    (λ had. rw c.in-None.is at (c.in_ok-reply.ensures.plays Frames generator_playout had.played (sym c.requires.frames) c.requires.one_line had.runs_on had.represents))
    (ap Some c.new-written.ensures.taken) refl
    (λ message held. rw c.as_slice.ensures.value at (c.update.ensures message held)) refl

pub returns-in-Some-clause-shown : goal.returns-in-Some-clause-shown
returns-in-Some-clause-shown g c =
    always c.count.result
    (subst (IsShownBy (g.D.Display.shows c.take_line-played.new.display) (g.D.Display.waiting c.take_line-played.new.display)) (sym c.count.ensures.player) c.in_ok-reply.ensures.shown)
