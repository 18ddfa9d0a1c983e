use Rattle.std.proofs.Common.{arith, refl, ◌∙◌}
use Rattle.std.proofs.lemmas.Result.{err_from_is_err_and}
use Rattle.history_model.specs.scripts.Input.{ended_lines}
use Rattle.script_player.specs.Player.{playout_in}
use Rattle.history_reader.proofs.PlayedUpTo.{at_begin, kill_is_last, kill_not_last, line_played, line_refused, shorter, stop_is_last, stop_not_last, text_ends, text_length, time_left}
use Rattle.history_reader.proofs.text.play_lines.Goals as goal

pub loop-line-init : goal.loop-line-init
loop-line-init g c = (at_begin (playout_in c.args.player.now) c.args.text.now c.args.player.now c.requires.ready c.requires.empty c.requires.new, refl)

pub overflow_add-lines : goal.overflow_add-lines
overflow_add-lines g c =
    let upto = c.loop-line.invariant.0 in
    let few = upto.few in
    let all = text_length _ _ _ _ _ upto in
    let small = c.requires.few in
    omega (arith, few, all, small)

pub take_line-requires-clause-playing : goal.take_line-requires-clause-playing
take_line-requires-clause-playing g c =
    let upto = c.loop-line.invariant.0 in
    record { playout = playout_in c.args.player.now; lines = ended_lines upto.done; played = upto.played; ready = upto.ready }

pub take_line-requires-clause-time : goal.take_line-requires-clause-time
take_line-requires-clause-time g c = time_left _ _ _ _ _ c.loop-line.invariant.0 c.requires.few

pub overflow_sub-text : goal.overflow_sub-text
overflow_sub-text g c =
    let upto = c.loop-line.invariant.0 in
    let less = shorter _ _ _ _ _ upto c.in-Some.line.now c.in-Some.after.now c.in-Some.ensures in
    let all = text_length _ _ _ _ _ upto in
    omega (arith, less, all)

pub overflow_sub-front : goal.overflow_sub-front
overflow_sub-front g c =
    let all = text_length _ _ _ _ _ c.loop-line.invariant.0 in
    omega (arith, all)

pub end_lines-requires : goal.end_lines-requires
end_lines-requires g c =
    let upto = c.loop-line.invariant.0 in
    let few = upto.few in
    let less = shorter _ _ _ _ _ upto c.in-Some.line.now c.in-Some.after.now c.in-Some.ensures in
    let all = text_length _ _ _ _ _ upto in
    let small = c.requires.few in
    omega (arith, few, less, all, small)

pub end_lines-requires-in-Ok-Kill : goal.end_lines-requires-in-Ok-Kill
end_lines-requires-in-Ok-Kill g c =
    let upto = c.loop-line.invariant.0 in
    let few = upto.few in
    let less = shorter _ _ _ _ _ upto c.in-Some.line.now c.in-Some.after.now c.in-Some.ensures in
    let all = text_length _ _ _ _ _ upto in
    let small = c.requires.few in
    omega (arith, few, less, all, small)

pub loop-line-smaller : goal.loop-line-smaller
loop-line-smaller g c = shorter _ _ _ _ _ c.loop-line.invariant.0 c.in-Some.line.now c.in-Some.after.now c.in-Some.ensures

pub loop-line-preserved : goal.loop-line-preserved
loop-line-preserved g c =
    let upto = c.loop-line.invariant.0 in (
      line_played _ _ _ _ _ upto c.in-Some.line.now c.in-Some.after.now c.in-Some.ensures c.without_carriage_return.result.now c.without_carriage_return.ensures
          c.in-Ok-Played.field-0 c.in-Ok-Played.field-0-is c.take_line.new.player (c.in-Ok-Played.ensures.takes _ _ upto.played) c.in-Ok-Played.ensures.ready,
      c.take_line.ensures.setup ∙ c.loop-line.invariant.1,
    )

pub returns-in_err-end_lines-in-Ok-Stop-clause-plays : goal.returns-in_err-end_lines-in-Ok-Stop-clause-plays
returns-in_err-end_lines-in-Ok-Stop-clause-plays g c =
    let upto = c.loop-line.invariant.0 in
    let p = err_from_is_err_and c.from_residual.result c.from_residual.ensures.1 in
    rw (p.1, p.2)
    (stop_not_last _ _ _ _ _ upto c.in-Some.line.now c.in-Some.after.now c.in-Some.ensures c.without_carriage_return.result.now c.without_carriage_return.ensures
    c.in-Ok-Stop.field-0 c.take_line.new.player (c.in-Ok-Stop.ensures.takes _ _ upto.played) c.in-Ok-Stop.field-0-is c.in_err-end_lines-in-Ok-Stop.field-0.0 c.in_err-end_lines-in-Ok-Stop.ensures)

pub returns-in-Ok-Stop-clause-plays : goal.returns-in-Ok-Stop-clause-plays
returns-in-Ok-Stop-clause-plays g c =
    let upto = c.loop-line.invariant.0 in
    stop_is_last _ _ _ _ _ upto c.in-Some.line.now c.in-Some.after.now c.in-Some.ensures c.without_carriage_return.result.now c.without_carriage_return.ensures
    c.in-Ok-Stop.field-0 c.take_line.new.player (c.in-Ok-Stop.ensures.takes _ _ upto.played) c.in-Ok-Stop.field-0-is c.in-Ok-Stop.ensures.ready c.in_ok-end_lines-in-Ok-Stop.ensures

pub returns-in_err-end_lines-in-Ok-Kill-clause-plays : goal.returns-in_err-end_lines-in-Ok-Kill-clause-plays
returns-in_err-end_lines-in-Ok-Kill-clause-plays g c =
    let upto = c.loop-line.invariant.0 in
    let p = err_from_is_err_and c.from_residual-in_err-end_lines-in-Ok-Kill.result c.from_residual-in_err-end_lines-in-Ok-Kill.ensures.1 in
    rw (p.1, p.2)
    (kill_not_last _ _ _ _ _ upto c.in-Some.line.now c.in-Some.after.now c.in-Some.ensures c.without_carriage_return.result.now c.without_carriage_return.ensures
    c.in-Ok-Kill.field-0 c.take_line.new.player (c.in-Ok-Kill.ensures.takes _ _ upto.played) c.in-Ok-Kill.field-0-is c.in_err-end_lines-in-Ok-Kill.field-0.0 c.in_err-end_lines-in-Ok-Kill.ensures)

pub returns-in-Ok-Kill-clause-plays : goal.returns-in-Ok-Kill-clause-plays
returns-in-Ok-Kill-clause-plays g c =
    let upto = c.loop-line.invariant.0 in
    kill_is_last _ _ _ _ _ upto c.in-Some.line.now c.in-Some.after.now c.in-Some.ensures c.without_carriage_return.result.now c.without_carriage_return.ensures
    c.in-Ok-Kill.field-0 c.take_line.new.player (c.in-Ok-Kill.ensures.takes _ _ upto.played) c.in-Ok-Kill.field-0-is c.in_ok-end_lines-in-Ok-Kill.ensures

pub returns-in-Err-Refused-clause-plays : goal.returns-in-Err-Refused-clause-plays
returns-in-Err-Refused-clause-plays g c =
    let upto = c.loop-line.invariant.0 in
    line_refused _ _ _ _ _ upto c.in-Some.line.now c.in-Some.after.now c.in-Some.ensures c.without_carriage_return.result.now c.without_carriage_return.ensures
    c.in-Err-Refused.field-0 c.in-Err-Refused.field-0-is c.take_line.new.player (c.in-Err-Refused.ensures.takes _ _ upto.played)

pub returns-clause-plays : goal.returns-clause-plays
returns-clause-plays g c = text_ends _ _ _ _ _ c.loop-line.invariant.0 c.in_default.ensures
