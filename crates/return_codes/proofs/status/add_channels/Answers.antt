use Rattle.std.proofs.Common.{◌≡◌, take, length, append-nil, arith}
use Rattle.std.proofs.lemmas.List.{take_all}
use Rattle.std.specs.List.{zip, enumerate_from}
use Rattle.std.proofs.lemmas.Iterator.{YieldsList-from_slice, YieldsList-from_zip}
use Rattle.std.proofs.lemmas.Iterator.Consumers.{YieldsList-turn, YieldsList-end, YieldsList-from_enumerate}
use Rattle.play_outside.proofs.Gathering.{Gathered-none}
use Rattle.play_outside.proofs.Following.{added-turn, failed-turn}
use Rattle.return_codes.proofs.Lines.{channel_lines-numbered, numbered_line}
use Rattle.return_codes.proofs.status.add_channels.Goals as goal

pub loop-at-init : goal.loop-at-init
loop-at-init g c = rw append-nil (Gathered-none c.args.text.now (g.K.Sink.state c.args.to.now))

pub returns-in_err-add_channel : goal.returns-in_err-add_channel
returns-in_err-add_channel g c =
    let pairs =
    YieldsList-from_enumerate {s = c.into_iter-at-iterator.result}
    (YieldsList-from_zip (YieldsList-from_slice c.args.channels.now (cc)) (YieldsList-from_slice c.args.statuses.now (cc))) (cc) in
    let turn = YieldsList-turn pairs c.loop-at.yielded _ c.loop-at.yielded_by _ c.next.new.self (c.in-Some.at, (c.in-Some.channel, c.in-Some.status)) c.in-Some.is c.next.ensures.steps in
    rw (channel_lines-numbered c.args.style.now, c.from_residual.ensures)
    (failed-turn (numbered_line c.args.style.now) _ _ _ _ _ _ _ _ _ turn c.loop-at.invariant (rw c.in_err-add_channel.ensures at c.add_channel.ensures))

pub loop-at-preserved : goal.loop-at-preserved
loop-at-preserved g c =
    let pairs =
    YieldsList-from_enumerate {s = c.into_iter-at-iterator.result}
    (YieldsList-from_zip (YieldsList-from_slice c.args.channels.now (cc)) (YieldsList-from_slice c.args.statuses.now (cc))) (cc) in
    let turn = YieldsList-turn pairs c.loop-at.yielded _ c.loop-at.yielded_by _ c.next.new.self (c.in-Some.at, (c.in-Some.channel, c.in-Some.status)) c.in-Some.is c.next.ensures.steps in
    added-turn (numbered_line c.args.style.now) _ _ _ _ _ _ _ _ _ _ turn c.loop-at.invariant (rw c.in_ok-add_channel.ensures at c.add_channel.ensures)

pub returns : goal.returns
returns g c =
    let pairs =
    YieldsList-from_enumerate {s = c.into_iter-at-iterator.result}
    (YieldsList-from_zip (YieldsList-from_slice c.args.channels.now (cc)) (YieldsList-from_slice c.args.statuses.now (cc))) (cc) in
    let end = YieldsList-end pairs c.loop-at.yielded _ c.loop-at.yielded_by _ c.next.new.self c.in-None.is c.next.ensures.steps in
    let lines = enumerate_from 0 (zip c.args.channels.now c.args.statuses.now) in
    let all : take (length c.loop-at.yielded) lines ≡ lines = take_all _ lines (omega (arith, end.1)) in
    rw (channel_lines-numbered c.args.style.now) (rw all at c.loop-at.invariant)
