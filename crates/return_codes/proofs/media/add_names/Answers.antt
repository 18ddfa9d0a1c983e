use Rattle.std.proofs.Common.{◌≡◌, take, length, append-nil, arith}
use Rattle.std.proofs.lemmas.List.{take_all}
use Rattle.std.proofs.lemmas.List.Folds.{flat_map-map}
use Rattle.std.proofs.lemmas.Iterator.{YieldsList-from_slice}
use Rattle.std.proofs.lemmas.Iterator.Consumers.{YieldsList-turn, YieldsList-end}
use Rattle.play_outside.proofs.Gathering.{Gathered-none}
use Rattle.play_outside.proofs.Following.{added-turn, failed-turn}
use Rattle.history_model.specs.text.Replies.{media_line}
use Rattle.return_codes.specs.inner.Style.{styled}
use Rattle.return_codes.proofs.media.add_names.Goals as goal

pub loop-clip-init : goal.loop-clip-init
loop-clip-init g c = rw append-nil (Gathered-none c.args.text.now (g.K.Sink.state c.args.to.now))

pub returns-in_err-add_name : goal.returns-in_err-add_name
returns-in_err-add_name g c =
    let turn = YieldsList-turn (YieldsList-from_slice c.args.media.now cc) c.loop-clip.yielded _ c.loop-clip.yielded_by _ _ c.in-Some.clip c.in-Some.is c.next.ensures.steps in
    rw (flat_map-map (styled c.args.style.now) media_line c.args.media.now, c.from_residual.ensures)
    (failed-turn (λ clip. styled c.args.style.now (media_line clip)) _ _ _ _ _ _ _ _ _ turn c.loop-clip.invariant (rw c.in_err-add_name.ensures at c.add_name.ensures))

pub loop-clip-preserved : goal.loop-clip-preserved
loop-clip-preserved g c =
    let turn = YieldsList-turn (YieldsList-from_slice c.args.media.now cc) c.loop-clip.yielded _ c.loop-clip.yielded_by _ _ c.in-Some.clip c.in-Some.is c.next.ensures.steps in
    added-turn (λ clip. styled c.args.style.now (media_line clip)) _ _ _ _ _ _ _ _ _ _ turn c.loop-clip.invariant (rw c.in_ok-add_name.ensures at c.add_name.ensures)

pub returns : goal.returns
returns g c =
    let end = YieldsList-end (YieldsList-from_slice c.args.media.now cc) c.loop-clip.yielded _ c.loop-clip.yielded_by _ _ c.in-None.is c.next.ensures.steps in
    let all : take (length c.loop-clip.yielded) c.args.media.now ≡ c.args.media.now = take_all _ c.args.media.now (omega (arith, end.1)) in
    rw (flat_map-map (styled c.args.style.now) media_line c.args.media.now) (rw all at c.loop-clip.invariant)
