use Rattle.std.proofs.Common.{◌≡◌, ℕ, true, false, map, sym, ap, ◌∙◌}
use Rattle.std.specs.Global.{Vec}
use Rattle.live_view.specs.Messages.{is_due}
use Rattle.live_view.specs.View.{events_of, state_of}
use Rattle.live_view.proofs.Messages.{all_due, none_due}
use Rattle.live_view.proofs.view.LiveView.status_datagrams.Goals as goal

pub returns-then-not-is_due-clause-given : goal.returns-then-not-is_due-clause-given
returns-then-not-is_due-clause-given g c = λ playout bytes is.
    let view = state_of c.args.self.now in
    let none : is_due view.sent (events_of view) ≡ false =
    sym c.if-not-is_due.ensures in
    ap (map (λ (message : Vec ℕ). message.items)) c.new.ensures.items ∙ none_due playout bytes view is none

pub returns-clause-given : goal.returns-clause-given
returns-clause-given g c = λ playout bytes is.
    let view = state_of c.args.self.now in
    let due : is_due view.sent (events_of view) ≡ true =
    sym c.if-not-is_due.ensures in
    all_due playout bytes view is (map (λ (message : Vec ℕ). message.items) c.in_ok-list.list.items) due c.in_ok-list.ensures
