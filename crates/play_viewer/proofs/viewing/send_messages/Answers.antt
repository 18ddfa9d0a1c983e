use Rattle.std.proofs.Common.{◌∙◌, List, ℕ, ap, ap₂, map}
use Rattle.std.specs.Global.{Vec}
use Rattle.live_view.specs.History.{history_of}
use Rattle.live_view.specs.Messages.{messages_due, sent_after}
use Rattle.live_view.specs.View.{state_of}
use Rattle.live_view.proofs.Views.{history_of_view}
use Rattle.play_viewer.specs.Moves.{Sent, after_move}
use Rattle.play_viewer.proofs.viewing.send_messages.Goals as goal

pub returns-clause-sends : goal.returns-clause-sends
returns-clause-sends g c = λ playout bytes is.
    let settled = c.settle.ensures.of_bytes playout bytes is in
    let given = c.in_ok-datagrams.ensures.given playout bytes settled in (
      c.in_ok-datagrams.ensures.sent ∙ ap₂ sent_after c.settle.ensures.sent (history_of_view playout bytes (state_of c.settle.new.self) settled).events,
      c.send.ensures.told
          ∙ ap (λ (messages : List (List ℕ)). after_move (Sent messages) (g.D.Desk.state c.args.desk.now))
          (ap (map (λ (datagram : Vec ℕ). datagram.items)) c.as_slice.ensures.value ∙ given
          ∙ ap (λ (n : ℕ). messages_due playout n (history_of playout bytes)) c.settle.ensures.sent),
    )
