use Rattle.std.proofs.Common.{ℕ, List, [], ◌∷◌, ◌++◌, map, refl, ap, ◌∙◌}
use Rattle.std.specs.Prelude.{Some}
use Rattle.std.specs.Global.{Global}
use Rattle.std.specs.declared.vec.Vec.{Vec}
use Rattle.std.proofs.lemmas.List.{map-append}
use Rattle.vec_sink.proofs.Taken.{text_taken}
use Rattle.osc_status.specs.Message.{message_bytes}
use Rattle.osc_status.specs.Status.{message_of}
use Rattle.status_display.proofs.datagrams.push_message.Goals as goal

pub returns-in_ok-push-in-All : goal.returns-in_ok-push-in-All
returns-in_ok-push-in-All c =
    let items : Vec ℕ Global → List ℕ = λ message. message.items in
    let is = text_taken _ _ c.write_status_message.new.to.taken.items (message_bytes (message_of c.args.names.now c.args.message)) (ap Some c.new-sink.ensures.taken) refl
    (rw c.in-All.is at c.write_status_message.ensures) in
    ap (map items) (rw c.in_ok-push-in-All.was at c.push.ensures.items) ∙ map-append items c.args.list.now.items (c.write_status_message.new.to.taken ∷ [])
    ∙ ap (λ (text : List ℕ). map items c.args.list.now.items ++ text ∷ []) is
