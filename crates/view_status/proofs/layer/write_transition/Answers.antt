use Rattle.std.proofs.Common.{◌∙◌, sym, append_assoc, append-nil}
use Rattle.view_status.specs.Status.{transition_tokens}
use Rattle.view_status.proofs.Written.{first_piece, last_piece, then_piece, transition_going}
use Rattle.view_status.proofs.layer.write_transition.Goals as goal

pub returns : goal.returns
returns c =
    let written = then_piece (then_piece (then_piece (first_piece c.args.document.now _ _ c.in_ok-begin_object.ensures)
    _ _ c.in_ok-text_member.ensures) _ _ c.in_ok-whole_member.ensures) _ _ c.in_ok-whole_member-2.ensures in
    let going = transition_going c.args.layer.now (λ same. c.if-layer-duration.false (same ∙ sym c.duration.ensures.value)) in
    last_piece c.end_object.result (transition_tokens c.args.layer.now) written _ _ c.end_object.ensures
    (simp (append_assoc, append-nil, c.from.ensures, c.from-2.ensures, c.duration-2.ensures.value, c.as_str.ensures.text, c.kind.ensures) going)
