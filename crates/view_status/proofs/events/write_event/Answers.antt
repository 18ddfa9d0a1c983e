use Rattle.std.proofs.Common.{append_assoc, append-nil}
use Rattle.view_status.specs.Events.{event_tokens}
use Rattle.view_status.proofs.Written.{first_piece, last_piece, then_piece}
use Rattle.view_status.proofs.events.write_event.Goals as goal

pub returns : goal.returns
unfolding event_tokens
returns c =
    let written = then_piece (then_piece (then_piece (then_piece (first_piece c.args.document.now _ _ c.in_ok-begin_object.ensures) _ _ c.in_ok-whole_member.ensures) _ _ c.in_ok-whole_member-2.ensures) _ _ c.in_ok-write_time.ensures) _ _ c.in_ok-write_text.ensures in
    last_piece c.end_object.result
    (event_tokens c.args.listing.names.now c.args.listing.rate (record { position = c.args.place.position; tick = c.args.place.tick; event = c.args.event.now }))
    written _ _ c.end_object.ensures
    (simp (append_assoc, append-nil))
