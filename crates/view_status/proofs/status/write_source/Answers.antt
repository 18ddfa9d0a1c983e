use Rattle.view_status.specs.Status.{source_tokens}
use Rattle.view_status.proofs.Objects.{array_written, begun, ended, keyed_member, one_member}
use Rattle.view_status.proofs.status.write_source.Goals as goal

pub returns : goal.returns
unfolding source_tokens
returns c =
    let journal = c.journal-journal.ensures in
    let ticks = one_member (begun c.args.document.now _ c.in_ok-begin_object.ensures) _ _
    (rw (c.ticks.ensures.value, journal) at c.in_ok-whole_member.ensures) in
    let time = one_member ticks _ _ (rw (c.rate-rate.ensures.value, c.ticks-2.ensures.value, journal) at c.in_ok-write_time.ensures) in
    let rate = one_member time _ _ (rw (c.from.ensures, c.rate-rate.ensures.value) at c.in_ok-whole_member-2.ensures) in
    let events = one_member rate _ _ (rw (c.event_count.ensures, journal) at c.in_ok-whole_member-3.ensures) in
    let over = one_member events _ _ (rw (c.is_some.ensures, c.stopped.ensures.value, journal) at c.in_ok-flag_member.ensures) in
    let channels = array_written _ _ _ _ _ c.in_ok-begin_array.ensures c.in_ok-write_channels.ensures c.in_ok-end_array.ensures in
    ended c.end_object.result (keyed_member over _ _ _ _ c.in_ok-key.ensures channels) _ c.end_object.ensures
