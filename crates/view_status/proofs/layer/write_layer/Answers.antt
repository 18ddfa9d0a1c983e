use Rattle.view_status.specs.Status.{layer_tokens, playhead_members}
use Rattle.view_status.proofs.Objects.{begun, ended, keyed_member, more_members, one_member}
use Rattle.view_status.proofs.layer.write_layer.Goals as goal

pub returns : goal.returns
unfolding layer_tokens
returns c =
    let rate = c.args.source.config.now.rate in
    let number = one_member (begun c.args.document.now _ c.in_ok-begin_object.ensures) _ _ (rw c.from.ensures at c.in_ok-whole_member.ensures) in
    let plays = one_member number _ _ c.in_ok-write_producer.ensures in
    let playhead = more_members plays _ (playhead_members rate c.args.layer.now) (rw c.rate.ensures.value at c.in_ok-write_playhead.ensures) in
    let flags = one_member (one_member playhead _ _ c.in_ok-flag_member.ensures) _ _ c.in_ok-flag_member-2.ensures in
    let transition = keyed_member flags _ _ _ _ c.in_ok-key.ensures c.in_ok-write_transition.ensures in
    let mixer = keyed_member transition _ _ _ _ c.in_ok-key-2.ensures c.in_ok-write_mixer.ensures in
    ended c.end_object.result mixer _ c.end_object.ensures
