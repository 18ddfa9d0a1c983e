use Rattle.view_status.specs.Status.{channel_tokens}
use Rattle.view_status.proofs.Objects.{array_written, begun, ended, keyed_member, one_member}
use Rattle.view_status.proofs.status.write_channel.Goals as goal

pub returns : goal.returns
unfolding channel_tokens
returns c =
    let number = one_member (begun c.args.document.now _ c.in_ok-begin_object.ensures) _ _ (rw c.from.ensures at c.in_ok-whole_member.ensures) in
    let width = one_member number _ _ (rw (c.from-2.ensures, c.width.ensures.value) at c.in_ok-whole_member-2.ensures) in
    let height = one_member width _ _ (rw (c.from-3.ensures, c.height.ensures.value) at c.in_ok-whole_member-3.ensures) in
    let levels = keyed_member height _ _ _ _ c.in_ok-key.ensures (rw c.levels_of_channel.ensures at c.in_ok-write_levels.ensures) in
    let layers = array_written _ _ _ _ _ c.in_ok-begin_array.ensures c.in_ok-write_layers.ensures c.in_ok-end_array.ensures in
    ended c.end_object.result (keyed_member levels _ _ _ _ c.in_ok-key-2.ensures layers) _ c.end_object.ensures
