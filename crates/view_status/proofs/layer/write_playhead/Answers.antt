use Rattle.std.proofs.Common.{append_assoc, append-nil}
use Rattle.std.specs.List.{flat_map}
use Rattle.view_status.specs.Status.{playhead_members}
use Rattle.view_status.proofs.Written.{first_piece, last_piece, then_piece}
use Rattle.view_status.proofs.layer.write_playhead.Goals as goal

pub returns : goal.returns
returns c =
    let written = then_piece (then_piece (then_piece (then_piece (first_piece c.args.document.now _ _ c.in_ok-whole_member.ensures) _ _ c.in_ok-whole_member-2.ensures) _ _ c.in_ok-whole_member-3.ensures) _ _ c.in_ok-whole_member-4.ensures) _ _ c.in_ok-write_time.ensures in
    last_piece c.write_time-2.result
    (flat_map (λ tokens. tokens) (playhead_members c.args.rate c.args.layer.now))
    written _ _ c.write_time-2.ensures
    (simp (append_assoc, append-nil, c.from.ensures, c.from-2.ensures, c.from-3.ensures, c.from-4.ensures, c.frames_left-left.ensures, c.saturating_sub-passed.ensures))
