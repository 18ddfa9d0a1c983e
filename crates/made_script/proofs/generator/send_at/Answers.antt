use Rattle.std.proofs.Common.{append_assoc, append-nil}
use Rattle.std.specs.Prelude.{flat_map}
use Rattle.play_outside.proofs.Sending.{Fails-before, Sends-then}
use Rattle.made_script.proofs.generator.send_at.Goals as goal

pub returns-in_err-send_parts : goal.returns-in_err-send_parts
returns-in_err-send_parts g c =
    let head = rw (c.as_bytes.ensures.value, c.format.ensures.text, c.as_bytes-2.ensures.value, c.format-2.ensures.text, c.as_bytes-3.ensures.value, c.format-3.ensures.text, c.in_err-send_parts.ensures) at c.send_parts.ensures in
    rw c.from_residual.ensures
    (simp append_assoc (simp (append_assoc, append-nil) at (Fails-before _ (flat_map (λ part. part.now) c.args.rest.now) _ _ head)))

pub returns : goal.returns
returns g c =
    let head = rw (c.as_bytes.ensures.value, c.format.ensures.text, c.as_bytes-2.ensures.value, c.format-2.ensures.text, c.as_bytes-3.ensures.value, c.format-3.ensures.text, c.in_ok-send_parts.ensures) at c.send_parts.ensures in
    simp append_assoc (simp (append_assoc, append-nil) at (Sends-then _ _ _ _ _ _ head c.send_parts-2.ensures))
