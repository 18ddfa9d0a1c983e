use Rattle.std.proofs.Common.{◌∙◌, ℕ, List, sym, ap, append_assoc, append-nil}
use Rattle.hex.specs.Hex.{encode_lower}
use Rattle.sha2.specs.Sha256.{sha256}
use Rattle.history_model.specs.text.Frames.{digest_line}
use Rattle.frame_digests.proofs.waiting.send_line.Goals as goal

pub returns-clause-sends : goal.returns-clause-sends
unfolding digest_line
returns-clause-sends g c =
    let digits = c.digits-digits.ensures.digits ∙ ap (λ (bytes : List ℕ). encode_lower (sha256 bytes)) (sym (append-nil c.args.frame.now)) in
    simp append_assoc
    (rw (c.as_bytes.ensures.value, c.format.ensures.text, c.as_bytes-2.ensures.value, c.format-2.ensures.text, digits) at c.send_parts.ensures)
