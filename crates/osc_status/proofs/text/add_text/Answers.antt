use Rattle.std.proofs.Common.{◌≡◌, ◌++◌, ◌%◌, ◌-◌, ℕ, List, length, replicate, flat_map, ap, sym, ◌∙◌}
use Rattle.std.specs.Borrow.{Bor}
use Rattle.play_outside.proofs.Following.{added-then, added-left}
use Rattle.osc_status.specs.declared.form.Form.{Form}
use Rattle.osc_status.specs.Texts.{padded, without_zeros}
use Rattle.osc_status.specs.inner.Form.{formed}
use Rattle.osc_status.proofs.Formed.{formed-append, formed-parts}
use Rattle.osc_status.proofs.text.add_text.Goals as goal

-- the parts of a text without their zero bytes
abbrev kept : List (Bor (List ℕ)) → List ℕ
kept parts = flat_map (λ part. without_zeros part.now) parts

abbrev zeros : List (Bor (List ℕ)) → List ℕ
zeros parts = replicate (4 - length (kept parts) % 4) 0

-- the parts, and then the padding
text-parts : (form : Form) (parts : List (Bor (List ℕ))) → formed form (padded (kept parts))
    ≡ flat_map (λ part. formed form (without_zeros part.now)) parts ++ formed form (zeros parts)
text-parts form parts =
    formed-append form (kept parts) (zeros parts) ∙ ap (λ (text : List ℕ). text ++ formed form (zeros parts)) (sym (formed-parts form parts))

pub returns-in_err-add_parts : goal.returns-in_err-add_parts
returns-in_err-add_parts g c =
    rw (text-parts c.args.form c.args.parts.now)
    (added-left _ _ c.args.pieces.now (flat_map (λ part. formed c.args.form (without_zeros part.now)) c.args.parts.now) (formed c.args.form (zeros c.args.parts.now)) _ _ _ c.add_parts.ensures c.in_err-add_parts.ensures c.from_residual.ensures)

pub returns : goal.returns
returns g c =
    rw (text-parts c.args.form c.args.parts.now)
    (added-then _ c.args.pieces.now (flat_map (λ part. formed c.args.form (without_zeros part.now)) c.args.parts.now) (formed c.args.form (zeros c.args.parts.now)) _ _ _ _ _ (rw c.in_ok-add_parts.ensures at c.add_parts.ensures) (rw c.padding_after.ensures at c.add_zeros.ensures))
