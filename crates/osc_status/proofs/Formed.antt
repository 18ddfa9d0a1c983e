-- Bytes in the form in which they are written, part by part.
use Rattle.std.proofs.Common.{◌≡◌, ℕ, ◌/◌, ◌%◌, List, [], ◌∷◌, ◌++◌, slice_index, flat_map, refl, ap, inl, inr}
use Rattle.std.specs.Borrow.{Bor}
use Rattle.std.proofs.lemmas.Bool.{cases_Bool}
use Rattle.hex.specs.Hex.{encode_with, encode_lower, lower_digits}
use Rattle.osc_status.specs.declared.form.Form.{Form}
use Rattle.osc_status.specs.declared.form.Form.TheVariants.{Raw, Hex}
use Rattle.osc_status.specs.Texts.{is_zero, without_zeros}
use Rattle.osc_status.specs.inner.Form.{formed}

encode_with-append : (digits one other : List ℕ) → encode_with digits (one ++ other) ≡ encode_with digits one ++ encode_with digits other
unfolding encode_with
encode_with-append digits [] other = refl
encode_with-append digits (b ∷ one) other =
    ap (λ (text : List ℕ). slice_index digits (b / 16) ∷ slice_index digits (b % 16) ∷ text) (encode_with-append digits one other)

-- the digits of two parts, one after the other
pub encode_lower-append : (one other : List ℕ) → encode_lower (one ++ other) ≡ encode_lower one ++ encode_lower other
encode_lower-append one other = encode_with-append lower_digits one other

-- two parts in either form, one after the other
pub formed-append : (form : Form) (one other : List ℕ) → formed form (one ++ other) ≡ formed form one ++ formed form other
formed-append Raw one other = refl
formed-append Hex one other = encode_lower-append one other

pub formed-nil : (form : Form) → formed form [] ≡ []
unfolding encode_with
formed-nil Raw = refl
formed-nil Hex = refl

-- the bytes that are not zero, one after another
pub formed-kept : (form : Form) (bytes : List ℕ) → flat_map (λ byte. formed form (without_zeros (byte ∷ []))) bytes ≡ formed form (without_zeros bytes)
formed-kept form [] = rw (formed-nil form) refl
formed-kept form (b ∷ bytes) = elim (cases_Bool (is_zero b)) [
  | inl zero ↦ rw zero (rw (formed-nil form) (formed-kept form bytes))
  | inr other ↦
      rw (other, formed-kept form bytes) (rw (← formed-append form (b ∷ []) (without_zeros bytes)) refl)
]

-- parts of a text, one after another
pub formed-parts : (form : Form) (parts : List (Bor (List ℕ))) →
    flat_map (λ part. formed form (without_zeros part.now)) parts ≡ formed form (flat_map (λ part. without_zeros part.now) parts)
formed-parts form [] = rw (formed-nil form) refl
formed-parts form (part ∷ parts) =
    rw (formed-parts form parts) (rw (← formed-append form (without_zeros part.now) (flat_map (λ (part : Bor (List ℕ)). without_zeros part.now) parts)) refl)
