-- A text that is cut in two.
use Rattle.std.proofs.Common.{◌≡◌, ℕ, ◌+◌, ◌<◌, ◌==◌, true, false, List, ◌∷◌, ◌++◌, length, refl, arith, length-append}
use Rattle.std.specs.Prelude.{Some}
use Rattle.std.specs.List.{list_any}
use Rattle.std.proofs.lemmas.Bool.{lt-ltb}
use Rattle.std.proofs.lemmas.List.{take_at, drop_at, drop-drop}
use Rattle.amcp_text.proofs.FirstEnd.{position_or_len_at}
use Rattle.history_model.specs.text.Parts.{parts_at}

-- a text in two parts at the first such byte
pub parts_at_first : (byte : ℕ) (first last : List ℕ) → (byte == byte) ≡ true → list_any (λ c. c == byte) first ≡ false
    → parts_at byte (first ++ byte ∷ last) ≡ Some (first, last)
parts_at_first byte first last same none =
    let long : length first < length (first ++ byte ∷ last) = omega (arith, length-append first (byte ∷ last)) in
    rw (
      position_or_len_at (λ c. c == byte) first byte last none same,
      lt-ltb (length first) (length (first ++ byte ∷ last)) long,
      take_at first (byte ∷ last) (length first) refl,
      ← drop-drop 1 (length first) (first ++ byte ∷ last),
      drop_at first (byte ∷ last) (length first) refl,
    ) refl
