-- A stream that a reader takes in pieces. However it is cut, the lines that the reader returned are its first lines.
use Rattle.std.proofs.Common.{◌≡◌, ℕ, List, [], ◌∷◌, ◌++◌, refl, sym, ap, ◌∙◌, append_assoc, append-nil}
use Rattle.std.specs.Prelude.{Some}
use Rattle.amcp_text.specs.Lines.{Line, lines_of}
use Rattle.amcp_text.specs.Reader.{HasTold, IsLineOf, line_view}
use Rattle.amcp_text.specs.declared.line_reader.LineEvent.{LineEvent}

-- at first nothing was taken or returned
pub told_nothing : HasTold [] [] []
told_nothing = record { first = λ rest. refl }

-- more of the stream was taken
pub told_more : (piece : List ℕ) {taken bytes : List ℕ} {lines : List Line} → HasTold taken lines bytes → HasTold (taken ++ piece) lines (bytes ++ piece)
told_more piece {taken} {bytes} {lines} told = record {
  first = λ rest.
      ap lines_of (append_assoc taken piece rest) ∙ told.first (piece ++ rest)
      ∙ ap (λ (bs : List ℕ). lines ++ lines_of bs) (sym (append_assoc bytes piece rest));
}

-- a line was returned and dropped
pub told_line : (event : LineEvent) {taken bytes : List ℕ} {lines : List Line} → HasTold taken lines bytes → IsLineOf (Some event) bytes
    → HasTold taken (lines ++ line_view event ∷ []) []
told_line event {lines = lines} told tells = record {
  first = λ rest.
      told.first rest ∙ ap (λ (ls : List Line). lines ++ ls) (tells rest) ∙ sym (append_assoc lines (line_view event ∷ []) (lines_of rest));
}

-- if no line is held, all lines of the bytes that were taken were returned
pub told_all : {taken bytes : List ℕ} {lines : List Line} → HasTold taken lines bytes → lines_of bytes ≡ [] → lines_of taken ≡ lines
told_all {taken} {bytes} {lines} told none =
    ap lines_of (sym (append-nil taken)) ∙ told.first []
    ∙ ap (λ (bs : List ℕ). lines ++ lines_of bs) (append-nil bytes) ∙ ap (λ (ls : List Line). lines ++ ls) none ∙ append-nil lines
