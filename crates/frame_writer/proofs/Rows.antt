-- Rows of a frame as lines, one after another.
use Rattle.std.proofs.Common.{◌≡◌, ℕ, zero, suc, ◌+◌, ◌-◌, ◌*◌, ◌<◌, List, [], ◌∷◌, ◌++◌, take, drop, refl, sym, ap, ◌∙◌, append_assoc, append-nil, arith}
use Rattle.std.proofs.lemmas.List.{drop-drop}
use Rattle.hex.specs.Hex.{encode_lower}
use Rattle.history_model.specs.text.Frames.{row_lines}

-- no rows have no lines
pub row_lines-zero : (len : ℕ) (frame : List ℕ) → row_lines len 0 frame ≡ []
unfolding row_lines
row_lines-zero len frame = refl

-- the lines of the first rows, and those of the rows below them
row_lines-add : (len first more : ℕ) (frame : List ℕ)
    → row_lines len (first + more) frame ≡ row_lines len first frame ++ row_lines len more (drop (first * len) frame)
unfolding row_lines
row_lines-add len zero more frame =
    let none : zero + more ≡ more = omega arith in
    let start : zero * len ≡ 0 = omega arith in
    rw (none, start) refl
row_lines-add len (suc first) more frame =
    let count : suc first + more ≡ suc (first + more) = omega arith in
    let place : len + first * len ≡ suc first * len = omega arith in
    rw (count, row_lines-add len first more (drop len frame), drop-drop (first * len) len frame, place)
    (sym (append_assoc (encode_lower (take len frame) ++ 10 ∷ []) (row_lines len first (drop len frame)) (row_lines len more (drop (suc first * len) frame))))

-- the line of one row
abbrev pub row_line : ℕ → ℕ → List ℕ → List ℕ
row_line len row frame = encode_lower (take (row * len + len - row * len) (drop (row * len) frame)) ++ 10 ∷ []

row_lines-one : (len row : ℕ) (frame : List ℕ) → row_lines len 1 (drop (row * len) frame) ≡ row_line len row frame
unfolding row_lines
row_lines-one len row frame =
    let piece : row * len + len - row * len ≡ len = omega arith in
    rw piece (append-nil _)

-- the lines of the first rows, and of one row more
pub row_lines-more : (len row : ℕ) (frame : List ℕ) → row_lines len (row + 1) frame ≡ row_lines len row frame ++ row_line len row frame
row_lines-more len row frame = row_lines-add len row 1 frame ∙ ap (λ (lines : List ℕ). row_lines len row frame ++ lines) (row_lines-one len row frame)

-- the lines of the first rows, of one row more, and of the rest
pub row_lines-parts : (len row rows : ℕ) (frame : List ℕ) → row < rows
    → row_lines len rows frame
    ≡ (row_lines len row frame ++ row_line len row frame) ++ row_lines len (rows - (row + 1)) (drop ((row + 1) * len) frame)
row_lines-parts len row rows frame within =
    let count : rows ≡ (row + 1) + (rows - (row + 1)) = omega arith in
    rw (← row_lines-more len row frame) (ap (λ (n : ℕ). row_lines len n frame) count ∙ row_lines-add len (row + 1) (rows - (row + 1)) frame)
