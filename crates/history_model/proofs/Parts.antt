-- Lines of a text that grows by one byte.
use Rattle.std.proofs.Common.{◌≡◌, ℕ, ◌<◌, Bool, true, false, cond, eqb, List, [], ◌∷◌, ◌++◌, length, refl, sym, ap, ◌∙◌, append-nil, append_assoc, arith}
use Rattle.std.proofs.lemmas.Bool.Decides.{nat_tests}
use Rattle.std.specs.List.{onto_first}
use Rattle.std.specs.Str.Lines.{strip_carriage_return, lines, lines_of_parts}
use Rattle.history_model.specs.scripts.Input.{parts, ended_parts, last_part, ended_lines, unended}

-- the byte at the end of the last part
onto_last : List (List ℕ) → ℕ → List (List ℕ)
onto_last [] byte = (byte ∷ []) ∷ []
onto_last (part ∷ []) byte = (part ++ byte ∷ []) ∷ []
onto_last (part ∷ next ∷ more) byte = part ∷ onto_last (next ∷ more) byte

onto_first-snoc : (c : ℕ) (ps : List (List ℕ)) (q : List ℕ) → 0 < length ps → onto_first c (ps ++ q ∷ []) ≡ onto_first c ps ++ q ∷ []
onto_first-snoc c [] q some = absurd (omega arith)
onto_first-snoc c (part ∷ more) q some = refl

onto_first-onto_last : (c : ℕ) (ps : List (List ℕ)) (byte : ℕ) → 0 < length ps → onto_first c (onto_last ps byte) ≡ onto_last (onto_first c ps) byte
unfolding onto_last
onto_first-onto_last c [] byte some = absurd (omega arith)
onto_first-onto_last c (part ∷ []) byte some = refl
onto_first-onto_last c (part ∷ next ∷ more) byte some = refl

some_onto_first : (c : ℕ) (ps : List (List ℕ)) → 0 < length (onto_first c ps)
some_onto_first c [] = omega arith
some_onto_first c (part ∷ more) = omega arith

some_by : (b : Bool) (c : ℕ) (ps : List (List ℕ)) → 0 < length (cond b ([] ∷ ps) (onto_first c ps))
some_by true c ps = omega arith
some_by false c ps = some_onto_first c ps

some_parts : (bytes : List ℕ) → 0 < length (parts bytes)
some_parts [] = omega arith
some_parts (c ∷ bytes) = some_by (eqb c 10) c (parts bytes)

feed_by : (b : Bool) (c : ℕ) (ps : List (List ℕ)) → 0 < length ps → cond b ([] ∷ (ps ++ [] ∷ [])) (onto_first c (ps ++ [] ∷ [])) ≡ cond b ([] ∷ ps) (onto_first c ps) ++ [] ∷ []
feed_by true c ps some = refl
feed_by false c ps some = onto_first-snoc c ps [] some

-- a line feed begins a new part
parts-feed : (bytes : List ℕ) → parts (bytes ++ 10 ∷ []) ≡ parts bytes ++ [] ∷ []
parts-feed [] = refl
parts-feed (c ∷ bytes) =
    ap (λ (ps : List (List ℕ)). cond (eqb c 10) ([] ∷ ps) (onto_first c ps)) (parts-feed bytes)
    ∙ feed_by (eqb c 10) c (parts bytes) (some_parts bytes)

onto_last-cons : (ps : List (List ℕ)) (byte : ℕ) → 0 < length ps → onto_last ([] ∷ ps) byte ≡ [] ∷ onto_last ps byte
unfolding onto_last
onto_last-cons [] byte some = absurd (omega arith)
onto_last-cons (part ∷ more) byte some = refl

other_by : (b : Bool) (c : ℕ) (ps : List (List ℕ)) (byte : ℕ) → 0 < length ps → cond b ([] ∷ onto_last ps byte) (onto_first c (onto_last ps byte)) ≡ onto_last (cond b ([] ∷ ps) (onto_first c ps)) byte
other_by true c ps byte some = sym (onto_last-cons ps byte some)
other_by false c ps byte some = onto_first-onto_last c ps byte some

-- another byte goes to the last part
parts-other : (bytes : List ℕ) (byte : ℕ) → eqb byte 10 ≡ false → parts (bytes ++ byte ∷ []) ≡ onto_last (parts bytes) byte
unfolding onto_last
parts-other [] byte other = rw other refl
parts-other (c ∷ bytes) byte other =
    ap (λ (ps : List (List ℕ)). cond (eqb c 10) ([] ∷ ps) (onto_first c ps)) (parts-other bytes byte other)
    ∙ other_by (eqb c 10) c (parts bytes) byte (some_parts bytes)

ended_parts-snoc : (ps : List (List ℕ)) (q : List ℕ) → 0 < length ps → ended_parts (ps ++ q ∷ []) ≡ ended_parts ps ++ strip_carriage_return (last_part ps) ∷ []
ended_parts-snoc [] q some = absurd (omega arith)
ended_parts-snoc (part ∷ []) q some = refl
ended_parts-snoc (part ∷ next ∷ more) q some =
    ap (λ (ls : List (List ℕ)). strip_carriage_return part ∷ ls) (ended_parts-snoc (next ∷ more) q (omega arith))

last_part-snoc : (ps : List (List ℕ)) (q : List ℕ) → last_part (ps ++ q ∷ []) ≡ q
last_part-snoc [] q = refl
last_part-snoc (part ∷ []) q = refl
last_part-snoc (part ∷ next ∷ more) q = last_part-snoc (next ∷ more) q

ended_parts-onto_last : (ps : List (List ℕ)) (byte : ℕ) → ended_parts (onto_last ps byte) ≡ ended_parts ps
unfolding onto_last
ended_parts-onto_last [] byte = refl
ended_parts-onto_last (part ∷ []) byte = refl
ended_parts-onto_last (part ∷ next ∷ []) byte = refl
ended_parts-onto_last (part ∷ next ∷ third ∷ more) byte =
    ap (λ (ls : List (List ℕ)). strip_carriage_return part ∷ ls) (ended_parts-onto_last (next ∷ third ∷ more) byte)

last_part-onto_last : (ps : List (List ℕ)) (byte : ℕ) → last_part (onto_last ps byte) ≡ last_part ps ++ byte ∷ []
unfolding onto_last
last_part-onto_last [] byte = refl
last_part-onto_last (part ∷ []) byte = refl
last_part-onto_last (part ∷ next ∷ []) byte = refl
last_part-onto_last (part ∷ next ∷ third ∷ more) byte = last_part-onto_last (next ∷ third ∷ more) byte

-- after a line feed there is one line more
pub ended_lines-feed : (bytes : List ℕ) → ended_lines (bytes ++ 10 ∷ []) ≡ ended_lines bytes ++ strip_carriage_return (unended bytes) ∷ []
unfolding ended_lines unended
ended_lines-feed bytes = ap ended_parts (parts-feed bytes) ∙ ended_parts-snoc (parts bytes) [] (some_parts bytes)

-- after a line feed nothing is unended
pub unended-feed : (bytes : List ℕ) → unended (bytes ++ 10 ∷ []) ≡ []
unfolding unended
unended-feed bytes = ap last_part (parts-feed bytes) ∙ last_part-snoc (parts bytes) []

-- another byte ends no line
pub ended_lines-other : (bytes : List ℕ) (byte : ℕ) → eqb byte 10 ≡ false → ended_lines (bytes ++ byte ∷ []) ≡ ended_lines bytes
unfolding ended_lines
ended_lines-other bytes byte other = ap ended_parts (parts-other bytes byte other) ∙ ended_parts-onto_last (parts bytes) byte

-- another byte is added to what follows the last line feed
pub unended-other : (bytes : List ℕ) (byte : ℕ) → eqb byte 10 ≡ false → unended (bytes ++ byte ∷ []) ≡ unended bytes ++ byte ∷ []
unfolding unended
unended-other bytes byte other = ap last_part (parts-other bytes byte other) ∙ last_part-onto_last (parts bytes) byte

-- the unended part is a line at the end of the input, if it is not empty
unfoldable pub last_line : List ℕ → List (List ℕ)
last_line text = cond (eqb (length text) 0) [] (text ∷ [])

lines_of_parts-ended : (ps : List (List ℕ)) → lines_of_parts ps ≡ ended_parts ps ++ last_line (last_part ps)
unfolding last_line
lines_of_parts-ended [] = refl
lines_of_parts-ended (part ∷ []) = refl
lines_of_parts-ended (part ∷ next ∷ more) =
    ap (λ (ls : List (List ℕ)). strip_carriage_return part ∷ ls) (lines_of_parts-ended (next ∷ more))

-- the lines of an input that has ended
pub lines-ended : (bytes : List ℕ) → lines bytes ≡ ended_lines bytes ++ last_line (unended bytes)
unfolding ended_lines unended
lines-ended bytes = lines_of_parts-ended (parts bytes)

ended_lines-more_by : (bytes : List ℕ) (c : ℕ) (b : Bool) → eqb c 10 ≡ b → (more : List (List ℕ)) × (ended_lines (bytes ++ c ∷ []) ≡ ended_lines bytes ++ more)
ended_lines-more_by bytes c true is =
    (strip_carriage_return (unended bytes) ∷ [], ap (λ (k : ℕ). ended_lines (bytes ++ k ∷ [])) (is_ten c is) ∙ ended_lines-feed bytes)
  where
    is_ten : (c : ℕ) → eqb c 10 ≡ true → c ≡ 10
    is_ten c is = grind (arith, nat_tests)
ended_lines-more_by bytes c false is = ([], ended_lines-other bytes c is ∙ sym (append-nil (ended_lines bytes)))

-- the lines of more bytes begin with the lines that have ended
pub ended_lines-more : (bytes rest : List ℕ) → (more : List (List ℕ)) × (ended_lines (bytes ++ rest) ≡ ended_lines bytes ++ more)
ended_lines-more bytes [] = ([], ap ended_lines (append-nil bytes) ∙ sym (append-nil (ended_lines bytes)))
ended_lines-more bytes (c ∷ rest) =
    let next = ended_lines-more (bytes ++ c ∷ []) rest in
    let one = ended_lines-more_by bytes c (eqb c 10) refl in (
      one.0 ++ next.0,
      ap ended_lines (sym (append_assoc bytes (c ∷ []) rest)) ∙ next.1 ∙ ap (λ (ls : List (List ℕ)). ls ++ next.0) one.1
          ∙ append_assoc (ended_lines bytes) one.0 next.0,
    )
