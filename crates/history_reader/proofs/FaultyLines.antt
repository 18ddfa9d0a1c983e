-- The first faulty line of lines that grow.
use Rattle.std.proofs.Common.{◌≡◌, ℕ, ◌+◌, Bool, true, false, cond, List, [], ◌∷◌, ◌++◌, length, refl, sym, ap, ◌∙◌, append-nil, append_assoc}
use Rattle.std.specs.Prelude.{Option, Some, None}
use Rattle.std.proofs.lemmas.Option.{none-some}
use Rattle.history_model.specs.scripts.History.{Playout, PlayedLine}
use Rattle.history_reader.specs.HistoryText.{fault_after, is_history_line}

-- if no line is faulty, neither is the first
first_right : (b : Bool) (n : ℕ) (later : Option ℕ) → cond b later (Some n) ≡ None → (b ≡ true) × (later ≡ None)
first_right true n later right = (refl, right)
first_right false n later right = absurd (none-some n (sym right))

-- the fault of one line more, after lines without one
abbrev pub fault_at : Playout → List PlayedLine → PlayedLine → Option ℕ
fault_at playout before line = cond (is_history_line playout before line) None (Some (length before + 1))

fault_after-snoc : (playout : Playout) (before lines : List PlayedLine) (line : PlayedLine) → fault_after playout before lines ≡ None
    → fault_after playout before (lines ++ line ∷ []) ≡ fault_at playout (before ++ lines) line
unfolding fault_after
fault_after-snoc playout before [] line right = ap (λ ls. fault_at playout ls line) (sym (append-nil before))
fault_after-snoc playout before (first ∷ lines) line right =
    let later = fault_after playout (before ++ first ∷ []) lines in
    let parts = first_right (is_history_line playout before first) (length before + 1) later right in
    ap (λ (b : Bool). cond b (fault_after playout (before ++ first ∷ []) (lines ++ line ∷ [])) (Some (length before + 1))) parts.0
    ∙ fault_after-snoc playout (before ++ first ∷ []) lines line parts.1
    ∙ ap (λ ls. fault_at playout ls line) (append_assoc before (first ∷ []) lines)

pub fault-snoc : (playout : Playout) (lines : List PlayedLine) (line : PlayedLine) → fault_after playout [] lines ≡ None
    → fault_after playout [] (lines ++ line ∷ []) ≡ fault_at playout lines line
fault-snoc playout lines line right = fault_after-snoc playout [] lines line right

-- a fault stays when lines follow
pub fault_after-more : (playout : Playout) (before lines more : List PlayedLine) (n : ℕ) → fault_after playout before lines ≡ Some n
    → fault_after playout before (lines ++ more) ≡ Some n
unfolding fault_after
fault_after-more playout before [] more n fault = absurd (none-some n fault)
fault_after-more playout before (line ∷ lines) more n fault =
    by (is_history_line playout before line) (fault_after-more playout (before ++ line ∷ []) lines more n) fault
  where
    by : (b : Bool) → (fault_after playout (before ++ line ∷ []) lines ≡ Some n → fault_after playout (before ++ line ∷ []) (lines ++ more) ≡ Some n)
        → cond b (fault_after playout (before ++ line ∷ []) lines) (Some (length before + 1)) ≡ Some n
        → cond b (fault_after playout (before ++ line ∷ []) (lines ++ more)) (Some (length before + 1)) ≡ Some n
    by true later is = later is
    by false later is = is
