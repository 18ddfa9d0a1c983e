-- The lines that `gen` makes are lines of a script: they are short, have no control character, and each is a tick or a connection's.
use Rattle.std.proofs.Common.{◌≡◌, ℕ, zero, suc, ◌+◌, ◌/◌, ◌%◌, ◌<◌, ◌≤◌, ◌^◌, ◌==◌, Bool, true, false, cond, List, [], ◌∷◌, ◌++◌, length, map, refl, sym, ap, ◌∙◌, subst, arith, length-append}
use Rattle.std.specs.Prelude.{All, Some, nat_le, codes, decimal, slice_index, option_and_then, option_map, if◌then◌else◌}
use Rattle.std.specs.Fmt.{digits}
use Rattle.std.specs.List.{list_all, list_any}
use Rattle.std.proofs.lemmas.Bool.{and_from, and_parts, le-ltb, or_from}
use Rattle.std.proofs.lemmas.Bool.Decides.{nat_tests}
use Rattle.std.proofs.lemmas.Fmt.{decimal_digit}
use Rattle.std.proofs.lemmas.List.Elements.{All-append, All-cons, All-nil}
use Rattle.std.proofs.lemmas.List.Folds.{list_all-append}
use Rattle.std.proofs.lemmas.List.Sums.{AllPass-from_list_all}
use Rattle.hex.specs.Hex.{encode_upper, encode_with, upper_digits}
use Rattle.amcp_text.specs.Lines.{is_line_end}
use Rattle.play_types.specs.declared.event.Tag.{Tag}
use Rattle.history_model.specs.declared.limits.TheConstants.{MAX_SCRIPT_LINE_BYTES}
use Rattle.history_model.specs.scripts.Line.{Rejected, Said, Ticks, addressed_parts, meaning, said_line, short_meaning}
use Rattle.history_model.specs.text.Parts.{parts_at}
use Rattle.history_model.specs.scripts.Memory.{AreLines}
use Rattle.history_model.specs.scripts.Generator.{Made, Step, draw, generated_lines, made_commit, made_fill, made_for, made_in, made_load, made_opacity, made_play, made_query, made_swap, next_state, number_of, on_place, said_by, step_drawn, step_lines}
use Rattle.history_model.proofs.Cut.{parts_at_first}
use Rattle.history_model.proofs.OneLines.{AreWithoutLineEnds, said_lines}

-- a number that is drawn is below its limit
below_limit : (limit state : ℕ) → 0 < limit → number_of limit state < limit
unfolding number_of
below_limit limit state some = omega (arith, some)

-- a character that is no control character
abbrev pub is_printable : ℕ → Bool
is_printable c = nat_le 32 c

-- a text of such characters, at most `most` of them
pub record IsPiece (text : List ℕ) (most : ℕ) : Type 0 where
  pub printable : list_all is_printable text ≡ true
  pub short : length text ≤ most

infixl 5 ◌and_then◌
◌and_then◌ : {a b : List ℕ} {m n : ℕ} → IsPiece a m → IsPiece b n → IsPiece (a ++ b) (m + n)
◌and_then◌ {a} {b} one other = record {
  printable = list_all-append is_printable a b ∙ and_from (list_all is_printable a) (list_all is_printable b) one.printable other.printable;
  short = let few = one.short in let few' = other.short in omega (arith, few, few', length-append a b);
}

widened : {text : List ℕ} {m n : ℕ} → IsPiece text m → m ≤ n → IsPiece text n
widened piece few = record { printable = piece.printable; short = let short = piece.short in omega (arith, short, few) }

literal : (text : List ℕ) → list_all is_printable text ≡ true → IsPiece text (length text)
literal text all = record { printable = all; short = omega arith }

piece_digit : (n : ℕ) → n < 10 → IsPiece (decimal n) 1
piece_digit n low = subst (λ t. IsPiece t 1) (sym (decimal_digit n low)) (record {
  printable = and_from (is_printable (48 + n)) true (grind (arith, nat_tests)) refl;
  short = omega arith;
})

-- two digits of a byte
hex_digit : (i : ℕ) → i < 16 → is_printable (slice_index upper_digits i) ≡ true
hex_digit i low = AllPass-from_list_all is_printable upper_digits refl i 0 low

byte_piece : (byte : ℕ) → byte < 256 → IsPiece (slice_index upper_digits (byte / 16) ∷ slice_index upper_digits (byte % 16) ∷ []) 2
byte_piece byte low = record {
  printable =
      and_from (is_printable (slice_index upper_digits (byte / 16))) (list_all is_printable (slice_index upper_digits (byte % 16) ∷ []))
      (hex_digit (byte / 16) (omega (arith, low)))
      (and_from (is_printable (slice_index upper_digits (byte % 16))) true (hex_digit (byte % 16) (omega arith)) refl);
  short = omega arith;
}

colour_piece : (alpha red green blue : ℕ) → alpha < 256 → red < 256 → green < 256 → blue < 256 →
    IsPiece (encode_upper (alpha ∷ red ∷ green ∷ blue ∷ [])) 8
unfolding encode_with
colour_piece alpha red green blue a r g b = byte_piece alpha a and_then (byte_piece red r and_then (byte_piece green g and_then byte_piece blue b))

-- the numbers of a step have one digit
record IsDrawn (step : Step) : Type 0 where
  kind : step.kind < 8
  channel : step.channel < 10
  layer : step.layer < 10
  some_worker : 1 ≤ step.worker
  worker : step.worker < 4

step-drawn : (state : ℕ) → IsDrawn (step_drawn state)
step-drawn state =
    let first = next_state state in
    let second = next_state first in
    let third = next_state second in
    record {
      kind = below_limit 8 first (omega arith);
      channel = let low = below_limit 2 second (omega arith) in omega (arith, low);
      layer = let low = below_limit 4 third (omega arith) in omega (arith, low);
      some_worker = omega arith;
      worker = let low = below_limit 3 (next_state third) (omega arith) in omega (arith, low);
    }

-- the text of a number that is drawn for a step is a digit
digit_drawn : (limit state : ℕ) → 0 < limit → limit ≤ 10 → IsPiece (decimal (number_of limit state)) 1
digit_drawn limit state some low =
    piece_digit (number_of limit state) (let below = below_limit limit state some in omega (arith, below, low))

module _ (step : Step) (drawn : IsDrawn step) where
  channel_piece : IsPiece (decimal step.channel) 1
  channel_piece = piece_digit step.channel drawn.channel

  place_piece : {text : List ℕ} {most : ℕ} → IsPiece text most → IsPiece (on_place step text) (3 + most)
  place_piece piece = channel_piece and_then literal (codes "-") refl and_then piece_digit step.layer drawn.layer and_then piece

  -- a line of the step's connection
  record Speaks (made : Made) : Type 0 where
    text : List ℕ
    says : made.text ≡ said_by step text
    piece : IsPiece text 60

  speaks : {text : List ℕ} {most : ℕ} (state : ℕ) → IsPiece text most → most ≤ 60 → Speaks (record { text = said_by step text; state = state })
  speaks {text} state piece few = record { text = text; says = refl; piece = widened piece few }

  play_speaks : Speaks (made_play step)
  play_speaks =
      let one = next_state step.state in
      let two = next_state one in
      let three = next_state two in
      let four = next_state three in
      let colour = colour_piece _ _ _ _ (below_limit 256 one (omega arith)) (below_limit 256 two (omega arith)) (below_limit 256 three (omega arith))
      (below_limit 256 four (omega arith)) in
      speaks (made_play step).state
      (literal (codes "PLAY ") refl and_then place_piece (literal (codes " #") refl and_then colour and_then literal (codes " MIX ") refl
      and_then digit_drawn 6 (next_state four) (omega arith) (omega arith)))
      (omega arith)

  opacity_speaks : Speaks (made_opacity step)
  opacity_speaks =
      speaks (made_opacity step).state
      (literal (codes "MIXER ") refl and_then place_piece (literal (codes " OPACITY 0.") refl
      and_then digit_drawn 10 (next_state step.state) (omega arith) (omega arith)
      and_then literal (codes " ") refl and_then digit_drawn 10 (next_state (next_state step.state)) (omega arith) (omega arith)))
      (omega arith)

  fill_speaks : Speaks (made_fill step)
  fill_speaks =
      speaks (made_fill step).state
      (literal (codes "MIXER ") refl and_then place_piece (literal (codes " FILL 0.") refl
      and_then digit_drawn 10 (next_state step.state) (omega arith) (omega arith)
      and_then literal (codes " 0 0.") refl
      and_then digit_drawn 10 (next_state (next_state step.state)) (omega arith) (omega arith) and_then literal (codes " 1 DEFER") refl))
      (omega arith)

  commit_speaks : Speaks (made_commit step)
  commit_speaks = speaks step.state (literal (codes "MIXER ") refl and_then channel_piece and_then literal (codes " COMMIT") refl) (omega arith)

  swap_speaks : Speaks (made_swap step)
  swap_speaks =
      speaks (made_swap step).state
      (literal (codes "SWAP ") refl and_then place_piece (literal (codes " ") refl and_then channel_piece and_then literal (codes "-") refl
      and_then digit_drawn 4 (next_state step.state) (omega arith) (omega arith) and_then literal (codes " TRANSFORMS") refl))
      (omega arith)

  load_speaks : Speaks (made_load step)
  load_speaks =
      let first = next_state step.state in
      speaks (made_load step).state
      (literal (codes "LOADBG ") refl and_then place_piece (literal (codes " route://") refl
      and_then piece_digit (1 + number_of 2 first) (let low = below_limit 2 first (omega arith) in omega (arith, low))
      and_then literal (codes " WIPE ") refl
      and_then digit_drawn 6 (next_state first) (omega arith) (omega arith) and_then literal (codes " LEFT AUTO") refl))
      (omega arith)

  query_speaks : Speaks (made_query step)
  query_speaks = speaks step.state (literal (codes "MIXER ") refl and_then place_piece (literal (codes " OPACITY") refl)) (omega arith)

-- the line is that of the connection, whose worker is 1 to 3
addressed : (digit : ℕ) (text : List ℕ) → (digit == 46) ≡ false
    → addressed_parts (digit ∷ 46 ∷ 49 ∷ 32 ∷ text) ≡ Some (digit ∷ [], (49 ∷ [], text))
addressed digit text other =
    ap (option_and_then (λ (p : List ℕ × List ℕ). option_map (λ (q : List ℕ × List ℕ). (p.0, q)) (parts_at 32 p.1)))
    (parts_at_first 46 (digit ∷ []) (49 ∷ 32 ∷ text) refl (or_from (digit == 46) false other refl))
    ∙ ap (option_map (λ (q : List ℕ × List ℕ). (digit ∷ [], q))) (parts_at_first 32 (49 ∷ []) text refl refl)

short_said : (worker : ℕ) (text : List ℕ) → 1 ≤ worker → worker < 4 →
    short_meaning (decimal worker ++ codes ".1 " ++ text) ≡ Said (record { worker = worker; session = 1 }) text
unfolding digits
short_said zero text some few = absurd (omega (arith, some))
short_said (suc zero) text some few = ap said_line (addressed 49 text refl)
short_said (suc (suc zero)) text some few = ap said_line (addressed 50 text refl)
short_said (suc (suc (suc zero))) text some few = ap said_line (addressed 51 text refl)
short_said (suc (suc (suc (suc n)))) text some few = absurd (omega (arith, few))

-- a line that a script may have
pub record IsMadeLine (line : List ℕ) : Type 0 where
  pub accepted : meaning line ≡ Rejected → ⊥
  pub printable : list_all is_printable line ≡ true
  pub short : length line ≤ 64

meaning_short : (line : List ℕ) → length line ≤ 64 → meaning line ≡ short_meaning line
meaning_short line short =
    ap (λ (b : Bool). cond b Rejected (short_meaning line)) (le-ltb MAX_SCRIPT_LINE_BYTES (length line) (omega (arith, short)))

said_differs : (tag : Tag) (text : List ℕ) → Said tag text ≡ Rejected → ⊥
said_differs tag text e = cc

speaks_line : (step : Step) (drawn : IsDrawn step) (made : Made) → Speaks step drawn made → IsMadeLine made.text
speaks_line step drawn made h =
    let worker = piece_digit step.worker (let few = drawn.worker in omega (arith, few)) in
    let whole : IsPiece (said_by step h.text) 64 = widened (worker and_then literal (codes ".1 ") refl and_then h.piece) (omega arith) in
    subst IsMadeLine (sym h.says) (record {
      accepted = λ e. said_differs (record { worker = step.worker; session = 1 }) h.text
          (sym (short_said step.worker h.text drawn.some_worker drawn.worker) ∙ sym (meaning_short (said_by step h.text) whole.short) ∙ e);
      printable = whole.printable;
      short = whole.short;
    })

tick_differs : Ticks 1 ≡ Rejected → ⊥
tick_differs e = cc

pub tick_line : IsMadeLine (codes "T")
tick_line = record { accepted = tick_differs; printable = refl; short = omega arith }

pub made_line : (state : ℕ) → IsMadeLine (made_in state).text
unfolding made_in
made_line state =
    by_kind (step.kind == 0) (step.kind == 1) (step.kind == 2) (step.kind == 3) (step.kind == 4) (step.kind == 5) (step.kind == 6)
  where
    step : Step
    step = step_drawn state

    drawn : IsDrawn step
    drawn = step-drawn state

    by_kind : (b0 b1 b2 b3 b4 b5 b6 : Bool) → IsMadeLine (
        if b0 then record { text = codes "T"; state = step.state }
        else if b1 then made_play step
        else if b2 then made_opacity step
        else if b3 then made_fill step
        else if b4 then made_commit step
        else if b5 then made_swap step
        else if b6 then made_load step
        else made_query step
        ).text
    by_kind true b1 b2 b3 b4 b5 b6 = tick_line
    by_kind false true b2 b3 b4 b5 b6 = speaks_line step drawn (made_play step) (play_speaks step drawn)
    by_kind false false true b3 b4 b5 b6 = speaks_line step drawn (made_opacity step) (opacity_speaks step drawn)
    by_kind false false false true b4 b5 b6 = speaks_line step drawn (made_fill step) (fill_speaks step drawn)
    by_kind false false false false true b5 b6 = speaks_line step drawn (made_commit step) (commit_speaks step drawn)
    by_kind false false false false false true b6 = speaks_line step drawn (made_swap step) (swap_speaks step drawn)
    by_kind false false false false false false true = speaks_line step drawn (made_load step) (load_speaks step drawn)
    by_kind false false false false false false false = speaks_line step drawn (made_query step) (query_speaks step drawn)

-- a line of such characters has no line end
printable_other : (text : List ℕ) → list_all is_printable text ≡ true → list_any is_line_end text ≡ false
printable_other [] all = refl
printable_other (c ∷ text) all =
    let parts = and_parts (is_printable c) (list_all is_printable text) all in
    or_from (c == 10) (list_any is_line_end text) (other parts.0) (printable_other text parts.1)
  where
    other : nat_le 32 c ≡ true → (c == 10) ≡ false
    other high = grind (arith, nat_tests, high)

pub no_end : (line : List ℕ) → IsMadeLine line → list_any is_line_end line ≡ false
no_end line made = printable_other line made.printable

-- the lines of a script
step_lines-without : (steps state : ℕ) → AreWithoutLineEnds (step_lines steps state ++ codes "T" ∷ [])
unfolding step_lines
step_lines-without zero state = (refl, tt)
step_lines-without (suc steps) state = (no_end (made_in state).text (made_line state), step_lines-without steps (made_in state).state)

pub generated-lines : (seed steps : ℕ) → AreLines (map meaning (generated_lines seed steps))
unfolding generated_lines
generated-lines seed steps = said_lines (step_lines steps seed ++ codes "T" ∷ []) (step_lines-without steps seed)

-- one step more at the end
pub step_state : ℕ → ℕ → ℕ
step_state zero state = state
step_state (suc steps) state = step_state steps (made_in state).state

pub step_lines-snoc : (steps state : ℕ) → step_lines (suc steps) state ≡ step_lines steps state ++ (made_in (step_state steps state)).text ∷ []
unfolding step_lines step_state
step_lines-snoc zero state = refl
step_lines-snoc (suc steps) state = ap (λ l. (made_in state).text ∷ l) (step_lines-snoc steps (made_in state).state)

pub step_state-snoc : (steps state : ℕ) → step_state (suc steps) state ≡ (made_in (step_state steps state)).state
unfolding step_state
step_state-snoc zero state = refl
step_state-snoc (suc steps) state = step_state-snoc steps (made_in state).state

-- each line of the steps is a line that a script may have
step_lines-made : (steps state : ℕ) → All IsMadeLine (step_lines steps state)
unfolding step_lines
step_lines-made zero state = All-nil IsMadeLine
step_lines-made (suc steps) state = All-cons IsMadeLine (made_in state).text (step_lines steps (made_in state).state) (made_line state) (step_lines-made steps (made_in state).state)

pub generated-made : (seed steps : ℕ) → All IsMadeLine (generated_lines seed steps)
unfolding generated_lines
generated-made seed steps =
    All-append IsMadeLine (step_lines steps seed) (codes "T" ∷ []) (step_lines-made steps seed) (All-cons IsMadeLine (codes "T") [] tick_line (All-nil IsMadeLine))
