-- The lines of ticks and of a stop.
use Rattle.std.proofs.Common.{◌≡◌, ℕ, zero, suc, ◌+◌, ◌/◌, ◌%◌, ◌<◌, ◌≤◌, ◌^◌, Bool, cond, List, [], ◌∷◌, ◌++◌, length, replicate, refl, ap, ◌∙◌, arith, append_assoc}
use Rattle.std.specs.Prelude.{codes, decimal, flat_map}
use Rattle.std.specs.Char.{is_ascii_digit}
use Rattle.std.proofs.lemmas.Bool.{le-ltb}
use Rattle.std.proofs.lemmas.Fmt.{decimal_nonempty, length-decimal-le}
use Rattle.cmd_print.proofs.Numbers.{are_digits-decimal, number_within-decimal}
use Rattle.history_model.specs.declared.limits.TheConstants.{MAX_SCRIPT_LINE_BYTES, MAX_TICKS_PER_LINE}
use Rattle.history_model.specs.scripts.Line.{ScriptLine, Rejected, Ticks, meaning, short_meaning, ticks_line}
use Rattle.history_model.specs.scripts.Line as line
use Rattle.history_model.specs.text.History.{tick_line, tick_lines}
use Rattle.history_replay.proofs.Digits.{none_among, not_last}
use Rattle.history_replay.proofs.Says.{IsLine, Says, Says-append, Says-line, Says-none}
use Rattle.history_replay.proofs.Tagged.{HasBareEnd, HasBareEnd-append}

-- the words of ticks
abbrev pub tick_text : ℕ → List ℕ
tick_text count = codes "T " ++ decimal count

module _ (count : ℕ) (low : 1 ≤ count) (high : count ≤ MAX_TICKS_PER_LINE) where
  fits : count < 2 ^ 64
  fits = omega (arith, high)

  digits_end : HasBareEnd (decimal count)
  digits_end =
      let some = decimal_nonempty count fits in
      record { some = some; bare = not_last is_ascii_digit 13 (decimal count) refl (are_digits-decimal count fits) some }

  pub tick_is_line : IsLine (tick_text count)
  tick_is_line = record {
    one = none_among is_ascii_digit 10 (decimal count) refl (are_digits-decimal count fits);
    bare = rw (HasBareEnd-append (codes "T ") (decimal count) digits_end).bare refl;
  }

  tick_meaning : meaning (tick_text count) ≡ Ticks count
  tick_meaning =
      let few = length-decimal-le 6 count (omega arith) (omega (arith, high)) fits in
      ap (λ (b : Bool). cond b Rejected (short_meaning (tick_text count)))
      (le-ltb MAX_SCRIPT_LINE_BYTES (length (tick_text count)) (omega (arith, few)))
      ∙ ap ticks_line (number_within-decimal 1 MAX_TICKS_PER_LINE count low high fits)

  Says-tick : Says (tick_line count) (Ticks count ∷ [])
  Says-tick = rw (← append_assoc (codes "T ") (decimal count) (10 ∷ [])) (Says-line (tick_text count) (Ticks count) tick_is_line tick_meaning)

-- what the lines of ticks in a row say
unfoldable pub tick_says : ℕ → List ScriptLine
tick_says zero = []
tick_says (suc before) = replicate (before / MAX_TICKS_PER_LINE) (Ticks MAX_TICKS_PER_LINE) ++ Ticks (before % MAX_TICKS_PER_LINE + 1) ∷ []

full_lines : (times : ℕ) → Says (flat_map tick_line (replicate times MAX_TICKS_PER_LINE)) (replicate times (Ticks MAX_TICKS_PER_LINE))
full_lines zero = Says-none
full_lines (suc times) =
    Says-append (tick_line MAX_TICKS_PER_LINE) (flat_map tick_line (replicate times MAX_TICKS_PER_LINE)) (Ticks MAX_TICKS_PER_LINE ∷ [])
    (replicate times (Ticks MAX_TICKS_PER_LINE)) (Says-tick MAX_TICKS_PER_LINE (omega arith) (omega arith)) (full_lines times)

pub Says-ticks : (count : ℕ) → Says (tick_lines count) (tick_says count)
unfolding tick_lines tick_says
Says-ticks zero = Says-none
Says-ticks (suc before) =
    Says-append (flat_map tick_line (replicate (before / MAX_TICKS_PER_LINE) MAX_TICKS_PER_LINE)) (tick_line (before % MAX_TICKS_PER_LINE + 1))
    (replicate (before / MAX_TICKS_PER_LINE) (Ticks MAX_TICKS_PER_LINE)) (Ticks (before % MAX_TICKS_PER_LINE + 1) ∷ [])
    (full_lines (before / MAX_TICKS_PER_LINE)) (Says-tick (before % MAX_TICKS_PER_LINE + 1) (omega arith) (omega arith))

-- the server's own stop
pub Says-stop : Says (codes "X\n") (line.Stop ∷ [])
Says-stop = Says-line (codes "X") line.Stop (record { one = refl; bare = refl }) refl
