-- How many ticks a line makes.
use Rattle.std.proofs.Common.{◌≡◌, ℕ, ◌+◌, ◌*◌, ◌≤◌, ◌==◌, ◌&&◌, Bool, true, false, List, [], ◌∷◌, length, replicate, zero, suc, refl, sym, ap, ◌∙◌, subst, arith}
use Rattle.std.specs.Prelude.{Err, Ok, OnOk, Option, Result, Some, None, nat_le, nat_lt, if◌then◌else◌}
use Rattle.std.specs.Option.{option_and_then}
use Rattle.std.specs.Str.Lines.{strip_carriage_return}
use Rattle.std.proofs.lemmas.Bool.Decides.{nat_tests}
use Rattle.std.proofs.lemmas.Grind.{common_steps}
use Rattle.amcp_text.specs.Numbers.{number_within, whole_number}
use Rattle.play_types.specs.History.{ticks}
use Rattle.play_types.specs.declared.event.Event.{Event}
use Rattle.play_types.specs.declared.event.Event.TheVariants.{Tick}
use Rattle.play_types.specs.declared.event.Tag.{Tag}
use Rattle.play_types.proofs.Histories.{ticks-append}
use Rattle.history_model.specs.declared.limits.TheConstants.{MAX_SCRIPT_LINE_BYTES, MAX_TICKS_PER_LINE}
use Rattle.history_model.specs.scripts.Line.{Comment, Rejected, Said, ScriptLine, Stop, addressed_parts, after_t, after_x, meaning, said_by, said_line, short_meaning, tag_of, ticks_line}
use Rattle.history_model.specs.scripts.Line as script
use Rattle.script_player.specs.declared.ending.Halt.{Halt}
use Rattle.script_player.specs.declared.player.Player.{Player}
use Rattle.script_player.specs.Player.{MakesEvents, events_in}
use Rattle.script_player.specs.Ticks.{ticks_per_byte}

-- a line of ticks is not empty, and makes 100,000 ticks at most
abbrev pub HasFewTicks : List ℕ → ScriptLine → Type 0
HasFewTicks line Comment = Unit {0}
HasFewTicks line (script.Ticks count) = (count ≤ MAX_TICKS_PER_LINE) × (1 ≤ length line)
HasFewTicks line (Said tag text) = Unit {0}
HasFewTicks line Stop = Unit {0}
HasFewTicks line Rejected = Unit {0}

few_within : (line : List ℕ) (number : Option ℕ) → 1 ≤ length line
    → HasFewTicks line (ticks_line (option_and_then (λ n. if nat_le 1 n && nat_le n MAX_TICKS_PER_LINE then Some n else None) number))
few_within line None some = tt
few_within line (Some n) some = by_test (nat_le 1 n && nat_le n MAX_TICKS_PER_LINE) refl
  where
    by_test : (b : Bool) → (nat_le 1 n && nat_le n MAX_TICKS_PER_LINE) ≡ b → HasFewTicks line (ticks_line (if b then Some n else None))
    by_test true is = (grind (arith, nat_tests), some)
    by_test false is = tt

few_after_t : (line more : List ℕ) → 1 ≤ length line → HasFewTicks line (after_t more)
few_after_t line [] some = (omega arith, some)
few_after_t line (c ∷ digits) some = by_blank (c == 32)
  where
    by_blank : (b : Bool) → HasFewTicks line (if b then ticks_line (number_within 1 MAX_TICKS_PER_LINE digits) else Rejected)
    by_blank true = few_within line (whole_number digits) some
    by_blank false = tt

few_after_x : (line more : List ℕ) → HasFewTicks line (after_x more)
few_after_x line [] = tt
few_after_x line (c ∷ more) = tt

few_said_by : (line text : List ℕ) (tag : Option Tag) → HasFewTicks line (said_by text tag)
few_said_by line text None = tt
few_said_by line text (Some tag) = tt

few_said : (line : List ℕ) (parts : Option (List ℕ × (List ℕ × List ℕ))) → HasFewTicks line (said_line parts)
few_said line None = tt
few_said line (Some parts) = few_said_by line parts.1.1 (tag_of parts.0 parts.1.0)

few_short : (line : List ℕ) → HasFewTicks line (short_meaning line)
few_short [] = tt
few_short (c ∷ more) = by_first (c == 35) (c == 84) (c == 88)
  where
    by_first : (comment ticks stop : Bool) → HasFewTicks (c ∷ more)
        (if comment then Comment else if ticks then after_t more else if stop then after_x more else said_line (addressed_parts (c ∷ more)))
    by_first true ticks stop = tt
    by_first false true stop = few_after_t (c ∷ more) more (omega arith)
    by_first false false true = few_after_x (c ∷ more) more
    by_first false false false = few_said (c ∷ more) (addressed_parts (c ∷ more))

few_ticks : (line : List ℕ) → HasFewTicks line (meaning line)
few_ticks line = by_length (nat_lt MAX_SCRIPT_LINE_BYTES (length line))
  where
    by_length : (b : Bool) → HasFewTicks line (if b then Rejected else short_meaning line)
    by_length true = tt
    by_length false = few_short line

pub ticks_are_few : (line : List ℕ) (count : ℕ) → script.Ticks count ≡ meaning line → (count ≤ MAX_TICKS_PER_LINE) × (1 ≤ length line)
ticks_are_few line count is = subst (HasFewTicks line) (sym is) (few_ticks line)

-- the number of ticks in `count` tick events
pub ticks-replicate : (count : ℕ) → ticks (replicate count Tick) ≡ count
ticks-replicate zero = refl
ticks-replicate (suc count) = omega (arith, ticks-replicate count)

pub ticks_made : (events : List Event) (old new : Player) → MakesEvents events old new → ticks (events_in new) ≡ ticks (events_in old) + ticks events
ticks_made events old new makes = ap ticks makes.history ∙ ticks-append (events_in old) events

-- a line of ticks makes at most `ticks_per_byte` for each of its bytes
pub few_made : (line : List ℕ) (count : ℕ) (result : Result (Unit {0}) Halt) (old new : Player) → script.Ticks count ≡ meaning line
    → OnOk result (MakesEvents (replicate count Tick) old new)
    → OnOk result (ticks (events_in new) ≤ ticks (events_in old) + ticks_per_byte * (length line + 1))
few_made line count (Ok done) old new is makes =
    let few = ticks_are_few line count is in
    let made = ticks_made (replicate count Tick) old new makes in
    omega (arith, few.0, few.1, made, ticks-replicate count)
few_made line count (Err reason) old new is none = tt

-- a line is not longer without its carriage return
pub stripped_shorter : (text : List ℕ) → length (strip_carriage_return text) ≤ length text
stripped_shorter text = grind (arith, nat_tests, common_steps)
