-- What the entries of an order give.
use Rattle.std.proofs.Common.{◌≡◌, ℕ, suc, ◌+◌, ◌-◌, ◌<◌, ◌≤◌, max, Bool, true, false, List, [], ◌∷◌, ◌++◌, replicate, refl, sym, ap, ◌∙◌, arith, append-nil, append_assoc}
use Rattle.std.specs.Prelude.{Option, Some, None, nat_lt, ◌&&◌, slice_get}
use Rattle.std.specs.Option.{option_map_or}
use Rattle.std.proofs.lemmas.List.{replicate-append-replicate}
use borrow.Author.Tests.{ltb-true}
use Rattle.history_model.specs.scripts.Line.{ScriptLine, Ticks, Said}
use Rattle.play_schedule.specs.declared.cue.Cue.{Cue}
use Rattle.play_schedule.specs.Order.{Entry, are_of, copied_lines, entry_lines, lines_left}

-- one tick for each
abbrev ticks_of : ℕ → List ScriptLine
ticks_of count = replicate count (Ticks 1)

none-copied : (found : Option Cue) → option_map_or (copied_lines 0) found [] ≡ []
none-copied None = refl
none-copied (Some cue) = refl

-- ticks that are taken leave the others
pub lines_left_ticks : (cues : List Cue) (ticks taken count : ℕ) (entry : Entry) (entries : List Entry) → taken + count ≤ entry.0.0
    → lines_left cues ticks taken (entry ∷ entries) ≡ ticks_of count ++ lines_left cues ticks (taken + count) (entry ∷ entries)
lines_left_ticks cues ticks taken count entry entries l =
    let before : max taken entry.0.0 ≡ entry.0.0 = omega arith in
    let after : max (taken + count) entry.0.0 ≡ entry.0.0 = omega arith in
    let sum : entry.0.0 - taken ≡ count + (entry.0.0 - (taken + count)) = omega arith in
    let rest : List ScriptLine = entry_lines cues entry ++ lines_left cues ticks entry.0.0 entries in
    let split : ticks_of (entry.0.0 - taken) ≡ ticks_of count ++ ticks_of (entry.0.0 - (taken + count)) = ap ticks_of sum ∙ sym (replicate-append-replicate count (entry.0.0 - (taken + count)) (Ticks 1)) in
    rw (before, after) (ap (λ l. l ++ rest) split ∙ append_assoc (ticks_of count) (ticks_of (entry.0.0 - (taken + count))) rest)

-- an entry without copies whose moment has come gives nothing
pub lines_left_skip : (cues : List Cue) (ticks taken moment cue : ℕ) (entries : List Entry) → moment ≤ taken
    → lines_left cues ticks taken (((moment, cue), 0) ∷ entries) ≡ lines_left cues ticks taken entries
lines_left_skip cues ticks taken moment cue entries l =
    let none : moment - taken ≡ 0 = omega arith in
    let same : max taken moment ≡ taken = omega arith in
    rw (none, same, none-copied (slice_get cues cue)) refl

-- nor does one at the end of the sheet
pub lines_left_end : (cues : List Cue) (ticks taken cue : ℕ) → lines_left cues ticks taken (((ticks, cue), 0) ∷ []) ≡ lines_left cues ticks taken []
lines_left_end cues ticks taken cue =
    let none : ticks - max taken ticks ≡ 0 = omega arith in
    rw (none-copied (slice_get cues cue), none) (append-nil (ticks_of (ticks - taken)))

-- after the end nothing is left
pub lines_left_none : (cues : List Cue) (ticks taken moment cue : ℕ) → moment ≤ taken → ticks ≤ taken → lines_left cues ticks taken (((moment, cue), 0) ∷ []) ≡ []
lines_left_none cues ticks taken moment cue l m =
    let none : ticks - taken ≡ 0 = omega arith in
    lines_left_skip cues ticks taken moment cue [] l ∙ ap ticks_of none

-- the line of a copy whose moment has come is taken
pub lines_left_copy : (cues : List Cue) (ticks taken moment at copies : ℕ) (cue : Cue) (entries : List Entry) → moment ≤ taken → slice_get cues at ≡ Some cue
    → lines_left cues ticks taken (((moment, at), copies + 1) ∷ entries) ≡ Said cue.tag cue.text ∷ lines_left cues ticks taken (((moment, at), copies) ∷ entries)
lines_left_copy cues ticks taken moment at copies cue entries l e =
    let none : moment - taken ≡ 0 = omega arith in
    let more : copies + 1 ≡ suc copies = omega arith in
    rw (none, e, more) refl

-- the first of entries that have copies has one
pub first_has_copy : (cues : ℕ) (entry : Entry) (entries : List Entry) → are_of cues (entry ∷ entries) ≡ true → 0 < entry.1
first_has_copy cues entry entries e = by (nat_lt entry.0.1 cues) (nat_lt 0 entry.1) refl e
  where
    by : (a b : Bool) → nat_lt 0 entry.1 ≡ b → ((a && b) && are_of cues entries) ≡ true → 0 < entry.1
    by true true h s = ltb-true _ _ h
    by true false h s = absurd (cc)
    by false b h s = absurd (cc)
