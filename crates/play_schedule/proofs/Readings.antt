-- What was read of a sheet, line by line.
use Rattle.std.proofs.Common.{◌≡◌, ℕ, ◌+◌, Bool, false, List, [], ◌∷◌, ◌++◌, length, refl, sym, ap, ap₂, ◌∙◌, subst, arith, length-append}
use Rattle.std.specs.Prelude.{Option, Some, None, is_some, nat_lt, ◌||◌}
use Rattle.std.specs.Option.{option_or}
use Rattle.std.proofs.lemmas.List.Sums.{fold-append}
use Rattle.play_schedule.specs.declared.cue.Cue.{Cue}
use Rattle.play_schedule.specs.declared.reading.Reading.{Reading}
use Rattle.play_schedule.specs.Line.{CueLine, SheetLine}
use Rattle.play_schedule.specs.Line as line
use Rattle.play_schedule.specs.Due.{is_due_after}
use Rattle.play_schedule.specs.Sheet.{cues_of, cue_after, cues_with, end_of, is_cue_faulty, is_faulty}
use Rattle.play_schedule.specs.inner.Reading.{HasRead}

-- the END of lines and of one more is the first of both
pub end_of-snoc : (before : List SheetLine) (one : SheetLine) → end_of (before ++ one ∷ []) ≡ option_or (end_of before) (end_of (one ∷ []))
end_of-snoc [] one = refl
end_of-snoc (line.Comment ∷ before) one = end_of-snoc before one
end_of-snoc (line.Cue cue ∷ before) one = end_of-snoc before one
end_of-snoc (line.End moment ∷ before) one = refl
end_of-snoc (line.Malformed ∷ before) one = end_of-snoc before one

-- one more line was read
pub HasRead-snoc : (reading : Reading) (before : List SheetLine) (one : SheetLine) → reading.cues.items ≡ cues_with (cues_of before) one
    → reading.ticks ≡ option_or (end_of before) (end_of (one ∷ [])) → reading.lines ≡ length before + 1 → HasRead reading (before ++ one ∷ [])
HasRead-snoc reading before one cues ticks lines = record {
  cues = cues ∙ sym (fold-append cues_with [] before (one ∷ []));
  ticks = ticks ∙ sym (end_of-snoc before one);
  lines = lines ∙ omega (arith, length-append before (one ∷ []));
}

pub option_or-none : (ticks : Option ℕ) → option_or ticks None ≡ ticks
option_or-none None = refl
option_or-none (Some moment) = refl

none-is_some : (ticks : Option ℕ) → false ≡ is_some ticks → ticks ≡ None
none-is_some None e = refl
none-is_some (Some moment) e = absurd (cc)

or-none : (a b : Bool) → a ≡ false → b ≡ false → (a || b) ≡ false
or-none a b p q = ap₂ (λ (x y : Bool). x || y) p q

-- a comment was read
pub read_comment : (old new : Reading) (before : List SheetLine) → HasRead old before → new.cues.items ≡ old.cues.items → new.ticks ≡ old.ticks
    → new.lines ≡ old.lines + 1 → HasRead new (before ++ line.Comment ∷ [])
read_comment old new before read cues ticks lines =
    HasRead-snoc new before line.Comment (cues ∙ read.cues) (ticks ∙ (read.ticks ∙ sym (option_or-none (end_of before)))) (lines ∙ ap (λ n. n + 1) read.lines)

-- a cue line was read that is not faulty
pub read_cue : (old new : Reading) (before : List SheetLine) (cue : CueLine) → HasRead old before → false ≡ is_some old.ticks
    → is_cue_faulty old.cues.items cue ≡ false → new.cues.items ≡ old.cues.items ++ cue_after old.cues.items cue ∷ [] → new.ticks ≡ None
    → new.lines ≡ old.lines + 1 → (is_faulty before (line.Cue cue) ≡ false) × HasRead new (before ++ line.Cue cue ∷ [])
read_cue old new before cue read going fits cues ticks lines =
    let none : end_of before ≡ None = sym read.ticks ∙ none-is_some old.ticks going in (
      or-none _ _ (ap is_some none) (subst (λ (l : List Cue). is_cue_faulty l cue ≡ false) read.cues fits),
      HasRead-snoc new before (line.Cue cue) (cues ∙ ap (λ l. l ++ cue_after l cue ∷ []) read.cues)
          (ticks ∙ (sym none ∙ sym (option_or-none (end_of before)))) (lines ∙ ap (λ n. n + 1) read.lines),
    )

-- an END was read that is not faulty
pub read_end : (old new : Reading) (before : List SheetLine) (moment : ℕ) → HasRead old before → false ≡ is_some old.ticks
    → nat_lt moment old.latest ≡ false → new.cues.items ≡ old.cues.items → new.ticks ≡ Some moment → new.lines ≡ old.lines + 1
    → (is_faulty before (line.End moment) ≡ false) × HasRead new (before ++ line.End moment ∷ [])
read_end old new before moment read going late cues ticks lines =
    let none : end_of before ≡ None = sym read.ticks ∙ none-is_some old.ticks going in (
      or-none _ _ (ap is_some none) (ap (is_due_after moment) (sym read.cues) ∙ (sym (old.due moment) ∙ late)),
      HasRead-snoc new before (line.End moment) (cues ∙ read.cues)
          (ticks ∙ ap (λ o. option_or o (Some moment)) (sym none)) (lines ∙ ap (λ n. n + 1) read.lines),
    )
