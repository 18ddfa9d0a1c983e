-- Before each line of a script come as many ticks as its moment.
use Rattle.std.proofs.Common.{◌≡◌, ℕ, zero, suc, ◌+◌, List, [], ◌∷◌, ◌++◌, replicate, refl, sym, ap, ap₂, ◌∙◌, subst, arith, append-nil, zero-add, add-zero, add_assoc}
use Rattle.std.specs.Prelude.{flat_map, map}
use Rattle.std.specs.List.{AllByRecursion, range_with_len}
use Rattle.std.proofs.lemmas.List.{map-append}
use Rattle.std.proofs.lemmas.List.Sums.{sum_by-append, sum_by-cons}
use Rattle.play_types.specs.declared.event.Tag.{Tag}
use Rattle.history_model.specs.scripts.Line.{ScriptLine, Ticks, Said}
use Rattle.play_schedule.specs.declared.cue.Cue.{Cue}
use Rattle.play_schedule.specs.SheetView.{SheetView}
use Rattle.play_schedule.specs.Unfolding.{cue_lines, copies_at, lines_at, moments, script_of, ticks_in, ticks_of, timed}
use Rattle.play_schedule.proofs.Unfolded.{no_tick, tick_after, tick_before}

-- a line with its moment
abbrev Timed : Type 0
Timed = ℕ × ScriptLine

-- lines that are due at one moment
abbrev at_moment : ℕ → List ScriptLine → List Timed
at_moment moment lines = map (λ (line : ScriptLine). (moment, line)) lines

-- lines without their moments
abbrev untimed : List Timed → List ScriptLine
untimed lines = map (λ (line : Timed). line.1) lines

-- after `taken` ticks these lines come at their moments
abbrev AreTimed : ℕ → List Timed → Type 0
AreTimed taken [] = Unit {0}
AreTimed taken (line ∷ lines) = (line.0 ≡ taken) × AreTimed (taken + ticks_of line.1) lines

untimed-at_moment : (moment : ℕ) (lines : List ScriptLine) → untimed (at_moment moment lines) ≡ lines
untimed-at_moment moment [] = refl
untimed-at_moment moment (line ∷ lines) = ap (λ l. line ∷ l) (untimed-at_moment moment lines)

untimed-all : (f : ℕ → List ScriptLine) (ms : List ℕ) → untimed (flat_map (λ m. at_moment m (f m)) ms) ≡ flat_map f ms
untimed-all f [] = refl
untimed-all f (m ∷ ms) =
    map-append (λ (line : Timed). line.1) (at_moment m (f m)) (flat_map (λ n. at_moment n (f n)) ms)
    ∙ ap₂ (λ (l k : List ScriptLine). l ++ k) (untimed-at_moment m (f m)) (untimed-all f ms)

pub untimed-timed : (sheet : SheetView) → untimed (timed sheet) ≡ script_of sheet
untimed-timed sheet = untimed-all (lines_at sheet) (moments sheet)

timed-append : (taken : ℕ) (xs ys : List Timed) → AreTimed taken xs → AreTimed (taken + ticks_in (untimed xs)) ys → AreTimed taken (xs ++ ys)
timed-append taken [] ys h k = let none : taken + 0 ≡ taken = add-zero taken in subst (λ (n : ℕ). AreTimed n ys) none k
timed-append taken (x ∷ xs) ys h k =
    let sum : taken + ticks_in (untimed (x ∷ xs)) ≡ taken + ticks_of x.1 + ticks_in (untimed xs) =
    ap (λ n. taken + n) (sum_by-cons ticks_of x.1 (untimed xs)) ∙ sym (add_assoc taken (ticks_of x.1) (ticks_in (untimed xs))) in
    (h.0, timed-append (taken + ticks_of x.1) xs ys h.1 (subst (λ (n : ℕ). AreTimed n ys) sum k))

-- lines that are no ticks
abbrev AreQuiet : List ScriptLine → Type 0
AreQuiet lines = AllByRecursion (λ (line : ScriptLine). ticks_of line ≡ 0) lines

quiet-timed : (moment : ℕ) (lines : List ScriptLine) → AreQuiet lines → AreTimed moment (at_moment moment lines)
quiet-timed moment [] h = tt
quiet-timed moment (line ∷ lines) h =
    let same : moment ≡ moment + ticks_of line = sym (add-zero moment) ∙ ap (λ n. moment + n) (sym h.0) in
    (refl, subst (λ (n : ℕ). AreTimed n (at_moment moment lines)) same (quiet-timed moment lines h.1))

quiet-ticks : (lines : List ScriptLine) → AreQuiet lines → ticks_in lines ≡ 0
quiet-ticks [] h = refl
quiet-ticks (line ∷ lines) h = sum_by-cons ticks_of line lines ∙ ap₂ (λ (m n : ℕ). m + n) h.0 (quiet-ticks lines h.1)

quiet-append : (xs ys : List ScriptLine) → AreQuiet xs → AreQuiet ys → AreQuiet (xs ++ ys)
quiet-append [] ys h k = k
quiet-append (x ∷ xs) ys h k = (h.0, quiet-append xs ys h.1 k)

quiet-copies : (copies : ℕ) (tag : Tag) (text : List ℕ) → AreQuiet (replicate copies (Said tag text))
quiet-copies zero tag text = tt
quiet-copies (suc copies) tag text = (refl, quiet-copies copies tag text)

quiet-due : (moment : ℕ) (cues : List Cue) → AreQuiet (flat_map (cue_lines moment) cues)
quiet-due moment [] = tt
quiet-due moment (cue ∷ cues) =
    quiet-append (cue_lines moment cue) (flat_map (cue_lines moment) cues) (quiet-copies (copies_at moment cue) cue.tag cue.text) (quiet-due moment cues)

-- the script from a moment on
timed_from : (sheet : SheetView) (first count : ℕ) → first + count ≡ sheet.ticks
    → AreTimed first (flat_map (λ m. at_moment m (lines_at sheet m)) (range_with_len first (suc count)))
timed_from sheet first zero s =
    let due : List ScriptLine = flat_map (cue_lines first) sheet.cues in
    let same : due ≡ lines_at sheet first = sym (append-nil due) ∙ ap (λ l. due ++ l) (sym (no_tick sheet.ticks first (omega arith))) in
    subst (AreTimed first) (sym (append-nil (at_moment first (lines_at sheet first))))
    (subst (λ (l : List ScriptLine). AreTimed first (at_moment first l)) same (quiet-timed first due (quiet-due first sheet.cues)))
timed_from sheet first (suc count) s =
    let due : List ScriptLine = flat_map (cue_lines first) sheet.cues in
    let tick : List ScriptLine = Ticks 1 ∷ [] in
    let rest : List Timed = flat_map (λ m. at_moment m (lines_at sheet m)) (range_with_len (first + 1) (suc count)) in
    let quiet : AreQuiet due = quiet-due first sheet.cues in
    let none : ticks_in (untimed (at_moment first due)) ≡ 0 = ap ticks_in (untimed-at_moment first due) ∙ quiet-ticks due quiet in
    let one : ticks_in (untimed (at_moment first (due ++ tick))) ≡ 1 =
    ap ticks_in (untimed-at_moment first (due ++ tick)) ∙ (sum_by-append ticks_of due tick ∙ ap (λ n. n + ticks_in tick) (quiet-ticks due quiet)) in
    let last : AreTimed (first + ticks_in (untimed (at_moment first due))) (at_moment first tick) = (sym (add-zero first) ∙ ap (λ n. first + n) (sym none), tt) in
    let here : AreTimed first (at_moment first (due ++ tick)) =
    subst (AreTimed first) (sym (map-append (λ (line : ScriptLine). (first, line)) due tick))
    (timed-append first (at_moment first due) (at_moment first tick) (quiet-timed first due quiet) last) in
    let later : AreTimed (first + ticks_in (untimed (at_moment first (due ++ tick)))) rest =
    subst (λ (n : ℕ). AreTimed (first + n) rest) (sym one) (timed_from sheet (first + 1) count (omega arith)) in
    let same : due ++ tick ≡ lines_at sheet first = ap (λ l. due ++ l) (sym (tick_before sheet.ticks first (omega arith))) in
    subst (λ (l : List ScriptLine). AreTimed first (at_moment first l ++ rest)) same
    (timed-append first (at_moment first (due ++ tick)) rest here later)

-- the ticks before a line
ticks_before : (taken : ℕ) (before after : List Timed) (moment : ℕ) (line : ScriptLine) → AreTimed taken (before ++ (moment, line) ∷ after)
    → taken + ticks_in (untimed before) ≡ moment
ticks_before taken [] after moment line h = add-zero taken ∙ sym h.0
ticks_before taken (x ∷ before) after moment line h =
    ap (λ n. taken + n) (sum_by-cons ticks_of x.1 (untimed before))
    ∙ (sym (add_assoc taken (ticks_of x.1) (ticks_in (untimed before))) ∙ ticks_before (taken + ticks_of x.1) before after moment line h.1)

pub ticks_before-timed : (sheet : SheetView) (before after : List Timed) (moment : ℕ) (line : ScriptLine) → timed sheet ≡ before ++ (moment, line) ∷ after
    → ticks_in (untimed before) ≡ moment
ticks_before-timed sheet before after moment line e =
    let whole : sheet.ticks + 1 ≡ suc sheet.ticks = omega arith in
    let all : AreTimed 0 (timed sheet) =
    subst (λ (n : ℕ). AreTimed 0 (flat_map (λ m. at_moment m (lines_at sheet m)) (range_with_len 0 n))) (sym whole) (timed_from sheet 0 sheet.ticks (zero-add sheet.ticks)) in
    sym (zero-add (ticks_in (untimed before))) ∙ ticks_before 0 before after moment line (subst (AreTimed 0) e all)

-- a script has as many ticks as its sheet
ticks_from : (sheet : SheetView) (first count : ℕ) → first + count ≡ sheet.ticks → ticks_in (flat_map (lines_at sheet) (range_with_len first (suc count))) ≡ count
ticks_from sheet first zero s =
    let due : List ScriptLine = flat_map (cue_lines first) sheet.cues in
    ap ticks_in (append-nil (lines_at sheet first))
    ∙ (sum_by-append ticks_of due (tick_after sheet.ticks first)
    ∙ ap₂ (λ (m n : ℕ). m + n) (quiet-ticks due (quiet-due first sheet.cues)) (ap ticks_in (no_tick sheet.ticks first (omega arith))))
ticks_from sheet first (suc count) s =
    let due : List ScriptLine = flat_map (cue_lines first) sheet.cues in
    let rest : List ScriptLine = flat_map (lines_at sheet) (range_with_len (first + 1) (suc count)) in
    let one : ticks_in (lines_at sheet first) ≡ 1 =
    sum_by-append ticks_of due (tick_after sheet.ticks first)
    ∙ ap₂ (λ (m n : ℕ). m + n) (quiet-ticks due (quiet-due first sheet.cues)) (ap ticks_in (tick_before sheet.ticks first (omega arith))) in
    let more : 1 + count ≡ suc count = omega arith in
    sum_by-append ticks_of (lines_at sheet first) rest ∙ (ap₂ (λ (m n : ℕ). m + n) one (ticks_from sheet (first + 1) count (omega arith)) ∙ more)

pub ticks_in-script : (sheet : SheetView) → ticks_in (script_of sheet) ≡ sheet.ticks
ticks_in-script sheet =
    let whole : sheet.ticks + 1 ≡ suc sheet.ticks = omega arith in
    ap (λ n. ticks_in (flat_map (lines_at sheet) (range_with_len 0 n))) whole ∙ ticks_from sheet 0 sheet.ticks (zero-add sheet.ticks)
