-- No text of a sheet has a line end.
use Rattle.std.proofs.Common.{◌≡◌, ℕ, zero, suc, ◌+◌, eqb, ◌==◌, Bool, true, false, cond, List, [], ◌∷◌, ◌++◌, drop, take, length, map, replicate, refl, ap, subst}
use Rattle.std.specs.Prelude.{Option, Some, None, Ok, nat_lt, position, if◌then◌else◌, unwrap_or, codes, bytes_eq, flat_map, fold}
use Rattle.std.specs.Option.{option_map, option_and_then, option_or}
use Rattle.std.specs.List.{AllByRecursion, list_any, onto_first, slice_split}
use Rattle.std.specs.Str.Lines.{lines, lines_of_parts}
use Rattle.std.proofs.lemmas.Bool.{or_parts, or_from}
use Rattle.amcp_text.specs.Lines.{is_line_end}
use Rattle.amcp_text.specs.Numbers.{number_within}
use Rattle.play_types.specs.declared.event.Tag.{Tag}
use Rattle.history_model.specs.declared.limits.TheConstants.{MAX_SCRIPT_LINE_BYTES}
use Rattle.history_model.specs.text.Parts.{parts_at}
use Rattle.history_model.specs.scripts.Line.{ScriptLine, Said, Ticks, addressed_parts, tag_of}
use Rattle.history_model.specs.scripts.Memory.{AreLines}
use Rattle.history_model.proofs.OneLines.{HasNoLineEnd, AreWithoutLineEnds, stripped_one_line}
use Rattle.play_schedule.specs.declared.limits.TheConstants.{MAX_LINE_COPIES, MAX_MOMENT}
use Rattle.play_schedule.specs.declared.cue.Copies.{Copies}
use Rattle.play_schedule.specs.declared.cue.Cue.{Cue}
use Rattle.play_schedule.specs.declared.cue.Start.{Start}
use Rattle.play_schedule.specs.declared.cue.Start.TheVariants.{At, After}
use Rattle.play_schedule.specs.SheetView.{SheetView}
use Rattle.play_schedule.specs.Time.{moment_of}
use Rattle.play_schedule.specs.Line.{CueLine, SheetLine, after_line, after_word, at_line, copies_of, cue_line, end_line, form_of, line_of, moment_word, number_word, once, repeated, said_of, short_line}
use Rattle.play_schedule.specs.Line as line
use Rattle.play_schedule.specs.Sheet.{cue_after, cues_of, cues_with, end_of, ended_sheet, first_fault, sheet_of, sheet_unless}
use Rattle.play_schedule.specs.Unfolding.{copies_at, cue_lines, lines_at, moments, script_of}

-- what holds of a value, if there is one
abbrev pub AllIn : {A : Type 0} → (A → Type 0) → Option A → Type 0
AllIn P None = Unit {0}
AllIn P (Some x) = P x

pub any-in : {A : Type 0} (o : Option A) → AllIn (λ (x : A). Unit {0}) o
any-in None = tt
any-in (Some x) = tt

pub and_then-in : {A B : Type 0} (P : A → Type 0) (Q : B → Type 0) (f : A → Option B) → ((x : A) → P x → AllIn Q (f x)) → (o : Option A) → AllIn P o → AllIn Q (option_and_then f o)
and_then-in P Q f step None h = tt
and_then-in P Q f step (Some x) h = step x h

pub map-in : {A B : Type 0} (P : A → Type 0) (Q : B → Type 0) (f : A → B) → ((x : A) → P x → Q (f x)) → (o : Option A) → AllIn P o → AllIn Q (option_map f o)
map-in P Q f step None h = tt
map-in P Q f step (Some x) h = step x h

pub or-in : {A : Type 0} (P : A → Type 0) (o p : Option A) → AllIn P o → AllIn P p → AllIn P (option_or o p)
or-in P None p h k = k
or-in P (Some x) p h k = h

drop-line : (n : ℕ) (text : List ℕ) → HasNoLineEnd text → HasNoLineEnd (drop n text)
drop-line zero text none = none
drop-line (suc n) [] none = refl
drop-line (suc n) (c ∷ text) none = drop-line n text (or_parts (is_line_end c) (list_any is_line_end text) none).1

-- what follows the first such byte has none
parts-line : (byte : ℕ) (text : List ℕ) → HasNoLineEnd text → AllIn (λ (p : List ℕ × List ℕ). HasNoLineEnd p.1) (parts_at byte text)
parts-line byte text none =
    map-in (λ (at : ℕ). Unit {0}) (λ (p : List ℕ × List ℕ). HasNoLineEnd p.1) (λ at. let found : List ℕ × List ℕ = (take at text, drop (at + 1) text) in found)
    (λ at h. drop-line (at + 1) text none) (position (λ c. c == byte) text) (any-in _)

after_word-line : (word text : List ℕ) → HasNoLineEnd text → AllIn HasNoLineEnd (after_word word text)
after_word-line word text none = by (parts_at 32 text) (parts-line 32 text none)
  where
    same : (b : Bool) (rest : List ℕ) → HasNoLineEnd rest → AllIn HasNoLineEnd (if b then Some rest else None)
    same true rest h = h
    same false rest h = tt

    by : (o : Option (List ℕ × List ℕ)) → AllIn (λ (p : List ℕ × List ℕ). HasNoLineEnd p.1) o
        → AllIn HasNoLineEnd (option_and_then (λ (p : List ℕ × List ℕ). if bytes_eq p.0 word then Some p.1 else None) o)
    by None h = tt
    by (Some p) h = same (bytes_eq p.0 word) p.1 h

-- a value and what follows it
value-line : {A : Type 0} (value : List ℕ → Option A) (text : List ℕ) → HasNoLineEnd text
    → AllIn (λ (p : A × List ℕ). HasNoLineEnd p.1) (option_and_then (λ (p : List ℕ × List ℕ). option_map (λ (n : A). (n, p.1)) (value p.0)) (parts_at 32 text))
value-line {A} value text none = by (parts_at 32 text) (parts-line 32 text none)
  where
    same : (o : Option A) (rest : List ℕ) → HasNoLineEnd rest → AllIn (λ (p : A × List ℕ). HasNoLineEnd p.1) (option_map (λ (n : A). let found : A × List ℕ = (n, rest) in found) o)
    same None rest h = tt
    same (Some n) rest h = h

    by : (o : Option (List ℕ × List ℕ)) → AllIn (λ (p : List ℕ × List ℕ). HasNoLineEnd p.1) o
        → AllIn (λ (p : A × List ℕ). HasNoLineEnd p.1) (option_and_then (λ (p : List ℕ × List ℕ). option_map (λ (n : A). let found : A × List ℕ = (n, p.1) in found) (value p.0)) o)
    by None h = tt
    by (Some p) h = same (value p.0) p.1 h

number-line : (least most : ℕ) (text : List ℕ) → HasNoLineEnd text → AllIn (λ (p : ℕ × List ℕ). HasNoLineEnd p.1) (number_word least most text)
number-line least most text none = value-line (number_within least most) text none

moment-line : (rate : ℕ) (text : List ℕ) → HasNoLineEnd text → AllIn (λ (p : ℕ × List ℕ). HasNoLineEnd p.1) (moment_word rate text)
moment-line rate text none = value-line (moment_of rate) text none

repeated-line : (text : List ℕ) → HasNoLineEnd text → AllIn (λ (p : Copies × List ℕ). HasNoLineEnd p.1) (repeated text)
repeated-line text none =
    let Q : Copies × List ℕ → Type 0 = λ p. HasNoLineEnd p.1 in
    let N : ℕ × List ℕ → Type 0 = λ p. HasNoLineEnd p.1 in
    and_then-in HasNoLineEnd Q _
    (λ after_every h.
    and_then-in N Q _
    (λ interval k.
    and_then-in HasNoLineEnd Q _
    (λ after_times l. map-in N Q _ (λ count m. m) (number_word 1 MAX_LINE_COPIES after_times) (number-line 1 MAX_LINE_COPIES after_times l))
    (after_word (codes "TIMES") interval.1) (after_word-line (codes "TIMES") interval.1 k))
    (number_word 0 MAX_MOMENT after_every) (number-line 0 MAX_MOMENT after_every h))
    (after_word (codes "EVERY") text) (after_word-line (codes "EVERY") text none)

copies-line : (text : List ℕ) → HasNoLineEnd text → HasNoLineEnd (copies_of text).1
copies-line text none = by (repeated text) (repeated-line text none)
  where
    by : (o : Option (Copies × List ℕ)) → AllIn (λ (p : Copies × List ℕ). HasNoLineEnd p.1) o → HasNoLineEnd (unwrap_or o (once, text)).1
    by None h = none
    by (Some p) h = h

said-line : (text : List ℕ) → HasNoLineEnd text → AllIn (λ (p : Tag × List ℕ). HasNoLineEnd p.1) (said_of text)
said-line text none =
    let P : List ℕ × List ℕ → Type 0 = λ p. HasNoLineEnd p.1 in
    let A : List ℕ × (List ℕ × List ℕ) → Type 0 = λ p. HasNoLineEnd p.1.1 in
    let Q : Tag × List ℕ → Type 0 = λ p. HasNoLineEnd p.1 in
    let parts : AllIn A (addressed_parts text) =
    and_then-in P A _ (λ p h. map-in P A _ (λ q k. k) (parts_at 32 p.1) (parts-line 32 p.1 h)) (parts_at 46 text) (parts-line 46 text none) in
    and_then-in A Q _ (λ p h. map-in (λ (tag : Tag). Unit {0}) Q _ (λ tag k. h) (tag_of p.0 p.1.0) (any-in _)) (addressed_parts text) parts

-- the text of a cue line has none
abbrev IsOneLine : SheetLine → Type 0
IsOneLine line.Comment = Unit {0}
IsOneLine (line.Cue cue) = HasNoLineEnd cue.text
IsOneLine (line.End moment) = Unit {0}
IsOneLine line.Malformed = Unit {0}

cue-line : (start : Start) (copies : Copies × List ℕ) → HasNoLineEnd copies.1 → AllIn IsOneLine (cue_line start copies)
cue-line start copies none = map-in (λ (p : Tag × List ℕ). HasNoLineEnd p.1) IsOneLine _ (λ said h. h) (said_of copies.1) (said-line copies.1 none)

at-line : (rate : ℕ) (text : List ℕ) → HasNoLineEnd text → AllIn IsOneLine (at_line rate text)
at-line rate text none =
    and_then-in HasNoLineEnd IsOneLine _
    (λ rest h.
    and_then-in (λ (p : ℕ × List ℕ). HasNoLineEnd p.1) IsOneLine _ (λ time k. cue-line (At time.0) (copies_of time.1) (copies-line time.1 k)) (moment_word rate rest) (moment-line rate rest h))
    (after_word (codes "AT") text) (after_word-line (codes "AT") text none)

after-line : (text : List ℕ) → HasNoLineEnd text → AllIn IsOneLine (after_line text)
after-line text none =
    and_then-in HasNoLineEnd IsOneLine _
    (λ rest h.
    and_then-in (λ (p : ℕ × List ℕ). HasNoLineEnd p.1) IsOneLine _ (λ ticks k. cue-line (After ticks.0) (once, ticks.1) k) (number_word 0 MAX_MOMENT rest) (number-line 0 MAX_MOMENT rest h))
    (after_word (codes "AFTER") text) (after_word-line (codes "AFTER") text none)

end-line : (rate : ℕ) (text : List ℕ) → AllIn IsOneLine (end_line rate text)
end-line rate text =
    and_then-in (λ (rest : List ℕ). Unit {0}) IsOneLine _ (λ rest h. map-in (λ (m : ℕ). Unit {0}) IsOneLine _ (λ m k. tt) (moment_of rate rest) (any-in _)) (after_word (codes "END") text) (any-in _)

line-one : (rate : ℕ) (text : List ℕ) → HasNoLineEnd text → IsOneLine (line_of rate text)
line-one rate text none = long (nat_lt MAX_SCRIPT_LINE_BYTES (length text)) (short text none)
  where
    formed : (o : Option SheetLine) → AllIn IsOneLine o → IsOneLine (unwrap_or o line.Malformed)
    formed None h = tt
    formed (Some found) h = h

    comment : (b : Bool) (found : SheetLine) → IsOneLine found → IsOneLine (if b then line.Comment else found)
    comment true found h = tt
    comment false found h = h

    short : (l : List ℕ) → HasNoLineEnd l → IsOneLine (short_line rate l)
    short [] h = tt
    short (c ∷ more) h =
        comment (c == 35) (unwrap_or (form_of rate (c ∷ more)) line.Malformed)
        (formed (form_of rate (c ∷ more)) (or-in IsOneLine _ _ (at-line rate (c ∷ more) h) (or-in IsOneLine _ _ (after-line (c ∷ more) h) (end-line rate (c ∷ more)))))

    long : (b : Bool) → IsOneLine (short_line rate text) → IsOneLine (if b then line.Malformed else short_line rate text)
    long true h = tt
    long false h = h

-- the lines of a text have none
onto-line : (c : ℕ) (texts : List (List ℕ)) → is_line_end c ≡ false → AreWithoutLineEnds texts → AreWithoutLineEnds (onto_first c texts)
onto-line c [] other none = (or_from (is_line_end c) false other refl, tt)
onto-line c (text ∷ texts) other none = (or_from (is_line_end c) (list_any is_line_end text) other none.0, none.1)

abbrev parts_of : List ℕ → List (List ℕ)
parts_of bytes = slice_split (λ b. b == 10) bytes

split-lines : (bytes : List ℕ) → AreWithoutLineEnds (parts_of bytes)
split-lines [] = (refl, tt)
split-lines (c ∷ bytes) = by (eqb c 10) refl (split-lines bytes)
  where
    by : (b : Bool) → eqb c 10 ≡ b → AreWithoutLineEnds (parts_of bytes) → AreWithoutLineEnds (cond b ([] ∷ parts_of bytes) (onto_first c (parts_of bytes)))
    by true is rest = (refl, rest)
    by false is rest = onto-line c (parts_of bytes) is rest

lines-without : (texts : List (List ℕ)) → AreWithoutLineEnds texts → AreWithoutLineEnds (lines_of_parts texts)
lines-without [] none = tt
lines-without (text ∷ []) none = by (length text == 0)
  where
    by : (b : Bool) → AreWithoutLineEnds (if b then [] else text ∷ [])
    by true = tt
    by false = none
lines-without (text ∷ next ∷ more) none = (stripped_one_line _ text refl none.0, lines-without (next ∷ more) none.1)

-- and so have the cues
abbrev AreOneLine : List Cue → Type 0
AreOneLine cues = AllByRecursion (λ (cue : Cue). HasNoLineEnd cue.text) cues

snoc-line : (cues : List Cue) (cue : Cue) → AreOneLine cues → HasNoLineEnd cue.text → AreOneLine (cues ++ cue ∷ [])
snoc-line [] cue h k = (k, tt)
snoc-line (first ∷ cues) cue h k = (h.0, snoc-line cues cue h.1 k)

with-line : (cues : List Cue) (found : SheetLine) → AreOneLine cues → IsOneLine found → AreOneLine (cues_with cues found)
with-line cues line.Comment h k = h
with-line cues (line.Cue cue) h k = snoc-line cues (cue_after cues cue) h k
with-line cues (line.End moment) h k = h
with-line cues line.Malformed h k = h

cues-line : (rate : ℕ) (cues : List Cue) (texts : List (List ℕ)) → AreOneLine cues → AreWithoutLineEnds texts → AreOneLine (fold cues_with cues (map (line_of rate) texts))
cues-line rate cues [] h k = h
cues-line rate cues (text ∷ texts) h k = cues-line rate (cues_with cues (line_of rate text)) texts (with-line cues (line_of rate text) h (line-one rate text k.0)) k.1

-- the cues of a sheet are those of its lines
sheet-cues : (found : Option ℕ) (said : List SheetLine) (sheet : SheetView) → sheet_unless found said ≡ Ok sheet → cues_of said ≡ sheet.cues
sheet-cues (Some at) said sheet e = absurd (cc)
sheet-cues None said sheet e = by (end_of said) e
  where
    by : (ticks : Option ℕ) → ended_sheet (cues_of said) ticks ≡ Ok sheet → cues_of said ≡ sheet.cues
    by None s = absurd (cc)
    by (Some ticks) s =
        let whole : SheetView = record { cues = cues_of said; ticks = ticks } in
        let same : whole ≡ sheet = cc in
        ap (λ (one : SheetView). one.cues) same

append-lines : (xs ys : List ScriptLine) → AreLines xs → AreLines ys → AreLines (xs ++ ys)
append-lines [] ys h k = k
append-lines (x ∷ xs) ys h k = (h.0, append-lines xs ys h.1 k)

copies-lines : (copies : ℕ) (cue : Cue) → HasNoLineEnd cue.text → AreLines (replicate copies (Said cue.tag cue.text))
copies-lines zero cue h = tt
copies-lines (suc copies) cue h = (h, copies-lines copies cue h)

due-lines : (moment : ℕ) (cues : List Cue) → AreOneLine cues → AreLines (flat_map (cue_lines moment) cues)
due-lines moment [] h = tt
due-lines moment (cue ∷ cues) h = append-lines (cue_lines moment cue) (flat_map (cue_lines moment) cues) (copies-lines (copies_at moment cue) cue h.0) (due-lines moment cues h.1)

script-lines : (sheet : SheetView) → AreOneLine sheet.cues → (ms : List ℕ) → AreLines (flat_map (lines_at sheet) ms)
script-lines sheet h [] = tt
script-lines sheet h (m ∷ ms) =
    append-lines (lines_at sheet m) (flat_map (lines_at sheet) ms)
    (append-lines (flat_map (cue_lines m) sheet.cues) (if nat_lt m sheet.ticks then Ticks 1 ∷ [] else []) (due-lines m sheet.cues h) (tick (nat_lt m sheet.ticks)))
    (script-lines sheet h ms)
  where
    tick : (b : Bool) → AreLines (if b then Ticks 1 ∷ [] else [])
    tick true = (tt, tt)
    tick false = tt

pub AreLines-script : (rate : ℕ) (bytes : List ℕ) (sheet : SheetView) → sheet_of rate bytes ≡ Ok sheet → AreLines (script_of sheet)
AreLines-script rate bytes sheet e =
    let said : List SheetLine = map (line_of rate) (lines bytes) in
    let own : AreOneLine (cues_of said) = cues-line rate [] (lines bytes) tt (lines-without (parts_of bytes) (split-lines bytes)) in
    let cues : cues_of said ≡ sheet.cues = sheet-cues (first_fault [] said) said sheet e in
    script-lines sheet (subst AreOneLine cues own) (moments sheet)
