-- The END of a sheet is no later than the latest moment.
use Rattle.std.proofs.Common.{◌≡◌, ℕ, ◌+◌, ◌*◌, ◌≤◌, ◌==◌, Bool, true, false, List, [], ◌∷◌, length, map, refl, subst, arith}
use Rattle.std.specs.Prelude.{Option, Some, None, Ok, ◌&&◌, nat_le, nat_lt, if◌then◌else◌, unwrap_or, codes}
use Rattle.std.specs.Str.Lines.{lines}
use Rattle.amcp_text.specs.Numbers.{number_within, whole_number, within}
use Rattle.play_types.specs.declared.event.Tag.{Tag}
use Rattle.history_model.specs.declared.limits.TheConstants.{MAX_SCRIPT_LINE_BYTES}
use Rattle.play_schedule.specs.declared.limits.TheConstants.{MAX_MOMENT}
use Rattle.play_schedule.specs.declared.cue.Copies.{Copies}
use Rattle.play_schedule.specs.declared.cue.Start.{Start}
use Rattle.play_schedule.specs.declared.cue.Start.TheVariants.{At, After}
use Rattle.play_schedule.specs.SheetView.{SheetView}
use Rattle.play_schedule.specs.Time.{frame_number, moment_of, moment_within, timecode, two_digits}
use Rattle.play_schedule.specs.Line.{SheetLine, after_line, after_word, at_line, copies_of, cue_line, end_line, form_of, line_of, moment_word, number_word, once, said_of, short_line}
use Rattle.play_schedule.specs.Line as line
use Rattle.play_schedule.specs.Sheet.{cues_of, end_of, ended_sheet, first_fault, sheet_of, sheet_unless}
use Rattle.play_schedule.proofs.OneLines.{AllIn, and_then-in, any-in, map-in, or-in}

abbrev IsMoment : ℕ → Type 0
IsMoment moment = moment ≤ MAX_MOMENT

within-most : (least number : ℕ) → AllIn IsMoment (within least MAX_MOMENT number)
within-most least number = by (nat_le least number) (nat_le number MAX_MOMENT) refl
  where
    by : (a b : Bool) → nat_le number MAX_MOMENT ≡ b → AllIn IsMoment (if a && b then Some number else None)
    by true true e = let upto : number ≤ MAX_MOMENT = grind arith in upto
    by true false e = tt
    by false b e = tt

moment-within : (moment : ℕ) → AllIn IsMoment (moment_within moment)
moment-within moment = by (nat_le moment MAX_MOMENT) refl
  where
    by : (b : Bool) → nat_le moment MAX_MOMENT ≡ b → AllIn IsMoment (if b then Some moment else None)
    by true e = let upto : moment ≤ MAX_MOMENT = grind arith in upto
    by false e = tt

moment-of : (rate : ℕ) (text : List ℕ) → AllIn IsMoment (moment_of rate text)
moment-of rate text =
    or-in IsMoment (number_within 0 MAX_MOMENT text) (timecode rate text)
    (and_then-in (λ (n : ℕ). Unit {0}) IsMoment (within 0 MAX_MOMENT) (λ n h. within-most 0 n) (whole_number text) (any-in _))
    (and_then-in (λ (p : ℕ × List ℕ). Unit {0}) IsMoment _
    (λ hours h.
    and_then-in (λ (p : ℕ × List ℕ). Unit {0}) IsMoment _
    (λ minutes k.
    and_then-in (λ (p : ℕ × List ℕ). Unit {0}) IsMoment _
    (λ seconds l.
    and_then-in (λ (n : ℕ). Unit {0}) IsMoment _ (λ frame m. moment-within (((hours.0 * 60 + minutes.0) * 60 + seconds.0) * rate + frame)) (frame_number rate seconds.1) (any-in _))
    (two_digits 59 minutes.1) (any-in _))
    (two_digits 59 hours.1) (any-in _))
    (two_digits 99 text) (any-in _))

-- an END line has such a moment
abbrev IsEarly : SheetLine → Type 0
IsEarly line.Comment = Unit {0}
IsEarly (line.Cue cue) = Unit {0}
IsEarly (line.End moment) = IsMoment moment
IsEarly line.Malformed = Unit {0}

cue-early : (start : Start) (copies : Copies × List ℕ) → AllIn IsEarly (cue_line start copies)
cue-early start copies = map-in (λ (p : Tag × List ℕ). Unit {0}) IsEarly _ (λ said h. tt) (said_of copies.1) (any-in _)

at-early : (rate : ℕ) (text : List ℕ) → AllIn IsEarly (at_line rate text)
at-early rate text =
    and_then-in (λ (rest : List ℕ). Unit {0}) IsEarly _
    (λ rest h. and_then-in (λ (p : ℕ × List ℕ). Unit {0}) IsEarly _ (λ time k. cue-early (At time.0) (copies_of time.1)) (moment_word rate rest) (any-in _))
    (after_word (codes "AT") text) (any-in _)

after-early : (text : List ℕ) → AllIn IsEarly (after_line text)
after-early text =
    and_then-in (λ (rest : List ℕ). Unit {0}) IsEarly _
    (λ rest h. and_then-in (λ (p : ℕ × List ℕ). Unit {0}) IsEarly _ (λ ticks k. cue-early (After ticks.0) (once, ticks.1)) (number_word 0 MAX_MOMENT rest) (any-in _))
    (after_word (codes "AFTER") text) (any-in _)

end-early : (rate : ℕ) (text : List ℕ) → AllIn IsEarly (end_line rate text)
end-early rate text =
    and_then-in (λ (rest : List ℕ). Unit {0}) IsEarly _ (λ rest h. map-in IsMoment IsEarly _ (λ m k. k) (moment_of rate rest) (moment-of rate rest)) (after_word (codes "END") text) (any-in _)

line-early : (rate : ℕ) (text : List ℕ) → IsEarly (line_of rate text)
line-early rate text = long (nat_lt MAX_SCRIPT_LINE_BYTES (length text)) (short text)
  where
    formed : (o : Option SheetLine) → AllIn IsEarly o → IsEarly (unwrap_or o line.Malformed)
    formed None h = tt
    formed (Some found) h = h

    comment : (b : Bool) (found : SheetLine) → IsEarly found → IsEarly (if b then line.Comment else found)
    comment true found h = tt
    comment false found h = h

    short : (l : List ℕ) → IsEarly (short_line rate l)
    short [] = tt
    short (c ∷ more) =
        comment (c == 35) (unwrap_or (form_of rate (c ∷ more)) line.Malformed)
        (formed (form_of rate (c ∷ more)) (or-in IsEarly _ _ (at-early rate (c ∷ more)) (or-in IsEarly _ _ (after-early (c ∷ more)) (end-early rate (c ∷ more)))))

    long : (b : Bool) → IsEarly (short_line rate text) → IsEarly (if b then line.Malformed else short_line rate text)
    long true h = tt
    long false h = h

end_of-early : (rate : ℕ) (texts : List (List ℕ)) → AllIn IsMoment (end_of (map (line_of rate) texts))
end_of-early rate [] = tt
end_of-early rate (text ∷ texts) = by (line_of rate text) (line-early rate text) (end_of-early rate texts)
  where
    by : (found : SheetLine) → IsEarly found → AllIn IsMoment (end_of (map (line_of rate) texts)) → AllIn IsMoment (end_of (found ∷ map (line_of rate) texts))
    by line.Comment h rest = rest
    by (line.Cue cue) h rest = rest
    by (line.End moment) h rest = h
    by line.Malformed h rest = rest

sheet-early : (found : Option ℕ) (said : List SheetLine) (sheet : SheetView) → AllIn IsMoment (end_of said) → sheet_unless found said ≡ Ok sheet → IsMoment sheet.ticks
sheet-early (Some at) said sheet h e = absurd (cc)
sheet-early None said sheet h e = by (end_of said) h e
  where
    by : (ticks : Option ℕ) → AllIn IsMoment ticks → ended_sheet (cues_of said) ticks ≡ Ok sheet → IsMoment sheet.ticks
    by None k s = absurd (cc)
    by (Some ticks) k s =
        let whole : SheetView = record { cues = cues_of said; ticks = ticks } in
        let same : whole ≡ sheet = cc in
        subst (λ (one : SheetView). IsMoment one.ticks) same k

pub ticks-early : (rate : ℕ) (bytes : List ℕ) (sheet : SheetView) → sheet_of rate bytes ≡ Ok sheet → sheet.ticks ≤ MAX_MOMENT
ticks-early rate bytes sheet e =
    let said : List SheetLine = map (line_of rate) (lines bytes) in
    sheet-early (first_fault [] said) said sheet (end_of-early rate (lines bytes)) e
