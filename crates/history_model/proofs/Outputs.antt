-- The history and the output of a script that grows by one line.
use Rattle.std.proofs.Common.{◌≡◌, ℕ, zero, suc, Bool, true, false, cond, List, [], ◌∷◌, ◌++◌, refl, sym, ap, ◌∙◌, append_assoc, append-nil, replicate}
use Rattle.std.proofs.lemmas.Bool.{false≢true}
use Rattle.play_types.specs.declared.event.Event.{Event}
use Rattle.play_types.specs.declared.event.Event.TheVariants as event
use Rattle.history_model.specs.scripts.History.{Playout, PlayedLine, Past, events_at, ends_at, events_after, script_events, goes_on_after, goes_on}
use Rattle.history_model.specs.scripts.Output.{tick_output, ticks_output, output_at, output_after, script_output}

-- the run goes on after lines only if it goes on after the first of them
pub first_goes_on : (b more : Bool) → cond b false more ≡ true → (b ≡ false) × (more ≡ true)
first_goes_on true more on = absurd (false≢true on)
first_goes_on false more on = (refl, on)

-- the run goes on after all lines and one more, if it goes on after the lines and does not end at the next
goes_on_after-snoc : (playout : Playout) (before lines : List PlayedLine) (line : PlayedLine) → goes_on_after playout before lines ≡ true
    → ends_at playout (before ++ lines) line line.line ≡ false → goes_on_after playout before (lines ++ line ∷ []) ≡ true
unfolding goes_on_after
goes_on_after-snoc playout before [] line on goes =
    ap (λ (b : Bool). cond b false true) (ap (λ ls. ends_at playout ls line line.line) (sym (append-nil before)) ∙ goes)
goes_on_after-snoc playout before (first ∷ lines) line on goes =
    let parts = first_goes_on (ends_at playout before first first.line) (goes_on_after playout (before ++ first ∷ []) lines) on in
    ap (λ (b : Bool). cond b false (goes_on_after playout (before ++ first ∷ []) (lines ++ line ∷ []))) parts.0
    ∙ goes_on_after-snoc playout (before ++ first ∷ []) lines line parts.1
    (ap (λ ls. ends_at playout ls line line.line) (append_assoc before (first ∷ []) lines) ∙ goes)

pub goes_on-snoc : (playout : Playout) (lines : List PlayedLine) (line : PlayedLine) → goes_on playout lines ≡ true
    → ends_at playout lines line line.line ≡ false → goes_on playout (lines ++ line ∷ []) ≡ true
unfolding goes_on
goes_on-snoc playout lines line on goes = goes_on_after-snoc playout [] lines line on goes

pub goes_on-none : (playout : Playout) → goes_on playout [] ≡ true
unfolding goes_on goes_on_after
goes_on-none playout = refl

-- what the last line adds, whether the run ends at it or not
last_events : (b : Bool) (es : List Event) → cond b es es ≡ es
last_events true es = refl
last_events false es = refl

events_after-snoc : (playout : Playout) (past : Past) (lines : List PlayedLine) (line : PlayedLine) → goes_on_after playout past.lines lines ≡ true
    → events_after playout past (lines ++ line ∷ [])
    ≡ events_after playout past lines ++ events_at playout (record { lines = past.lines ++ lines; events = events_after playout past lines }) line line.line
unfolding events_after goes_on_after
events_after-snoc playout past [] line on =
    last_events (ends_at playout past.lines line line.line) (past.events ++ events_at playout past line line.line)
    ∙ ap (λ ls. past.events ++ events_at playout (record { lines = ls; events = past.events }) line line.line) (sym (append-nil past.lines))
events_after-snoc playout past (first ∷ lines) line on =
    let here = past.events ++ events_at playout past first first.line in
    let next : Past = record { lines = past.lines ++ first ∷ []; events = here } in
    let parts = first_goes_on (ends_at playout past.lines first first.line) (goes_on_after playout (past.lines ++ first ∷ []) lines) on in
    ap (λ (b : Bool). cond b here (events_after playout next (lines ++ line ∷ []))) parts.0
    ∙ events_after-snoc playout next lines line parts.1
    ∙ ap (λ ls. events_after playout next lines ++ events_at playout (record { lines = ls; events = events_after playout next lines }) line line.line)
    (append_assoc past.lines (first ∷ []) lines)
    ∙ ap (λ (b : Bool). cond b here (events_after playout next lines)
    ++ events_at playout (record { lines = past.lines ++ first ∷ lines; events = cond b here (events_after playout next lines) }) line line.line)
    (sym parts.0)

-- the events of a line come after those of the lines before it
pub script_events-snoc : (playout : Playout) (lines : List PlayedLine) (line : PlayedLine) → goes_on playout lines ≡ true
    → script_events playout (lines ++ line ∷ [])
    ≡ script_events playout lines ++ events_at playout (record { lines = lines; events = script_events playout lines }) line line.line
unfolding script_events goes_on
script_events-snoc playout lines line on = events_after-snoc playout (record { lines = []; events = [] }) lines line on

pub script_events-none : (playout : Playout) → script_events playout [] ≡ []
unfolding script_events events_after
script_events-none playout = refl

last_text : (b : Bool) (text : List ℕ) → (text ++ cond b [] []) ≡ text
last_text true text = append-nil text
last_text false text = append-nil text

output_after-snoc : (playout : Playout) (before lines : List PlayedLine) (line : PlayedLine) → goes_on_after playout before lines ≡ true
    → output_after playout before (lines ++ line ∷ []) ≡ output_after playout before lines ++ output_at playout (before ++ lines) line line.line
unfolding output_after goes_on_after
output_after-snoc playout before [] line on =
    last_text (ends_at playout before line line.line) (output_at playout before line line.line)
    ∙ ap (λ ls. output_at playout ls line line.line) (sym (append-nil before))
output_after-snoc playout before (first ∷ lines) line on =
    let here = output_at playout before first first.line in
    let parts = first_goes_on (ends_at playout before first first.line) (goes_on_after playout (before ++ first ∷ []) lines) on in
    let later = output_after-snoc playout (before ++ first ∷ []) lines line parts.1 in
    ap (λ (b : Bool). here ++ cond b [] (output_after playout (before ++ first ∷ []) (lines ++ line ∷ []))) parts.0
    ∙ ap (λ (text : List ℕ). here ++ text)
    (later ∙ ap (λ ls. output_after playout (before ++ first ∷ []) lines ++ output_at playout ls line line.line) (append_assoc before (first ∷ []) lines))
    ∙ sym (append_assoc here (output_after playout (before ++ first ∷ []) lines) (output_at playout (before ++ first ∷ lines) line line.line))
    ∙ ap (λ (b : Bool). (here ++ cond b [] (output_after playout (before ++ first ∷ []) lines)) ++ output_at playout (before ++ first ∷ lines) line line.line)
    (sym parts.0)

-- what is written for a line comes after what is written for the lines before it
pub script_output-snoc : (playout : Playout) (lines : List PlayedLine) (line : PlayedLine) → goes_on playout lines ≡ true
    → script_output playout (lines ++ line ∷ []) ≡ script_output playout lines ++ output_at playout lines line line.line
unfolding script_output goes_on
script_output-snoc playout lines line on = output_after-snoc playout [] lines line on

pub script_output-none : (playout : Playout) → script_output playout [] ≡ []
unfolding script_output output_after
script_output-none playout = refl

-- nothing is written for what follows a line at which the run ends
output_after-ended : (playout : Playout) (before lines : List PlayedLine) (line : PlayedLine) (rest : List PlayedLine) → goes_on_after playout before lines ≡ true
    → ends_at playout (before ++ lines) line line.line ≡ true
    → output_after playout before (lines ++ line ∷ rest) ≡ output_after playout before (lines ++ line ∷ [])
unfolding output_after goes_on_after
output_after-ended playout before [] line rest on ends =
    let here = ap (λ ls. ends_at playout ls line line.line) (sym (append-nil before)) ∙ ends in
    ap (λ (b : Bool). output_at playout before line line.line ++ cond b [] (output_after playout (before ++ line ∷ []) rest)) here
    ∙ ap (λ (b : Bool). output_at playout before line line.line ++ cond b [] []) (sym here)
output_after-ended playout before (first ∷ lines) line rest on ends =
    let here = output_at playout before first first.line in
    let parts = first_goes_on (ends_at playout before first first.line) (goes_on_after playout (before ++ first ∷ []) lines) on in
    ap (λ (text : List ℕ). here ++ cond (ends_at playout before first first.line) [] text)
    (output_after-ended playout (before ++ first ∷ []) lines line rest parts.1
    (ap (λ ls. ends_at playout ls line line.line) (append_assoc before (first ∷ []) lines) ∙ ends))

pub script_output-ended : (playout : Playout) (lines : List PlayedLine) (line : PlayedLine) (rest : List PlayedLine) → goes_on playout lines ≡ true
    → ends_at playout lines line line.line ≡ true
    → script_output playout (lines ++ line ∷ rest) ≡ script_output playout lines ++ output_at playout lines line line.line
unfolding script_output goes_on
script_output-ended playout lines line rest on ends =
    output_after-ended playout [] lines line rest on ends ∙ output_after-snoc playout [] lines line on

-- what is written for one tick more
pub ticks_output-snoc : (playout : Playout) (events : List Event) (count : ℕ) → ticks_output playout events (suc count) ≡ ticks_output playout events count ++ tick_output playout (events ++ replicate count event.Tick)
unfolding ticks_output
ticks_output-snoc playout events zero =
    append-nil (tick_output playout events) ∙ ap (tick_output playout) (sym (append-nil events))
ticks_output-snoc playout events (suc count) =
    ap (λ (text : List ℕ). tick_output playout events ++ text)
    (ticks_output-snoc playout (events ++ event.Tick ∷ []) count
    ∙ ap (λ (es : List Event). ticks_output playout (events ++ event.Tick ∷ []) count ++ tick_output playout es)
    (append_assoc events (event.Tick ∷ []) (replicate count event.Tick)))
    ∙ sym (append_assoc (tick_output playout events) (ticks_output playout (events ++ event.Tick ∷ []) count)
    (tick_output playout (events ++ replicate (suc count) event.Tick)))

pub ticks_output-none : (playout : Playout) (events : List Event) → ticks_output playout events 0 ≡ []
unfolding ticks_output
ticks_output-none playout events = refl
