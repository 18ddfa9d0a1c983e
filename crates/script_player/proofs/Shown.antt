-- What is written for a script that grows by one line, however its ticks are shown.
use Rattle.std.proofs.Common.{◌≡◌, ℕ, zero, suc, Bool, true, false, cond, List, [], ◌∷◌, ◌++◌, refl, sym, ap, ◌∙◌, append_assoc, append-nil, replicate}
use Rattle.play_types.specs.declared.event.Event.{Event}
use Rattle.play_types.specs.declared.event.Event.TheVariants as event
use Rattle.history_model.specs.scripts.Line.{ScriptLine, Comment, Ticks, Said, Stop, Rejected}
use Rattle.history_model.specs.scripts.History.{Playout, PlayedLine, ends_at, goes_on, goes_on_after, script_events}
use Rattle.history_model.specs.scripts.Output.{output_after, output_at, script_output, tick_output, ticks_output}
use Rattle.history_model.proofs.Outputs.{first_goes_on, script_output-ended, script_output-none, script_output-snoc, ticks_output-none, ticks_output-snoc}
use Rattle.script_player.specs.Shown.{Shown, Frames, ByText, Replies, line_by, no_text, output_after_by, output_by, shown_line, shown_output, shown_tick, shown_ticks, ticks_by}

last_text : (b : Bool) (text : List ℕ) → (text ++ cond b [] []) ≡ text
last_text true text = append-nil text
last_text false text = append-nil text

output_after_by-snoc : (tick : List Event → List ℕ) (playout : Playout) (before lines : List PlayedLine) (line : PlayedLine) → goes_on_after playout before lines ≡ true
    → output_after_by tick playout before (lines ++ line ∷ []) ≡ output_after_by tick playout before lines ++ line_by tick playout (before ++ lines) line line.line
unfolding output_after_by goes_on_after
output_after_by-snoc tick playout before [] line on =
    last_text (ends_at playout before line line.line) (line_by tick playout before line line.line)
    ∙ ap (λ ls. line_by tick playout ls line line.line) (sym (append-nil before))
output_after_by-snoc tick playout before (first ∷ lines) line on =
    let here = line_by tick playout before first first.line in
    let parts = first_goes_on (ends_at playout before first first.line) (goes_on_after playout (before ++ first ∷ []) lines) on in
    let later = output_after_by-snoc tick playout (before ++ first ∷ []) lines line parts.1 in
    ap (λ (b : Bool). here ++ cond b [] (output_after_by tick playout (before ++ first ∷ []) (lines ++ line ∷ []))) parts.0
    ∙ ap (λ (text : List ℕ). here ++ text)
    (later ∙ ap (λ ls. output_after_by tick playout (before ++ first ∷ []) lines ++ line_by tick playout ls line line.line) (append_assoc before (first ∷ []) lines))
    ∙ sym (append_assoc here (output_after_by tick playout (before ++ first ∷ []) lines) (line_by tick playout (before ++ first ∷ lines) line line.line))
    ∙ ap (λ (b : Bool). (here ++ cond b [] (output_after_by tick playout (before ++ first ∷ []) lines)) ++ line_by tick playout (before ++ first ∷ lines) line line.line)
    (sym parts.0)

-- nothing is written for what follows a line at which the run ends
output_after_by-ended : (tick : List Event → List ℕ) (playout : Playout) (before lines : List PlayedLine) (line : PlayedLine) (rest : List PlayedLine) → goes_on_after playout before lines ≡ true
    → ends_at playout (before ++ lines) line line.line ≡ true
    → output_after_by tick playout before (lines ++ line ∷ rest) ≡ output_after_by tick playout before (lines ++ line ∷ [])
unfolding output_after_by goes_on_after
output_after_by-ended tick playout before [] line rest on ends =
    let here = ap (λ ls. ends_at playout ls line line.line) (sym (append-nil before)) ∙ ends in
    ap (λ (b : Bool). line_by tick playout before line line.line ++ cond b [] (output_after_by tick playout (before ++ line ∷ []) rest)) here
    ∙ ap (λ (b : Bool). line_by tick playout before line line.line ++ cond b [] []) (sym here)
output_after_by-ended tick playout before (first ∷ lines) line rest on ends =
    let here = line_by tick playout before first first.line in
    let parts = first_goes_on (ends_at playout before first first.line) (goes_on_after playout (before ++ first ∷ []) lines) on in
    ap (λ (text : List ℕ). here ++ cond (ends_at playout before first first.line) [] text)
    (output_after_by-ended tick playout (before ++ first ∷ []) lines line rest parts.1
    (ap (λ ls. ends_at playout ls line line.line) (append_assoc before (first ∷ []) lines) ∙ ends))

-- what is written for a line comes after what is written for the lines before it
pub shown_output-snoc : (shown : Shown) (playout : Playout) (lines : List PlayedLine) (line : PlayedLine) → goes_on playout lines ≡ true
    → shown_output shown playout (lines ++ line ∷ []) ≡ shown_output shown playout lines ++ shown_line shown playout lines line line.line
unfolding output_by goes_on
shown_output-snoc Frames playout lines line on = script_output-snoc playout lines line on
shown_output-snoc (ByText tick) playout lines line on = output_after_by-snoc (tick playout) playout [] lines line on
shown_output-snoc Replies playout lines line on = output_after_by-snoc no_text playout [] lines line on

pub shown_output-none : (shown : Shown) (playout : Playout) → shown_output shown playout [] ≡ []
unfolding output_by output_after_by
shown_output-none Frames playout = script_output-none playout
shown_output-none (ByText tick) playout = refl
shown_output-none Replies playout = refl

pub shown_output-ended : (shown : Shown) (playout : Playout) (lines : List PlayedLine) (line : PlayedLine) (rest : List PlayedLine) → goes_on playout lines ≡ true
    → ends_at playout lines line line.line ≡ true
    → shown_output shown playout (lines ++ line ∷ rest) ≡ shown_output shown playout lines ++ shown_line shown playout lines line line.line
unfolding output_by goes_on
shown_output-ended Frames playout lines line rest on ends = script_output-ended playout lines line rest on ends
shown_output-ended (ByText tick) playout lines line rest on ends =
    output_after_by-ended (tick playout) playout [] lines line rest on ends ∙ output_after_by-snoc (tick playout) playout [] lines line on
shown_output-ended Replies playout lines line rest on ends =
    output_after_by-ended no_text playout [] lines line rest on ends ∙ output_after_by-snoc no_text playout [] lines line on

-- the text of a line of ticks
pub ticks_line : (shown : Shown) (playout : Playout) (before : List PlayedLine) (line : PlayedLine) (count : ℕ)
    → shown_line shown playout before line (Ticks count) ≡ shown_ticks shown playout (script_events playout before) count
ticks_line Frames playout before line count = refl
ticks_line (ByText tick) playout before line count = refl
ticks_line Replies playout before line count = refl

-- what is written for another line does not depend on how ticks are shown
pub said_line : (shown : Shown) (playout : Playout) (before : List PlayedLine) (line : PlayedLine) (said : ScriptLine) → ((count : ℕ) → said ≡ Ticks count → ⊥)
    → shown_line shown playout before line said ≡ output_at playout before line said
said_line Frames playout before line said other = refl
said_line (ByText tick) playout before line Comment other = refl
said_line (ByText tick) playout before line (Ticks count) other = absurd (other count refl)
said_line (ByText tick) playout before line (Said tag text) other = refl
said_line (ByText tick) playout before line Stop other = refl
said_line (ByText tick) playout before line Rejected other = refl
said_line Replies playout before line Comment other = refl
said_line Replies playout before line (Ticks count) other = absurd (other count refl)
said_line Replies playout before line (Said tag text) other = refl
said_line Replies playout before line Stop other = refl
said_line Replies playout before line Rejected other = refl

ticks_by-snoc : (tick : List Event → List ℕ) (events : List Event) (count : ℕ) → ticks_by tick events (suc count) ≡ ticks_by tick events count ++ tick (events ++ replicate count event.Tick)
unfolding ticks_by
ticks_by-snoc tick events zero = append-nil (tick events) ∙ ap tick (sym (append-nil events))
ticks_by-snoc tick events (suc count) =
    ap (λ (text : List ℕ). tick events ++ text)
    (ticks_by-snoc tick (events ++ event.Tick ∷ []) count
    ∙ ap (λ (es : List Event). ticks_by tick (events ++ event.Tick ∷ []) count ++ tick es) (append_assoc events (event.Tick ∷ []) (replicate count event.Tick)))
    ∙ sym (append_assoc (tick events) (ticks_by tick (events ++ event.Tick ∷ []) count) (tick (events ++ replicate (suc count) event.Tick)))

-- what is written for one tick more
pub shown_ticks-snoc : (shown : Shown) (playout : Playout) (events : List Event) (count : ℕ)
    → shown_ticks shown playout events (suc count) ≡ shown_ticks shown playout events count ++ shown_tick shown playout (events ++ replicate count event.Tick)
shown_ticks-snoc Frames playout events count = ticks_output-snoc playout events count
shown_ticks-snoc (ByText tick) playout events count = ticks_by-snoc (tick playout) events count
shown_ticks-snoc Replies playout events count = ticks_by-snoc no_text events count

pub shown_ticks-none : (shown : Shown) (playout : Playout) (events : List Event) → shown_ticks shown playout events 0 ≡ []
unfolding ticks_by
shown_ticks-none Frames playout events = ticks_output-none playout events
shown_ticks-none (ByText tick) playout events = refl
shown_ticks-none Replies playout events = refl

frames_ticks : (playout : Playout) (events : List Event) (count : ℕ) → ticks_by (tick_output playout) events count ≡ ticks_output playout events count
unfolding ticks_by ticks_output
frames_ticks playout events zero = refl
frames_ticks playout events (suc count) = ap (λ (text : List ℕ). tick_output playout events ++ text) (frames_ticks playout (events ++ event.Tick ∷ []) count)

-- with `tick_output` as the text of ticks, each line is written as with frames
frames_line : (playout : Playout) (before : List PlayedLine) (line : PlayedLine) (said : ScriptLine) → line_by (tick_output playout) playout before line said ≡ output_at playout before line said
frames_line playout before line Comment = refl
frames_line playout before line (Ticks count) = frames_ticks playout (script_events playout before) count
frames_line playout before line (Said tag text) = refl
frames_line playout before line Stop = refl
frames_line playout before line Rejected = refl

frames_after : (playout : Playout) (before lines : List PlayedLine) → output_after_by (tick_output playout) playout before lines ≡ output_after playout before lines
unfolding output_after_by output_after
frames_after playout before [] = refl
frames_after playout before (line ∷ lines) =
    ap (λ (text : List ℕ). text ++ cond (ends_at playout before line line.line) [] (output_after_by (tick_output playout) playout (before ++ line ∷ []) lines)) (frames_line playout before line line.line)
    ∙ ap (λ (later : List ℕ). output_at playout before line line.line ++ cond (ends_at playout before line line.line) [] later) (frames_after playout (before ++ line ∷ []) lines)

pub output_by_frames : (playout : Playout) (lines : List PlayedLine) → output_by (tick_output playout) playout lines ≡ script_output playout lines
unfolding output_by script_output
output_by_frames playout lines = frames_after playout [] lines
