-- The output and the history of a script begin with those of its first lines.
use Rattle.std.proofs.Common.{◌≡◌, ℕ, Bool, true, false, cond, List, [], ◌∷◌, ◌++◌, refl, sym, ap, ◌∙◌, append_assoc, append-nil}
use Rattle.play_types.specs.declared.event.Event.{Event}
use Rattle.history_model.specs.scripts.History.{Playout, PlayedLine, Past, events_at, ends_at, events_after, script_events}
use Rattle.history_model.specs.scripts.Output.{output_at, output_after, script_output}

-- a list with more after it, unless nothing follows
more_unless : {A : Type 0} (ends : Bool) (here rest all : List A) → (more : List A) × (all ≡ rest ++ more) →
    (more : List A) × (here ++ cond ends [] all ≡ (here ++ cond ends [] rest) ++ more)
more_unless true here rest all found = ([], sym (append-nil (here ++ [])))
more_unless false here rest all (more, e) = (more, ap (λ l. here ++ l) e ∙ sym (append_assoc here rest more))

output_after-later : (playout : Playout) (before lines later : List PlayedLine) → (more : List ℕ) ×
    (output_after playout before (lines ++ later) ≡ output_after playout before lines ++ more)
unfolding output_after
output_after-later playout before [] later = (output_after playout before later, refl)
output_after-later playout before (line ∷ lines) later =
    more_unless (ends_at playout before line line.line) (output_at playout before line line.line)
    (output_after playout (before ++ line ∷ []) lines) (output_after playout (before ++ line ∷ []) (lines ++ later))
    (output_after-later playout (before ++ line ∷ []) lines later)

pub script_output-later : (playout : Playout) (lines later : List PlayedLine) → (more : List ℕ) ×
    (script_output playout (lines ++ later) ≡ script_output playout lines ++ more)
unfolding script_output
script_output-later playout lines later = output_after-later playout [] lines later

-- the events of lines come after those of the lines before them
added_by : (ends : Bool) (here all : List Event) → (more : List Event) × (all ≡ here ++ more) → (more : List Event) × (cond ends here all ≡ here ++ more)
added_by true here all found = ([], sym (append-nil here))
added_by false here all found = found

after_first : (before added all : List Event) → (more : List Event) × (all ≡ (before ++ added) ++ more) → (more : List Event) × (all ≡ before ++ more)
after_first before added all (more, e) = (added ++ more, e ∙ append_assoc before added more)

events_after-begins : (playout : Playout) (past : Past) (lines : List PlayedLine) → (more : List Event) ×
    (events_after playout past lines ≡ past.events ++ more)
unfolding events_after
events_after-begins playout past [] = ([], sym (append-nil past.events))
events_after-begins playout past (line ∷ lines) =
    let here = events_at playout past line line.line in
    let next : Past = record { lines = past.lines ++ line ∷ []; events = past.events ++ here } in
    let ends = ends_at playout past.lines line line.line in
    after_first past.events here (cond ends (past.events ++ here) (events_after playout next lines))
    (added_by ends (past.events ++ here) (events_after playout next lines) (events_after-begins playout next lines))

unless_ended : (ends : Bool) (here rest all : List Event) → (more : List Event) × (all ≡ rest ++ more) →
    (more : List Event) × (cond ends here all ≡ cond ends here rest ++ more)
unless_ended true here rest all found = ([], sym (append-nil here))
unless_ended false here rest all found = found

events_after-later : (playout : Playout) (past : Past) (lines later : List PlayedLine) → (more : List Event) ×
    (events_after playout past (lines ++ later) ≡ events_after playout past lines ++ more)
unfolding events_after
events_after-later playout past [] later = events_after-begins playout past later
events_after-later playout past (line ∷ lines) later =
    let here = past.events ++ events_at playout past line line.line in
    let next : Past = record { lines = past.lines ++ line ∷ []; events = here } in
    unless_ended (ends_at playout past.lines line line.line) here (events_after playout next lines) (events_after playout next (lines ++ later))
    (events_after-later playout next lines later)

pub script_events-later : (playout : Playout) (lines later : List PlayedLine) → (more : List Event) ×
    (script_events playout (lines ++ later) ≡ script_events playout lines ++ more)
unfolding script_events
script_events-later playout lines later = events_after-later playout (record { lines = []; events = [] }) lines later
