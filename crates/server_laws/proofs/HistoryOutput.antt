-- What a replay writes for an event, among what it writes for the whole history.
use Rattle.std.proofs.Common.{◌≡◌, ℕ, List, [], ◌∷◌, ◌++◌, sym, ap, ◌∙◌, append_assoc, append-nil}
use Rattle.play_types.specs.declared.event.Event.{Event}
use Rattle.history_model.specs.scripts.History.{Playout}
use Rattle.history_replay.specs.ReplayOutput.{event_output, events_output, history_output}

events_output-append : (playout : Playout) (before events later : List Event)
    → events_output playout before (events ++ later) ≡ events_output playout before events ++ events_output playout (before ++ events) later
events_output-append playout before [] later = ap (λ (es : List Event). events_output playout es later) (sym (append-nil before))
events_output-append playout before (event ∷ events) later =
    let next = before ++ event ∷ [] in
    ap (λ (text : List ℕ). event_output playout before event ++ text)
    (events_output-append playout next events later
    ∙ ap (λ (es : List Event). events_output playout next events ++ events_output playout es later) (append_assoc before (event ∷ []) events))
    ∙ sym (append_assoc (event_output playout before event) (events_output playout next events) (events_output playout (before ++ event ∷ events) later))

pub history_output-at : (playout : Playout) (before : List Event) (event : Event) (later : List Event)
    → history_output playout (before ++ event ∷ later)
    ≡ history_output playout before ++ event_output playout before event ++ events_output playout (before ++ event ∷ []) later
unfolding history_output
history_output-at playout before event later =
    events_output-append playout [] before (event ∷ later)
    ∙ sym (append_assoc (events_output playout [] before) (event_output playout before event) (events_output playout (before ++ event ∷ []) later))
