-- A log that is kept, read by read of the journal.
use Rattle.std.proofs.Common.{◌≡◌, ℕ, Bool, true, List, [], ◌∷◌, ◌++◌, refl, sym, ap, ◌∙◌, subst, append_assoc, append-nil}
use Rattle.std.specs.List.{flat_map}
use Rattle.std.specs.Option.{is_some}
use Rattle.std.proofs.lemmas.List.Concat.{flat_map-append}
use mathlib.Core.List.{IsPrefix}
use Rattle.play_types.specs.History.{stop_at}
use Rattle.play_types.specs.Media.{MediaNameView}
use Rattle.play_types.specs.declared.event.Event.{Event}
use Rattle.play_outside.specs.Sink.{Sends}
use Rattle.play_outside.specs.SinkState.{SinkState, after_taking}
use Rattle.play_outside.specs.declared.sink.Sent.{Sent}
use Rattle.play_outside.specs.declared.sink.Sent.TheVariants as sent
use Rattle.play_outside.proofs.Sending.{Sends-last}
use Rattle.play_outside.proofs.Taking.{after_taking-nil}
use Rattle.play_journal.specs.Places.{Copies, Passed, passed}
use Rattle.play_journal.specs.Runs.{AreRuns, Run, events_of}
use Rattle.play_journal.proofs.Places.{behind_stop}
use Rattle.stage_lock.specs.Calls.{Looks}
use Rattle.stage_lock.specs.Views.{PassView}
use Rattle.stage_lock.proofs.Prefixes.{prefix_self, prefix_trans}
use Rattle.history_model.specs.text.History.{history_text, joined_events, log_text}
use Rattle.history_log.specs.Log.{KeepsLog, Moment}

-- what a read of the journal copies if the place is after the past events
abbrev pub IsCopied : List Event → Passed → Passed → List Run → Bool → List Event → Type 0
IsCopied given old new runs is_all history =
    (past later : List Event) → given ++ history ≡ past ++ later → old ≡ passed past → Copies past later is_all new runs

-- the pass made no event
abbrev IsIdle : PassView → PassView → Type 0
IsIdle old new = (new.made ≡ old.made) × (new.ends ≡ old.ends) × (new.number ≡ old.number)

-- the given events and what the pass has seen are these pieces, and then what is unwritten. The place is after the pieces, and nothing is
-- unwritten after the stop
pub record HasSeen (given : List Event) (old new : PassView) (place : Passed) (pieces : List (List Event)) : Type 0 where
  pub unwritten : List Event
  pub whole : given ++ new.seen ≡ joined_events pieces ++ unwritten
  pub seen : IsPrefix old.seen new.seen
  pub at : place ≡ passed (joined_events pieces)
  pub stop : place.stopped ≡ true → unwritten ≡ []
  pub idle : IsIdle old new

-- the pieces of which the text was written, and what is unwritten of the given events and of what the pass has seen
pub record IsKeeping (given : List Event) (names : List MediaNameView) (old new : Moment) (place : Passed) : Type 0 where
  pub pieces : List (List Event)
  pub unwritten : List Event
  pub whole : given ++ new.pass.seen ≡ joined_events pieces ++ unwritten
  pub seen : IsPrefix old.pass.seen new.pass.seen
  pub at : place ≡ passed (joined_events pieces)
  pub idle : IsIdle old.pass new.pass
  pub sink : new.sink ≡ after_taking old.sink (log_text names pieces)

-- before the first read nothing was written
pub none_kept : (given : List Event) (names : List MediaNameView) (old : Moment) (place : Passed) → place ≡ passed [] → IsKeeping given names old old place
none_kept given names old place at = record {
  pieces = [];
  unwritten = given ++ old.pass.seen;
  whole = refl;
  seen = prefix_self old.pass.seen;
  at = at;
  idle = (refl, refl, refl);
  sink = sym (after_taking-nil old.sink);
}

-- one more piece
joined_more : (pieces : List (List Event)) (piece : List Event) → joined_events (pieces ++ piece ∷ []) ≡ joined_events pieces ++ piece
joined_more pieces piece =
    flat_map-append (λ (p : List Event). p) pieces (piece ∷ []) ∙ ap (λ (es : List Event). joined_events pieces ++ es) (append-nil piece)

text_more : (names : List MediaNameView) (pieces : List (List Event)) (piece : List Event)
    → log_text names (pieces ++ piece ∷ []) ≡ log_text names pieces ++ history_text names piece
text_more names pieces piece =
    flat_map-append (history_text names) pieces (piece ∷ [])
    ∙ ap (λ (text : List ℕ). log_text names pieces ++ text) (append-nil (history_text names piece))

-- a read has copied the runs of one more piece, whose text is not written yet
pub record HasLooked (given : List Event) (names : List MediaNameView) (old now : Moment) (place : Passed) (runs : List Run) : Type 0 where
  pub pieces : List (List Event)
  pub piece : List Event
  pub are : AreRuns runs piece
  pub seen : HasSeen given old.pass now.pass place (pieces ++ piece ∷ [])
  pub sink : now.sink ≡ after_taking old.sink (log_text names pieces)

pub one_looked : (given : List Event) (names : List MediaNameView) (old now : Moment) (after : PassView) (place new : Passed) (runs : List Run) (is_all : Bool)
    → IsKeeping given names old now place → Looks now.pass (IsCopied given place new runs is_all) after
    → HasLooked given names old (record { pass = after; sink = now.sink }) new runs
one_looked given names old now after place new runs is_all kept looks =
    let past : List Event = joined_events kept.pieces in
    let more : List Event = looks.found.seen.0 in
    let later : List Event = kept.unwritten ++ more in
    let parts : given ++ looks.history ≡ past ++ later =
    ap (λ (seen : List Event). given ++ seen) (sym looks.found.seen.1)
    ∙ sym (append_assoc given now.pass.seen more)
    ∙ ap (λ (all : List Event). all ++ more) kept.whole
    ∙ append_assoc past kept.unwritten more in
    let copies = looks.told past later parts kept.at in
    let joined : past ++ copies.part ≡ joined_events (kept.pieces ++ copies.part ∷ []) = sym (joined_more kept.pieces copies.part) in
    record {
      pieces = kept.pieces;
      piece = copies.part;
      are = copies.are;
      seen = record {
        unwritten = copies.rest;
        whole =
            ap (λ (pass : PassView). given ++ pass.seen) looks.after
            ∙ parts
            ∙ ap (λ (es : List Event). past ++ es) copies.whole
            ∙ sym (append_assoc past copies.part copies.rest)
            ∙ ap (λ (es : List Event). es ++ copies.rest) joined;
        seen = prefix_trans old.pass.seen now.pass.seen after.seen kept.seen
            (subst (λ (pass : PassView). IsPrefix now.pass.seen pass.seen) (sym looks.after) looks.found.seen);
        at = copies.place ∙ ap passed joined;
        stop = copies.stop;
        idle = (
          ap (λ (pass : PassView). pass.made) looks.after ∙ kept.idle.0,
          ap (λ (pass : PassView). pass.ends) looks.after ∙ kept.idle.1,
          ap (λ (pass : PassView). pass.number) looks.after ∙ kept.idle.2,
        );
      };
      sink = kept.sink;
    }

-- the text of the piece was sent, or a write of it failed
pub piece_sent : (given : List Event) (result : Sent) (names : List MediaNameView) (old now : Moment) (sink : SinkState) (place : Passed) (runs : List Run)
    → (looked : HasLooked given names old now place runs) → Sends result (history_text names (flat_map events_of runs)) now.sink sink
    → Sends result (log_text names (looked.pieces ++ looked.piece ∷ [])) old.sink sink
piece_sent given result names old now sink place runs looked sends =
    Sends-last result (log_text names (looked.pieces ++ looked.piece ∷ [])) (log_text names looked.pieces) (history_text names looked.piece)
    old.sink now.sink sink (text_more names looked.pieces looked.piece) looked.sink
    (subst (λ (events : List Event). Sends result (history_text names events) now.sink sink) looked.are.whole sends)

-- the log goes on
pub piece_kept : (given : List Event) (names : List MediaNameView) (old now : Moment) (sink : SinkState) (place : Passed) (runs : List Run)
    → HasLooked given names old now place runs → Sends sent.All (history_text names (flat_map events_of runs)) now.sink sink
    → IsKeeping given names old (record { pass = now.pass; sink = sink }) place
piece_kept given names old now sink place runs looked sends = record {
  pieces = looked.pieces ++ looked.piece ∷ [];
  unwritten = looked.seen.unwritten;
  whole = looked.seen.whole;
  seen = looked.seen.seen;
  at = looked.seen.at;
  idle = looked.seen.idle;
  sink = piece_sent given sent.All names old now sink place runs looked sends;
}

-- the log ends: after the stop, or with a write that failed
pub log_ends : (given : List Event) (result : Sent) (names : List MediaNameView) (old now : Moment) (sink : SinkState) (place : Passed) (runs : List Run)
    → HasLooked given names old now place runs → Sends result (history_text names (flat_map events_of runs)) now.sink sink
    → (result ≡ sent.All → place.stopped ≡ true) → KeepsLog given names result old (record { pass = now.pass; sink = sink })
log_ends given result names old now sink place runs looked sends ends = record {
  pieces = looked.pieces ++ looked.piece ∷ [];
  unwritten = looked.seen.unwritten;
  whole = looked.seen.whole;
  seen = looked.seen.seen;
  all = λ all.
      let none : looked.seen.unwritten ≡ [] = looked.seen.stop (ends all) in
      let pieces : List (List Event) = looked.pieces ++ looked.piece ∷ [] in
      let seen : joined_events pieces ≡ given ++ now.pass.seen =
      sym (looked.seen.whole ∙ ap (λ (es : List Event). joined_events pieces ++ es) none ∙ append-nil (joined_events pieces)) in (
        none,
        ap (λ (es : List Event). is_some (stop_at es)) (sym seen)
            ∙ sym (behind_stop (joined_events pieces))
            ∙ ap (λ (p : Passed). p.stopped) (sym looked.seen.at)
            ∙ ends all,
      );
  sends = piece_sent given result names old now sink place runs looked sends;
  idle = looked.seen.idle;
}
