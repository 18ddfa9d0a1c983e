-- What is recorded, event by event, and texts that are written in parts.
use Rattle.std.proofs.Common.{◌≡◌, ℕ, ◌+◌, ◌≤◌, Bool, false, List, refl, [], ◌∷◌, ◌++◌, length, length-append, take, sym, ap, ◌∙◌, subst, append_assoc, append-nil, arith}
use Rattle.std.specs.Prelude.{Err, nat_le, ◌&&◌}
use Rattle.std.proofs.Math.Bool.{and-false}
use Rattle.std.proofs.Math.Seq.{take-append-add}
use Rattle.std.proofs.lemmas.Bool.{le-ltb}
use Rattle.std.proofs.lemmas.List.{take-append-le}
use Rattle.play_types.specs.History.{ticks}
use Rattle.play_types.specs.declared.event.Event.{Event}
use Rattle.play_types.specs.declared.event.Event.TheVariants.{Do, Batch, Tick, Stop}
use Rattle.play_types.proofs.Histories.{ticks-append}
use Rattle.play_outside.specs.SinkState.{SinkState, after_taking}
use Rattle.play_outside.proofs.Sending.{Fails-within}
use Rattle.play_outside.proofs.Taking.{after_taking-after_taking, after_taking-nil}
use Rattle.history_model.specs.pictures.Media.{Setup}
use Rattle.history_model.specs.recordings.Film.{Span}
use Rattle.play_recorder.specs.Recording.{TakesPrefix, is_recorded, recorded_after, recorded_at}
use Rattle.play_recorder.specs.declared.recorder.FilmFault.{FilmFault}
use Rattle.play_recorder.specs.declared.recorder.FilmFault.TheVariants as fault
use Rattle.play_recorder.specs.inner.Recorder.{WritesText}

-- a prefix of a part was taken, after the text before the part
pub prefix-within : (whole done piece rest : List ℕ) (first state after : SinkState) → whole ≡ (done ++ piece) ++ rest → state ≡ after_taking first done
    → TakesPrefix piece state after → TakesPrefix whole first after
prefix-within whole done piece rest first state after parts so_far takes =
    let within = takes.within in
    subst (λ text. TakesPrefix text first after) (sym parts)
    (record {
      count = length done + takes.count;
      within = omega (arith, within, length-append done piece, length-append (done ++ piece) rest);
      taken = takes.taken
          ∙ ap (λ (s : SinkState). after_taking s (take takes.count piece)) so_far
          ∙ after_taking-after_taking first done (take takes.count piece)
          ∙ ap (after_taking first)
          (sym (take-append-le (length done + takes.count) (done ++ piece) rest (omega (arith, within, length-append done piece))
          ∙ take-append-add done piece takes.count));
    })

-- what stopped in a part of a text, after the text before the part was written, stopped in the text
pub stopped-within : (reason : FilmFault) (whole done piece rest : List ℕ) (first state after : SinkState) → whole ≡ (done ++ piece) ++ rest → state ≡ after_taking first done
    → WritesText (Err reason) piece state after → WritesText (Err reason) whole first after
stopped-within fault.Failed whole done piece rest first state after parts so_far fails = Fails-within whole done piece rest first state after parts so_far fails
stopped-within fault.OutOfMemory whole done piece rest first state after parts so_far takes = prefix-within whole done piece rest first state after parts so_far takes

-- what stopped in the last part
pub stopped-last : (reason : FilmFault) (done piece : List ℕ) (first state after : SinkState) → state ≡ after_taking first done
    → WritesText (Err reason) piece state after → WritesText (Err reason) (done ++ piece) first after
stopped-last reason done piece first state after so_far stops =
    stopped-within reason (done ++ piece) done piece [] first state after (sym (append-nil (done ++ piece))) so_far stops

-- nothing was taken
pub none_taken : (text : List ℕ) (state : SinkState) → TakesPrefix text state state
none_taken text state = record { count = 0; within = omega arith; taken = sym (after_taking-nil state) }

-- a tick after the last recorded one is not recorded
pub not_recorded : (span : Span) (count : ℕ) → span.first + span.frames ≤ count → is_recorded span count ≡ false
not_recorded span count over =
    ap (λ (b : Bool). nat_le span.first count && b) (le-ltb count (span.first + span.frames) over) ∙ and-false (nat_le span.first count)

module _ (setup : Setup) (span : Span) where
  -- what is recorded at the events of two parts
  pub recorded-append : (past xs ys : List Event)
      → recorded_after setup span past (xs ++ ys) ≡ recorded_after setup span past xs ++ recorded_after setup span (past ++ xs) ys
  recorded-append past [] ys = ap (λ events. recorded_after setup span events ys) (sym (append-nil past))
  recorded-append past (x ∷ xs) ys =
      ap (λ more. recorded_at setup span past x ++ more) (recorded-append (past ++ x ∷ []) xs ys)
      ∙ sym (append_assoc (recorded_at setup span past x) (recorded_after setup span (past ++ x ∷ []) xs) (recorded_after setup span ((past ++ x ∷ []) ++ xs) ys))
      ∙ ap (λ events. (recorded_at setup span past x ++ recorded_after setup span (past ++ x ∷ []) xs) ++ recorded_after setup span events ys) (append_assoc past (x ∷ []) xs)

  -- nothing is recorded after the last recorded tick
  pub none_behind : (past later : List Event) → span.first + span.frames ≤ ticks past → recorded_after setup span past later ≡ []
  none_behind past [] over = refl
  none_behind past (event ∷ later) over =
      ap (λ (l : List ℕ). l ++ recorded_after setup span (past ++ event ∷ []) later) (none_at event)
      ∙ none_behind (past ++ event ∷ []) later (omega (arith, over, ticks-append past (event ∷ [])))
    where
      none_at : (one : Event) → recorded_at setup span past one ≡ []
      none_at (Do tag cmd) = refl
      none_at (Batch tag cmds) = refl
      none_at Tick = rw (not_recorded span (ticks past) over) refl
      none_at (Stop tag) = refl
