-- A recorder goes on, event by event.
use Rattle.std.proofs.Common.{◌≡◌, ℕ, ◌+◌, ◌≤◌, Bool, true, false, List, [], ◌∷◌, ◌++◌, length, refl, sym, ap, ◌∙◌, subst, subst₂, append_assoc, append-nil}
use Rattle.std.specs.Prelude.{Err, Some, nat_le, ◌&&◌}
use Rattle.std.proofs.lemmas.Bool.{leb-true}
use Rattle.play_types.specs.ClipFile.{clip_bytes, header_bytes}
use Rattle.play_types.specs.Config.{ConfigView}
use Rattle.play_types.specs.History.{ticks}
use Rattle.play_types.specs.Scene.{IsConfigured}
use Rattle.play_types.specs.declared.clip.TheConstants.{MULTIPLIED}
use Rattle.play_types.specs.declared.event.Event.{Event}
use Rattle.play_outside.specs.SinkState.{SinkState, after_taking}
use Rattle.play_outside.proofs.Sending.{taken_more}
use Rattle.play_outside.proofs.Taking.{after_taking-nil}
use Rattle.clip_format.specs.Table.{Entry}
use Rattle.history_model.specs.pictures.Media.{size}
use Rattle.history_model.specs.recordings.Film.{Span, film_span, filmed}
use Rattle.stage_core.specs.Stage.{StageView}
use Rattle.play_recorder.specs.Recording.{recorded_after, recorded_at, setup_with}
use Rattle.play_recorder.specs.declared.recorder.FilmFault.{FilmFault}
use Rattle.play_recorder.specs.declared.recorder.Recorder.{Recorder}
use Rattle.play_recorder.specs.inner.Frames.{Follows, IsReady, channels_in, events_in, setup_in}
use Rattle.play_recorder.specs.inner.Recorder.{WritesText, header_in, is_over}
use Rattle.play_recorder.specs.inner.Needed.{NeedsNoneOf, first_needed, least_needed}
use Rattle.play_recorder.proofs.FilmFrames.{film_recorded}
use Rattle.play_recorder.proofs.Needed.{event_needs, later_needs}
use Rattle.play_recorder.proofs.Playing.{IsPlayedTo, all_played, none_played, one_played}
use Rattle.play_recorder.proofs.Texts.{none_behind, recorded-append, stopped-within}

-- the events before the ones that are left were played, and the frames of the recorded ticks among them were written
pub record IsRecordedTo (first : Recorder) (events : List Event) (start state : SinkState) (now : Recorder) (left : List Event) : Type 0 where
  pub ready : IsReady now.replay
  pub config : now.replay.config.now ≡ first.replay.config.now
  pub media : now.replay.media.now ≡ first.replay.media.now
  pub film : now.film.now ≡ first.film.now
  pub skipped : now.replay.skipped ≡ first.replay.skipped
  pub needed : first.replay.skipped ≤ least_needed first.film.now (events_in now.replay) left first.film.now.first
  pub played : IsPlayedTo first.replay.played.stage events now.replay.played.stage left
  pub written : state ≡ after_taking start (recorded_after (setup_in first.replay) first.film.now [] (events_in now.replay))

pub none_recorded : (first : Recorder) (events : List Event) (start : SinkState) (left : List Event) → IsReady first.replay → events_in first.replay ≡ [] → left ≡ events
    → first.replay.skipped ≤ first_needed first.film.now events → IsRecordedTo first events start start first left
none_recorded first events start left ready empty is needed = record {
  ready = ready;
  config = refl;
  media = refl;
  film = refl;
  skipped = refl;
  needed = subst₂ (λ past later. first.replay.skipped ≤ least_needed first.film.now past later first.film.now.first) (sym empty) (sym is) needed;
  played = none_played first.replay.played.stage events left empty is;
  written = sym (after_taking-nil start) ∙ ap (λ (past : List Event). after_taking start (recorded_after (setup_in first.replay) first.film.now [] past)) (sym empty);
}

module _ (first : Recorder) (events : List Event) (start state : SinkState) (now : Recorder) (event : Event) (left : List Event)
    (recorded : IsRecordedTo first events start state now (event ∷ left)) where
  -- the film is that of a configured channel still
  pub still_configured : IsConfigured (channels_in first.replay) first.film.now.channel → IsConfigured (channels_in now.replay) now.film.now.channel
  still_configured configured =
      subst (λ config. IsConfigured (length config.channels) now.film.now.channel) (sym recorded.config)
      (subst (λ film. IsConfigured (channels_in first.replay) film.channel) (sym recorded.film) configured)

  -- and what the event needs was not skipped
  pub none_skipped : NeedsNoneOf now.replay.skipped now.film.now (events_in now.replay) event
  none_skipped =
      subst₂ (λ skipped span. NeedsNoneOf skipped span (events_in now.replay) event) (sym recorded.skipped) (sym recorded.film)
      (event_needs first.replay.skipped first.film.now (events_in now.replay) event (least_needed first.film.now (events_in now.replay ++ event ∷ []) left first.film.now.first) recorded.needed)

  -- what is recorded at the event
  pub same_text : recorded_at (setup_in now.replay) now.film.now (events_in now.replay) event ≡ recorded_at (setup_in first.replay) first.film.now (events_in now.replay) event
  same_text = λ i. recorded_at (setup_with (recorded.config i) (recorded.media i)) (recorded.film i) (events_in now.replay) event

  parts : recorded_after (setup_in first.replay) first.film.now [] (events_in now.replay ++ event ∷ [])
      ≡ recorded_after (setup_in first.replay) first.film.now [] (events_in now.replay) ++ recorded_at (setup_in first.replay) first.film.now (events_in now.replay) event
  parts =
      recorded-append (setup_in first.replay) first.film.now [] (events_in now.replay) (event ∷ [])
      ∙ ap (λ (l : List ℕ). recorded_after (setup_in first.replay) first.film.now [] (events_in now.replay) ++ l)
      (append-nil (recorded_at (setup_in first.replay) first.film.now (events_in now.replay) event))

  -- after the event the rest is left
  pub one_recorded : (new : Recorder) (after : SinkState) → IsReady new.replay → Follows event now.replay new.replay → new.film.now ≡ now.film.now
      → after ≡ after_taking state (recorded_at (setup_in now.replay) now.film.now (events_in now.replay) event)
      → IsRecordedTo first events start after new left
  one_recorded new after ready follows same step = record {
    ready = ready;
    config = follows.config ∙ recorded.config;
    media = follows.media ∙ recorded.media;
    film = same ∙ recorded.film;
    skipped = follows.skipped ∙ recorded.skipped;
    needed = subst (λ past. first.replay.skipped ≤ least_needed first.film.now past left first.film.now.first) (sym (ap (λ (s : StageView). s.journal.events) follows.stage))
        (later_needs first.replay.skipped first.film.now (events_in now.replay) event (least_needed first.film.now (events_in now.replay ++ event ∷ []) left first.film.now.first) recorded.needed);
    played = one_played first.replay.played.stage events now.replay.played.stage event left recorded.played new.replay.played.stage follows.stage;
    written = taken_more (recorded_after (setup_in first.replay) first.film.now [] (events_in now.replay)) (recorded_at (setup_in first.replay) first.film.now (events_in now.replay) event) start state after
        recorded.written (step ∙ ap (after_taking state) same_text)
        ∙ ap (after_taking start) (sym (ap (λ (s : StageView). recorded_after (setup_in first.replay) first.film.now [] s.journal.events) follows.stage ∙ parts));
  }

  -- a recorder that stopped at the event stopped in the whole text
  pub stopped_at : (reason : FilmFault) (after : SinkState) → WritesText (Err reason) (recorded_at (setup_in now.replay) now.film.now (events_in now.replay) event) state after
      → WritesText (Err reason) (recorded_after (setup_in first.replay) first.film.now [] events) start after
  stopped_at reason after stops =
      let past = events_in now.replay in
      let setup = setup_in first.replay in
      let film = first.film.now in
      stopped-within reason (recorded_after setup film [] events) (recorded_after setup film [] past) (recorded_at setup film past event)
      (recorded_after setup film (past ++ event ∷ []) left) start state after
      (ap (recorded_after setup film []) (sym (append_assoc past (event ∷ []) left ∙ recorded.played.whole))
      ∙ recorded-append setup film [] (past ++ event ∷ []) left
      ∙ ap (λ (l : List ℕ). l ++ recorded_after setup film (past ++ event ∷ []) left) parts)
      recorded.written
      (subst (λ (text : List ℕ). WritesText (Err reason) text state after) same_text stops)

second_holds : (x y : Bool) → (x && y) ≡ true → y ≡ true
second_holds true y e = e
second_holds false y e = cc

-- the last recorded tick was played, so no remaining event is recorded
pub film_over : (first : Recorder) (events : List Event) (start state : SinkState) (now : Recorder) (left : List Event)
    → IsRecordedTo first events start state now left → is_over now.film.now (ticks (events_in now.replay)) ≡ true
    → state ≡ after_taking start (recorded_after (setup_in first.replay) first.film.now [] events)
film_over first events start state now left recorded over =
    let past = events_in now.replay in
    let setup = setup_in first.replay in
    let span = first.film.now in
    let behind : span.first + span.frames ≤ ticks past =
    leb-true (span.first + span.frames) (ticks past)
    (second_holds (nat_le span.first (ticks past)) (nat_le (span.first + span.frames) (ticks past))
    (subst (λ (s : Span). is_over s (ticks past) ≡ true) recorded.film over)) in
    recorded.written
    ∙ ap (after_taking start)
    (sym (append-nil (recorded_after setup span [] past))
    ∙ ap (λ (l : List ℕ). recorded_after setup span [] past ++ l) (sym (none_behind setup span past left behind))
    ∙ sym (recorded-append setup span [] past left)
    ∙ ap (recorded_after setup span []) recorded.played.whole)

-- all events were played
pub all_recorded : (first : Recorder) (events : List Event) (start state : SinkState) (now : Recorder) → IsRecordedTo first events start state now []
    → state ≡ after_taking start (recorded_after (setup_in first.replay) first.film.now [] events)
all_recorded first events start state now recorded =
    recorded.written ∙ ap (λ (past : List Event). after_taking start (recorded_after (setup_in first.replay) first.film.now [] past))
    (all_played first.replay.played.stage events now.replay.played.stage recorded.played)

-- what is written of a film is its clip file
pub film_text : (recorder : Recorder) (config : ConfigView) (media : List Entry) (span : Span) (events : List Event) (name : List ℕ)
    → recorder.replay.config.now ≡ config → recorder.replay.media.now ≡ media → recorder.film.now ≡ span → film_span events name ≡ Some span
    → header_in recorder ++ recorded_after (setup_in recorder.replay) recorder.film.now [] events ≡ clip_bytes (filmed (setup_with config media) events span)
unfolding filmed
film_text recorder config media span events name same_config same_media same_film found =
    let setup = setup_with config media in
    (λ i.
    header_bytes MULTIPLIED (size (setup_with (same_config i) (same_media i)) (same_film i).channel) (same_film i).frames
    ++ recorded_after (setup_with (same_config i) (same_media i)) (same_film i) [] events)
    ∙ ap (λ (l : List ℕ). header_bytes MULTIPLIED (size setup span.channel) span.frames ++ l) (film_recorded setup events name span found)
