-- A script that was played again, and its film.
use Rattle.std.proofs.Common.{◌≡◌, inl, inr, ℕ, ◌≤◌, Bool, true, false, cond, List, [], ◌∷◌, ◌++◌, length, map, take, refl, sym, ap, ap₂, ◌∙◌, subst, subst₂, arith}
use Rattle.std.specs.Prelude.{Option, Some, None, Result, Ok, Err, option_map}
use Rattle.std.specs.Char.{to_ascii_uppercase}
use Rattle.std.specs.Result.{IsErrAnd}
use Rattle.std.specs.Str.{IsAscii}
use Rattle.std.proofs.lemmas.Bool.{false≢true}
use Rattle.std.proofs.lemmas.Option.{none-some, same_Some}
use Rattle.play_types.specs.ClipFile.{ClipView, clip_bytes}
use Rattle.play_types.specs.History.{held}
use Rattle.play_types.specs.RecNames.{is_rec_word, rec_name_of}
use Rattle.play_types.proofs.RecNames.{rec_word_is_ascii}
use Rattle.play_types.specs.declared.event.Event.{Event}
use Rattle.play_outside.specs.SourceState.{SourceState}
use Rattle.play_outside.specs.SinkState.{SinkState}
use Rattle.play_outside.proofs.Reading.{Consumes-nil}
use Rattle.play_recorder.specs.Recording.{AreServedEvents, Records}
use Rattle.play_recorder.specs.declared.recording.Recorded.{Recorded}
use Rattle.play_recorder.specs.declared.recording.Recorded.TheVariants as recorded
use Rattle.history_model.specs.pictures.Media.{Setup}
use Rattle.history_model.specs.declared.limits.TheConstants.{MAX_INPUT_BYTES}
use Rattle.history_model.specs.scripts.Input.{received}
use Rattle.history_model.specs.recordings.Film.{Span, film, film_span, filmed}
use Rattle.history_model.specs.scripts.History.{Playout, setup_of}
use Rattle.history_model.proofs.Scripts.{script_kept}
use Rattle.server_setup.specs.declared.fault.RunFault.{RunFault}
use Rattle.server_setup.specs.declared.fault.RunFault.TheVariants as faults
use Rattle.script_player.specs.declared.ending.Ending.{Ending}
use Rattle.script_player.specs.declared.ending.Ending.TheVariants.{Finished, Stopped, BadLine, TooLong, ReadFault, WriteFault, Memory}
use Rattle.script_player.specs.declared.player.Player.{Player}
use Rattle.script_player.specs.Ending.{fault_in, fault_of}
use Rattle.script_film.specs.Recording.{ArePlayed, FilmRequest, HasFilm, RecordEnds, RecordsFilm}
use Rattle.script_player.specs.Run.{FaultsOf, Streams}
use Rattle.script_player.specs.Script.{IsDone, Reading, Run}
use Rattle.script_player.specs.Shown.{Replies}
use Rattle.script_player.specs.Player.{Represents, channels_in, events_in, setup_in}
use Rattle.script_film.specs.inner.Recorded.{HasFilmOf, HasReplayed, ReplayEnds, ReplaysScript, WritesFilm, fault_of_film, streams_with}
use Rattle.script_player.specs.Taken.{EndsWith, RunsPlayer, run_by}
use Rattle.script_player.proofs.FailedWrites.{fails_rose}
use Rattle.script_player.proofs.Growth.{reading_of}
use Rattle.play_recorder.proofs.ServedScripts.{served_script}

-- a run that writes only replies
abbrev pub run_for : Playout → SinkState → Run
run_for playout first = record { playout = playout; shown = Replies; first = first }

-- a run of a player without lines, which writes only replies
run_is : (playout : Playout) (player : Player) (first : SinkState) → Represents Replies playout player [] → run_by Replies player first ≡ run_for playout first
run_is playout player first represents = ap (λ p. record { playout = p; shown = Replies; first = first }) represents.on

-- a run of the player of a script of which nothing was taken
pub runs_for : (playout : Playout) (player old new : Player) (first : SinkState) (ending : Ending) (before : SourceState) (after : Streams)
    → Represents Replies playout player [] → old ≡ player
    → RunsPlayer (run_by Replies old first) ending new before after → RunsPlayer (run_for playout first) ending new before after
runs_for playout player old new first ending before after represents is runs =
    subst (λ r. RunsPlayer r ending new before after) (run_is playout player first represents)
    (subst (λ p. RunsPlayer (run_by Replies p first) ending new before after) is runs)

module _ (playout : Playout) (first state : SinkState) (player : Player) (reading : Reading) (before after : SourceState) where
  -- a run that ended well was played out
  well_played : (ending : Ending) → fault_of ending ≡ None → EndsWith (run_for playout first) ending player reading state → FaultsOf ending before.faults after.faults
      → ReplayEnds playout (Ok player) reading before after
  well_played Finished good ends same = (
    record {
      played = ends.ends.2.played;
      out = record {
        lines = inl (record { ended = ends.ends.0; few = ends.ends.1; said = ends.ends.2.said; runs_on = ends.ends.2.runs_on });
        memory = ends.ends.2.memory refl;
      };
      history = ends.history;
    },
    same,
  )
  well_played Stopped good ends same =
      let stops = ends.2.stops in (
        record {
          played = stops.at.before ++ stops.at.last ∷ [];
          out = record {
            lines = inr (record { part = ends.0; prefix = ends.1; at = stops.at; lines = refl; accepted = stops.accepted; ends = stops.ends });
            memory = stops.memory refl;
          };
          history = ends.2.history;
        },
        same,
      )
  well_played (BadLine number) good ends same = absurd (none-some (faults.BadLine number) (sym good))
  well_played TooLong good ends same = absurd (none-some faults.InputTooLong (sym good))
  well_played ReadFault good ends same = absurd (none-some faults.Device (sym good))
  well_played WriteFault good ends same = absurd (none-some faults.Device (sym good))
  well_played Memory good ends same = absurd (none-some faults.OutOfMemory (sym good))

  all_played : (lines : List (List ℕ)) → IsDone (run_for playout first) lines state → ArePlayed playout lines
  all_played lines done = record { played = done.played; said = done.said; runs_on = done.runs_on; memory = done.memory refl }

  -- a run that ended with a fault was not played out; its output, which is not kept, had no failed write
  not_played : (ending : Ending) (fault : RunFault) → Some fault ≡ fault_of ending → EndsWith (run_for playout first) ending player reading state
      → FaultsOf ending before.faults after.faults → first.faults ≡ 0 → state.faults ≡ 0 → ReplayEnds playout (Err fault) reading before after
  not_played Finished fault is ends same none quiet = absurd (none-some fault (sym is))
  not_played Stopped fault is ends same none quiet = absurd (none-some fault (sym is))
  not_played (BadLine number) fault is ends same none quiet =
      subst (λ f. ReplayEnds playout (Err f) reading before after) (sym (same_Some fault (faults.BadLine number) is)) (λ name out. (
        record { part = ends.0; prefix = ends.1; at = ends.2.at; rejected = ends.2.rejected; place = ends.2.place; memory = ends.2.memory refl },
        (same, refl),
      ))
  not_played TooLong fault is ends same none quiet =
      subst (λ f. ReplayEnds playout (Err f) reading before after) (sym (same_Some fault faults.InputTooLong is)) (λ name out. (ends.0, all_played (received (take MAX_INPUT_BYTES reading.bytes) false) ends.1, (same, refl)))
  not_played ReadFault fault is ends same none quiet =
      subst (λ f. ReplayEnds playout (Err f) reading before after) (sym (same_Some fault faults.Device is)) (λ name out. inl (all_played (received reading.bytes false) ends.2, same, refl))
  not_played WriteFault fault is ends same none quiet =
      absurd (let rose = fails_rose _ first state ends.2.written in omega (arith, rose, none, quiet))
  not_played Memory fault is ends same none quiet =
      subst (λ f. ReplayEnds playout (Err f) reading before after) (sym (same_Some fault faults.OutOfMemory is)) (λ name out. (same, inl refl))

module _ (playout : Playout) (first : SinkState) (ending : Ending) (player : Player) (before : SourceState) (after : Streams)
    (runs : RunsPlayer (run_for playout first) ending player before after) where
  pub replayed_well : fault_of ending ≡ None → ReplaysScript playout (Ok player) before after.input
  replayed_well good = record {
    reading = runs.reading;
    gives = runs.gives;
    at_end = runs.at_end;
    ends = well_played playout first after.out player runs.reading before after.input ending good runs.ends runs.faults;
  }

  pub not_replayed : (fault : RunFault) → Some fault ≡ fault_of ending → first.faults ≡ 0 → after.out.faults ≡ 0 → ReplaysScript playout (Err fault) before after.input
  not_replayed fault is none quiet = record {
    reading = runs.reading;
    gives = runs.gives;
    at_end = runs.at_end;
    ends = not_played playout first after.out player runs.reading before after.input ending fault is runs.ends runs.faults none quiet;
  }

-- memory ran out before anything was read
pub none_replayed : (playout : Playout) (result : Result Player RunFault) (before : SourceState) → IsErrAnd result (λ fault. fault ≡ faults.OutOfMemory)
    → ReplaysScript playout result before before
none_replayed playout (Ok player) before is = absurd is
none_replayed playout (Err fault) before is = record {
  reading = reading_of [] false;
  gives = (Consumes-nil before).gives;
  at_end = λ e. absurd (false≢true e);
  ends = subst (λ f. ReplayEnds playout (Err f) (reading_of [] false) before before) (sym is) (λ name out. (refl, inl refl));
}

-- the fault of a replay is returned
pub handed_on : (playout : Playout) (fault : RunFault) (result : Result Player RunFault) (before after : SourceState) → ReplaysScript playout (Err fault) before after
    → IsErrAnd result (λ other. other ≡ fault) → ReplaysScript playout result before after
handed_on playout fault (Ok player) before after replays is = absurd is
handed_on playout fault (Err other) before after replays is = subst (λ f. ReplaysScript playout (Err f) before after) (sym is) replays

-- the history of a script that was played out can be played again
pub served_again : (playout : Playout) (player : Player) (before after : SourceState) → ReplaysScript playout (Ok player) before after
    → AreServedEvents (channels_in player) (events_in player)
served_again playout player before after replays =
    let history = replays.ends.0.history in
    subst₂ (λ (p : Playout) es. AreServedEvents (length p.config.channels) es) (sym history.on) (sym history.events)
    (served_script playout replays.ends.0.played)

pub room_again : (playout : Playout) (player : Player) (before after : SourceState) → ReplaysScript playout (Ok player) before after
    → held (events_in player) ≤ player.setup.config.journal_limit
room_again playout player before after replays =
    let history = replays.ends.0.history in
    subst₂ (λ (p : Playout) es. held es ≤ p.config.journal_limit) (sym history.on) (sym history.events)
    (script_kept playout replays.ends.0.played).within

-- the film of a span that was found
film_found : (setup : Setup) (events : List Event) (name : List ℕ) (span : Span) → film_span events name ≡ Some span → film setup events name ≡ Some (filmed setup events span)
unfolding film
film_found setup events name span is = ap (option_map (filmed setup events)) is

-- the writing of a film that was found ended
pub film_written : (player : Player) (name : List ℕ) (span : Span) (ended : Recorded) (fault : Option RunFault) (before after : SinkState)
    → film_span (events_in player) name ≡ Some span → fault ≡ fault_of_film ended
    → Records ended (clip_bytes (filmed (setup_in player) (events_in player) span)) before after → WritesFilm player name fault before after
film_written player name span ended fault before after found is records =
    subst (λ f. WritesFilm player name f before after) (sym is) (by_ended ended records)
  where
    clip : ClipView
    clip = filmed (setup_in player) (events_in player) span

    has : HasFilmOf player name clip
    has = film_found (setup_in player) (events_in player) name span found

    by_ended : (ended : Recorded) → Records ended (clip_bytes clip) before after → WritesFilm player name (fault_of_film ended) before after
    by_ended recorded.All all = (clip, has, all)
    by_ended recorded.Failed fails = (clip, has, fails)
    by_ended recorded.OutOfMemory takes = inr (clip, has, takes)

-- the name of a recording is ASCII
pub name_is_ascii : (name : List ℕ) → rec_name_of name ≡ Some name → IsAscii name
name_is_ascii name is = by_test (is_rec_word name) refl is
  where
    by_test : (b : Bool) → is_rec_word name ≡ b → cond b (Some (map to_ascii_uppercase name)) None ≡ Some name → IsAscii name
    by_test true word found = rec_word_is_ascii name word
    by_test false word found = absurd (none-some name found)

-- memory ran out before anything was written
pub no_memory_for_film : (player : Player) (name : List ℕ) (result : Result (Unit {0}) RunFault) (state : SinkState) → IsErrAnd result (λ fault. fault ≡ faults.OutOfMemory)
    → WritesFilm player name (fault_in result) state state
no_memory_for_film player name (Ok done) state is = absurd is
no_memory_for_film player name (Err fault) state is =
    subst (λ f. WritesFilm player name (Some f) state state) (sym is) (inl refl)

module _ (request : FilmRequest) (player : Player) (reading : Reading) (replayed : HasReplayed request.playout reading player) where
  -- the film of the player's history is that of the script
  has_film : (clip : ClipView) → HasFilmOf player request.name clip → HasFilm request reading clip
  has_film clip found = record {
    played = replayed.played;
    out = replayed.out;
    found = ap₂ (λ p es. film (setup_of p) es request.name) (sym replayed.history.on) (sym replayed.history.events) ∙ found;
  }

  film_recorded : (fault : Option RunFault) (before after : SourceState) (old new : SinkState) → after.faults ≡ before.faults → WritesFilm player request.name fault old new
      → RecordEnds request fault reading (streams_with old before) (streams_with new after)
  film_recorded None before after old new quiet writes = (writes.0, has_film writes.0 writes.1, quiet, writes.2)
  film_recorded (Some (faults.Record told)) before after old new quiet writes = (
    record {
      played = replayed.played;
      out = replayed.out;
      none = ap (λ es. film_span es request.name) (sym replayed.history.events) ∙ writes.0;
    },
    writes.1,
    (quiet, writes.2),
  )
  film_recorded (Some faults.Device) before after old new quiet writes = inr (writes.0, has_film writes.0 writes.1, quiet, writes.2)
  film_recorded (Some faults.OutOfMemory) before after old new quiet writes =
      elim writes [
        | inl same ↦ (quiet, inl same)
        | inr part ↦ (quiet, inr (part.0, has_film part.0 part.1, part.2))
      ]
  film_recorded (Some (faults.BadLine number)) before after old new quiet writes = absurd writes
  film_recorded (Some faults.InputTooLong) before after old new quiet writes = absurd writes
  film_recorded (Some faults.Usage) before after old new quiet writes = absurd writes
  film_recorded (Some faults.ConfigText) before after old new quiet writes = absurd writes
  film_recorded (Some (faults.ConfigKey key)) before after old new quiet writes = absurd writes
  film_recorded (Some (faults.Plan number)) before after old new quiet writes = absurd writes
  film_recorded (Some faults.PlanEnd) before after old new quiet writes = absurd writes
  film_recorded (Some (faults.Resume number)) before after old new quiet writes = absurd writes
  film_recorded (Some (faults.Clip fault)) before after old new quiet writes = absurd writes
  film_recorded (Some (faults.MediaTwice name)) before after old new quiet writes = absurd writes
  film_recorded (Some (faults.MediaTotal sum)) before after old new quiet writes = absurd writes

-- a script was played out, and then its film was written or not
pub recorded_after : (request : FilmRequest) (player : Player) (fault : Option RunFault) (before after : SourceState) (old new : SinkState)
    → ReplaysScript request.playout (Ok player) before after → WritesFilm player request.name fault old new
    → RecordsFilm request fault (streams_with old before) (streams_with new after)
recorded_after request player fault before after old new replays writes = record {
  reading = replays.reading;
  gives = replays.gives;
  at_end = replays.at_end;
  ends = film_recorded request player replays.reading replays.ends.0 fault before after old new replays.ends.1 writes;
}

-- a script was not played out, so that no film was written
pub not_recorded : (request : FilmRequest) (fault : RunFault) (result : Result (Unit {0}) RunFault) (before after : SourceState) (state : SinkState)
    → ReplaysScript request.playout (Err fault) before after → IsErrAnd result (λ other. other ≡ fault)
    → RecordsFilm request (fault_in result) (streams_with state before) (streams_with state after)
not_recorded request fault (Ok done) before after state replays is = absurd is
not_recorded request fault (Err other) before after state replays is =
    subst (λ f. RecordsFilm request (Some f) (streams_with state before) (streams_with state after)) (sym is) (record {
      reading = replays.reading;
      gives = replays.gives;
      at_end = replays.at_end;
      ends = replays.ends request.name state;
    })
