-- What follows from the bytes that a view has taken.
use Rattle.std.proofs.Common.{◌≡◌, ℕ, ◌≤◌, Bool, true, false, List, length, map, refl, sym, ap, ◌∙◌, subst, subst₂, arith, inl, inr}
use Rattle.play_types.specs.History.{held}
use Rattle.play_types.specs.declared.event.Event.{Event}
use Rattle.history_model.specs.scripts.History.{Playout}
use Rattle.history_model.proofs.Scripts.{script_kept}
use Rattle.history_model.specs.scripts.History.{channel_size}
use Rattle.play_types.specs.declared.geometry.Geometry.{Geometry}
use Rattle.play_scene.specs.Frames.{FrameView}
use Rattle.play_scene.specs.Picture.{clips_of}
use Rattle.band_render.specs.Histories.{Represents}
use Rattle.band_render.specs.Rendered.{sizes}
use Rattle.server_setup.specs.declared.setup.ServerSetup.{ServerSetup}
use Rattle.play_recorder.specs.Recording.{AreServedEvents}
use Rattle.play_recorder.proofs.ServedScripts.{served_script}
use Rattle.script_player.specs.Player.{channels_in, events_in, playout_in}
use Rattle.script_player.specs.declared.player.Player.{Player}
use Rattle.live_view.specs.Faults.{TakesLog}
use Rattle.live_view.specs.History.{history_of, lines_of_log}
use Rattle.live_view.specs.View.{AreLastFrames, GoesOn, HasPlayed, IsViewOf, ViewState, events_of, source_of}
use Rattle.live_view.proofs.Histories.{events_played, events_stopped}

-- the player has the playout and the history of the bytes, and the stage has the configured channels
pub record HasHistoryOf (playout : Playout) (bytes : List ℕ) (player : Player) : Type 0 where
  pub on : playout_in player ≡ playout
  pub events : events_in player ≡ history_of playout bytes
  pub channels : player.stage.channels ≡ channels_in player

module _ (playout : Playout) (bytes : List ℕ) (view : ViewState) where
  by_stop : (stopped : Bool) → HasPlayed stopped playout bytes view → HasHistoryOf playout bytes view.script.player
  by_stop false on = record {
    on = on.taken.player.on;
    events = on.taken.player.history ∙ events_played playout bytes on.taken.done.played on.taken.done.said (on.taken.done.memory refl);
    channels = on.ready.channels;
  }
  by_stop true ended =
      let stops = ended.stops.stops in
      record {
        on = ended.stops.history.on;
        events =
            ended.stops.history.events
            ∙ events_stopped playout ended.part ended.rest stops.at.before stops.at.last stops.at.said stops.accepted stops.at.runs_on stops.ends (stops.memory refl)
            ∙ ap (history_of playout) (sym ended.parts);
        channels = ended.channels;
      }

  pub history_of_view : IsViewOf playout bytes view → HasHistoryOf playout bytes view.script.player
  history_of_view is = by_stop view.stopped is.played

  taken_so : (stopped : Bool) → HasPlayed stopped playout bytes view → TakesLog playout bytes
  taken_so false on =
      let room = on.room in
      inl (record {
        played = on.taken.done.played;
        said = on.taken.done.said;
        memory = on.taken.done.memory refl;
        runs_on = on.taken.done.runs_on;
        few = omega (arith, room);
      })
  taken_so true ended =
      let stops = ended.stops.stops in
      inr (record {
        part = ended.part;
        rest = ended.rest;
        parts = ended.parts;
        at = stops.at;
        accepted = stops.accepted;
        ends = stops.ends;
        memory = stops.memory refl;
      })

  -- the bytes that a view has are those of a log
  pub takes_log : IsViewOf playout bytes view → TakesLog playout bytes
  takes_log is = taken_so view.stopped is.played

  -- a view that was not stopped goes on
  pub view_goes_on : IsViewOf playout bytes view → view.stopped ≡ false → GoesOn playout bytes view
  view_goes_on is on = subst (λ b. HasPlayed b playout bytes view) on is.played

  module _ (is : IsViewOf playout bytes view) where
    -- the history can be played again
    pub served_view : AreServedEvents (length view.script.player.setup.config.channels) (events_of view)
    served_view =
        let has = history_of_view is in
        subst₂ (λ (p : Playout) es. AreServedEvents (length p.config.channels) es) (sym has.on) (sym has.events) (served_script playout (lines_of_log bytes))

    pub room_of_view : held (events_of view) ≤ view.script.player.setup.config.journal_limit
    room_of_view =
        let has = history_of_view is in
        subst₂ (λ (p : Playout) es. held es ≤ p.config.journal_limit) (sym has.on) (sym has.events) (script_kept playout (lines_of_log bytes)).within

    -- what the pages are made of, by the player
    pub source_of_view : record { playout = playout_in view.script.player; events = events_of view; pictures = view.pictures; fresh = view.fresh } ≡ source_of playout bytes view
    source_of_view =
        let has = history_of_view is in
        λ i. record { playout = has.on i; events = has.events i; pictures = view.pictures; fresh = view.fresh }

module _ (playout : Playout) (bytes : List ℕ) (view : ViewState) (frames : List FrameView) where
  played_still : (stopped : Bool) → HasPlayed stopped playout bytes view → HasPlayed stopped playout bytes (record view { fresh = true; frames = frames })
  played_still false on = record { ready = on.ready; taken = on.taken; ticks = on.ticks; lines = on.lines; room = on.room }
  played_still true ended = record { part = ended.part; rest = ended.rest; parts = ended.parts; stops = ended.stops; channels = ended.channels }

  -- a view whose frames were made anew
  pub refreshed : IsViewOf playout bytes view → AreLastFrames view.script.player.setup (events_of view) frames → IsViewOf playout bytes (record view { fresh = true; frames = frames })
  refreshed is last = record { played = played_still view.stopped is.played; frames = λ fresh. last; workers = is.workers }

-- frames of a journal and a configuration are those of the setup
pub frames_of_setup : (setup : ServerSetup) (journal events : List Event) (frames : List FrameView) → journal ≡ events → sizes frames ≡ map channel_size setup.config.channels
    → Represents (record { channels = sizes frames; clips = clips_of setup.media }) journal setup.media frames → AreLastFrames setup events frames
frames_of_setup setup journal events frames same own last =
    subst₂ (λ (g : List Geometry) es. Represents (record { channels = g; clips = clips_of setup.media }) es setup.media frames) own same last
