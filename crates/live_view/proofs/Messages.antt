-- The status messages that are due.
use Rattle.std.proofs.Common.{◌≡◌, ℕ, Bool, true, false, List, [], map, sym, ap, ◌∙◌, subst, if◌then◌else◌}
use Rattle.play_types.specs.declared.event.Event.{Event}
use Rattle.history_model.specs.scripts.History.{Playout, setup_of}
use Rattle.osc_status.specs.Message.{message_bytes}
use Rattle.osc_status.specs.Status.{status_messages}
use Rattle.script_player.specs.Player.{playout_in}
use Rattle.live_view.specs.History.{history_of}
use Rattle.live_view.specs.Messages.{is_due, messages_due}
use Rattle.live_view.specs.View.{HasPlayed, IsViewOf, ViewState, events_of}
use Rattle.live_view.proofs.Views.{history_of_view}

module _ (playout : Playout) (bytes : List ℕ) (view : ViewState) (is : IsViewOf playout bytes view) where
  -- none are due
  pub none_due : is_due view.sent (events_of view) ≡ false → [] ≡ messages_due playout view.sent (history_of playout bytes)
  none_due none =
      let has = history_of_view playout bytes view is in
      subst (λ (es : List Event). [] ≡ messages_due playout view.sent es) has.events
      (ap (λ (b : Bool). if b then map message_bytes (status_messages (setup_of playout) playout.names (events_of view)) else []) (sym none))

  -- those of the history are
  pub all_due : (given : List (List ℕ)) → is_due view.sent (events_of view) ≡ true
      → given ≡ map message_bytes (status_messages (setup_of (playout_in view.script.player)) (playout_in view.script.player).names (events_of view))
      → given ≡ messages_due playout view.sent (history_of playout bytes)
  all_due given due same =
      let has = history_of_view playout bytes view is in
      subst (λ (es : List Event). given ≡ messages_due playout view.sent es) has.events
      (same ∙ ap (λ (p : Playout). map message_bytes (status_messages (setup_of p) p.names (events_of view))) has.on
      ∙ ap (λ (b : Bool). if b then map message_bytes (status_messages (setup_of playout) playout.names (events_of view)) else []) (sym due))

module _ (playout : Playout) (bytes : List ℕ) (view : ViewState) (sent : ℕ) where
  played_so_far : (stopped : Bool) → HasPlayed stopped playout bytes view → HasPlayed stopped playout bytes (record view { sent = sent })
  played_so_far false on = record { ready = on.ready; taken = on.taken; ticks = on.ticks; lines = on.lines; room = on.room }
  played_so_far true ended = record { part = ended.part; rest = ended.rest; parts = ended.parts; stops = ended.stops; channels = ended.channels }

  -- a view whose messages were given
  pub given_view : IsViewOf playout bytes view → IsViewOf playout bytes (record view { sent = sent })
  given_view is = record { played = played_so_far view.stopped is.played; frames = is.frames; workers = is.workers }
