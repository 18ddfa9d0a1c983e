-- What is written for the status after a tick.
use Rattle.std.proofs.Common.{◌≡◌, ℕ, List, [], ◌∷◌, ◌++◌, length, refl, sym, ap, ◌∙◌, append-nil}
use Rattle.std.specs.Prelude.{flat_map}
use Rattle.std.specs.List.{range_with_len}
use Rattle.std.proofs.lemmas.List.{length-map}
use Rattle.std.proofs.lemmas.List.FromFn.{length-map-range_with_len}
use Rattle.play_types.specs.History.{ticks}
use Rattle.play_types.specs.declared.event.Event.{Event}
use Rattle.play_types.specs.declared.event.Event.TheVariants.{Tick}
use Rattle.play_types.proofs.Histories.{ticks-append}
use Rattle.history_model.specs.pictures.Scene.{scene}
use Rattle.history_model.specs.scripts.History.{channel_size, setup_of}
use Rattle.play_outside.specs.SinkState.{SinkState}
use Rattle.play_outside.specs.Gathered.{Adds}
use Rattle.play_outside.specs.Sink.{Sends}
use Rattle.play_outside.specs.declared.sink.Sent.{Sent}
use Rattle.play_outside.specs.declared.sink.Sent.TheVariants as sent
use Rattle.osc_status.specs.Status.{layer_lines, layer_statuses, status_line, ticks_message}
use Rattle.script_player.specs.Display.{IsMadeAfter, playout_of_tick}
use Rattle.script_player.specs.declared.display.MadeTick.{MadeTick}
use Rattle.status_display.specs.Status.{statuses_text, tick_status}
use Rattle.status_display.proofs.ToldStatus.{status_lines}

module _ (events : List Event) (tick : MadeTick) (made : IsMadeAfter events tick) where
  -- there is a scene for each channel
  pub scene_count : length tick.scenes.now ≡ length tick.setup.now.config.channels
  scene_count = ap length made.scenes ∙ length-map-range_with_len (scene events) 1 (length tick.setup.now.config.channels)

  -- the lines of a channel after this number of ticks and these events
  lines_at : ℕ → List Event → ℕ → List ℕ
  lines_at count past channel =
      status_line count (ticks_message channel count) ++ flat_map (layer_lines tick.setup.now.names count) (layer_statuses past channel)

  pub text_of_status : statuses_text tick ≡ tick_status (playout_of_tick tick) events
  unfolding lines_at
  text_of_status =
      let after = events ++ Tick ∷ [] in
      let count : tick.number ≡ ticks after = made.number ∙ sym (ticks-append events (Tick ∷ [])) in
      (λ i. flat_map (lines_at (count i) (made.history i)) (range_with_len 1 (length tick.setup.now.config.channels)))
      ∙ ap (λ (n : ℕ). flat_map (lines_at (ticks after) after) (range_with_len 1 n)) (sym (length-map tick.setup.now.config.channels channel_size))
      ∙ sym (status_lines (setup_of (playout_of_tick tick)) tick.setup.now.names after)

-- a text that was sent was added, and none waits
pub sent_added : (result : Sent) (text : List ℕ) (before after : SinkState) → Sends result text before after → Adds result text [] before after
sent_added sent.All text before after sends = record { out = text; parts = sym (append-nil text); taken = sends }
sent_added sent.Failed text before after fails = (fails, refl)
