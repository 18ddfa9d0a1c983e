-- A replay writes the frames that the outputs of a run took.
use Rattle.std.proofs.Common.{◌≡◌, ℕ, ◌+◌, ◌*◌, false, List, [], ◌∷◌, ◌++◌, length, refl, subst, sym, ap, ◌∙◌, append_assoc, append-nil}
use Rattle.std.specs.Prelude.{flat_map}
use Rattle.std.proofs.lemmas.List.{drop_at, take_at}
use mathlib.Core.List.{IsPrefix}
use Rattle.play_types.specs.History.{ticks}
use Rattle.play_types.specs.declared.event.Event.{Event}
use Rattle.play_types.specs.declared.event.Event.TheVariants.{Do, Batch, Tick, Stop}
use Rattle.stage_lock.proofs.Prefixes.{prefix_trans}
use Rattle.history_model.specs.pictures.Frame.{frame_pixel}
use Rattle.history_model.specs.pictures.Media.{size}
use Rattle.history_model.specs.scripts.History.{Playout, setup_of}
use Rattle.history_model.specs.scripts.Output.{channel_output, picture_bytes, sound_bytes, tick_output}
use Rattle.history_model.specs.stage.Answer.{channel_numbers}
use Rattle.history_replay.specs.ReplayOutput.{event_output, events_output, history_output}
use Rattle.play_scene.proofs.Rows.{length-frame_bytes}
use Rattle.play_ticker.specs.Frames.{frames_text, is_tick, raw_frame}
use Rattle.play_ticker.proofs.Frames.{frames_text-quiet, frames_text-tick, goes_on_by_stop}
use Rattle.server_laws.specs.Replay.{IsShownAgain, frame_output, raw_output}
use Rattle.server_laws.proofs.HistoryOutput.{history_output-at}

module _ (playout : Playout) where
  -- the bytes of a picture and of a sound, apart again
  channel_parts : (events : List Event) (channel : ℕ) →
      channel_output playout (ticks events + 1) channel (picture_bytes (setup_of playout) events channel) (sound_bytes (setup_of playout) events channel)
      ≡ frame_output playout (ticks events + 1) channel (raw_frame (setup_of playout) events channel)
  unfolding raw_frame
  channel_parts events channel =
      let of = size (setup_of playout) channel in
      let picture = picture_bytes (setup_of playout) events channel in
      let sound = sound_bytes (setup_of playout) events channel in
      let many : length picture ≡ 4 * of.width * of.height = length-frame_bytes of.width of.height (frame_pixel (setup_of playout) events channel) in
      let one = take_at picture sound (4 * of.width * of.height) many in
      let other = drop_at picture sound (4 * of.width * of.height) many in
      λ i. channel_output playout (ticks events + 1) channel (sym one i) (sym other i)

  tick_written : (before : List Event) → event_output playout before Tick ≡ raw_output playout before
  unfolding event_output tick_output
  tick_written before = λ i. flat_map (λ channel. channel_parts before channel i) (channel_numbers (setup_of playout))

  module _ (channel : ℕ) where
    abbrev frames : List Event → List ℕ
    frames events = frames_text (setup_of playout) events channel

    -- more events take no frame away
    without_tick : (seen : List Event) (event : Event) → is_tick event ≡ false → IsPrefix (frames seen) (frames (seen ++ event ∷ []))
    without_tick seen event other =
        ([], append-nil (frames seen) ∙ sym (frames_text-quiet (setup_of playout) channel seen (seen ++ event ∷ []) (goes_on_by_stop seen event other)))

    one_more : (seen : List Event) (event : Event) → IsPrefix (frames seen) (frames (seen ++ event ∷ []))
    one_more seen (Do tag cmd) = without_tick seen (Do tag cmd) refl
    one_more seen (Batch tag cmds) = without_tick seen (Batch tag cmds) refl
    one_more seen Tick = (raw_frame (setup_of playout) seen channel, sym (frames_text-tick (setup_of playout) channel seen))
    one_more seen (Stop tag) = without_tick seen (Stop tag) refl

    frames_grow : (seen later : List Event) → IsPrefix (frames seen) (frames (seen ++ later))
    frames_grow seen [] = ([], append-nil (frames seen) ∙ ap frames (sym (append-nil seen)))
    frames_grow seen (event ∷ later) =
        let next = seen ++ event ∷ [] in
        subst (λ (es : List Event). IsPrefix (frames seen) (frames es)) (append_assoc seen (event ∷ []) later)
        (prefix_trans (frames seen) (frames next) (frames (next ++ later)) (one_more seen event) (frames_grow next later))

    tick_shown : (history before later : List Event) → history ≡ before ++ Tick ∷ later
        → IsPrefix (frames before ++ raw_frame (setup_of playout) before channel) (frames history)
    tick_shown history before later whole =
        let next = before ++ Tick ∷ [] in
        let same : next ++ later ≡ history = append_assoc before (Tick ∷ []) later ∙ sym whole in
        subst (λ (text : List ℕ). IsPrefix text (frames history)) (frames_text-tick (setup_of playout) channel before)
        (subst (λ (es : List Event). IsPrefix (frames next) (frames es)) same (frames_grow next later))

  pub shown_again : (history before later : List Event) → history ≡ before ++ Tick ∷ later → IsShownAgain playout history before later
  shown_again history before later whole = record {
    output = ap (history_output playout) whole ∙ history_output-at playout before Tick later
        ∙ ap (λ (text : List ℕ). history_output playout before ++ text ++ events_output playout (before ++ Tick ∷ []) later) (tick_written before);
    frames = λ channel. tick_shown channel history before later whole;
  }
