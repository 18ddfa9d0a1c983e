-- The channel of a film is one that the commands of its history name.
use Rattle.std.proofs.Common.{◌≡◌, ℕ, ◌-◌, ◌==◌, ◌++◌, min, Bool, true, false, cond, List, [], ◌∷◌, map, refl, sym, ap, subst, All}
use Rattle.std.specs.Prelude.{Option, Some, None, option_and_then, unwrap_or}
use Rattle.std.specs.Str.{bytes_eq}
use Rattle.std.proofs.lemmas.List.Elements.{All-head, All-tail}
use Rattle.std.proofs.lemmas.Option.{none-some, same_Some}
use Rattle.play_types.specs.History.{ticks}
use Rattle.play_types.specs.Scene.{IsConfigured}
use Rattle.play_types.specs.declared.clip.TheConstants.{MAX_FRAMES}
use Rattle.play_types.specs.Shape.{recording_channel}
use Rattle.play_types.specs.declared.command.Cmd.{Cmd}
use Rattle.play_types.specs.declared.command.Cmd.TheVariants.{Load, LoadBg, Play, PlayTake, Pause, Resume, StopLayer, ClearLayer, ClearChannel, SwapLayers, SwapChannels, Set, CommitMixer, ResetLayer, ResetChannel, AddFile, RemoveFile, Value, Info}
use Rattle.play_types.specs.declared.event.Event.{Event}
use Rattle.play_types.specs.declared.event.Event.TheVariants.{Do, Batch, Tick, Stop}
use Rattle.play_types.specs.declared.shape.Recording.{Recording}
use Rattle.play_types.specs.declared.shape.Recording.TheVariants.{Begin, End}
use Rattle.history_model.specs.commands.Channels.{IsServed}
use Rattle.history_model.specs.recordings.Film.{Begun, Span, accepted_after, accepted_commands, accepted_of, begun_by, begun_in, begun_on, commands_of, film_span, first_mark, span_of, span_to}
use Rattle.history_model.specs.stage.Act.{Act, act_after}
use Rattle.history_model.specs.stage.Acts.{is_refused}
use Rattle.play_recorder.specs.Recording.{AreServedEvents, IsServedEvent}

module _ (n : ℕ) where
  -- a mark begins a recording of its channel
  begun_there : (name : List ℕ) (mark : Recording) (channel : ℕ) → begun_on name mark ≡ Some channel → IsConfigured n (recording_channel mark) → IsConfigured n channel
  begun_there name (Begin own begun) channel found served = by_test (bytes_eq begun name) found
    where
      by_test : (b : Bool) → cond b (Some own) None ≡ Some channel → IsConfigured n channel
      by_test true is = subst (IsConfigured n) (same_Some own channel is) served
      by_test false is = absurd (none-some channel is)
  begun_there name (End own) channel found served = absurd (none-some channel found)

  begun_served : (name : List ℕ) (cmd : Cmd) (channel : ℕ) → begun_by name cmd ≡ Some channel → IsServed n cmd → IsConfigured n channel
  begun_served name (Load place take) channel found served = absurd (none-some channel found)
  begun_served name (LoadBg place take) channel found served = absurd (none-some channel found)
  begun_served name (Play place) channel found served = absurd (none-some channel found)
  begun_served name (PlayTake place take) channel found served = absurd (none-some channel found)
  begun_served name (Pause place) channel found served = absurd (none-some channel found)
  begun_served name (Resume place) channel found served = absurd (none-some channel found)
  begun_served name (StopLayer place) channel found served = absurd (none-some channel found)
  begun_served name (ClearLayer place) channel found served = absurd (none-some channel found)
  begun_served name (ClearChannel own) channel found served = absurd (none-some channel found)
  begun_served name (SwapLayers a b transforms) channel found served = absurd (none-some channel found)
  begun_served name (SwapChannels a b transforms) channel found served = absurd (none-some channel found)
  begun_served name (Set setting) channel found served = absurd (none-some channel found)
  begun_served name (CommitMixer own) channel found served = absurd (none-some channel found)
  begun_served name (ResetLayer place) channel found served = absurd (none-some channel found)
  begun_served name (ResetChannel own) channel found served = absurd (none-some channel found)
  begun_served name (AddFile own begun) channel found served = begun_there name (Begin own begun) channel found served
  begun_served name (RemoveFile own) channel found served = begun_there name (End own) channel found served
  begun_served name (Value place prop) channel found served = absurd (none-some channel found)
  begun_served name Info channel found served = absurd (none-some channel found)

  -- each command of these is served
  abbrev AreServedActs : List Act → Type 0
  AreServedActs [] = Unit {0}
  AreServedActs (act ∷ acts) = IsServed n act.cmd × AreServedActs acts

  served-append : (xs ys : List Act) → AreServedActs xs → AreServedActs ys → AreServedActs (xs ++ ys)
  served-append [] ys first rest = rest
  served-append (act ∷ xs) ys first rest = (first.0, served-append xs ys first.1 rest)

  served_commands : (now : ℕ) (cmds : List Cmd) → All (IsServed n) cmds → AreServedActs (map (act_after now) cmds)
  served_commands now [] all = tt
  served_commands now (cmd ∷ cmds) all =
      (All-head (IsServed n) cmd cmds all, served_commands now cmds (All-tail (IsServed n) cmd cmds all))

  served_event : (now : ℕ) (event : Event) → IsServedEvent n event → AreServedActs (map (act_after now) (commands_of event))
  served_event now (Do tag cmd) served = (served, tt)
  served_event now (Batch tag cmds) served = served_commands now cmds served
  served_event now Tick served = tt
  served_event now (Stop tag) served = tt

  served_accepted : (past : List Event) (event : Event) → IsServedEvent n event → AreServedActs (accepted_of past event)
  served_accepted past event served = by_test (is_refused past event)
    where
      by_test : (b : Bool) → AreServedActs (cond b [] (map (act_after (ticks past)) (commands_of event)))
      by_test true = tt
      by_test false = served_event (ticks past) event served

  served_after : (past later : List Event) → AreServedEvents n later → AreServedActs (accepted_after past later)
  served_after past [] served = tt
  served_after past (event ∷ later) served =
      served-append (accepted_of past event) (accepted_after (past ++ event ∷ []) later)
      (served_accepted past event served.0) (served_after (past ++ event ∷ []) later served.1)

  -- the channel of a recording is configured
  abbrev IsOnConfigured : Option Begun → Type 0
  IsOnConfigured None = Unit {0}
  IsOnConfigured (Some begun) = IsConfigured n begun.channel

  served_begun : (name : List ℕ) (acts : List Act) → AreServedActs acts → IsOnConfigured (begun_in name acts)
  served_begun name [] served = tt
  served_begun name (act ∷ acts) served = by_channel (served_begun name acts served.1) (begun_by name act.cmd) (λ channel is. begun_served name act.cmd channel is served.0)
    where
      by_channel : IsOnConfigured (begun_in name acts) → (found : Option ℕ) → ((channel : ℕ) → found ≡ Some channel → IsConfigured n channel) →
          IsOnConfigured (elim found [
            | None ↦ begun_in name acts
            | Some channel ↦ Some (record { channel = channel; first = act.ticks; end = first_mark channel acts })
          ])
      by_channel rest None each = rest
      by_channel rest (Some channel) each = each channel refl

  span_to-channel : (channel first end : ℕ) (span : Span) → span_to channel first end ≡ Some span → span.channel ≡ channel
  span_to-channel channel first end span found = by_test (end - first == 0) found
    where
      by_test : (b : Bool) → cond b None (Some (record { channel = channel; first = first; frames = min MAX_FRAMES (end - first) })) ≡ Some span → span.channel ≡ channel
      by_test true is = absurd (none-some span is)
      by_test false is = ap (λ (one : Span). one.channel) (sym (same_Some _ span is))

  served_span : (total : ℕ) (begun : Option Begun) (span : Span) → IsOnConfigured begun → option_and_then (span_of total) begun ≡ Some span → IsConfigured n span.channel
  served_span total None span served found = absurd (none-some span found)
  served_span total (Some begun) span served found =
      subst (IsConfigured n) (sym (span_to-channel begun.channel begun.first (unwrap_or begun.end total) span found)) served

  pub film_served : (history : List Event) (name : List ℕ) (span : Span) → film_span history name ≡ Some span → AreServedEvents n history → IsConfigured n span.channel
  unfolding film_span accepted_commands
  film_served history name span found served =
      served_span (ticks history) (begun_in name (accepted_after [] history)) span
      (served_begun name (accepted_after [] history) (served_after [] history served)) found
