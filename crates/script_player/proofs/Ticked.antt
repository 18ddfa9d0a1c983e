-- A player at a tick that its stage made.
use Rattle.std.proofs.Common.{◌≡◌, ◌≢◌, ℕ, ◌+◌, List, [], ◌∷◌, ◌++◌, length, map, sym, ap, ◌∙◌, subst, subst₂, arith, append-nil, append_assoc}
use Rattle.std.specs.List.{range_with_len}
use Rattle.std.proofs.lemmas.List.FromFn.{length-map-range_with_len}
use Rattle.play_types.specs.History.{ticks, stop_at}
use Rattle.play_types.specs.declared.drawn.Drawn.{Drawn}
use Rattle.play_types.specs.declared.event.Event.{Event}
use Rattle.play_types.specs.declared.event.Event.TheVariants.{Batch, Do, Stop, Tick}
use Rattle.play_types.proofs.Histories.{stop_at-append}
use Rattle.history_model.specs.pictures.Scene.{scene}
use Rattle.server_setup.specs.declared.setup.ServerSetup.{ServerSetup}
use Rattle.stage_core.specs.Stage.{StageView, after_event}
use Rattle.script_player.specs.declared.display.MadeTick.{MadeTick}
use Rattle.script_player.specs.declared.player.Player.{Player}
use Rattle.script_player.specs.Display.{IsMadeAfter, IsShownBy}
use Rattle.script_player.specs.Player.{IsReady, MakesNoTick, channels_in, events_in}

module _ (player : Player) (stage : StageView) (scenes : List (List Drawn)) (ready : IsReady player)
    (made : stage ≡ after_event Tick player.stage) (drawn : scenes ≡ map (scene (events_in player)) (range_with_len 1 player.stage.channels)) where
  pub history_after : stage.journal.events ≡ events_in player ++ Tick ∷ []
  history_after = ap (λ (s : StageView). s.journal.events) made

  -- there is a scene for each channel
  scene_count : length scenes ≡ channels_in player
  scene_count = ap length drawn ∙ length-map-range_with_len (scene (events_in player)) 1 player.stage.channels ∙ ready.channels

  -- the player goes on after the tick
  pub ready_after_tick : IsReady (record player { stage = stage; scenes = scenes })
  ready_after_tick = record {
    limit = ap (λ (s : StageView). s.journal.limit) made ∙ ready.limit;
    channels = ap (λ (s : StageView). s.channels) made ∙ ready.channels;
    scenes = scene_count;
    batches = ready.batches;
    running = ap stop_at history_after ∙ stop_at-append (events_in player) (Tick ∷ []) ready.running;
  }

  -- the tick was made after the events of the player
  pub made_after : (tick : MadeTick) → tick.setup.now ≡ player.setup → tick.stage.now ≡ stage → tick.scenes.now ≡ scenes → tick.number ≡ ticks (events_in player) + 1
      → IsMadeAfter (events_in player) tick
  made_after tick setup is shown number = record {
    history = ap (λ (s : StageView). s.journal.events) is ∙ history_after;
    scenes = shown ∙ drawn
        ∙ ap (λ (n : ℕ). map (scene (events_in player)) (range_with_len 1 n)) (ready.channels ∙ ap (λ (s : ServerSetup). length s.config.channels) (sym setup));
    number = number;
  }

-- a display that shows the last tick of some events shows it after events that are no ticks
module _ (shows : ServerSetup → List Event → Type 0) (keeps : (setup : ServerSetup) (events : List Event) (one : Event) → one ≢ Tick → shows setup events → shows setup (events ++ one ∷ [])) where
  kept_after : (setup : ServerSetup) (events more : List Event) → ticks more ≡ 0 → shows setup events → shows setup (events ++ more)
  kept_after setup events [] none last = subst (shows setup) (sym (append-nil events)) last
  kept_after setup events (Tick ∷ more) none last = absurd (omega (arith, none))
  kept_after setup events (Do tag command ∷ more) none last =
      subst (shows setup) (append_assoc events (Do tag command ∷ []) more)
      (kept_after setup (events ++ Do tag command ∷ []) more none (keeps setup events (Do tag command) (λ same. cc) last))
  kept_after setup events (Batch tag commands ∷ more) none last =
      subst (shows setup) (append_assoc events (Batch tag commands ∷ []) more)
      (kept_after setup (events ++ Batch tag commands ∷ []) more none (keeps setup events (Batch tag commands) (λ same. cc) last))
  kept_after setup events (Stop tag ∷ more) none last =
      subst (shows setup) (append_assoc events (Stop tag ∷ []) more)
      (kept_after setup (events ++ Stop tag ∷ []) more none (keeps setup events (Stop tag) (λ same. cc) last))

  pub still_shown : (waiting : List ℕ) (old new : Player) → MakesNoTick old new → IsShownBy shows waiting old → IsShownBy shows waiting new
  still_shown waiting old new makes shown = record {
    last = subst (λ (setup : ServerSetup). shows setup (events_in new)) (sym makes.setup)
        (subst (shows old.setup) (sym makes.history) (kept_after old.setup (events_in old) makes.made makes.none shown.last));
    none_waits = shown.none_waits;
  }

-- a display that shows no tick yet shows the last tick of a player without events
pub first_shown : (shows : ServerSetup → List Event → Type 0) (waiting : List ℕ) (player : Player) (setup : ServerSetup) → player.setup ≡ setup → events_in player ≡ [] → shows setup []
    → waiting ≡ [] → IsShownBy shows waiting player
first_shown shows waiting player setup on none first none_waits = record {
  last = subst₂ shows (sym on) (sym none) first;
  none_waits = none_waits;
}
