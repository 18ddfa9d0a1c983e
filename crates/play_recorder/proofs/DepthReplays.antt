-- A replay without frames goes on, event by event.
use Rattle.std.proofs.Common.{◌≡◌, ◌≢◌, ℕ, List, [], ◌∷◌, ◌++◌, length, map, sym, ap, ◌∙◌, subst}
use Rattle.std.specs.List.{range_with_len}
use Rattle.std.proofs.lemmas.List.FromFn.{length-map-range_with_len}
use Rattle.play_types.specs.Config.{ConfigView}
use Rattle.play_types.specs.Scene.{IsConfigured}
use Rattle.play_types.specs.declared.event.Event.{Event}
use Rattle.play_types.specs.declared.event.Event.TheVariants.{Tick}
use Rattle.history_model.specs.pictures.Scene.{scene}
use Rattle.stage_core.specs.Stage.{StageView, after_event}
use Rattle.band_render.specs.Histories.{scenes_after}
use Rattle.needed_frames.specs.Counted.{DepthsView, HasDepths, depth_at}
use Rattle.needed_frames.specs.Depth.{depth}
use Rattle.needed_frames.proofs.Counting.{depth-last, depths-other}
use Rattle.play_recorder.specs.declared.depth_replay.DepthReplay.{DepthReplay}
use Rattle.play_recorder.specs.declared.replay.Replay.{Replay}
use Rattle.play_recorder.specs.inner.Depths.{KnowsDepths}
use Rattle.play_recorder.specs.inner.Replay.{HasScenes, events_in, new_stage}

-- before the first event the depths are known
pub new_known : (replay : DepthReplay) (config : ConfigView) → replay.played.stage ≡ new_stage config → HasScenes replay.played
    → ((channels : ℕ) → HasDepths channels [] replay.depths) → KnowsDepths replay
new_known replay config new scenes depths = record {
  scenes = scenes;
  depths = subst (λ (s : StageView). HasDepths replay.played.stage.channels s.journal.events replay.depths) (sym new) (depths replay.played.stage.channels);
}

-- an event that is no tick was played
pub known_after_event : (old : DepthReplay) (played : Replay) (event : Event) → event ≢ Tick → KnowsDepths old → HasScenes played
    → played.stage ≡ after_event event old.played.stage → KnowsDepths (record old { played = played })
known_after_event old played event other is scenes made = record {
  scenes = scenes;
  depths = subst (λ (s : StageView). HasDepths s.channels s.journal.events old.depths) (sym made)
      (depths-other old.played.stage.channels (events_in old.played) event old.depths other is.depths);
}

-- a tick was played, and counted
module _ (old : DepthReplay) (played : Replay) (depths : DepthsView) (is : KnowsDepths old)
    (made : played.stage ≡ after_event Tick old.played.stage)
    (shown : played.scenes ≡ map (scene (events_in old.played)) (range_with_len 1 old.played.stage.channels)) where
  scene_count : length played.scenes ≡ old.played.stage.channels
  scene_count = ap length shown ∙ length-map-range_with_len (scene (events_in old.played)) 1 old.played.stage.channels

  -- there is a scene for each channel of the stage
  pub as_many : length played.scenes ≡ played.stage.channels
  as_many = scene_count ∙ sym (ap (λ (s : StageView). s.channels) made)

  module _ (counts : (history : List Event) → HasDepths (length played.scenes) history old.depths → played.scenes ≡ scenes_after history (length played.scenes)
      → HasDepths (length played.scenes) (history ++ Tick ∷ []) depths) where
    counted : HasDepths old.played.stage.channels (events_in old.played ++ Tick ∷ []) depths
    counted =
        subst (λ (n : ℕ). HasDepths n (events_in old.played ++ Tick ∷ []) depths) scene_count
        (counts (events_in old.played)
        (subst (λ (n : ℕ). HasDepths n (events_in old.played) old.depths) (sym scene_count) is.depths)
        (shown ∙ ap (scenes_after (events_in old.played)) (sym scene_count)))

    pub known_after_tick : KnowsDepths (record { played = played; depths = depths })
    known_after_tick = record {
      scenes = as_many;
      depths = subst (λ (s : StageView). HasDepths s.channels s.journal.events depths) (sym made) counted;
    }

-- the depth of a channel at the tick that was played
pub depth_there : (old new : DepthReplay) → KnowsDepths new → new.played.stage ≡ after_event Tick old.played.stage
    → (channel : ℕ) → IsConfigured old.played.stage.channels channel → depth_at channel new.depths ≡ depth (events_in old.played) channel
depth_there old new is made channel h =
    (subst (λ (s : StageView). HasDepths s.channels s.journal.events new.depths) made is.depths).each channel h ∙ depth-last (events_in old.played) channel
