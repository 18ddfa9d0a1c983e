-- What a run begins with, if no events are given.
use Rattle.std.proofs.Common.{◌≡◌, ◌+◌, List, [], ◌∷◌, length, map, refl, sym, ap, subst, ◌∙◌}
use Rattle.std.proofs.lemmas.List.Elements.{All-nil}
use Rattle.play_types.specs.Config.{ChannelView, ConfigView}
use Rattle.play_types.specs.declared.event.Event.{Event}
use Rattle.clip_format.specs.Table.{Entry}
use Rattle.history_model.specs.scripts.History.{channel_size}
use Rattle.history_replay.specs.Replay.{IsWritten}
use Rattle.band_render.specs.Rendered.{sizes}
use Rattle.play_scene.specs.Frames.{FrameView, zero_frame}
use Rattle.play_ticker.specs.Frames.{AreBlank, AreLast}
use Rattle.stage_core.specs.Stage.{StageView}
use Rattle.stage_lock.specs.Views.{Sizes, sizes_of}
use Rattle.server_run.specs.Beginning.{IsBeginning, MayGoOn, program_from}
use Rattle.server_run.specs.Run.{playout_of}
use Rattle.server_run.specs.inner.Threads.{sizes_for}
use Rattle.server_run.specs.declared.beginning.Beginning.{Beginning}

-- the formats of frames that were just made are those of the channels
sizes_of_zero : (channels : List ChannelView) → sizes (map zero_frame channels) ≡ map channel_size channels
sizes_of_zero [] = refl
sizes_of_zero (channel ∷ channels) = ap (λ l. channel_size channel ∷ l) (sizes_of_zero channels)

-- a new stage has no events
new_stage : (config : ConfigView) (media : List Entry) (stage : StageView)
    → stage ≡ record { journal = record { limit = config.journal_limit; events = [] }; channels = length config.channels } → MayGoOn config media stage
new_stage config media stage is =
    subst (MayGoOn config media) (sym is) (record {
      limit = refl;
      channels = refl;
      written = λ digests. All-nil (IsWritten (playout_of (record { config = config; media = media; given = [] }) digests));
      running = refl;
    })

-- the beginning of a run without events
pub new_beginning : (config : ConfigView) (media : List Entry) (beginning : Beginning)
    → ((entries : List Entry) (frames : List FrameView) → AreBlank frames → AreLast [] entries frames)
    → beginning.stage ≡ record { journal = record { limit = config.journal_limit; events = [] }; channels = length config.channels }
    → beginning.renderer ≡ map zero_frame config.channels → IsBeginning config media beginning
new_beginning config media beginning blank_law stage frames =
    let none : beginning.stage.journal.events ≡ [] = ap (λ (s : StageView). s.journal.events) stage in
    record {
      stage = new_stage config media beginning.stage stage;
      frames = ap sizes frames ∙ sizes_of_zero config.channels;
      last = subst (λ (events : List Event). AreLast events media beginning.renderer) (sym none)
          (blank_law media beginning.renderer (record { channels = config.channels; blank = frames }));
    }

-- the fixed sizes of the shared stage of a beginning are those of its program
pub sizes_begun : (config : ConfigView) (media : List Entry) (stage : StageView) (shared : Sizes) → MayGoOn config media stage
    → shared ≡ sizes_of stage (config.connections + 2) → shared ≡ sizes_for (program_from config media stage)
sizes_begun config media stage shared begins is =
    is ∙ (λ i. record { limit = begins.limit i; channels = begins.channels i; passes = config.connections + 2; given = stage.journal.events })
