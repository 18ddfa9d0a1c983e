-- The threads of a run before they begin.
use Rattle.std.proofs.Common.{◌≡◌, ◌+◌, ◌≤◌, ℕ, List, map, reverse, length, refl, sym, ap, subst, ◌∙◌, vec_len}
use Rattle.std.proofs.lemmas.List.{length-map, length-reverse}
use Rattle.play_types.specs.History.{ticks}
use Rattle.play_types.specs.declared.event.Event.{Event}
use Rattle.play_types.specs.declared.event.TheConstants.{MAX_TICKS}
use Rattle.play_outside.specs.declared.devices.Devices.{Devices}
use Rattle.history_model.specs.scripts.History.{channel_size}
use Rattle.band_render.specs.Rendered.{sizes}
use Rattle.play_scene.specs.Frames.{FrameView}
use Rattle.play_scene.specs.Picture.{clips_of}
use Rattle.scene_pipe.specs.Calls.{AreNewEnds}
use Rattle.play_ticker.specs.Frames.{AreLast, setup_for}
use Rattle.stage_lock.specs.Views.{PassView, SharedView, Sizes}
use Rattle.server_run.specs.Run.{Program, setup_of}
use Rattle.server_run.specs.inner.Threads.{HasBegun, HasNewPasses, IsLogOf, IsNewTicker, IsRunMemory}
use Rattle.server_run.specs.declared.run_memory.RunMemory.{RunMemory}
use Rattle.server_run.specs.declared.run_threads.RunThreads.{RunThreads}
use Rattle.server_run.specs.declared.shared_run.SharedRun.{SharedRun}

module _ {C D O : Type 0} (program : Program) (memory : RunMemory D) (devices : Devices C D O) (begun : RunThreads C D O × SharedRun D O)
    (is : IsRunMemory program memory) (has : HasBegun memory devices begun) where
  pub channels_are : begun.1.stage.sizes.channels ≡ length program.config.channels
  channels_are = ap (λ (s : SharedView). s.sizes.channels) has.stage ∙ ap (λ (s : Sizes). s.channels) is.sizes_are

  pub limit_is : begun.1.stage.sizes.limit ≡ program.config.journal_limit
  limit_is = ap (λ (s : SharedView). s.sizes.limit) has.stage ∙ ap (λ (s : Sizes). s.limit) is.sizes_are

  pub given_is : begun.1.stage.sizes.given ≡ program.given
  given_is = ap (λ (s : SharedView). s.sizes.given) has.stage ∙ ap (λ (s : Sizes). s.given) is.sizes_are

  pub passes_many : begun.1.stage.sizes.passes ≡ program.config.connections + 2
  passes_many = ap (λ (s : SharedView). s.sizes.passes) has.stage ∙ is.threads.many

  -- the passes are new ones of the stage that the threads share
  pub passes_of_stage : (count : ℕ) → vec_len devices.doors ≡ count → HasNewPasses begun.1.stage count begun.0
  passes_of_stage count same =
      subst (λ (n : ℕ). HasNewPasses begun.1.stage n begun.0) same
      (subst (λ (s : SharedView). HasNewPasses s (vec_len devices.doors) begun.0) (sym has.stage) has.passes)

  -- the frames of the ticker are those of the last tick before the run
  frames_are : sizes begun.0.ticker.renderer ≡ map channel_size program.config.channels
  frames_are = ap sizes has.renderer ∙ is.frames

  pub setup_is : setup_for begun.0.ticker.renderer program.media ≡ setup_of program
  setup_is = λ i. record { channels = frames_are i; clips = clips_of program.media }

  pub new_ticker : vec_len devices.outs ≡ length program.config.channels → IsNewTicker begun.1.stage program.media begun.0.ticker
  new_ticker many =
      let pass = (passes_of_stage (vec_len devices.doors) refl).ticker in record {
        ready = record {
          tick = record {
            of = ap (λ (p : PassView). p.stage) pass;
            first = ap (λ (p : PassView). p.number) pass;
            made = ap (λ (p : PassView). p.made) pass;
            few = subst (λ (given : List Event). ticks given ≤ MAX_TICKS) (sym given_is) is.on.few;
          };
          renderer = sym (length-map begun.0.ticker.renderer (λ (frame : FrameView). frame.size)) ∙ ap length frames_are
              ∙ length-map program.config.channels channel_size ∙ sym channels_are;
          last = subst (λ (given : List Event). AreLast given program.media begun.0.ticker.renderer) (sym given_is)
              (subst (λ (frames : List FrameView). AreLast program.given program.media frames) (sym has.renderer) is.last);
          outs = begun.0.ticker.outs.ok.0 ∙ ap length has.devices_held.outs ∙ sym devices.outs.ok.0 ∙ many ∙ sym channels_are;
        };
        pipe = subst (λ (n : ℕ). AreNewEnds n begun.0.ticker.ends.stage_end begun.0.ticker.ends.write_end) (is.pipe ∙ sym channels_are) has.ends;
      }

  pub log_of : IsLogOf begun.1.stage begun.0.others.log
  log_of = ap (λ (p : PassView). p.stage) (passes_of_stage (vec_len devices.doors) refl).log

  -- there is a connection worker for each door
  pub workers_many : length begun.0.others.connection_workers.items ≡ length devices.doors.items
  workers_many =
      sym (length-map (reverse begun.0.others.connection_workers.items) _ ∙ length-reverse begun.0.others.connection_workers.items)
      ∙ ap length has.devices_held.doors
