use Rattle.std.proofs.Common.{ap, subst, sym, ◌∙◌}
use Rattle.play_scene.specs.Picture.{clips_of}
use Rattle.band_render.specs.Histories.{Represents}
use Rattle.band_render.specs.Rendered.{sizes}
use Rattle.play_recorder.specs.inner.Replay.{CanPlay, new_stage, stage_with}
use Rattle.play_recorder.proofs.LastTicks.{all_framed, framed_last, framed_unneeded}
use Rattle.play_recorder.proofs.Playing.{can_play}
use Rattle.play_recorder.proofs.last_tick.LastTickSource.play.Goals as goal

pub play-requires-clause-can : goal.play-requires-clause-can
play-requires-clause-can g c κs within =
    let source = c.args.self.now in
    subst (λ config. CanPlay (new_stage config) source.journal.now.events) (sym c.in_ok-replay.ensures.config)
    (can_play source.config.now source.journal.now c.held-held.ensures.range c.requires.served c.requires.room)

pub returns-in-Ok-clause-unneeded : goal.returns-in-Ok-clause-unneeded
returns-in-Ok-clause-unneeded g c =
    let source = c.args.self.now in
    c.unneeded.ensures
    ∙ framed_unneeded source.config.now source.media.now c.args.skipped source.journal.now.events c.play.new.self.frames
    (all_framed source.config.now source.media.now c.args.skipped source.journal.now.events c.play.new.self.frames c.in-Ok.ensures.ready
    (c.in-Ok.ensures.config ∙ c.in_ok-replay.ensures.config) (c.in-Ok.ensures.media ∙ c.in_ok-replay.ensures.media)
    (c.in-Ok.ensures.skipped ∙ c.in_ok-replay.ensures.skipped)
    (c.in-Ok.ensures.stage ∙ ap (λ config. stage_with config source.journal.now.events) c.in_ok-replay.ensures.config))

pub returns-in-Ok-clause-last : goal.returns-in-Ok-clause-last
returns-in-Ok-clause-last g c early =
    let source = c.args.self.now in
    subst (λ renderer. Represents (record { channels = sizes renderer; clips = clips_of source.media.now }) source.journal.now.events source.media.now renderer)
    (sym c.into_renderer.ensures)
    (framed_last source.config.now source.media.now c.args.skipped source.journal.now.events c.play.new.self.frames
    (all_framed source.config.now source.media.now c.args.skipped source.journal.now.events c.play.new.self.frames c.in-Ok.ensures.ready
    (c.in-Ok.ensures.config ∙ c.in_ok-replay.ensures.config) (c.in-Ok.ensures.media ∙ c.in_ok-replay.ensures.media)
    (c.in-Ok.ensures.skipped ∙ c.in_ok-replay.ensures.skipped)
    (c.in-Ok.ensures.stage ∙ ap (λ config. stage_with config source.journal.now.events) c.in_ok-replay.ensures.config))
    early)
