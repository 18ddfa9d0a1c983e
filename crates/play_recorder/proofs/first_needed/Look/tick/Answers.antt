use Rattle.std.proofs.Common.{◌≡◌, min, ap, sym, ◌∙◌, arith}
use Rattle.play_types.specs.History.{ticks}
use Rattle.play_journal.specs.Journal.{JournalView}
use Rattle.history_model.specs.recordings.Film.{Span}
use Rattle.stage_core.specs.Stage.{StageView}
use Rattle.needed_frames.specs.Counted.{depth_at}
use Rattle.play_recorder.specs.inner.Replay.{events_in}
use Rattle.play_recorder.proofs.DepthReplays.{depth_there}
use Rattle.play_recorder.proofs.Looking.{needed_at_tick}
use Rattle.play_recorder.proofs.first_needed.Look.tick.Goals as goal

pub depth-depth-requires : goal.depth-depth-requires
depth-depth-requires c =
    let same : c.film.inside.channel ≡ c.args.self.now.film.now.channel = ap (λ (span : Span). span.channel) c.film.view_is in
    let many = ap (λ (stage : StageView). stage.channels) c.tick.ensures.made in
    (omega (arith, same, c.requires.channel.0), omega (arith, same, c.requires.channel.1, many, c.tick.ensures.few))

pub returns-then-has-clause-first : goal.returns-then-has-clause-first
returns-then-has-clause-first c =
    let look = c.args.self.now in
    let same : c.film.inside.channel ≡ look.film.now.channel = ap (λ (span : Span). span.channel) c.film.view_is in
    let before = c.ticks-before.ensures.value ∙ ap (λ (j : JournalView). ticks j.events) c.journal.ensures in
    needed_at_tick look.film.now (events_in look.replay.played) look.first c.ticks-before.result c.depth-depth.result c.min-self.result before
    (sym c.has.ensures ∙ c.if-has.true)
    (c.depth-depth.ensures.value ∙ ap (λ channel. depth_at channel c.tick.new.self.depths) same
    ∙ depth_there look.replay c.tick.new.self c.tick.ensures.depths c.tick.ensures.made look.film.now.channel c.requires.channel)
    (c.min-self.ensures ∙ ap (λ n. min n look.first) c.saturating_sub.ensures)
