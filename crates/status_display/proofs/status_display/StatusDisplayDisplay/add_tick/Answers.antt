use Rattle.std.proofs.Common.{[], subst}
use Rattle.play_outside.specs.Gathered.{Adds}
use Rattle.status_display.proofs.TickStatus.{scene_count, sent_added, text_of_status}
use Rattle.status_display.proofs.status_display.StatusDisplayDisplay.add_tick.Goals as goal

pub write_statuses-requires : goal.write_statuses-requires
write_statuses-requires g c = scene_count c.requires.events c.args.tick c.requires.made

pub returns-clause-added : goal.returns-clause-added
returns-clause-added g c = λ events made last.
    subst (λ text. Adds c.write_statuses.result text [] (g.K.Sink.state c.args.out.now) (g.K.Sink.state c.write_statuses.new.out)) (text_of_status events c.args.tick made)
    (sent_added c.write_statuses.result _ _ _ c.write_statuses.ensures)
