use Rattle.std.proofs.Common.{◌∙◌, ap, rules}
use Rattle.play_viewer.proofs.Lines.{workers_within}
use Rattle.play_viewer.proofs.Runs.{refused_line, viewed_line}
use Rattle.play_viewer.proofs.program.view_words.Goals as goal

pub returns : goal.returns
returns g c =
    let state = g.D.Media.MediaDir.state in
    viewed_line _ c.in_ok-words.words c.in_ok-setup.setup c.as_str.result.now _ _ _ _ _ _ _ _
    c.in_ok-words.ensures c.as_str.ensures.value (ap state c.media.ensures.value) c.in_ok-setup.ensures.exact
    (ap state (c.view_setup.ensures.folder ∙ g.met.D.Desk.folder_is c.args.desk.now c.set_up.new.folder))
    (g.met.D.Desk.state_stays c.args.desk.now c.set_up.new.folder) c.view_setup.ensures.views

pub returns-in_err-setup : goal.returns-in_err-setup
returns-in_err-setup g c =
    let state = g.D.Media.MediaDir.state in
    refused_line _ c.in_ok-words.words c.in_err-setup.field-0.0 c.as_str.result.now _ _ _ _ _ _ _
    c.in_ok-words.ensures c.as_str.ensures.value (ap state c.media.ensures.value) c.in_err-setup.ensures.exact
    (ap state (g.met.D.Desk.folder_is c.args.desk.now c.set_up.new.folder))
    (g.met.D.Desk.state_stays c.args.desk.now c.set_up.new.folder) (search rules)

pub view_setup-requires-clause-workers : goal.view_setup-requires-clause-workers
view_setup-requires-clause-workers g c κs within = (workers_within _ c.in_ok-words.words c.in_ok-words.ensures).0

pub view_setup-requires-clause-few : goal.view_setup-requires-clause-few
view_setup-requires-clause-few g c κs within = (workers_within _ c.in_ok-words.words c.in_ok-words.ensures).1
