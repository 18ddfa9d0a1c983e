use Rattle.std.proofs.Common.{◌∙◌, ap, rules, sym}
use Rattle.std.specs.Prelude.{Some, option_map, string_bytes}
use Rattle.play_server.proofs.RunsServer.{ran_line, refused_line, resumed_line}
use Rattle.play_server.proofs.program.serve_words.Goals as goal

pub returns : goal.returns
returns g c =
    let state = g.E.Media.MediaDir.state in
    ran_line _ _ _ c.in_ok-words.words c.in_ok-setup.setup c.as_str.result.now _ _ _ _ _ _ _ _
    c.in_ok-words.ensures (ap (option_map string_bytes) c.in-None.is) c.as_str.ensures.value (ap state c.media.ensures.value) c.in_ok-setup.ensures.exact
    (ap state (c.serve_setup.ensures.folder ∙ g.met.E.Site.folder_is c.args.site.now c.set_up.new.folder))
    (g.met.E.Site.state_stays c.args.site.now c.set_up.new.folder) c.serve_setup.ensures.run

pub returns-in-Some : goal.returns-in-Some
returns-in-Some g c =
    let state = g.E.Media.MediaDir.state in
    resumed_line _ _ _ c.in_ok-words.words c.in_ok-setup.setup c.as_str-in-Some.result.now c.as_str.result.now _ _ _ _ _ _ _ _
    c.in_ok-words.ensures (ap (option_map string_bytes) c.in-Some.is ∙ ap Some (sym c.as_str-in-Some.ensures.value)) c.as_str.ensures.value (ap state c.media.ensures.value) c.in_ok-setup.ensures.exact
    (ap state (c.serve_after.ensures.folder ∙ g.met.E.Site.folder_is c.args.site.now c.set_up.new.folder))
    (g.met.E.Site.state_stays c.args.site.now c.set_up.new.folder) c.serve_after.ensures.run

pub returns-in_err-setup : goal.returns-in_err-setup
returns-in_err-setup g c =
    let state = g.E.Media.MediaDir.state in
    refused_line _ _ _ c.in_ok-words.words c.in_err-setup.field-0.0 c.as_str.result.now _ _ _ _ _ _ _
    c.in_ok-words.ensures c.as_str.ensures.value (ap state c.media.ensures.value) c.in_err-setup.ensures.exact
    (ap state (g.met.E.Site.folder_is c.args.site.now c.set_up.new.folder))
    (g.met.E.Site.state_stays c.args.site.now c.set_up.new.folder) (search rules)
