use Rattle.std.proofs.Common.{sym, ap, ◌∙◌, subst}
use Rattle.std.specs.Prelude.{Some}
use Rattle.play_types.specs.Scene.{IsConfigured}
use Rattle.mixer_state.specs.Entries.{table_of}
use Rattle.mixer_state.specs.inner.Changes.{with_entry}
use Rattle.mixer_state.specs.Found.{PlacesView}
use Rattle.mixer_state.proofs.Tables.{entries-same, err_keeps, table-changed}
use Rattle.mixer_state.proofs.places.Places.put.Goals as goal

pub returns-clause-ok : goal.returns-clause-ok
returns-clause-ok c =
    table-changed c.self.inside.channels.items c.from.result c.put.new.self c.args.place c.layer.result c.index_mut.result.now (Some c.args.courses)
    (c.from.ensures ∙ c.channel.ensures.value) c.layer.ensures.value c.index_mut.ensures.value
    (subst (λ (places : PlacesView). IsConfigured places.channels c.args.place.channel) (sym c.self.view_is) c.requires) c.in_ok-put.ensures.ok
    ∙ ap (λ (places : PlacesView). with_entry c.args.place (Some c.args.courses) (table_of places.entries)) c.self.view_is

pub returns-in_err-put-clause-err : goal.returns-in_err-put-clause-err
returns-in_err-put-clause-err c =
    err_keeps c.from_residual.result
    (entries-same c.self.inside.channels.items c.from.result c.put.new.self c.index_mut.result.now c.index_mut.ensures.value c.in_err-put.ensures.err
    ∙ ap (λ (places : PlacesView). places.entries) c.self.view_is)
