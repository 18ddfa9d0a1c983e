use Rattle.std.proofs.Common.{sym, ap, ◌∙◌, subst}
use Rattle.std.specs.Prelude.{Some}
use Rattle.play_types.specs.Scene.{IsConfigured}
use Rattle.mixer_state.specs.Entries.{table_of}
use Rattle.mixer_state.specs.inner.Changes.{with_entry}
use Rattle.mixer_state.specs.Found.{PlacesView}
use Rattle.mixer_state.proofs.Tables.{table-changed}
use Rattle.mixer_state.proofs.places.Places.replace.Goals as goal

pub returns-clause-entries : goal.returns-clause-entries
returns-clause-entries c =
    table-changed c.self.inside.channels.items c.from.result c.replace.new.self c.args.place c.layer.result c.index_mut.result.now (Some c.args.courses)
    (c.from.ensures ∙ c.channel.ensures.value) c.layer.ensures.value c.index_mut.ensures.value
    (subst (λ (places : PlacesView). IsConfigured places.channels c.args.place.channel) (sym c.self.view_is) c.requires.channel) c.replace.ensures.value
    ∙ ap (λ (places : PlacesView). with_entry c.args.place (Some c.args.courses) (table_of places.entries)) c.self.view_is
