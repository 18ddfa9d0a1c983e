use Rattle.std.proofs.Common.{sym, ap, ◌∙◌, subst}
use Rattle.play_types.specs.Scene.{IsConfigured}
use Rattle.mixer_state.specs.Entries.{table_of}
use Rattle.mixer_state.specs.inner.Changes.{without_channel}
use Rattle.mixer_state.specs.Found.{PlacesView}
use Rattle.mixer_state.proofs.Tables.{table-cleared}
use Rattle.mixer_state.proofs.places.Places.clear.Goals as goal

pub returns-clause-entries : goal.returns-clause-entries
returns-clause-entries c =
    table-cleared c.self.inside.channels.items c.from.result c.clear.new.self c.args.channel c.from.ensures
    (subst (λ (places : PlacesView). IsConfigured places.channels c.args.channel) (sym c.self.view_is) c.requires) c.clear.ensures.value
    ∙ ap (λ (places : PlacesView). without_channel c.args.channel (table_of places.entries)) c.self.view_is
