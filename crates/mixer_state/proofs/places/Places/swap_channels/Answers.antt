use Rattle.std.proofs.Common.{◌-◌, ℕ, List, get_or, set, sym, ap, ap₂, ◌∙◌, subst}
use Rattle.play_types.specs.Scene.{IsConfigured}
use Rattle.history_model.specs.stage.Trail.{channel_swapped_place}
use Rattle.mixer_state.specs.Entries.{table_of}
use Rattle.mixer_state.specs.Found.{LayersView, PlacesView}
use Rattle.mixer_state.proofs.Tables.{no_layers, table-swap}
use Rattle.mixer_state.proofs.places.Places.swap_channels.Goals as goal

pub returns-clause-entries : goal.returns-clause-entries
returns-clause-entries c place =
    let channels : List LayersView = c.self.inside.channels.items in
    let a : ℕ = c.args.a in
    let b : ℕ = c.args.b in
    let is_configured = λ (n : ℕ) (h : IsConfigured c.args.self.now.channels n).
    subst (λ (places : PlacesView). IsConfigured places.channels n) (sym c.self.view_is) h in
    let exchanged = λ (n m : ℕ). set (set channels (n - 1) (get_or channels (m - 1) no_layers)) (m - 1) (get_or channels (n - 1) no_layers) in
    table-swap channels _ a b (is_configured a c.requires.a) (is_configured b c.requires.b) no_layers
    (c.swap.ensures.by_index.3 no_layers ∙ ap₂ exchanged c.from.ensures c.from-2.ensures) place
    ∙ ap (λ (places : PlacesView). table_of places.entries (channel_swapped_place a b place)) c.self.view_is
