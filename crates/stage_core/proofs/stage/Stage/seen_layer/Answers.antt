use Rattle.std.proofs.Common.{◌≡◌, ℕ, List, length, filter_map, slice_get, sym, ap, ◌∙◌, arith}
use Rattle.std.specs.Prelude.{None}
use Rattle.play_types.specs.Scene.{IsConfigured}
use Rattle.play_types.specs.declared.event.Event.{Event}
use Rattle.history_model.specs.stage.Places.{Places}
use Rattle.stage_core.specs.Stage.{StageView}
use Rattle.stage_core.specs.LiveState.{Channels, places_of}
use Rattle.stage_core.specs.Seen.{seen_layers}
use Rattle.stage_core.specs.declared.seen.LayerView.{LayerView}
use Rattle.stage_core.specs.inner.Seen.{seen_of}
use Rattle.stage_core.proofs.SeenLayers.{seen-outside, seen-places}
use Rattle.stage_core.proofs.stage.Stage.seen_layer.Goals.{then-channel-eq0-via-then-channel-eq0, then-channel-eq0-via-else-channel-eq0+then-from-count}
use Rattle.stage_core.proofs.stage.Stage.seen_layer.Goals as goal

-- the stage lacks the channel
pub returns-then-channel-eq0-clause-value : goal.returns-then-channel-eq0-clause-value
returns-then-channel-eq0-clause-value c =
    let n : ℕ = length c.self.inside.live.places in
    let told : (IsConfigured n c.args.channel → ⊥) → None ≡ slice_get (seen_layers c.args.self.now.journal.events c.args.channel) c.args.at =
    λ outside.
    ap (λ (layers : List LayerView). slice_get layers c.args.at) (sym (seen-outside n c.self.inside.journal.events c.args.channel c.self.invariant.live.served outside))
    ∙ ap (λ (s : StageView). slice_get (seen_layers s.journal.events c.args.channel) c.args.at) c.self.view_is in
    elim c.then-channel-eq0.branch [
      | then-channel-eq0-via-then-channel-eq0 w ↦ told (λ one. absurd (omega (arith, one.0, w.if-channel-eq0.true)))
      | then-channel-eq0-via-else-channel-eq0+then-from-count w ↦
          let count : w.count.result ≡ n = w.count.ensures ∙ ap (λ (channels : Channels). length channels) c.places-places.ensures in
          told (λ one. absurd (omega (arith, one.1, w.if-from-count.true, w.from.ensures, count)))
    ]

-- the live places of the channel are those of the history
pub returns-clause-value : goal.returns-clause-value
returns-clause-value c =
    let events : List Event = c.self.inside.journal.events in
    let count : c.count.result ≡ length c.self.inside.live.places = c.count.ensures ∙ ap (λ (channels : Channels). length channels) c.places-places.ensures in
    let of_channel : IsConfigured (length c.self.inside.live.places) c.args.channel =
    (omega (arith, c.if-channel-eq0.false), omega (arith, c.if-from-count.false, c.from.ensures, count)) in
    c.seen.ensures.value
    ∙ ap (λ (places : Places). slice_get (filter_map seen_of places) c.args.at)
    (c.channel.ensures ∙ ap (places_of c.args.channel) c.places-places.ensures ∙ c.self.invariant.live.shows.places c.args.channel of_channel)
    ∙ ap (λ (layers : List LayerView). slice_get layers c.args.at) (seen-places events c.args.channel)
    ∙ ap (λ (s : StageView). slice_get (seen_layers s.journal.events c.args.channel) c.args.at) c.self.view_is
