use Rattle.std.proofs.Common.{◌≡◌, ◌+◌, ◌≤◌, true, length, sym, ap, ap₂, ◌∙◌, subst}
use Rattle.std.proofs.lemmas.Bool.{cond-true}
use Rattle.play_types.specs.declared.place.TheConstants.{MAX_LIVE_LAYERS}
use Rattle.history_model.specs.stage.Life.{Life, effect}
use Rattle.stage_core.specs.LiveState.{Channels, changed_place, is_some_over, places_of, with_life}
use Rattle.stage_core.proofs.Exchanges.{put_back_at, room_after}
use Rattle.stage_core.proofs.channels.LivePlaces.change.Goals as goal

pub put-requires-then-is_some_over-clause-room : goal.put-requires-then-is_some_over-clause-room
put-requires-then-is_some_over-clause-room c =
    subst (λ (channels : Channels). length (places_of c.args.at.channel channels) ≤ MAX_LIVE_LAYERS + 2) (sym c.put.ensures)
    (room_after c.args.self.now c.args.at c.layer_after.result c.requires.channel c.requires.few)

-- if some channel has too many, the place is as before
pub returns-then-is_some_over-clause-after : goal.returns-then-is_some_over-clause-after
returns-then-is_some_over-clause-after c =
    let old : Channels = c.args.self.now in
    let same : c.put.new.self ≡ changed_place c.args.at c.args.cmd.now old =
    c.put.ensures ∙ ap (λ (s : Life). with_life c.args.at s old) (c.layer_after.ensures ∙ ap (effect c.args.cmd.now) c.layer-before.ensures.value) in
    let over : is_some_over (changed_place c.args.at c.args.cmd.now old) ≡ true =
    ap is_some_over (sym same) ∙ sym c.is_some_over.ensures ∙ c.if-is_some_over.true in
    c.put-then-is_some_over.ensures
    ∙ ap₂ (λ (s : Life) (channels : Channels). with_life c.args.at s channels) c.layer-before.ensures.value c.put.ensures
    ∙ put_back_at old c.args.at c.layer_after.result c.requires.channel c.layer-before.ensures.range
    ∙ sym (cond-true (is_some_over (changed_place c.args.at c.args.cmd.now old)) old (changed_place c.args.at c.args.cmd.now old) over)

pub returns-then-is_some_over-clause-few : goal.returns-then-is_some_over-clause-few
returns-then-is_some_over-clause-few c =
    ap is_some_over (c.put-then-is_some_over.ensures
    ∙ ap₂ (λ (s : Life) (channels : Channels). with_life c.args.at s channels) c.layer-before.ensures.value c.put.ensures
    ∙ put_back_at c.args.self.now c.args.at c.layer_after.result c.requires.channel c.layer-before.ensures.range)
    ∙ c.requires.few
