use Rattle.std.proofs.Common.{◌≡◌, ◌+◌, ◌≤◌, true, length, sym, ap, ap₂, ◌∙◌, subst, subst₂, arith}
use Rattle.std.proofs.lemmas.Bool.{cond-true}
use Rattle.play_types.specs.declared.place.TheConstants.{MAX_LIVE_LAYERS}
use Rattle.history_model.specs.stage.Life.{Life}
use Rattle.stage_core.specs.LiveState.{Channels, is_some_over, life_at, places_of, with_exchanged, with_life}
use Rattle.stage_core.proofs.Exchanges.{room_at_end, room_between, room_half_undone, undone}
use Rattle.stage_core.proofs.channels.LivePlaces.exchange.Goals as goal

pub put_both-requires-clause-more : goal.put_both-requires-clause-more
put_both-requires-clause-more c =
    let old : Channels = c.args.self.now in
    let few : length (places_of c.args.b.channel (with_life c.args.a (life_at c.args.b old) old)) ≤ MAX_LIVE_LAYERS + 1 =
    room_between old c.args.a c.args.b c.requires.first c.requires.second c.layer-first.ensures.range c.requires.few in
    subst (λ (s : Life). length (places_of c.args.b.channel (with_life c.args.a s old)) ≤ MAX_LIVE_LAYERS + 2) (sym c.layer-second.ensures.value)
    (omega (arith, few))

pub put_both-requires-then-is_some_over-clause-room : goal.put_both-requires-then-is_some_over-clause-room
put_both-requires-then-is_some_over-clause-room c =
    let old : Channels = c.args.self.now in
    let both : c.put_both.new.self ≡ with_exchanged c.args.a c.args.b old =
    c.put_both.ensures ∙ ap₂ (λ (s t : Life). with_life c.args.b s (with_life c.args.a t old)) c.layer-first.ensures.value c.layer-second.ensures.value in
    subst (λ (channels : Channels). length (places_of c.args.b.channel channels) ≤ MAX_LIVE_LAYERS + 2) (sym both)
    (room_at_end old c.args.a c.args.b c.requires.first c.requires.second c.layer-first.ensures.range c.requires.few)

pub put_both-requires-then-is_some_over-clause-more : goal.put_both-requires-then-is_some_over-clause-more
put_both-requires-then-is_some_over-clause-more c =
    let old : Channels = c.args.self.now in
    let both : c.put_both.new.self ≡ with_exchanged c.args.a c.args.b old =
    c.put_both.ensures ∙ ap₂ (λ (s t : Life). with_life c.args.b s (with_life c.args.a t old)) c.layer-first.ensures.value c.layer-second.ensures.value in
    subst₂ (λ (s : Life) (channels : Channels). length (places_of c.args.a.channel (with_life c.args.b s channels)) ≤ MAX_LIVE_LAYERS + 2)
    (sym c.layer-second.ensures.value) (sym both)
    (room_half_undone old c.args.a c.args.b c.requires.first c.requires.second c.layer-first.ensures.range c.layer-second.ensures.range c.requires.few)

-- if some channel has too many, both places are as before
pub returns-then-is_some_over-clause-after : goal.returns-then-is_some_over-clause-after
returns-then-is_some_over-clause-after c =
    let old : Channels = c.args.self.now in
    let both : c.put_both.new.self ≡ with_exchanged c.args.a c.args.b old =
    c.put_both.ensures ∙ ap₂ (λ (s t : Life). with_life c.args.b s (with_life c.args.a t old)) c.layer-first.ensures.value c.layer-second.ensures.value in
    let over : is_some_over (with_exchanged c.args.a c.args.b old) ≡ true =
    ap is_some_over (sym both) ∙ sym c.is_some_over.ensures ∙ c.if-is_some_over.true in
    c.put_both-then-is_some_over.ensures
    ∙ (λ i. with_life c.args.a (c.layer-first.ensures.value i) (with_life c.args.b (c.layer-second.ensures.value i) (both i)))
    ∙ undone old c.args.a c.args.b c.requires.first c.requires.second c.layer-first.ensures.range c.layer-second.ensures.range
    ∙ sym (cond-true (is_some_over (with_exchanged c.args.a c.args.b old)) old (with_exchanged c.args.a c.args.b old) over)

pub returns-then-is_some_over-clause-few : goal.returns-then-is_some_over-clause-few
returns-then-is_some_over-clause-few c =
    let old : Channels = c.args.self.now in
    let both : c.put_both.new.self ≡ with_exchanged c.args.a c.args.b old =
    c.put_both.ensures ∙ ap₂ (λ (s t : Life). with_life c.args.b s (with_life c.args.a t old)) c.layer-first.ensures.value c.layer-second.ensures.value in
    ap is_some_over (c.put_both-then-is_some_over.ensures
    ∙ (λ i. with_life c.args.a (c.layer-first.ensures.value i) (with_life c.args.b (c.layer-second.ensures.value i) (both i)))
    ∙ undone old c.args.a c.args.b c.requires.first c.requires.second c.layer-first.ensures.range c.layer-second.ensures.range)
    ∙ c.requires.few
