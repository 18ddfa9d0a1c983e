use Rattle.std.proofs.Common.{◌+◌, ℕ, ◌<◌, [], length, map, replicate, filter_map, sym, ap, ◌∙◌, subst, subst₂, arith}
use Rattle.std.specs.List.{range_with_len}
use Rattle.play_types.specs.History.{ticks}
use Rattle.play_types.specs.declared.event.TheConstants.{MAX_TICKS}
use Rattle.history_model.specs.pictures.Scene.{scene}
use Rattle.play_journal.specs.Journal.{JournalView}
use Rattle.stage_core.specs.Stage.{StageView}
use Rattle.std.specs.Prelude.{Some}
use Rattle.route_graph.specs.Routes.{RoutesView, next_tick}
use Rattle.route_graph.specs.Shown.{ShownLayers}
use Rattle.stage_core.specs.LiveState.{LiveView}
use Rattle.stage_core.specs.inner.Drawn.{mixed_values, scene_next, shown_layer, tick_past, with_present}
use Rattle.stage_core.specs.Kept.{IsStage}
use Rattle.stage_core.proofs.Stages.{AllCanShow, IsStage-tick, scenes-shown}
use Rattle.stage_core.proofs.stage.Stage.tick.Goals as goal

pub tick-requires-clause-shown : goal.tick-requires-clause-shown
tick-requires-clause-shown c =
    let low : ticks c.self.inside.journal.events < MAX_TICKS = omega (arith, c.ticks.ensures.value, c.ticks.ensures.range.ticks) in
    AllCanShow c.self.inside.journal.events c.self.inside.live c.self.inside.saved c.self.inside.mixer c.self.inside.routes c.self.invariant low

pub tick-requires-clause-scenes : goal.tick-requires-clause-scenes
tick-requires-clause-scenes c =
    c.clear.ensures ∙ ap (λ (n : ℕ). replicate n []) (c.requires ∙ ap (λ (s : StageView). s.channels) (sym c.self.view_is))

pub tick-requires-clause-channels : goal.tick-requires-clause-channels
tick-requires-clause-channels c = ap (λ (r : RoutesView). r.channels) c.begin_tick.ensures.value ∙ c.self.invariant.shown.count

pub tick-requires-clause-routes : goal.tick-requires-clause-routes
tick-requires-clause-routes c =
    ap (λ (r : RoutesView). r.present) c.begin_tick.ensures.value
    ∙ ap (λ (n : ℕ). Some (replicate {A = ShownLayers} n [])) c.self.invariant.shown.count

-- each place is one tick later
pub invariant_of-self : goal.invariant_of-self
invariant_of-self c =
    subst (λ (r : RoutesView). IsStage c.push_tick.new.self.events c.tick.new.self c.self.inside.saved c.self.inside.mixer r)
    (sym (c.tick.ensures.routes ∙ ap (with_present (map (filter_map shown_layer) c.self.inside.live.places)) c.begin_tick.ensures.value))
    (subst₂ (λ (j : JournalView) (b : LiveView). IsStage j.events b c.self.inside.saved c.self.inside.mixer
    (with_present (map (filter_map shown_layer) c.self.inside.live.places) (next_tick c.self.inside.routes))) (sym c.push_tick.ensures) (sym c.tick.ensures.after)
    (IsStage-tick c.self.inside.journal.events c.self.inside.live c.self.inside.saved c.self.inside.mixer c.self.inside.routes c.self.invariant))

pub returns-clause-scenes : goal.returns-clause-scenes
returns-clause-scenes c =
    c.tick.ensures.scenes
    ∙ ap (λ (n : ℕ). map (scene_next (mixed_values c.self.inside.mixer (n + 1)) (tick_past c.begin_tick.new.self) c.self.inside.live.places)
    (range_with_len 1 (length c.self.inside.live.places))) c.ticks-number.ensures.value
    ∙ ap (λ (r : RoutesView). map (scene_next (mixed_values c.self.inside.mixer (ticks c.self.inside.journal.events + 1)) (tick_past r) c.self.inside.live.places) (range_with_len 1 (length c.self.inside.live.places))) c.begin_tick.ensures.value
    ∙ sym (scenes-shown c.self.inside.journal.events c.self.inside.live c.self.inside.saved c.self.inside.mixer c.self.inside.routes c.self.invariant)
    ∙ ap (λ (s : StageView). map (scene s.journal.events) (range_with_len 1 s.channels)) c.self.view_is
