use Rattle.std.proofs.Common.{ℕ, ℤ, List, subst, sym, ap, ◌∙◌}
use Rattle.play_types.specs.Answer.{micros_of}
use Rattle.play_types.specs.History.{ticks}
use Rattle.play_types.specs.declared.event.Event.{Event}
use Rattle.history_model.specs.stage.Acts.{acts}
use Rattle.history_model.specs.stage.Answer.{number_count}
use Rattle.history_model.specs.stage.Value.{value, value_at}
use Rattle.mixer_state.specs.Past.{Represents}
use Rattle.stage_core.specs.Stage.{StageView}
use Rattle.stage_core.proofs.Mixing.{value-acts}
use Rattle.stage_core.proofs.stage.Stage.mixer_value.Goals as goal

pub returns : goal.returns
returns c =
    let events : List Event = c.self.inside.journal.events in
    let past : Represents c.self.inside.mixer (acts events) c.ticks.result =
    subst (Represents c.self.inside.mixer (acts events)) (sym c.ticks.ensures.value) c.self.invariant.mixed.past in
    c.value.ensures.acts (acts events) past
    ∙ ap (λ (t : ℕ). micros_of (value_at (acts events) c.args.place c.args.prop t) (number_count c.args.prop)) c.ticks.ensures.value
    ∙ ap (λ (numbers : List ℤ). micros_of numbers (number_count c.args.prop)) (sym (value-acts events c.args.place c.args.prop (ticks events)))
    ∙ ap (λ (s : StageView). micros_of (value s.journal.events c.args.place c.args.prop (ticks s.journal.events)) (number_count c.args.prop)) c.self.view_is
