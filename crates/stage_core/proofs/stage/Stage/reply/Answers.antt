use Rattle.std.proofs.Common.{ℕ, ℤ, List, subst, false, length, map, filter_map, sym, ap, ◌∙◌}
use Rattle.play_types.specs.History.{ticks}
use Rattle.play_types.specs.declared.event.Event.{Event}
use Rattle.history_model.specs.stage.Acts.{acts}
use Rattle.history_model.specs.stage.Value.{value_at}
use Rattle.mixer_state.specs.Past.{Represents}
use Rattle.stage_core.proofs.Mixing.{value-acts}
use Rattle.play_types.specs.Answer.{micros_of, status_list_of}
use Rattle.play_types.specs.declared.answer.Answer.TheVariants as reply
use Rattle.play_types.specs.declared.command.Cmd.TheVariants.{Info, Value}
use Rattle.play_types.specs.declared.shape.CommandShape.TheVariants as shape
use Rattle.play_types.specs.declared.shape.Query.TheVariants as query
use Rattle.history_model.specs.stage.Answer.{command_answer, number_count, status_of}
use Rattle.history_model.specs.stage.Places.{Places}
use Rattle.history_model.specs.stage.StageHistory.{foreground_of}
use Rattle.stage_core.specs.Stage.{StageView}
use Rattle.stage_core.specs.LiveState.{Channels}
use Rattle.stage_core.proofs.Shapes.{of_shape}
use Rattle.stage_core.proofs.Stages.{statuses-shown}
use Rattle.stage_core.proofs.stage.Stage.reply.Goals as goal

pub returns-in-Status : goal.returns-in-Status
returns-in-Status c setup same =
    ap reply.Info (c.statuses.ensures
    ∙ ap (λ (channels : Channels). status_list_of (map (λ (one : Places). status_of (filter_map foreground_of one)) channels) (length channels)) c.places.ensures
    ∙ statuses-shown c.self.inside.journal.events c.self.inside.live c.self.inside.saved c.self.inside.mixer c.self.inside.routes c.self.invariant setup
    (same ∙ ap (λ (s : StageView). s.channels) (sym c.self.view_is)))
    ∙ ap (λ (s : StageView). command_answer setup s.journal.events false Info) c.self.view_is
    ∙ ap (command_answer setup c.args.self.now.journal.events false)
    (sym (of_shape c.args.cmd.now (shape.Ask query.Status) (sym c.shape.ensures ∙ c.in-Ask.is ∙ ap shape.Ask c.in-Status.is)))

pub returns-in-Value : goal.returns-in-Value
returns-in-Value c setup same =
    let events : List Event = c.self.inside.journal.events in
    let past : Represents c.self.inside.mixer (acts events) c.ticks.result =
    subst (Represents c.self.inside.mixer (acts events)) (sym c.ticks.ensures.value) c.self.invariant.mixed.past in
    ap reply.Value (c.value.ensures.acts (acts events) past
    ∙ ap (λ (t : ℕ). micros_of (value_at (acts events) c.in-Value.at c.in-Value.prop t) (number_count c.in-Value.prop)) c.ticks.ensures.value
    ∙ ap (λ (numbers : List ℤ). micros_of numbers (number_count c.in-Value.prop)) (sym (value-acts events c.in-Value.at c.in-Value.prop (ticks events))))
    ∙ ap (λ (s : StageView). command_answer setup s.journal.events false (Value c.in-Value.at c.in-Value.prop)) c.self.view_is
    ∙ ap (command_answer setup c.args.self.now.journal.events false)
    (sym (of_shape c.args.cmd.now (shape.Ask (query.Value c.in-Value.at c.in-Value.prop)) (sym c.shape.ensures ∙ c.in-Ask.is ∙ ap shape.Ask c.in-Value.is)))
