use Rattle.std.proofs.Common.{ℕ, inl, inr, true, ◌++◌, sym, ap, ◌∙◌, subst}
use Rattle.std.specs.Prelude.{not}
use Rattle.play_types.specs.declared.command.Cmd.{Cmd}
use Rattle.play_types.specs.declared.command.Cmd.TheVariants.{CommitMixer, SwapLayers}
use Rattle.play_types.specs.declared.shape.CommandShape.TheVariants as shape
use Rattle.play_types.specs.declared.shape.Target.TheVariants as target
use Rattle.history_model.specs.stage.Act.{acts_of}
use Rattle.mixer_state.specs.Past.{Represents, TakesCommand}
use Rattle.stage_core.proofs.Mixing.{shape_leaves_mixer, stays_through_shape, when_ok}
use Rattle.stage_core.proofs.Shapes.{of_shape}
use Rattle.stage_core.proofs.settle.settle.Goals as goal

pub returns-in-Set-clause-past : goal.returns-in-Set-clause-past
returns-in-Set-clause-past c acts represents =
    subst (λ (one : Cmd). Represents c.set.new.mixer (acts_of c.args.ticks one ++ acts) c.args.ticks)
    (sym (of_shape c.args.cmd.now (shape.Set c.in-Set.setting) (sym c.shape.ensures ∙ c.in-Set.is)))
    (c.set.ensures.past acts represents)

pub returns-in-CommitMixer-clause-past : goal.returns-in-CommitMixer-clause-past
returns-in-CommitMixer-clause-past c acts represents =
    subst (λ (one : Cmd). Represents c.commit.new.self (acts_of c.args.ticks one ++ acts) c.args.ticks)
    (sym (of_shape c.args.cmd.now (shape.CommitMixer c.in-CommitMixer.channel) (sym c.shape.ensures ∙ c.in-CommitMixer.is)))
    (when_ok c.commit.result c.unwrap.result
    (TakesCommand (CommitMixer c.in-CommitMixer.channel) c.args.ticks c.args.mixer.now c.commit.new.self) c.unwrap.ensures c.commit.ensures.acts acts represents)

pub returns-in-Layer-clause-past : goal.returns-in-Layer-clause-past
returns-in-Layer-clause-past c acts represents =
    subst (λ (one : Cmd). Represents c.clear_layer.new.self (acts_of c.args.ticks one ++ acts) c.args.ticks)
    (sym (of_shape c.args.cmd.now (shape.Reset (target.Layer c.in-Layer.at)) (sym c.shape.ensures ∙ c.in-Reset.is ∙ ap shape.Reset c.in-Layer.is)))
    (c.clear_layer.ensures.acts c.args.ticks acts represents)

pub returns-in-Channel-clause-past : goal.returns-in-Channel-clause-past
returns-in-Channel-clause-past c acts represents =
    subst (λ (one : Cmd). Represents c.clear_channel.new.self (acts_of c.args.ticks one ++ acts) c.args.ticks)
    (sym (of_shape c.args.cmd.now (shape.Reset (target.Channel c.in-Channel.channel)) (sym c.shape.ensures ∙ c.in-Reset.is ∙ ap shape.Reset c.in-Channel.is)))
    (c.clear_channel.ensures.acts c.args.ticks acts represents)

pub returns-then-transforms-clause-past : goal.returns-then-transforms-clause-past
returns-then-transforms-clause-past c acts represents =
    subst (λ (one : Cmd). Represents c.swap_layers.new.self (acts_of c.args.ticks one ++ acts) c.args.ticks)
    (sym (of_shape c.args.cmd.now (shape.SwapLayers c.in-SwapLayers.a c.in-SwapLayers.b true)
    (sym c.shape.ensures ∙ c.in-SwapLayers.is ∙ ap (shape.SwapLayers c.in-SwapLayers.a c.in-SwapLayers.b) c.if-transforms.true)))
    (when_ok c.swap_layers.result c.unwrap-then-transforms.result
    ((ticks : ℕ) → TakesCommand (SwapLayers c.in-SwapLayers.a c.in-SwapLayers.b true) ticks c.args.mixer.now c.swap_layers.new.self)
    c.unwrap-then-transforms.ensures c.swap_layers.ensures.acts c.args.ticks acts represents)

pub returns-then-transforms-2-clause-past : goal.returns-then-transforms-2-clause-past
returns-then-transforms-2-clause-past c acts represents =
    subst (λ (one : Cmd). Represents c.swap_channels.new.self (acts_of c.args.ticks one ++ acts) c.args.ticks)
    (sym (of_shape c.args.cmd.now (shape.SwapChannels c.in-SwapChannels.a c.in-SwapChannels.b true)
    (sym c.shape.ensures ∙ c.in-SwapChannels.is ∙ ap (shape.SwapChannels c.in-SwapChannels.a c.in-SwapChannels.b) c.if-transforms-2.true)))
    (c.swap_channels.ensures.acts c.args.ticks acts represents)

pub returns-else-transforms-clause-past : goal.returns-else-transforms-clause-past
returns-else-transforms-clause-past c =
    stays_through_shape c.what_leaves_a_mixer.ensures.command c.args.mixer.now c.args.ticks c.args.cmd.now c.shape.result c.shape.ensures
    (ap shape_leaves_mixer c.in-SwapLayers.is ∙ ap not c.if-transforms.false)

pub returns-else-transforms-2-clause-past : goal.returns-else-transforms-2-clause-past
returns-else-transforms-2-clause-past c =
    stays_through_shape c.what_leaves_a_mixer.ensures.command c.args.mixer.now c.args.ticks c.args.cmd.now c.shape.result c.shape.ensures
    (ap shape_leaves_mixer c.in-SwapChannels.is ∙ ap not c.if-transforms-2.false)

pub returns-in-Take-clause-past : goal.returns-in-Take-clause-past
returns-in-Take-clause-past c =
    let stays = stays_through_shape c.what_leaves_a_mixer.ensures.command c.args.mixer.now c.args.ticks c.args.cmd.now c.shape.result c.shape.ensures in
    elim c.in-Take.is [
      | inl take ↦ stays (ap shape_leaves_mixer take.2)
      | inr (inl change) ↦ stays (ap shape_leaves_mixer change.1)
      | inr (inr (inl clear)) ↦ stays (ap shape_leaves_mixer clear.1)
      | inr (inr (inr (inl mark))) ↦ stays (ap shape_leaves_mixer mark.1)
      | inr (inr (inr (inr ask))) ↦ stays (ap shape_leaves_mixer ask.1)
    ]
