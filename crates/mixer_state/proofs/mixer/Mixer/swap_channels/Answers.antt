use Rattle.std.proofs.Common.{ap, ◌∙◌}
use Rattle.history_model.specs.stage.Trail.{channel_swapped_place}
use Rattle.mixer_state.specs.Entries.{table_of}
use Rattle.mixer_state.specs.Mixer.{MixerView}
use Rattle.mixer_state.proofs.Pasts.{swap_channels_represents}
use Rattle.mixer_state.proofs.mixer.Mixer.swap_channels.Goals as goal

pub returns-clause-acts : goal.returns-clause-acts
returns-clause-acts c ticks acts represents =
    swap_channels_represents c.args.self.now _ acts ticks represents c.args.a c.args.b c.requires.a c.requires.b
    (λ place. c.swap_channels.ensures.entries place ∙ ap (λ (mixer : MixerView). table_of mixer.tuned (channel_swapped_place c.args.a c.args.b place)) c.self.view_is)
    (ap (λ (mixer : MixerView). mixer.channels) c.self.view_is) (ap (λ (mixer : MixerView). mixer.latest) c.self.view_is)
    (ap (λ (mixer : MixerView). mixer.waiting) c.self.view_is)
