use Rattle.std.proofs.Common.{ap, ◌∙◌}
use Rattle.std.proofs.lemmas.Result.{on_ok_weaker}
use Rattle.history_model.specs.stage.Trail.{swapped_place}
use Rattle.mixer_state.specs.Entries.{table_of}
use Rattle.mixer_state.specs.Mixer.{MixerView}
use Rattle.mixer_state.proofs.Pasts.{swap_layers_represents}
use Rattle.mixer_state.proofs.mixer.Mixer.swap_layers.Goals as goal

pub returns-clause-acts : goal.returns-clause-acts
returns-clause-acts c =
    on_ok_weaker c.swap.result
    (λ exchanged ticks acts represents.
    swap_layers_represents c.args.self.now _ acts ticks represents c.args.a c.args.b c.requires.a c.requires.b
    (λ place. exchanged place ∙ ap (λ (mixer : MixerView). table_of mixer.tuned (swapped_place c.args.a c.args.b place)) c.self.view_is)
    (ap (λ (mixer : MixerView). mixer.channels) c.self.view_is) (ap (λ (mixer : MixerView). mixer.latest) c.self.view_is)
    (ap (λ (mixer : MixerView). mixer.waiting) c.self.view_is))
    c.swap.ensures.ok
