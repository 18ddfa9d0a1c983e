use Rattle.std.proofs.Common.{ap, ◌∙◌, arith}
use Rattle.mixer_state.specs.Entries.{table_of}
use Rattle.mixer_state.specs.Mixer.{MixerView}
use Rattle.mixer_state.specs.inner.Changes.{with_setting}
use Rattle.mixer_state.proofs.Pasts.{set_represents}
use Rattle.mixer_state.proofs.mixer.Mixer.set.Goals as goal

pub returns-clause-acts : goal.returns-clause-acts
returns-clause-acts c acts represents =
    set_represents c.args.self.now _ acts c.args.ticks represents c.args.setting.now
    (c.in_ok-start.ensures.ok ∙ ap (λ (mixer : MixerView). with_setting c.args.ticks (table_of mixer.tuned) c.args.setting.now) c.self.view_is)
    (ap (λ (mixer : MixerView). mixer.channels) c.self.view_is) (omega arith)
    (ap (λ (mixer : MixerView). mixer.waiting) c.self.view_is)
