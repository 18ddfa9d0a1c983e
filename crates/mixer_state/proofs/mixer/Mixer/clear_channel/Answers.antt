use Rattle.std.proofs.Common.{sym, ap, ◌∙◌, subst}
use Rattle.mixer_state.specs.Entries.{table_of}
use Rattle.mixer_state.specs.Mixer.{MixerView}
use Rattle.mixer_state.specs.inner.Changes.{without_channel}
use Rattle.mixer_state.specs.Ranges.{AreRunning}
use Rattle.mixer_state.proofs.Kept.{IsKept-places}
use Rattle.mixer_state.proofs.Pasts.{reset_channel_represents}
use Rattle.mixer_state.proofs.Ways.{AreRunning-without}
use Rattle.mixer_state.proofs.mixer.Mixer.clear_channel.Goals as goal

pub invariant_of-self : goal.invariant_of-self
invariant_of-self c =
    let inside = c.self.inside in
    IsKept-places inside.places c.clear.new.self inside.latest inside.latest inside.waiting.items c.self.invariant c.clear.ensures.channels
    (subst (AreRunning inside.latest) (sym c.clear.ensures.entries) (AreRunning-without inside.latest c.args.channel (table_of inside.places.entries) c.self.invariant.running))

pub returns-clause-acts : goal.returns-clause-acts
returns-clause-acts c ticks acts represents =
    let inside = c.self.inside in
    reset_channel_represents c.args.self.now _ acts ticks represents inside.latest
    (subst (λ (mixer : MixerView). AreRunning inside.latest (table_of mixer.tuned)) c.self.view_is c.self.invariant.running) c.args.channel
    (c.clear.ensures.entries ∙ ap (λ (mixer : MixerView). without_channel c.args.channel (table_of mixer.tuned)) c.self.view_is)
    (ap (λ (mixer : MixerView). mixer.channels) c.self.view_is) (ap (λ (mixer : MixerView). mixer.latest) c.self.view_is)
    (ap (λ (mixer : MixerView). mixer.waiting) c.self.view_is)
