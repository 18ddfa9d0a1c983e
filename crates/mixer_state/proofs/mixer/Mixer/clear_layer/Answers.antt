use Rattle.std.proofs.Common.{sym, ap, ◌∙◌, subst}
use Rattle.std.specs.Prelude.{None}
use Rattle.mixer_state.specs.Entries.{table_of}
use Rattle.mixer_state.specs.Mixer.{MixerView}
use Rattle.mixer_state.specs.inner.Changes.{with_entry}
use Rattle.mixer_state.specs.Ranges.{AreRunning}
use Rattle.mixer_state.proofs.Kept.{IsKept-places}
use Rattle.mixer_state.proofs.Pasts.{reset_layer_represents}
use Rattle.mixer_state.proofs.Ways.{AreRunning-with, AreCourses-standing}
use Rattle.mixer_state.proofs.mixer.Mixer.clear_layer.Goals as goal

pub invariant_of-self : goal.invariant_of-self
invariant_of-self c =
    let inside = c.self.inside in
    IsKept-places inside.places c.remove.new.self inside.latest inside.latest inside.waiting.items c.self.invariant c.remove.ensures.channels
    (subst (AreRunning inside.latest) (sym c.remove.ensures.entries) (AreRunning-with inside.latest c.args.place None (table_of inside.places.entries) (AreCourses-standing inside.latest) c.self.invariant.running))

pub returns-clause-acts : goal.returns-clause-acts
returns-clause-acts c ticks acts represents =
    let inside = c.self.inside in
    reset_layer_represents c.args.self.now _ acts ticks represents inside.latest
    (subst (λ (mixer : MixerView). AreRunning inside.latest (table_of mixer.tuned)) c.self.view_is c.self.invariant.running) c.args.place
    (c.remove.ensures.entries ∙ ap (λ (mixer : MixerView). with_entry c.args.place None (table_of mixer.tuned)) c.self.view_is)
    (ap (λ (mixer : MixerView). mixer.channels) c.self.view_is) (ap (λ (mixer : MixerView). mixer.latest) c.self.view_is)
    (ap (λ (mixer : MixerView). mixer.waiting) c.self.view_is)
