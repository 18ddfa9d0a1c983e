use Rattle.std.proofs.Common.{◌≤◌, List, arith, subst, sym, ◌∙◌}
use Rattle.play_types.specs.History.{ticks}
use Rattle.play_types.specs.declared.event.Event.{Event}
use Rattle.play_types.specs.declared.event.TheConstants.{MAX_TICKS}
use Rattle.play_ticker.specs.Frames.{AreLast}
use Rattle.server_tests.proofs.ticks.take_three_held.Goals as goal

pub tick_all-end-requires-clause-ready : goal.tick_all-end-requires-clause-ready
tick_all-end-requires-clause-ready g c κs within = record {
  tick = record {
    of = c.requires.of;
    first = c.requires.first;
    made = c.requires.made;
    few = subst (λ (given : List Event). ticks given ≤ MAX_TICKS) (sym c.requires.given) (omega arith);
  };
  renderer = c.in_ok-renderer.ensures.many ∙ sym c.requires.channels;
  last = subst (λ (given : List Event). AreLast given c.in_ok-media.media c.in_ok-renderer.renderer) (sym c.requires.given)
      (c.frames_from_the_beginning.ensures.blank c.in_ok-media.media c.in_ok-renderer.renderer c.in_ok-renderer.ensures.blank);
  outs = c.in_ok-outs.ensures ∙ sym c.requires.channels;
}
