-- The pass after a link was served.
use Rattle.std.proofs.Common.{◌≡◌, ℕ, false, List, [], ◌++◌, refl, sym, ap, ◌∙◌}
use Rattle.std.specs.Prelude.{Some}
use Rattle.play_types.specs.History.{stop_at}
use Rattle.play_types.specs.declared.event.Event.{Event}
use Rattle.stage_lock.specs.Views.{PassView}
use Rattle.stage_lock.specs.Calls.{Looks}
use Rattle.conn_worker.specs.Work.{FindsEnd, GoesOnAfter, LooksOn}
use Rattle.conn_worker.specs.declared.link_end.LinkEnd as link
use Rattle.conn_worker.specs.declared.link_end.LinkEnd.TheVariants as ends
use Rattle.server_run.specs.Doors.{is_stopped}
use Rattle.server_run.proofs.PassView.{PassOn, pass_looked}

-- after a link was served the work goes on
pub record GoesOn (end : link.LinkEnd) (before after : PassView) : Type 0 where
  pub pass : PassOn [] before after
  pub ends : after.ends ≡ before.ends
  pub other : is_stopped end ≡ false

pub looks_ends : (IsTold : List Event → Type 0) (before after : PassView) → Looks before IsTold after → after.ends ≡ before.ends
looks_ends IsTold before after looks = ap (λ (p : PassView). p.ends) looks.after

-- a check of the stage after a link found no stop
looked_on : (end : link.LinkEnd) (before after : PassView) → is_stopped end ≡ false → LooksOn before after → GoesOn end before after
looked_on end before after other looks = record { pass = pass_looked _ before after looks; ends = looks_ends _ before after looks; other = other }

pub goes_on : (end : link.LinkEnd) (before after : PassView) → GoesOnAfter end before after → GoesOn end before after
goes_on ends.Over before after looks = looked_on ends.Over before after refl looks
goes_on ends.Killed before after looks = looked_on ends.Killed before after refl looks
goes_on ends.LinkFault before after looks = looked_on ends.LinkFault before after refl looks
goes_on (ends.Ended at) before after none = absurd none

pub looked_stop : (given : List Event) (at : ℕ) (before after : PassView) → FindsEnd given at before after → stop_at (given ++ after.seen) ≡ Some at
looked_stop given at before after looks = ap (λ (p : PassView). stop_at (given ++ p.seen)) looks.after ∙ sym looks.told

-- a stop was found while a link was served, or after it
pub record StopSeen (given : List Event) (at : ℕ) (end : link.LinkEnd) (before after : PassView) : Type 0 where
  pub pass : PassOn [] before after
  pub ends : after.ends ≡ before.ends
  pub stop : stop_at (given ++ after.seen) ≡ Some at

-- a check of the stage after a link found a stop
pub looked_ended : (given : List Event) (at : ℕ) (end : link.LinkEnd) (before after : PassView) → FindsEnd given at before after → StopSeen given at end before after
looked_ended given at end before after looks = record {
  pass = pass_looked _ before after looks;
  ends = looks_ends _ before after looks;
  stop = looked_stop given at before after looks;
}
