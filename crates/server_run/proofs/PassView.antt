-- How a pass goes on.
use Rattle.std.proofs.Common.{◌≡◌, ℕ, List, [], ◌∷◌, ◌++◌, refl, sym, ap, subst, ◌∙◌, append_assoc, append-nil}
use Rattle.std.specs.Prelude.{flat_map}
use mathlib.Core.List.{IsPrefix}
use Rattle.play_types.specs.declared.event.Event.{Event}
use Rattle.play_types.specs.declared.event.Event.TheVariants.{Stop}
use Rattle.stage_lock.specs.Own.{made_by, own_by}
use Rattle.stage_lock.specs.Views.{PassView}
use Rattle.stage_lock.specs.Calls.{Adds, Looks, tag_of}
use Rattle.stage_lock.proofs.Positions.{made_by-other, own_by-append, own_by_same}
use Rattle.stage_lock.proofs.Prefixes.{prefix_self, prefix_trans}
use Rattle.conn_worker.specs.Followed.{Service, Followed, events_of}
use Rattle.conn_worker.specs.Explained.{AreInOrder, HasMade}

-- a pass has seen more, and of that only these events are its own
pub record PassOn (events : List Event) (before after : PassView) : Type 0 where
  pub number : after.number ≡ before.number
  pub seen : IsPrefix before.seen after.seen
  pub own : own_by before.number after.seen ≡ own_by before.number before.seen ++ events
  pub known : made_by before.number before.seen ≡ before.made → made_by before.number after.seen ≡ after.made

pub pass_same : (before after : PassView) → after ≡ before → PassOn [] before after
pass_same before after same = subst (PassOn [] before) (sym same) (record {
  number = refl;
  seen = prefix_self before.seen;
  own = sym (append-nil (own_by before.number before.seen));
  known = λ known. known;
})

pub pass_then : (events more : List Event) (before between after : PassView) → PassOn events before between → PassOn more between after
    → PassOn (events ++ more) before after
pass_then events more before between after one other =
    let n = before.number in
    let own : own_by n after.seen ≡ own_by n between.seen ++ more =
    subst (λ (k : ℕ). own_by k after.seen ≡ own_by k between.seen ++ more) one.number other.own in
    record {
      number = other.number ∙ one.number;
      seen = prefix_trans before.seen between.seen after.seen one.seen other.seen;
      own = own ∙ ap (λ (es : List Event). es ++ more) one.own ∙ append_assoc (own_by n before.seen) events more;
      known = λ known.
          subst (λ (k : ℕ). made_by k after.seen ≡ after.made) one.number
          (other.known (subst (λ (k : ℕ). made_by k between.seen ≡ between.made) (sym one.number) (one.known known)));
    }

-- nothing more was made
pub pass_quiet : (events : List Event) (before between after : PassView) → PassOn events before between → PassOn [] between after
    → PassOn events before after
pass_quiet events before between after one other =
    subst (λ (es : List Event). PassOn es before after) (append-nil events) (pass_then events [] before between after one other)

-- a check of the stage makes no event
pub pass_looked : (IsTold : List Event → Type 0) (before after : PassView) → Looks before IsTold after → PassOn [] before after
pass_looked IsTold before after looks =
    let h = looks.history in
    let seen : after.seen ≡ h = ap (λ (p : PassView). p.seen) looks.after in
    let n = before.number in
    record {
      number = ap (λ (p : PassView). p.number) looks.after;
      seen = subst (IsPrefix before.seen) (sym seen) looks.found.seen;
      own =
          ap (own_by n) seen ∙ own_by_same n before.seen h looks.found.seen (looks.found.made_seen ∙ sym looks.found.made)
          ∙ sym (append-nil (own_by n before.seen));
      known = λ known. ap (made_by n) seen ∙ looks.found.made ∙ sym (ap (λ (p : PassView). p.made) looks.after);
    }

-- nor does a stop of the server's own
pub pass_stopped : (IsTold : List Event → Type 0) (before after : PassView) → Adds before (Stop (tag_of 0 0)) IsTold after → PassOn [] before after
pass_stopped IsTold before after adds =
    let h = adds.history in
    let event = Stop (tag_of 0 0) in
    let seen : after.seen ≡ h ++ event ∷ [] = ap (λ (p : PassView). p.seen) adds.after in
    let n = before.number in
    let more : IsPrefix h (h ++ event ∷ []) = (event ∷ [], refl) in
    record {
      number = ap (λ (p : PassView). p.number) adds.after;
      seen = subst (IsPrefix before.seen) (sym seen) (prefix_trans before.seen h (h ++ event ∷ []) adds.found.seen more);
      own =
          ap (own_by n) seen ∙ own_by-append n h (event ∷ [])
          ∙ ap (λ (es : List Event). es ++ []) (own_by_same n before.seen h adds.found.seen (adds.found.made_seen ∙ sym adds.found.made));
      known = λ known.
          ap (made_by n) seen ∙ made_by-other n h event refl ∙ adds.found.made ∙ sym (ap (λ (p : PassView). p.made) adds.after);
    }

-- steps that found their parts of a history in order began with its first part
in_order_prefix : (service : Service) (seen : List Event) (followed : List Followed) (history : List Event)
    → AreInOrder service seen followed history → IsPrefix seen history
in_order_prefix service seen [] history order = order
in_order_prefix service seen (one ∷ more) history order =
    let rest = in_order_prefix service (one.found ++ events_of service one) more history order.1 in
    prefix_trans seen one.found history order.0
    (prefix_trans one.found (one.found ++ events_of service one) history (events_of service one, refl) rest)

-- the steps of a connection made their events
pub pass_made : (service : Service) (followed : List Followed) (before after : PassView) → HasMade service followed before after
    → PassOn (flat_map (events_of service) followed) before after
pass_made service followed before after made = record {
  number = made.number;
  seen = in_order_prefix service before.seen followed after.seen made.order;
  own = made.own;
  known = made.known;
}
