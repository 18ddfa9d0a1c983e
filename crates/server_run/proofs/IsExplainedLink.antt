-- The links of a door, by the history of the run.
use Rattle.std.proofs.Common.{◌≡◌, ℕ, suc, ◌+◌, ◌<◌, ◌≤◌, false, List, [], ◌∷◌, ◌++◌, length, refl, sym, ap, subst, ◌∙◌, arith, append-nil, append_assoc, inl}
use Rattle.std.specs.Prelude.{Option, None, Some, filter, option_map}
use Rattle.std.proofs.lemmas.List.Elements.{filter-append}
use mathlib.Core.List.{IsPrefix}
use Rattle.play_types.specs.History.{is_stop, stop_at}
use Rattle.play_types.proofs.Histories.{stop_at-other, stop_at-stop}
use Rattle.play_types.specs.declared.event.Event.{Event}
use Rattle.play_types.specs.declared.event.Event.TheVariants.{Do, Batch, Tick, Stop}
use Rattle.play_outside.specs.ListenerState.{ListenerState}
use Rattle.stage_lock.specs.Own.{made_by, own_by}
use Rattle.stage_lock.specs.Views.{PassView}
use Rattle.stage_lock.specs.Calls.{tag_of}
use Rattle.stage_lock.specs.Closing.{IsOf}
use Rattle.stage_lock.proofs.Positions.{own_by_same}
use Rattle.stage_lock.proofs.Prefixes.{prefix_trans}
use Rattle.conn_worker.specs.Explained.{covered}
use Rattle.conn_worker.specs.Work.{AtDoor, HasWorkedFrom, Setting, service_of}
use Rattle.conn_worker.specs.declared.work_end.TheConstants.{MAX_SESSIONS}
use Rattle.conn_worker.specs.declared.work_end.WorkEnd.{WorkEnd}
use Rattle.conn_worker.specs.declared.work_end.WorkEnd.TheVariants.{Closed, Ended, DoorFault, SessionsOver}
use Rattle.conn_worker.proofs.Passes.{in_order_later}
use Rattle.server_run.specs.Links.{EachFrom, IsExplainedLink, has_tag, tagged}
use Rattle.server_run.specs.Doors.{EndsByHistory, HasServed, WasAsked, is_door_fault, served_before}
use Rattle.server_run.proofs.Tags.{picks_all, picks_none, steps_tagged, tagged_own}
use Rattle.server_run.proofs.HasWorked.{EndsFrom, IsLink, Link, UnlessOver, Worked, events_from, link_events, run_of, link_runs_in, worked_of}

-- if `ys` has its stop at the position of the stop of `xs`, this stays so with one more event before both
stop_shifts : (event : Event) (xs ys : List Event) (at : ℕ) → is_stop event ≡ false → ((k : ℕ) → stop_at xs ≡ Some k → stop_at ys ≡ Some k)
    → stop_at (event ∷ xs) ≡ Some at → stop_at (event ∷ ys) ≡ Some at
stop_shifts event xs ys at other rest is = go (stop_at xs) refl (sym (stop_at-other event xs other) ∙ is)
  where
    go : (o : Option ℕ) → stop_at xs ≡ o → option_map (λ n. 1 + n) o ≡ Some at → stop_at (event ∷ ys) ≡ Some at
    go None found h = absurd cc
    go (Some k) found h = stop_at-other event ys other ∙ ap (option_map (λ n. 1 + n)) (rest k found) ∙ h

pub stop_stays : (xs ys : List Event) (at : ℕ) → IsPrefix xs ys → stop_at xs ≡ Some at → stop_at ys ≡ Some at
stop_stays xs ys at grows is = subst (λ (l : List Event). stop_at l ≡ Some at) grows.1 (stays xs grows.0 at is)
  where
    stays : (xs more : List Event) (at : ℕ) → stop_at xs ≡ Some at → stop_at (xs ++ more) ≡ Some at
    stays [] more at is = absurd cc
    stays (Do tag cmd ∷ xs) more at is = stop_shifts (Do tag cmd) xs (xs ++ more) at refl (λ k. stays xs more k) is
    stays (Batch tag cmds ∷ xs) more at is = stop_shifts (Batch tag cmds) xs (xs ++ more) at refl (λ k. stays xs more k) is
    stays (Tick ∷ xs) more at is = stop_shifts Tick xs (xs ++ more) at refl (λ k. stays xs more k) is
    stays (Stop tag ∷ xs) more at is = stop_at-stop tag (xs ++ more) ∙ sym (stop_at-stop tag xs) ∙ is

-- a prefix stays one after given events
pub prefix_after : (given xs ys : List Event) → IsPrefix xs ys → IsPrefix (given ++ xs) (given ++ ys)
prefix_after given xs ys grows = (grows.0, append_assoc given xs grows.0 ∙ ap (λ (es : List Event). given ++ es) grows.1)

-- a pass that has seen and made nothing
pub record IsNewPass (number : ℕ) (pass : PassView) : Type 0 where
  pub number_is : pass.number ≡ number
  pub seen : pass.seen ≡ []
  pub made : pass.made ≡ []
  pub ends : pass.ends ≡ false

module _ {L : Type 0} where
  -- among the events of later links none is of this session
  none_later : (setting : Setting L) (session number : ℕ) (xs : List (Link L)) → session < number
      → filter (has_tag (tag_of setting.worker session)) (events_from setting number xs) ≡ []
  none_later setting session number [] less = refl
  none_later setting session number (x ∷ xs) less =
      let tag = tag_of setting.worker session in
      let here : filter (has_tag tag) (link_events setting number x) ≡ [] =
      picks_none setting.worker number session (link_events setting number x) (λ same. omega (arith, less, same)) (steps_tagged (service_of setting number) (covered x.conversation)) in
      let rest = none_later setting session (suc number) xs (omega (arith, less)) in
      filter-append (has_tag tag) (link_events setting number x) (events_from setting (suc number) xs)
      ∙ (λ i. here i ++ rest i)

  -- each link is explained by the history
  explain : (setting : Setting L) (seen history : List Event) (number : ℕ) (xs : List (Link L)) → IsPrefix seen history
      → ((session : ℕ) → number ≤ session → tagged (tag_of setting.worker session) history ≡ filter (has_tag (tag_of setting.worker session)) (events_from setting number xs))
      → EachFrom (IsLink setting seen) number xs → EachFrom (IsExplainedLink setting history) number (link_runs_in xs)
  explain setting seen history number [] grows all each = tt
  explain setting seen history number (x ∷ xs) grows all each =
      let service = service_of setting number in
      let is = each.0 in
      let here = link_events setting number x in
      let later = events_from setting (suc number) xs in
      let pick : ℕ → List Event → List Event = λ session. filter (has_tag (tag_of setting.worker session)) in
      let mine : pick number here ≡ here = picks_all (tag_of setting.worker number) here (steps_tagged service (covered x.conversation)) in
      let others : pick number later ≡ [] = none_later setting number (suc number) xs (omega arith) in
      let events : tagged (tag_of setting.worker number) history ≡ here =
      all number (omega arith) ∙ filter-append (has_tag (tag_of setting.worker number)) here later ∙ (λ i. mine i ++ others i) ∙ append-nil here in
      let more : (session : ℕ) → suc number ≤ session → tagged (tag_of setting.worker session) history ≡ pick session later = λ session next.
      all session (omega (arith, next)) ∙ filter-append (has_tag (tag_of setting.worker session)) here later
      ∙ ap (λ (es : List Event). es ++ pick session later)
      (picks_none setting.worker number session here (λ same. omega (arith, next, same)) (steps_tagged service (covered x.conversation))) in (
        record {
          new = is.new;
          explained = record {
            conversation = x.conversation;
            steps = is.steps;
            tokens = is.tokens;
            order = in_order_later service [] (covered x.conversation) x.conversation.pass.seen history is.order (prefix_trans x.conversation.pass.seen seen history is.seen_is grows);
            events = events;
            looks = is.looks;
            link = is.link;
            ending = is.ending;
            seen = prefix_trans x.conversation.pass.seen seen history is.seen_is grows;
          };
        },
        explain setting seen history (suc number) xs grows more each.1,
      )

  asked_of : (served : ℕ) (end : WorkEnd) (links : List (Link L)) (all : List Event) (before after : ListenerState L)
      → UnlessOver end (WasAsked (run_of links end) before after) → EndsFrom (served + 1) all links end → served < MAX_SESSIONS → WasAsked (run_of links end) before after
  asked_of served Closed links all before after asked ending left = asked
  asked_of served (Ended at) links all before after asked ending left = asked
  asked_of served DoorFault links all before after asked ending left = asked
  asked_of served SessionsOver links all before after asked ending left = inl (many links ending)
    where
      many : (xs : List (Link L)) → (served + 1) + length xs ≡ MAX_SESSIONS + 1 → 0 < length (link_runs_in xs)
      many [] all = absurd (omega (arith, all, left))
      many (x ∷ xs) all = omega arith

  pub length_link_runs : (xs : List (Link L)) → length (link_runs_in xs) ≡ length xs
  length_link_runs [] = refl
  length_link_runs (x ∷ xs) = ap suc (length_link_runs xs)

  ends_by : (setting : Setting L) (end : WorkEnd) (links : List (Link L)) (seen history : List Event) → IsPrefix seen history
      → EndsFrom (served_before setting + 1) (setting.given ++ seen) links end → EndsByHistory setting history (link_runs_in links) end
  ends_by setting Closed links seen history grows ending = tt
  ends_by setting (Ended at) links seen history grows ending = stop_stays (setting.given ++ seen) (setting.given ++ history) at (prefix_after setting.given seen history grows) ending
  ends_by setting DoorFault links seen history grows ending = tt
  ends_by setting SessionsOver links seen history grows ending = omega (arith, length_link_runs links, ending)

  -- the work at a door, by a history that has all that the worker's pass has seen and made
  pub record ServedBy (setting : Setting L) (history : List Event) (end : WorkEnd) (before after : AtDoor L) : Type 0 where
    pub links : List (Link L)
    pub served : HasServed setting history (run_of links end) before.door after.door
    pub own : own_by setting.worker history ≡ events_from setting (served_before setting + 1) links
    pub number : after.pass.number ≡ setting.worker
    pub ends : is_door_fault end ≡ false → after.pass.ends ≡ false

  pub served_by : (setting : Setting L) (history : List Event) (passes : ℕ) (end : WorkEnd) (before after : AtDoor L) → IsNewPass setting.worker before.pass
      → IsOf history passes after.pass → HasWorkedFrom setting (served_before setting) end before after → ServedBy setting history end before after
  served_by setting history passes end before after new of h =
      let earlier = served_before setting in
      let first = earlier + 1 in
      let worked : Worked setting first end before after = worked_of setting earlier end before after h in
      let w = setting.worker in
      let number : after.pass.number ≡ w = worked.pass.number ∙ new.number_is in
      let none : own_by before.pass.number before.pass.seen ≡ [] = ap (own_by before.pass.number) new.seen in
      let nothing : made_by before.pass.number before.pass.seen ≡ before.pass.made = ap (made_by before.pass.number) new.seen ∙ sym new.made in
      let own : own_by w after.pass.seen ≡ events_from setting first worked.links =
      subst (λ (n : ℕ). own_by n after.pass.seen ≡ events_from setting first worked.links) new.number_is
      (worked.pass.own ∙ ap (λ (es : List Event). es ++ events_from setting first worked.links) none) in
      let known : made_by w after.pass.seen ≡ after.pass.made =
      subst (λ (n : ℕ). made_by n after.pass.seen ≡ after.pass.made) new.number_is (worked.pass.known nothing) in
      let made : made_by w after.pass.seen ≡ made_by w history =
      known ∙ of.made ∙ ap (λ (n : ℕ). made_by n history) number in
      let whole : own_by w history ≡ events_from setting first worked.links = own_by_same w after.pass.seen history of.seen made ∙ own in
      let all : (session : ℕ) → first ≤ session → tagged (tag_of w session) history ≡ filter (has_tag (tag_of w session)) (events_from setting first worked.links) =
      λ session some. tagged_own w session history (omega (arith, some)) ∙ ap (filter (has_tag (tag_of w session))) whole in
      record {
        links = worked.links;
        served = record {
          links = explain setting after.pass.seen history first worked.links of.seen all worked.each;
          last = worked.last;
          told = worked.told;
          away = worked.away;
          faults = worked.faults;
          mark = worked.mark;
          asked = asked_of earlier end worked.links (setting.given ++ after.pass.seen) before.door after.door worked.asked worked.ending;
          few = omega (arith, length_link_runs worked.links, worked.few);
          ending = ends_by setting end worked.links after.pass.seen history of.seen worked.ending;
        };
        own = whole;
        number = number;
        ends = λ fine. worked.ends fine ∙ new.ends;
      }
