-- What the work at a door leaves, link by link.
use Rattle.std.proofs.Common.{◌≡◌, ℕ, suc, ◌+◌, ◌<◌, ◌≤◌, ◌||◌, Bool, true, false, List, [], ◌∷◌, ◌++◌, length, map, refl, sym, ap, subst, ◌∙◌, arith, append_assoc, append-nil, inl, inr, ⊎_elim}
use Rattle.std.specs.Prelude.{Option, Some, None, option_map, flat_map, take}
use Rattle.std.proofs.Math.Bool.{or-false, or-true}
use mathlib.Core.List.{IsPrefix}
use Rattle.play_types.specs.History.{stop_at}
use Rattle.play_types.specs.declared.event.Event.{Event}
use Rattle.play_outside.specs.Faults.{Rose}
use Rattle.play_outside.specs.Fresh.{IsNewSink}
use Rattle.play_outside.specs.ListenerState.{ListenerState, ListenerTold, after_none_came, listener_closed}
use Rattle.stage_lock.specs.Views.{PassView}
use Rattle.play_types.specs.declared.event.Event.TheVariants.{Stop}
use Rattle.stage_lock.specs.Calls.{Adds, IsStopped, Looks, tag_of}
use Rattle.stage_lock.proofs.Prefixes.{prefix_self, prefix_trans}
use Rattle.history_model.specs.sessions.Request.{tokens}
use Rattle.conn_worker.specs.Followed.{Service, Followed, events_of, steps_in, steps_of, tokens_in}
use Rattle.conn_worker.specs.Rounds.{IsAfterFailure, after_rounds, bytes_in}
use Rattle.conn_worker.specs.Explained.{AreInOrder, EndsBy, IsCaughtUp, Conversation, covered}
use Rattle.conn_worker.specs.Work.{AtDoor, Came, EndsWork, HasWorkedFrom, IsServed, LooksOn, NoneYet, Setting, StopsAfter, TakesAll, Turn, LinkRun, links_come, number_came, service_of}
use Rattle.std.proofs.lemmas.List.Sums.{sum_by-cons}
use Rattle.conn_worker.specs.declared.link_end.LinkEnd as link
use Rattle.conn_worker.specs.declared.link_end.LinkEnd.TheVariants as ends
use Rattle.conn_worker.specs.declared.work_end.TheConstants.{MAX_SESSIONS}
use Rattle.conn_worker.specs.declared.work_end.WorkEnd.{WorkEnd}
use Rattle.conn_worker.specs.declared.work_end.WorkEnd.TheVariants.{Closed, Ended, DoorFault, SessionsOver}
use Rattle.server_run.specs.Links.{EachFrom}
use Rattle.server_run.specs.Doors.{DoorRun, OnlyLastIsStopped, WasAsked, faults_after, given_back, is_closed, is_door_fault, is_stopped}
use Rattle.server_run.proofs.ListenerState.{DoorOn, door_served, door_waited, more_returned}
use Rattle.server_run.proofs.PassView.{PassOn, pass_looked, pass_made, pass_quiet, pass_same, pass_stopped, pass_then}
use Rattle.server_run.proofs.GoesOnAfter.{GoesOn, StopSeen, goes_on, looked_ended, looked_stop, looks_ends}

-- a link that was served, and the conversation with its client
pub record Link (L : Type 0) : Type 0 where
  pub link_run : LinkRun L
  pub conversation : Conversation

-- steps in order, without what was seen before them
in_order_from_none : (service : Service) (seen : List Event) (followed : List Followed) (history : List Event)
    → AreInOrder service seen followed history → AreInOrder service [] followed history
in_order_from_none service seen [] history order = (history, refl)
in_order_from_none service seen (one ∷ more) history order = ((one.found, refl), order.1)

-- this holds, unless as many links were served as there are session numbers
abbrev pub UnlessOver : WorkEnd → Type 0 → Type 0
UnlessOver Closed Fact = Fact
UnlessOver (Ended at) Fact = Fact
UnlessOver DoorFault Fact = Fact
UnlessOver SessionsOver Fact = Unit {0}

unless_over : (end : WorkEnd) (Fact : Type 0) → Fact → UnlessOver end Fact
unless_over Closed Fact fact = fact
unless_over (Ended at) Fact fact = fact
unless_over DoorFault Fact fact = fact
unless_over SessionsOver Fact fact = tt

unless_over_then : (end : WorkEnd) (One Other : Type 0) → (One → Other) → UnlessOver end One → UnlessOver end Other
unless_over_then Closed One Other f fact = f fact
unless_over_then (Ended at) One Other f fact = f fact
unless_over_then DoorFault One Other f fact = f fact
unless_over_then SessionsOver One Other f fact = tt

module _ {L : Type 0} where
  abbrev pub link_runs_in : List (Link L) → List (LinkRun L)
  link_runs_in links = map (λ (x : Link L). x.link_run) links

  abbrev pub run_of : List (Link L) → WorkEnd → DoorRun L
  run_of links end = record { links = link_runs_in links; end = end }

  -- the events of a link that was served as the session of this number
  abbrev pub link_events : Setting L → ℕ → Link L → List Event
  link_events setting number x = flat_map (events_of (service_of setting number)) (covered x.conversation)

  -- the events of all links, from the session of this number on
  abbrev pub events_from : Setting L → ℕ → List (Link L) → List Event
  events_from setting number [] = []
  events_from setting number (x ∷ xs) = link_events setting number x ++ events_from setting (suc number) xs

  -- what is known of a link whose pass has since seen `seen`
  pub record IsLink (setting : Setting L) (seen : List Event) (number : ℕ) (x : Link L) : Type 0 where
    pub new : IsNewSink x.link_run.came
    pub steps : IsPrefix (steps_in (covered x.conversation)) (steps_of (service_of setting number) (covered x.conversation) (bytes_in x.conversation.rounds))
    pub tokens : IsPrefix (tokens_in (covered x.conversation)) (tokens (bytes_in x.conversation.rounds))
    pub order : AreInOrder (service_of setting number) [] (covered x.conversation) x.conversation.pass.seen
    pub looks : (k : ℕ) → k < length x.conversation.rounds → IsCaughtUp (service_of setting number) (take k x.conversation.rounds)
    pub link : IsAfterFailure (service_of setting number) x.conversation.failure (after_rounds (service_of setting number) x.conversation.rounds x.link_run.came) (setting.tells x.link_run.line)
    pub ending : EndsBy (service_of setting number) x.conversation x.link_run.end
    pub seen_is : IsPrefix x.conversation.pass.seen seen

  link_later : (setting : Setting L) (seen later : List Event) (number : ℕ) (x : Link L) → IsPrefix seen later → IsLink setting seen number x → IsLink setting later number x
  link_later setting seen later number x grows is = record {
    new = is.new;
    steps = is.steps;
    tokens = is.tokens;
    order = is.order;
    looks = is.looks;
    link = is.link;
    ending = is.ending;
    seen_is = prefix_trans x.conversation.pass.seen seen later is.seen_is grows;
  }

  pub links_later : (setting : Setting L) (seen later : List Event) (number : ℕ) (xs : List (Link L)) → IsPrefix seen later
      → EachFrom (IsLink setting seen) number xs → EachFrom (IsLink setting later) number xs
  links_later setting seen later number [] grows each = tt
  links_later setting seen later number (x ∷ xs) grows each =
      (link_later setting seen later number x grows each.0, links_later setting seen later (suc number) xs grows each.1)

  -- a link that was served
  record ServedLink (setting : Setting L) (number : ℕ) (link_run : LinkRun L) (before after : AtDoor L) : Type 0 where
    x : Link L
    link_run_is : x.link_run ≡ link_run
    pass_is : x.conversation.pass ≡ link_run.pass
    is : IsLink setting link_run.pass.seen number x
    pass : PassOn (link_events setting number x) before.pass link_run.pass
    ends : link_run.pass.ends ≡ before.pass.ends
    door : DoorOn (link_run.line ∷ []) before.door after.door

  served_link : (setting : Setting L) (number : ℕ) (link_run : LinkRun L) (before after : AtDoor L) → IsServed setting number link_run before after
      → ServedLink setting number link_run before after
  served_link setting number link_run before after served =
      let explained = served.explained in
      let service = service_of setting number in
      let conversation : Conversation = record { rounds = explained.rounds; failure = explained.failure; pass = link_run.pass } in
      record {
        x = record { link_run = link_run; conversation = conversation };
        link_run_is = refl;
        pass_is = refl;
        is = record {
          new = served.new;
          steps = explained.steps;
          tokens = explained.tokens;
          order = in_order_from_none service before.pass.seen (covered conversation) link_run.pass.seen explained.made.order;
          looks = explained.looks;
          link = explained.link;
          ending = explained.ending;
          seen_is = prefix_self link_run.pass.seen;
        };
        pass = pass_made service (covered conversation) before.pass link_run.pass explained.made;
        ends = explained.made.ends;
        door = door_served link_run.line before.door after.door served.door;
      }

  -- how the work ended, if the first session had this number
  abbrev pub EndsFrom : ℕ → List Event → List (Link L) → WorkEnd → Type 0
  EndsFrom number all links Closed = Unit {0}
  EndsFrom number all links (Ended at) = stop_at all ≡ Some at
  EndsFrom number all links DoorFault = Unit {0}
  EndsFrom number all links SessionsOver = number + length links ≡ MAX_SESSIONS + 1

  -- the work at a door, from the session of this number on
  pub record Worked (setting : Setting L) (number : ℕ) (end : WorkEnd) (before after : AtDoor L) : Type 0 where
    pub links : List (Link L)
    pub pass : PassOn (events_from setting number links) before.pass after.pass
    pub ends : is_door_fault end ≡ false → after.pass.ends ≡ before.pass.ends
    pub each : EachFrom (IsLink setting after.pass.seen) number links
    pub last : OnlyLastIsStopped (link_runs_in links)
    pub told : after.door.told ≡ option_map (given_back (run_of links end)) before.door.told
    pub away : after.door.away ≡ before.door.away
    pub faults : after.door.faults ≡ faults_after end before.door.faults
    pub mark : after.door.mark ≡ before.door.mark
    pub asked : UnlessOver end (WasAsked (run_of links end) before.door after.door)
    pub few : number + length links ≤ MAX_SESSIONS + 1
    pub ending : EndsFrom number (setting.given ++ after.pass.seen) links end

  -- the links that were given back, in two parts
  given_then : (lines : List L) (links : List (LinkRun L)) (end : WorkEnd) (told : Option (ListenerTold L)) (one : LinkRun L) → lines ≡ one.line ∷ []
      → option_map (given_back (record { links = links; end = end })) (option_map (more_returned lines) told)
      ≡ option_map (given_back (record { links = one ∷ links; end = end })) told
  given_then lines links end None one is = refl
  given_then lines links end (Some told) one is =
      ap (λ (ls : List L). Some (record told { returned = ls; closed = told.closed || is_closed end }))
      (ap (λ (ls : List L). (told.returned ++ ls) ++ map (λ (link_run : LinkRun L). link_run.line) links) is
      ∙ append_assoc told.returned (one.line ∷ []) (map (λ (link_run : LinkRun L). link_run.line) links))

  given_more : (run : DoorRun L) (told : Option (ListenerTold L))
      → option_map (given_back run) (option_map (more_returned []) told) ≡ option_map (given_back run) told
  given_more run None = refl
  given_more run (Some told) =
      ap (λ (ls : List L). Some (record told { returned = ls ++ map (λ (link_run : LinkRun L). link_run.line) run.links; closed = told.closed || is_closed run.end }))
      (append-nil told.returned)

  -- nothing was given back, and the door did not answer Closed
  given_none : (end : WorkEnd) (told : Option (ListenerTold L)) → is_closed end ≡ false
      → told ≡ option_map (given_back (record { links = []; end = end })) told
  given_none end None other = refl
  given_none end (Some told) other =
      let lists = append-nil told.returned in
      let bools : told.closed || is_closed end ≡ told.closed = ap (λ (b : Bool). told.closed || b) other ∙ or-false told.closed in
      λ i. Some (record told { returned = sym lists i; closed = sym bools i })

  given_closed : (told : Option (ListenerTold L)) → option_map listener_closed told ≡ option_map (given_back (record { links = []; end = Closed })) told
  given_closed None = refl
  given_closed (Some told) =
      let lists = append-nil told.returned in
      let bools : told.closed || true ≡ true = or-true told.closed in
      λ i. Some (record told { returned = sym lists i; closed = sym bools i })

  only_last_more : (one : LinkRun L) (link_runs : List (LinkRun L)) → is_stopped one.end ≡ false → OnlyLastIsStopped link_runs → OnlyLastIsStopped (one ∷ link_runs)
  only_last_more one [] other last = tt
  only_last_more one (next ∷ link_runs) other last = (other, last)

  -- one link more, served before the others
  ends_more : (number : ℕ) (seen : List Event) (x : Link L) (links : List (Link L)) (end : WorkEnd) → EndsFrom (suc number) seen links end → EndsFrom number seen (x ∷ links) end
  ends_more number seen x links Closed ending = tt
  ends_more number seen x links (Ended at) ending = ending
  ends_more number seen x links DoorFault ending = tt
  ends_more number seen x links SessionsOver ending = omega (arith, ending)

  served_first : (setting : Setting L) (number : ℕ) (end : WorkEnd) (link_run : LinkRun L) (before done after : AtDoor L)
      → ServedLink setting number link_run before done → GoesOn link_run.end link_run.pass done.pass
      → Worked setting (suc number) end done after → Worked setting number end before after
  served_first setting number end link_run before done after served on worked =
      let x = served.x in
      let events = link_events setting number x in
      let first : PassOn events before.pass done.pass = pass_quiet events before.pass link_run.pass done.pass served.pass on.pass in
      let door = served.door in
      let line_is : link_run.line ∷ [] ≡ x.link_run.line ∷ [] = ap (λ (v : LinkRun L). v.line ∷ []) (sym served.link_run_is) in
      let is : IsLink setting after.pass.seen number x =
      link_later setting link_run.pass.seen after.pass.seen number x (prefix_trans link_run.pass.seen done.pass.seen after.pass.seen on.pass.seen worked.pass.seen) served.is in
      let other : is_stopped x.link_run.end ≡ false = ap (λ (v : LinkRun L). is_stopped v.end) served.link_run_is ∙ on.other in
      record {
        links = x ∷ worked.links;
        pass = pass_then events (events_from setting (suc number) worked.links) before.pass done.pass after.pass first worked.pass;
        ends = λ none. worked.ends none ∙ on.ends ∙ served.ends;
        each = (is, worked.each);
        last = only_last_more x.link_run (link_runs_in worked.links) other worked.last;
        told =
            worked.told ∙ ap (option_map (given_back (run_of worked.links end))) door.told
            ∙ given_then (link_run.line ∷ []) (link_runs_in worked.links) end before.door.told x.link_run line_is;
        away = worked.away ∙ door.away;
        faults = worked.faults ∙ ap (faults_after end) door.faults;
        mark = worked.mark ∙ door.mark;
        asked = unless_over end (WasAsked (run_of (x ∷ worked.links) end) before.door after.door) (inl (omega arith));
        few = omega (arith, worked.few);
        ending = ends_more number (setting.given ++ after.pass.seen) x worked.links end worked.ending;
      }

  asked_later : (run : DoorRun L) (before between after : ListenerState L) → before.idle ≤ between.idle → WasAsked run between after → WasAsked run before after
  asked_later run before between after later (inl some) = inl some
  asked_later run before between after later (inr (inl closed)) = inr (inl closed)
  asked_later run before between after later (inr (inr (inl fault))) = inr (inr (inl fault))
  asked_later run before between after later (inr (inr (inr rose))) = inr (inr (inr (omega (arith, later, rose))))

  -- before the others the door had no link yet
  waited_first : (setting : Setting L) (number : ℕ) (end : WorkEnd) (before between after : AtDoor L) → LooksOn before.pass between.pass
      → between.door ≡ after_none_came before.door → Worked setting number end between after → Worked setting number end before after
  waited_first setting number end before between after looks same worked =
      let door : DoorOn [] before.door between.door = door_waited before.door between.door same in
      let events = events_from setting number worked.links in
      record {
        links = worked.links;
        pass = pass_then [] events before.pass between.pass after.pass (pass_looked _ before.pass between.pass looks) worked.pass;
        ends = λ none. worked.ends none ∙ looks_ends _ before.pass between.pass looks;
        each = worked.each;
        last = worked.last;
        told =
            worked.told ∙ ap (option_map (given_back (run_of worked.links end))) door.told
            ∙ given_more (run_of worked.links end) before.door.told;
        away = worked.away ∙ door.away;
        faults = worked.faults ∙ ap (faults_after end) door.faults;
        mark = worked.mark ∙ door.mark;
        asked = unless_over_then end (WasAsked (run_of worked.links end) between.door after.door) (WasAsked (run_of worked.links end) before.door after.door)
            (asked_later (run_of worked.links end) before.door between.door after.door door.idle) worked.asked;
        few = worked.few;
        ending = worked.ending;
      }

  stop_seen : (setting : Setting L) (number at : ℕ) (x : Link L) (seen : List Event) (after : PassView) (end : link.LinkEnd) → EndsBy (service_of setting number) x.conversation end
      → (before : PassView) → x.conversation.pass.seen ≡ before.seen → StopsAfter setting.given at end before after → StopSeen setting.given at end before after
  stop_seen setting number at x seen after ends.Over ending before is looks = looked_ended setting.given at ends.Over before after looks
  stop_seen setting number at x seen after ends.Killed ending before is looks = looked_ended setting.given at ends.Killed before after looks
  stop_seen setting number at x seen after ends.LinkFault ending before is looks = looked_ended setting.given at ends.LinkFault before after looks
  stop_seen setting number at x seen after (ends.Ended position) ending before is same = record {
    pass = pass_same before after same.1;
    ends = ap (λ (p : PassView). p.ends) same.1;
    stop = ap (λ (p : PassView). stop_at (setting.given ++ p.seen)) same.1 ∙ ap (λ (es : List Event). stop_at (setting.given ++ es)) (sym is) ∙ ending.stopped ∙ ap Some same.0;
  }

  -- the work ended, if the next session would have had this number
  work_ended : (setting : Setting L) (number : ℕ) (end : WorkEnd) (before after : AtDoor L) → number ≤ MAX_SESSIONS + 1 → EndsWork setting number end before after
      → Worked setting number end before after
  work_ended setting number Closed before after few closed = record {
    links = [];
    pass = pass_same before.pass after.pass closed.pass;
    ends = λ _. ap (λ (p : PassView). p.ends) closed.pass;
    each = tt;
    last = tt;
    told = ap (λ (d : ListenerState L). d.told) closed.door ∙ given_closed before.door.told;
    away = ap (λ (d : ListenerState L). d.away) closed.door;
    faults = ap (λ (d : ListenerState L). d.faults) closed.door;
    mark = ap (λ (d : ListenerState L). d.mark) closed.door;
    asked = inr (inl refl);
    few = omega (arith, few);
    ending = tt;
  }
  work_ended setting number (Ended at) before after few (inl (looks, door)) = record {
    links = [];
    pass = pass_looked _ before.pass after.pass looks;
    ends = λ _. looks_ends _ before.pass after.pass looks;
    each = tt;
    last = tt;
    told = ap (λ (d : ListenerState L). d.told) door ∙ given_none (Ended at) before.door.told refl;
    away = ap (λ (d : ListenerState L). d.away) door;
    faults = ap (λ (d : ListenerState L). d.faults) door;
    mark = ap (λ (d : ListenerState L). d.mark) door;
    asked = inr (inr (inr (subst (Rose before.door.idle) (sym (ap (λ (d : ListenerState L). d.idle) door)) (omega arith))));
    few = omega (arith, few);
    ending = looked_stop setting.given at before.pass after.pass looks;
  }
  work_ended setting number (Ended at) before after few (inr (below, (link_run, (is_served, stops)))) =
      let served : ServedLink setting number link_run before after = served_link setting number link_run before after is_served in
      let x = served.x in
      let events = link_events setting number x in
      let by_run : EndsBy (service_of setting number) x.conversation link_run.end =
      subst (λ (v : LinkRun L). EndsBy (service_of setting number) x.conversation v.end) served.link_run_is served.is.ending in
      let seen : StopSeen setting.given at link_run.end link_run.pass after.pass =
      stop_seen setting number at x link_run.pass.seen after.pass link_run.end by_run link_run.pass (ap (λ (p : PassView). p.seen) served.pass_is) stops in
      let pass : PassOn events before.pass after.pass = pass_quiet events before.pass link_run.pass after.pass served.pass seen.pass in
      let line_is : link_run.line ∷ [] ≡ x.link_run.line ∷ [] = ap (λ (v : LinkRun L). v.line ∷ []) (sym served.link_run_is) in
      record {
        links = x ∷ [];
        pass = subst (λ (es : List Event). PassOn es before.pass after.pass) (sym (append-nil events)) pass;
        ends = λ _. seen.ends ∙ served.ends;
        each = (link_later setting link_run.pass.seen after.pass.seen number x seen.pass.seen served.is, tt);
        last = tt;
        told =
            served.door.told ∙ given_none (Ended at) (option_map (more_returned (link_run.line ∷ [])) before.door.told) refl
            ∙ given_then (link_run.line ∷ []) [] (Ended at) before.door.told x.link_run line_is;
        away = served.door.away;
        faults = served.door.faults;
        mark = served.door.mark;
        asked = inl (omega arith);
        few = omega (arith, below);
        ending = seen.stop;
      }
  work_ended setting number DoorFault before after few fault = record {
    links = [];
    pass = ⊎_elim
        (λ (made : (at : ℕ) × Adds before.pass (Stop (tag_of 0 0)) (IsStopped setting.given at) after.pass). pass_stopped _ before.pass after.pass made.1)
        (λ (found : (at : ℕ) × Looks before.pass (λ history. stop_at (setting.given ++ history) ≡ Some at) after.pass). pass_looked _ before.pass after.pass found.1)
        fault.stops;
    ends = λ none. absurd cc;
    each = tt;
    last = tt;
    told = ap (λ (d : ListenerState L). d.told) fault.door ∙ given_none DoorFault before.door.told refl;
    away = ap (λ (d : ListenerState L). d.away) fault.door;
    faults = ap (λ (d : ListenerState L). d.faults) fault.door;
    mark = ap (λ (d : ListenerState L). d.mark) fault.door;
    asked = inr (inr (inl refl));
    few = omega (arith, few);
    ending = tt;
  }
  work_ended setting number SessionsOver before after few over = record {
    links = [];
    pass = pass_same before.pass after.pass (ap (λ (a : AtDoor L). a.pass) over.same);
    ends = λ _. ap (λ (a : AtDoor L). a.pass.ends) over.same;
    each = tt;
    last = tt;
    told = ap (λ (a : AtDoor L). a.door.told) over.same ∙ given_none SessionsOver before.door.told refl;
    away = ap (λ (a : AtDoor L). a.door.away) over.same;
    faults = ap (λ (a : AtDoor L). a.door.faults) over.same;
    mark = ap (λ (a : AtDoor L). a.door.mark) over.same;
    asked = tt;
    few = omega (arith, few);
    ending = omega (arith, over.all);
  }

  -- the turns of a door, and the end
  pub worked_from : (setting : Setting L) (number : ℕ) (turns : List (Turn L)) (end : WorkEnd) (before between after : AtDoor L)
      → number + number_came turns ≤ MAX_SESSIONS + 1 → TakesAll setting number turns before between → EndsWork setting (number + number_came turns) end between after
      → Worked setting number end before after
  worked_from setting number [] end before between after few same ends =
      let none : number + number_came {L = L} [] ≡ number = omega arith in
      work_ended setting number end before after (subst (λ (n : ℕ). n ≤ MAX_SESSIONS + 1) none few)
      (subst (λ (a : AtDoor L). EndsWork setting number end a after) same (subst (λ (n : ℕ). EndsWork setting n end between after) none ends))
  worked_from setting number (Came link_run ∷ turns) end before between after few (middle, (takes, rest)) ends =
      let counted : number + number_came (Came link_run ∷ turns) ≡ suc number + number_came turns = omega (arith, sum_by-cons links_come (Came link_run) turns) in
      let next : number + 1 ≡ suc number = omega arith in
      let rest' : TakesAll setting (suc number) turns middle between = subst (λ (n : ℕ). TakesAll setting n turns middle between) next rest in
      let worked : Worked setting (suc number) end middle after =
      worked_from setting (suc number) turns end middle between after (subst (λ (n : ℕ). n ≤ MAX_SESSIONS + 1) counted few) rest' (subst (λ (n : ℕ). EndsWork setting n end between after) counted ends) in
      served_first setting number end link_run before middle after
      (served_link setting number link_run before middle takes.0) (goes_on link_run.end link_run.pass middle.pass takes.1) worked
  worked_from setting number (NoneYet ∷ turns) end before between after few (middle, (takes, rest)) ends =
      let none : Turn L = NoneYet in
      let counted : number + number_came (NoneYet ∷ turns) ≡ number + number_came turns = omega (arith, sum_by-cons links_come none turns) in
      let same : number + 0 ≡ number = omega arith in
      let rest' : TakesAll setting number turns middle between = subst (λ (n : ℕ). TakesAll setting n turns middle between) same rest in
      let worked : Worked setting number end middle after =
      worked_from setting number turns end middle between after (subst (λ (n : ℕ). n ≤ MAX_SESSIONS + 1) counted few) rest' (subst (λ (n : ℕ). EndsWork setting n end between after) counted ends) in
      waited_first setting number end before middle after takes.0 takes.1 worked

  pub worked_of : (setting : Setting L) (served : ℕ) (end : WorkEnd) (before after : AtDoor L) → HasWorkedFrom setting served end before after → Worked setting (served + 1) end before after
  worked_of setting served end before after h =
      worked_from setting (served + 1) h.turns end before h.between after (omega (arith, h.few)) h.takes h.ending
