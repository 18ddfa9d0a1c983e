-- A connection ends, and what the call did is explained.
use Rattle.std.proofs.Common.{◌≡◌, ℕ, ◌+◌, ◌<◌, true, false, List, [], ◌∷◌, ◌++◌, take, length, refl, sym, ap, subst, ◌∙◌, arith, append-nil, inl, inr}
use Rattle.std.specs.Prelude.{Option, Some, None, slice_get}
use Rattle.std.specs.List.{last_or, list_any}
use mathlib.Core.List.{IsPrefix}
use Rattle.play_types.specs.History.{stop_at}
use Rattle.play_types.specs.declared.event.Event.{Event}
use Rattle.history_model.specs.sessions.Request.{tokens}
use Rattle.history_model.specs.sessions.Session as model
use Rattle.history_model.specs.sessions.Session.{is_end, steps}
use Rattle.play_outside.specs.SinkState.{SinkState, after_taking}
use Rattle.play_outside.specs.Sink.{Fails}
use Rattle.play_outside.specs.Link.{after_end, after_failed_read, after_idle}
use Rattle.play_outside.specs.declared.sink.Sent.{Sent}
use Rattle.play_outside.specs.declared.sink.Sent.TheVariants as sent
use Rattle.play_session.specs.SessionState.{SessionState}
use Rattle.play_session.specs.Session.{GivesStep}
use Rattle.play_session.specs.Step.{viewed}
use Rattle.play_session.specs.declared.step.Step.{Step}
use Rattle.stage_lock.specs.Views.{PassView}
use Rattle.stage_lock.specs.Calls.{Looks}
use Rattle.conn_worker.specs.Followed.{Service, Followed, is_lost, number_asked, sent_bytes, steps_in, steps_of, tokens_in}
use Rattle.conn_worker.specs.Rounds.{Look, Got, End, Nothing, Round, NoFailure, ReadFailed, WriteFailed, AreLeftOpen, after_rounds, bytes_in, end_round, finds_in, followed_in, idle_round, look_bytes, looks_in, number_idle}
use Rattle.conn_worker.specs.Explained.{Standing, AreInOrder, IsCaughtUp, IsExplained, IsNextAsked, HasMade, EndsBy, last_look, number_refused}
use Rattle.conn_worker.specs.inner.Steps.{Follows}
use Rattle.conn_worker.specs.inner.UnderWay as way
use Rattle.conn_worker.specs.inner.UnderWay.{Goes, HasGiven, IsBetweenLooks, IsUnderWay, Kills, Leaves, Now, Past, Stops, progress_of, with_piece}
use Rattle.conn_worker.specs.declared.link_end.LinkEnd.{LinkEnd}
use Rattle.conn_worker.specs.declared.link_end.LinkEnd.TheVariants.{Over, Killed, LinkFault, Ended}
use Rattle.conn_worker.proofs.Lists.{list_any-more, bytes_in-more, bytes_in-step, followed_in-none, followed_in-step, last_or-snoc, number_asked-more, number_idle-more, number_idle-step, steps_in-more}
use Rattle.conn_worker.proofs.Giving.{given_end, given_first, given_next, given_prefix, given_step, none_ends, tokens_first}
use Rattle.conn_worker.proofs.Passes.{in_order_later, in_order_more, made_looked, made_more}
use Rattle.conn_worker.proofs.Finding.{finds_in-none, found_idle, found_step, looks_in-more, open_step}
use Rattle.conn_worker.proofs.Links.{after_rounds-looked, after_rounds-step, looks_more, looks_step}
use Rattle.conn_worker.proofs.Going.{stays_quiet}

-- what holds of the steps that were executed holds if no step more was left unsent
whole : (P : List Followed → Type 0) (followed : List Followed) → P followed → P (followed ++ [])
whole P followed holds = subst P (sym (append-nil followed)) holds

-- all that a call without a failure of the link did
record Wholly (service : Service) (end : LinkEnd) (rounds : List Round) (before after : Standing) : Type 0 where
  pub steps : IsPrefix (steps_in (followed_in rounds)) (steps_of service (followed_in rounds) (bytes_in rounds))
  pub tokens : IsPrefix (tokens_in (followed_in rounds)) (tokens (bytes_in rounds))
  pub made : HasMade service (followed_in rounds) before.pass after.pass
  pub found : AreInOrder service before.pass.seen (finds_in rounds) after.pass.seen
  pub looks : (k : ℕ) → k < length rounds → IsCaughtUp service (take k rounds)
  pub link : after.link ≡ after_rounds service rounds before.link
  pub turns : after.pass.turns ≡ before.pass.turns + number_asked (followed_in rounds) + number_idle rounds + number_refused end (last_look rounds)

explains_wholly : (service : Service) (end : LinkEnd) (rounds : List Round) (before after : Standing) → Wholly service end rounds before after
    → EndsBy service (record { rounds = rounds; failure = NoFailure; pass = after.pass }) end → IsExplained service end before after
explains_wholly service end rounds before after w ends = record {
  rounds = rounds;
  failure = NoFailure;
  steps = whole (λ fs. IsPrefix (steps_in fs) (steps_of service fs (bytes_in rounds))) (followed_in rounds) w.steps;
  tokens = whole (λ fs. IsPrefix (tokens_in fs) (tokens (bytes_in rounds))) (followed_in rounds) w.tokens;
  made = whole (λ fs. HasMade service fs before.pass after.pass) (followed_in rounds) w.made;
  found = whole (λ fs. AreInOrder service before.pass.seen fs after.pass.seen) (finds_in rounds) w.found;
  looks = w.looks;
  link = w.link;
  turns = whole (λ fs. after.pass.turns ≡ before.pass.turns + number_asked fs + number_idle rounds + number_refused end (last_look rounds)) (followed_in rounds) w.turns;
  ending = ends;
}

-- if all steps of the bytes have been executed, the executed steps are the first of them
all_first : (service : Service) (followed : List Followed) (bytes : List ℕ) → steps_in followed ≡ steps_of service followed bytes
    → IsPrefix (steps_in followed) (steps_of service followed bytes)
all_first service followed bytes all = ([], append-nil (steps_in followed) ∙ all)

last_look-more : (rounds : List Round) (round : Round) → last_look (rounds ++ round ∷ []) ≡ Some round.look
last_look-more rounds round = ap (last_or None) (looks_in-more rounds round) ∙ last_or-snoc None (looks_in rounds) round.look

last_step-more : (followed : List Followed) (one : Followed) → last_or None (steps_in (followed ++ one ∷ [])) ≡ Some one.step
last_step-more followed one = ap (last_or None) (steps_in-more followed one) ∙ last_or-snoc None (steps_in followed) one.step

-- the tokens of all lines are those of the bytes that were read, also after a read that gave none
tokens_looked : (past : Past) (now : Now) (round : Round) → IsUnderWay past (bytes_in past.rounds) now → followed_in past.rounds ≡ followed_in (past.rounds ++ round ∷ [])
    → look_bytes round.look ≡ [] → IsPrefix (tokens_in (followed_in (past.rounds ++ round ∷ []))) (tokens (bytes_in (past.rounds ++ round ∷ [])))
tokens_looked past now round way same none =
    subst (λ (bs : List ℕ). IsPrefix (tokens_in (followed_in (past.rounds ++ round ∷ []))) (tokens bs)) (sym (bytes_in-more past.rounds round ∙ ap (λ (bs : List ℕ). bytes_in past.rounds ++ bs) none))
    (subst (λ (fs : List Followed). IsPrefix (tokens_in fs) (tokens (bytes_in past.rounds ++ []))) same
    (tokens_first past.service now.session (bytes_in past.rounds) (followed_in past.rounds) way.given []))

-- the end of the link was read
pub ends_over : (past : Past) (now : Now) (link : SinkState) → IsBetweenLooks past now → link ≡ after_end now.standing.link
    → IsExplained past.service Over past.before (record { pass = now.standing.pass; link = link })
ends_over past now link between is =
    let way = between.way in
    let rounds = past.rounds ++ end_round ∷ [] in
    let same : followed_in past.rounds ≡ followed_in rounds = sym (followed_in-none past.rounds End) in
    let now_all = stays_quiet past.service past.rounds End refl between.caught_up in
    let idle = number_idle-more past.rounds end_round in
    explains_wholly past.service Over rounds past.before (record { pass = now.standing.pass; link = link })
    (record {
      steps = all_first past.service (followed_in rounds) (bytes_in rounds) now_all.all;
      tokens = tokens_looked past now end_round way same refl;
      made = subst (λ (fs : List Followed). HasMade past.service fs past.before.pass now.standing.pass) same way.made;
      found = subst (λ (fs : List Followed). AreInOrder past.service past.before.pass.seen fs now.standing.pass.seen) (sym (finds_in-none past.rounds End refl)) way.found;
      looks = looks_more past.service past.rounds end_round way.looks between.caught_up;
      link = is ∙ ap after_end way.link ∙ sym (after_rounds-looked past.service past.rounds End past.before.link);
      turns = omega (arith, way.turns, ap number_asked same, idle);
    })
    (record {
      whole = refl;
      running = way.running;
      all = whole (λ fs. steps_in fs ≡ steps_of past.service fs (bytes_in rounds)) (followed_in rounds) now_all.all;
      cause = inl (last_or-snoc None past.rounds end_round);
    })

-- a read failed
pub ends_unread : (past : Past) (now : Now) (link : SinkState) → IsBetweenLooks past now → link ≡ after_failed_read now.standing.link
    → IsExplained past.service LinkFault past.before (record { pass = now.standing.pass; link = link })
ends_unread past now link between is =
    let way = between.way in
    record {
      rounds = past.rounds;
      failure = ReadFailed;
      steps = whole (λ fs. IsPrefix (steps_in fs) (steps_of past.service fs (bytes_in past.rounds))) (followed_in past.rounds)
          (all_first past.service (followed_in past.rounds) (bytes_in past.rounds) between.caught_up.all);
      tokens = whole (λ fs. IsPrefix (tokens_in fs) (tokens (bytes_in past.rounds))) (followed_in past.rounds)
          (subst (λ (bs : List ℕ). IsPrefix (tokens_in (followed_in past.rounds)) (tokens bs)) (append-nil (bytes_in past.rounds))
          (tokens_first past.service now.session (bytes_in past.rounds) (followed_in past.rounds) way.given []));
      made = whole (λ fs. HasMade past.service fs past.before.pass now.standing.pass) (followed_in past.rounds) way.made;
      found = whole (λ fs. AreInOrder past.service past.before.pass.seen fs now.standing.pass.seen) (finds_in past.rounds) way.found;
      looks = way.looks;
      link = is ∙ ap after_failed_read way.link;
      turns = whole (λ fs. now.standing.pass.turns ≡ past.before.pass.turns + number_asked fs + number_idle past.rounds + number_refused LinkFault (last_look past.rounds))
          (followed_in past.rounds) (omega (arith, way.turns));
      ending = record {
        failed = λ e. absurd cc;
        going = whole (λ fs. list_any is_end (steps_in fs) ≡ false) (followed_in past.rounds) between.caught_up.going;
        left_open = way.left_open;
        caught_up = λ _. between.caught_up;
        running = way.running;
      };
    }

-- a read found nothing yet, and the history that was found then holds a stop
pub ends_stopped : (past : Past) (now : Now) (link : SinkState) (pass : PassView) (at : ℕ) → IsBetweenLooks past now → link ≡ after_idle now.standing.link
    → Looks now.standing.pass (λ history. Some at ≡ stop_at (past.service.given ++ history)) pass
    → IsExplained past.service (Ended at) past.before (record { pass = pass; link = link })
ends_stopped past now link pass at between is looks =
    let way = between.way in
    let look : Look = Nothing looks.history in
    let round = idle_round looks.history in
    let rounds = past.rounds ++ round ∷ [] in
    let same : followed_in past.rounds ≡ followed_in rounds = sym (followed_in-none past.rounds look) in
    let now_all = stays_quiet past.service past.rounds look refl between.caught_up in
    let idle = number_idle-more past.rounds round in
    let turns : pass.turns ≡ now.standing.pass.turns + 1 = ap (λ (p : PassView). p.turns) looks.after in
    let seen : pass.seen ≡ looks.history = ap (λ (p : PassView). p.seen) looks.after in
    let refused : number_refused (Ended at) (last_look rounds) ≡ 0 = ap (number_refused (Ended at)) (last_look-more past.rounds round) in
    explains_wholly past.service (Ended at) rounds past.before (record { pass = pass; link = link })
    (record {
      steps = all_first past.service (followed_in rounds) (bytes_in rounds) now_all.all;
      tokens = tokens_looked past now round way same refl;
      made = made_looked past.service (followed_in rounds) past.before.pass now.standing.pass pass looks.history
          (subst (λ (fs : List Followed). HasMade past.service fs past.before.pass now.standing.pass) same way.made) looks.found looks.after;
      found = subst (AreInOrder past.service past.before.pass.seen (finds_in rounds)) (sym seen)
          (found_idle past.service past.before.pass.seen past.rounds now.standing.pass.seen looks.history way.found looks.found.seen);
      looks = looks_more past.service past.rounds round way.looks between.caught_up;
      link = is ∙ ap after_idle way.link ∙ sym (after_rounds-looked past.service past.rounds look past.before.link);
      turns = omega (arith, way.turns, turns, ap number_asked same, idle, refused);
    })
    (record {
      whole = refl;
      going = whole (λ fs. list_any is_end (steps_in fs) ≡ false) (followed_in rounds) now_all.going;
      stopped = ap (λ (es : List Event). stop_at (past.service.given ++ es)) seen ∙ sym looks.told;
      next = inl (record {
        all = whole (λ fs. steps_in fs ≡ steps_of past.service fs (bytes_in rounds)) (followed_in rounds) now_all.all;
        last = last_or-snoc None past.rounds round ∙ ap (λ (h : List Event). Some (idle_round h)) (sym seen);
      });
    })

-- the session gave a step within a piece
pub record IsAtStep (past : Past) (piece : List ℕ) (followed : List Followed) (before : Standing) (step : model.Step) : Type 0 where
  pub fed : List ℕ
  pub more : List ℕ
  pub old : SessionState
  pub new : SessionState
  pub result : Step
  pub way : IsUnderWay (with_piece past piece followed) fed (record { standing = before; session = old })
  pub bytes : fed ++ more ≡ bytes_in (with_piece past piece followed).rounds
  pub gives : GivesStep past.service.config past.service.names result new (progress_of fed (followed_in (with_piece past piece followed).rounds))
  pub is : viewed result new.batch ≡ Some step
  pub told : Option (List ℕ)
  pub line : slice_get (tokens fed) (length (followed_in (with_piece past piece followed).rounds)) ≡ Some told

module _ (past : Past) (piece : List ℕ) (followed : List Followed) (before : Standing) (step : model.Step) (here : IsAtStep past piece followed before step) where
  abbrev had : List Followed
  had = followed_in (with_piece past piece followed).rounds

  -- no step before it was an end
  none : list_any is_end (steps_in had) ≡ false
  none = none_ends past.service here.old here.fed had here.way.given here.way.going

  -- the session has given it too
  given : (one : Followed) → one.step ≡ step → one.token ≡ here.told → HasGiven past.service here.new here.fed (had ++ one ∷ [])
  given one same token =
      given_step past.service here.old here.new here.fed had one here.result here.way.given here.way.going (here.is ∙ ap Some (sym same)) here.gives
      (here.line ∙ ap Some (sym token))

  -- the tokens of what was executed are the first ones of all bytes that were read
  tokens_had : IsPrefix (tokens_in had) (tokens (bytes_in (with_piece past piece followed).rounds))
  tokens_had =
      subst (λ (bs : List ℕ). IsPrefix (tokens_in had) (tokens bs)) here.bytes
      (tokens_first past.service here.old here.fed had here.way.given here.more)

  tokens_with : (one : Followed) → one.step ≡ step → one.token ≡ here.told → IsPrefix (tokens_in (had ++ one ∷ [])) (tokens (bytes_in (with_piece past piece followed).rounds))
  tokens_with one same token =
      subst (λ (bs : List ℕ). IsPrefix (tokens_in (had ++ one ∷ [])) (tokens bs)) here.bytes
      (tokens_first past.service here.new here.fed (had ++ one ∷ []) (given one same token) here.more)

  -- the stage was stopped before the step was asked
  pub ends_unasked : (at : ℕ) (after : Standing) → is_lost step ≡ false → Stops past.service step at before after → IsExplained past.service (Ended at) past.before after
  ends_unasked at after kept stops =
      let one : Followed = record { step = step; found = []; no_memory = false; token = here.told } in
      let rounds = (with_piece past piece followed).rounds in
      let next : slice_get (steps_of past.service had (bytes_in rounds)) (length had) ≡ Some step =
      subst (λ (bs : List ℕ). slice_get (steps_of past.service had bs) (length had) ≡ Some step) here.bytes
      (given_next past.service here.new here.fed here.more had one (given one refl refl) none kept) in
      let turns : after.pass.turns ≡ before.pass.turns + 1 = ap (λ (p : PassView). p.turns) stops.finds.after_is in
      let last : last_look rounds ≡ Some (Got piece) = last_look-more past.rounds (record { look = Got piece; followed = followed }) in
      let refused : number_refused (Ended at) (last_look rounds) ≡ 1 = ap (number_refused (Ended at)) last in
      explains_wholly past.service (Ended at) rounds past.before after
      (record {
        steps = subst (λ (bs : List ℕ). IsPrefix (steps_in had) (steps_of past.service had bs)) here.bytes
            (given_prefix past.service here.old here.fed had here.way.given here.more none);
        tokens = tokens_had;
        made = made_looked past.service had past.before.pass before.pass after.pass stops.finds.history here.way.made stops.finds.found stops.finds.after_is;
        found = subst (AreInOrder past.service past.before.pass.seen (finds_in rounds)) (sym (ap (λ (p : PassView). p.seen) stops.finds.after_is))
            (in_order_later past.service past.before.pass.seen (finds_in rounds) before.pass.seen stops.finds.history here.way.found stops.finds.found.seen);
        looks = here.way.looks;
        link = stops.link ∙ here.way.link;
        turns = omega (arith, here.way.turns, turns, refused);
      })
      (record {
        whole = refl;
        going = whole (λ fs. list_any is_end (steps_in fs) ≡ false) had none;
        stopped = ap (λ (p : PassView). stop_at (past.service.given ++ p.seen)) stops.finds.after_is ∙ stops.finds.stop;
        next = inr (whole (λ fs. IsNextAsked past.service (record { rounds = rounds; failure = NoFailure; pass = after.pass })) had
            (record {
              step = step;
              next = whole (λ fs. slice_get (steps_of past.service fs (bytes_in rounds)) (length fs) ≡ Some step) had next;
              asked = stops.asked;
              piece = piece;
              last = last;
              left_open = here.way.left_open;
            }));
      })

  -- the step was executed, and its reply was not wholly written
  unsent_step : (end : LinkEnd) (after : Standing) → ((look : Option Look) → number_refused end look ≡ 0) → (follows : Follows past.service here.told step sent.Failed before after)
      → EndsBy past.service (record { rounds = (with_piece past piece followed).rounds; failure = WriteFailed follows.one; pass = after.pass }) end
      → IsExplained past.service end past.before after
  unsent_step end after unrefused follows ends =
      let one = follows.one in
      let rounds = (with_piece past piece followed).rounds in
      let asked = number_asked-more had one in
      record {
        rounds = rounds;
        failure = WriteFailed one;
        steps = subst (λ (bs : List ℕ). IsPrefix (steps_in (had ++ one ∷ [])) (steps_of past.service (had ++ one ∷ []) bs)) here.bytes
            (given_first past.service here.new here.fed here.more had one (given one follows.step_is follows.token_is) none);
        tokens = tokens_with one follows.step_is follows.token_is;
        made = made_more past.service had one past.before.pass before.pass after.pass here.way.made follows.makes;
        found = in_order_more past.service past.before.pass.seen (finds_in rounds) one before.pass.seen after.pass.seen here.way.found follows.makes.found follows.makes.seen;
        looks = here.way.looks;
        link = subst (λ (s : SinkState). Fails (sent_bytes past.service one) s after.link) here.way.link follows.sends;
        turns = omega (arith, here.way.turns, follows.makes.turns, asked, unrefused (last_look rounds));
        ending = ends;
      }

  pub ends_unsent : (after : Standing) → way.Fails past.service here.told step before after → IsExplained past.service LinkFault past.before after
  ends_unsent after fails =
      let one = fails.follows.one in
      unsent_step LinkFault after (λ look. refl) fails.follows (record {
        failed = λ e. absurd cc;
        left_open = here.way.left_open;
        going = ap (list_any is_end) (steps_in-more had one) ∙ list_any-more is_end (steps_in had) one.step none (ap is_end fails.follows.step_is ∙ fails.going);
        caught_up = λ e. absurd cc;
        running = fails.running;
      })

  -- the step is an end, and all steps were executed with it
  all_with : (one : Followed) → one.step ≡ step → one.token ≡ here.told → is_end step ≡ true
      → steps_in (had ++ one ∷ []) ≡ steps_of past.service (had ++ one ∷ []) (bytes_in (with_piece past piece followed).rounds)
  all_with one same token ends =
      subst (λ (bs : List ℕ). steps_in (had ++ one ∷ []) ≡ steps_of past.service (had ++ one ∷ []) bs) here.bytes
      (given_end past.service here.new here.fed here.more had one (given one same token) none (ap is_end same ∙ ends))

  -- the step is an end, and its reply, if it has one, was written
  sent_step : (end : LinkEnd) (after : Standing) → ((look : Option Look) → number_refused end look ≡ 0) → (follows : Follows past.service here.told step sent.All before after) → is_end step ≡ true
      → ((all : steps_in (followed_in (with_piece past piece (followed ++ follows.one ∷ [])).rounds)
      ≡ steps_of past.service (followed_in (with_piece past piece (followed ++ follows.one ∷ [])).rounds) (bytes_in (with_piece past piece (followed ++ follows.one ∷ [])).rounds))
      → last_or None (steps_in (followed_in (with_piece past piece (followed ++ follows.one ∷ [])).rounds)) ≡ Some step
      → AreLeftOpen (with_piece past piece (followed ++ follows.one ∷ [])).rounds
      → EndsBy past.service (record { rounds = (with_piece past piece (followed ++ follows.one ∷ [])).rounds; failure = NoFailure; pass = after.pass }) end)
      → IsExplained past.service end past.before after
  sent_step end after unrefused follows ends ending =
      let one = follows.one in
      let earlier : Round = record { look = Got piece; followed = followed } in
      let later : Round = record { look = Got piece; followed = followed ++ one ∷ [] } in
      let rounds = past.rounds ++ later ∷ [] in
      let same : had ++ one ∷ [] ≡ followed_in rounds = sym (followed_in-step past.rounds (Got piece) followed one) in
      let bytes : bytes_in (past.rounds ++ earlier ∷ []) ≡ bytes_in rounds = bytes_in-step past.rounds (Got piece) (followed ++ one ∷ []) followed in
      let asked = number_asked-more had one in
      let idle = number_idle-step past.rounds (Got piece) followed (followed ++ one ∷ []) in
      let all : steps_in (followed_in rounds) ≡ steps_of past.service (followed_in rounds) (bytes_in rounds) =
      subst (λ (bs : List ℕ). steps_in (followed_in rounds) ≡ steps_of past.service (followed_in rounds) bs) bytes
      (subst (λ (fs : List Followed). steps_in fs ≡ steps_of past.service fs (bytes_in (past.rounds ++ earlier ∷ []))) same (all_with one follows.step_is follows.token_is ends)) in
      let last : last_or None (steps_in (followed_in rounds)) ≡ Some step =
      ap (λ (fs : List Followed). last_or None (steps_in fs)) (sym same) ∙ last_step-more had one ∙ ap Some follows.step_is in
      explains_wholly past.service end rounds past.before after
      (record {
        steps = all_first past.service (followed_in rounds) (bytes_in rounds) all;
        tokens = subst (λ (bs : List ℕ). IsPrefix (tokens_in (followed_in rounds)) (tokens bs)) bytes
            (subst (λ (fs : List Followed). IsPrefix (tokens_in fs) (tokens (bytes_in (past.rounds ++ earlier ∷ [])))) same (tokens_with one follows.step_is follows.token_is));
        made = subst (λ (fs : List Followed). HasMade past.service fs past.before.pass after.pass) same
            (made_more past.service had one past.before.pass before.pass after.pass here.way.made follows.makes);
        found = found_step past.service past.before.pass.seen past.rounds (Got piece) followed one before.pass after.pass here.way.found follows.makes;
        looks = looks_step past.service past.rounds earlier later here.way.looks;
        link = follows.sends ∙ ap (λ (s : SinkState). after_taking s (sent_bytes past.service one)) here.way.link
            ∙ sym (after_rounds-step past.service past.rounds (Got piece) followed one past.before.link);
        turns = omega (arith, here.way.turns, follows.makes.turns, asked, ap number_asked same, idle, unrefused (last_look rounds));
      })
      (ending all last (open_step past.rounds (Got piece) followed (followed ++ one ∷ []) here.way.left_open))

  pub ends_with_bye : (after : Standing) → Leaves past.service here.told step before after → IsExplained past.service Over past.before after
  ends_with_bye after leaves =
      let follows = leaves.goes.follows in
      let rounds = (with_piece past piece (followed ++ follows.one ∷ [])).rounds in
      sent_step Over after (λ look. refl) follows (ap is_end leaves.bye)
      (λ all last left_open. record {
        whole = refl;
        running = leaves.goes.running;
        all = whole (λ fs. steps_in fs ≡ steps_of past.service fs (bytes_in rounds)) (followed_in rounds) all;
        cause = inr (whole (λ fs. last_or None (steps_in fs) ≡ Some model.EndConnection) (followed_in rounds) (last ∙ ap Some leaves.bye), left_open);
      })

  pub ends_with_kill : (after : Standing) → Kills past.service here.told step before after → IsExplained past.service Killed past.before after
  ends_with_kill after kills = by_sent kills.sent kills.follows
    where
      by_sent : (s : Sent) → Follows past.service here.told step s before after → IsExplained past.service Killed past.before after
      by_sent sent.All follows =
          let rounds = (with_piece past piece (followed ++ follows.one ∷ [])).rounds in
          sent_step Killed after (λ look. refl) follows (ap is_end kills.kill)
          (λ all last left_open. record {
            read = λ e. absurd cc;
            all = whole (λ fs. steps_in fs ≡ steps_of past.service fs (bytes_in rounds)) (followed_in rounds) all;
            cause = whole (λ fs. last_or None (steps_in fs) ≡ Some model.KillServer) (followed_in rounds) (last ∙ ap Some kills.kill);
            left_open = left_open;
          })
      by_sent sent.Failed follows =
          unsent_step Killed after (λ look. refl) follows (record {
            read = λ e. absurd cc;
            all = all_with follows.one follows.step_is follows.token_is (ap is_end kills.kill);
            cause = last_step-more had follows.one ∙ ap Some (follows.step_is ∙ kills.kill);
            left_open = here.way.left_open;
          })
