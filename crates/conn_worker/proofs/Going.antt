-- A connection goes from read to read and from step to step.
use Rattle.std.proofs.Common.{◌≡◌, ℕ, ◌+◌, false, List, [], ◌∷◌, ◌++◌, length, refl, sym, ap, subst, ◌∙◌, arith, append-nil}
use Rattle.std.specs.Prelude.{Option, Some, None, slice_get}
use Rattle.std.specs.List.{list_any}
use Rattle.std.proofs.lemmas.List.Elements.{All-nil}
use Rattle.amcp_text.specs.Lines.{lines_of}
use Rattle.play_types.specs.History.{stop_at}
use Rattle.play_types.specs.declared.event.Event.{Event}
use Rattle.history_model.specs.commands.Channels.{AreAimed}
use Rattle.history_model.specs.sessions.Request.{tokens}
use Rattle.history_model.specs.sessions.Session as model
use Rattle.history_model.specs.sessions.Session.{is_end, line_steps, steps}
use Rattle.play_outside.specs.SinkState.{SinkState, after_taking}
use Rattle.play_outside.specs.Link.{after_idle, after_read}
use Rattle.play_session.specs.SessionState.{SessionState}
use Rattle.play_session.specs.Session.{Progress, Represents, GivesStep, after_bytes, at_start}
use Rattle.play_session.specs.Step.{viewed}
use Rattle.play_session.specs.declared.step.Step.{Step}
use Rattle.stage_lock.specs.Views.{PassView}
use Rattle.stage_lock.specs.Calls.{Looks}
use Rattle.stage_lock.proofs.Given.{none_since}
use Rattle.stage_lock.proofs.Prefixes.{prefix_self}
use Rattle.conn_worker.specs.Followed.{Service, Followed, number_asked, sent_bytes, steps_in, steps_of}
use Rattle.conn_worker.specs.Rounds.{Look, Got, Nothing, Round, LeavesOpen, bytes_in, finds_in, followed_in, idle_round, look_bytes}
use Rattle.conn_worker.specs.Explained.{Standing, AreInOrder, IsCaughtUp, HasMade}
use Rattle.conn_worker.specs.inner.UnderWay.{Goes, HasGiven, IsBetweenLooks, IsUnderWay, Now, Past, progress_of, with_piece}
use Rattle.conn_worker.proofs.Lists.{bytes_in-more, followed_in-none, followed_in-step, number_asked-more, number_idle-more, number_idle-step}
use Rattle.conn_worker.proofs.Giving.{given_all, given_fed, given_nothing, given_step, none_ends}
use Rattle.conn_worker.proofs.Passes.{made_looked, made_more, made_none}
use Rattle.conn_worker.proofs.Finding.{finds_in-none, found_idle, found_step, open_more, open_step}
use Rattle.conn_worker.proofs.Links.{after_rounds-looked, after_rounds-step, looks_more, looks_step}

-- nothing was read yet
caught_up_at_start : (service : Service) → IsCaughtUp service []
unfolding steps line_steps
caught_up_at_start service = record { all = refl; going = refl; left_open = All-nil LeavesOpen }

-- a connection begins with a session that was restarted
pub begins : (service : Service) (before : Standing) (session : SessionState)
    → Represents service.config service.names session at_start → session.batch ≡ [] → session.ended ≡ false → stop_at before.pass.seen ≡ None
    → AreAimed service.config session.batch
    → IsBetweenLooks (record { service = service; before = before; rounds = [] }) (record { standing = before; session = session })
begins service before session represents batch going running aimed =
    let same : before.pass.turns ≡ before.pass.turns + 0 + 0 = omega arith in
    record {
      way = record {
        looks = λ k within. absurd (omega arith);
        left_open = All-nil LeavesOpen;
        given = given_nothing service session represents;
        going = going;
        aimed = aimed;
        made = made_none service before.pass;
        found = prefix_self before.pass.seen;
        turns = same;
        link = refl;
        running = running;
      };
      caught_up = caught_up_at_start service;
    }

-- a read found a piece
pub reads_piece : (past : Past) (now : Now) (piece : List ℕ) (link : SinkState) → IsBetweenLooks past now → link ≡ after_read now.standing.link piece
    → IsUnderWay (with_piece past piece []) (bytes_in past.rounds) (record { standing = record { pass = now.standing.pass; link = link }; session = now.session })
reads_piece past now piece link between is =
    let way = between.way in
    let round : Round = record { look = Got piece; followed = [] } in
    let same : followed_in past.rounds ≡ followed_in (past.rounds ++ round ∷ []) = sym (followed_in-none past.rounds (Got piece)) in
    let idle = number_idle-more past.rounds round in
    record {
      looks = looks_more past.service past.rounds round way.looks between.caught_up;
      left_open = open_more past.rounds round way.left_open tt;
      given = subst (HasGiven past.service now.session (bytes_in past.rounds)) same way.given;
      going = way.going;
      aimed = way.aimed;
      made = subst (λ (fs : List Followed). HasMade past.service fs past.before.pass now.standing.pass) same way.made;
      found = subst (λ (fs : List Followed). AreInOrder past.service past.before.pass.seen fs now.standing.pass.seen) (sym (finds_in-none past.rounds (Got piece) refl)) way.found;
      turns = omega (arith, way.turns, ap number_asked same, idle);
      link = is ∙ ap (λ (s : SinkState). after_read s piece) way.link ∙ sym (after_rounds-looked past.service past.rounds (Got piece) past.before.link);
      running = way.running;
    }

-- more bytes were fed to the session
pub feeds : (past : Past) (fed taken : List ℕ) (standing : Standing) (before after : SessionState)
    → IsUnderWay past fed (record { standing = standing; session = before })
    → ((progress : Progress) → Represents past.service.config past.service.names before progress → Represents past.service.config past.service.names after (after_bytes progress taken))
    → after.batch ≡ before.batch → after.ended ≡ before.ended
    → IsUnderWay past (fed ++ taken) (record { standing = standing; session = after })
feeds past fed taken standing before after way grows batch ended = record {
  looks = way.looks;
  left_open = way.left_open;
  given = given_fed past.service before fed (followed_in past.rounds) way.given after taken grows;
  going = ended ∙ way.going;
  aimed = subst (AreAimed past.service.config) (sym batch) way.aimed;
  made = way.made;
  found = way.found;
  turns = way.turns;
  link = way.link;
  running = way.running;
}

-- one step more was given and executed
pub follows_step : (past : Past) (piece : List ℕ) (followed : List Followed) (fed : List ℕ) (before after : Standing) (old new : SessionState) (result : Step) (step : model.Step)
    → IsUnderWay (with_piece past piece followed) fed (record { standing = before; session = old })
    → GivesStep past.service.config past.service.names result new (progress_of fed (followed_in (with_piece past piece followed).rounds))
    → viewed result new.batch ≡ Some step → new.ended ≡ false → AreAimed past.service.config new.batch
    → (told : Option (List ℕ)) → slice_get (tokens fed) (length (followed_in (with_piece past piece followed).rounds)) ≡ Some told
    → (goes : Goes past.service told step before after)
    → IsUnderWay (with_piece past piece (followed ++ goes.follows.one ∷ [])) fed (record { standing = after; session = new })
follows_step past piece followed fed before after old new result step way gives is going aimed told line goes =
    let one = goes.follows.one in
    let earlier : Round = record { look = Got piece; followed = followed } in
    let later : Round = record { look = Got piece; followed = followed ++ one ∷ [] } in
    let had = followed_in (past.rounds ++ earlier ∷ []) in
    let same : had ++ one ∷ [] ≡ followed_in (past.rounds ++ later ∷ []) = sym (followed_in-step past.rounds (Got piece) followed one) in
    let asked = number_asked-more had one in
    let idle = number_idle-step past.rounds (Got piece) followed (followed ++ one ∷ []) in
    let makes = goes.follows.makes in
    record {
      looks = looks_step past.service past.rounds earlier later way.looks;
      left_open = open_step past.rounds (Got piece) followed (followed ++ one ∷ []) way.left_open;
      given = subst (HasGiven past.service new fed) same
          (given_step past.service old new fed had one result way.given way.going (is ∙ ap Some (sym goes.follows.step_is)) gives (line ∙ ap Some (sym goes.follows.token_is)));
      going = going;
      aimed = aimed;
      made = subst (λ (fs : List Followed). HasMade past.service fs past.before.pass after.pass) same
          (made_more past.service had one past.before.pass before.pass after.pass way.made makes);
      found = found_step past.service past.before.pass.seen past.rounds (Got piece) followed one before.pass after.pass way.found makes;
      turns = omega (arith, way.turns, makes.turns, asked, ap number_asked same, idle);
      link = goes.follows.sends ∙ ap (λ (s : SinkState). after_taking s (sent_bytes past.service one)) way.link
          ∙ sym (after_rounds-step past.service past.rounds (Got piece) followed one past.before.link);
      running = goes.running;
    }

-- all bytes were fed, and a step was executed for each line
pub catches_up : (past : Past) (now : Now) → IsUnderWay past (bytes_in past.rounds) now → length (lines_of (bytes_in past.rounds)) ≡ length (followed_in past.rounds)
    → IsBetweenLooks past now
catches_up past now way all =
    let going = none_ends past.service now.session (bytes_in past.rounds) (followed_in past.rounds) way.given way.going in
    record {
      way = way;
      caught_up = record {
        all = given_all past.service now.session (bytes_in past.rounds) (followed_in past.rounds) way.given going all;
        going = going;
        left_open = way.left_open;
      };
    }

-- after a read that gave no bytes all steps were executed, as before
pub record IsQuiet (service : Service) (rounds : List Round) : Type 0 where
  pub all : steps_in (followed_in rounds) ≡ steps_of service (followed_in rounds) (bytes_in rounds)
  pub going : list_any is_end (steps_in (followed_in rounds)) ≡ false

pub stays_quiet : (service : Service) (rounds : List Round) (look : Look) → look_bytes look ≡ [] → IsCaughtUp service rounds
    → IsQuiet service (rounds ++ record { look = look; followed = [] } ∷ [])
stays_quiet service rounds look none caught_up =
    let round : Round = record { look = look; followed = [] } in
    let same : followed_in rounds ≡ followed_in (rounds ++ round ∷ []) = sym (followed_in-none rounds look) in
    let bytes : bytes_in rounds ≡ bytes_in (rounds ++ round ∷ []) =
    sym (bytes_in-more rounds round ∙ ap (λ (bs : List ℕ). bytes_in rounds ++ bs) none ∙ append-nil (bytes_in rounds)) in
    record {
      all = subst (λ (fs : List Followed). steps_in fs ≡ steps_of service fs (bytes_in (rounds ++ round ∷ []))) same
          (subst (λ (bs : List ℕ). steps_in (followed_in rounds) ≡ steps_of service (followed_in rounds) bs) bytes caught_up.all);
      going = subst (λ (fs : List Followed). list_any is_end (steps_in fs) ≡ false) same caught_up.going;
    }

-- a check of the stage after which no event of all is a stop found no stop
pub looks_on : (given : List Event) (before after : PassView) → Looks before (λ history. None ≡ stop_at (given ++ history)) after → Looks before (λ history. None ≡ stop_at history) after
looks_on given before after looks = record {
  history = looks.history;
  found = looks.found;
  told = sym (none_since given looks.history (sym looks.told));
  after = looks.after;
}

-- a read found nothing yet, and the history that was found then holds no stop
pub waits : (past : Past) (now : Now) (link : SinkState) (pass : PassView) → IsBetweenLooks past now → link ≡ after_idle now.standing.link
    → (looks : Looks now.standing.pass (λ history. None ≡ stop_at history) pass)
    → IsBetweenLooks (record past { rounds = past.rounds ++ idle_round looks.history ∷ [] }) (record { standing = record { pass = pass; link = link }; session = now.session })
waits past now link pass between is looks =
    let way = between.way in
    let look : Look = Nothing looks.history in
    let round = idle_round looks.history in
    let same : followed_in past.rounds ≡ followed_in (past.rounds ++ round ∷ []) = sym (followed_in-none past.rounds look) in
    let bytes : bytes_in past.rounds ≡ bytes_in (past.rounds ++ round ∷ []) = sym (bytes_in-more past.rounds round ∙ append-nil (bytes_in past.rounds)) in
    let idle = number_idle-more past.rounds round in
    let turns : pass.turns ≡ now.standing.pass.turns + 1 = ap (λ (p : PassView). p.turns) looks.after in
    let seen : pass.seen ≡ looks.history = ap (λ (p : PassView). p.seen) looks.after in
    let quiet = stays_quiet past.service past.rounds look refl between.caught_up in
    let left_open = open_more past.rounds round way.left_open (sym looks.told) in
    record {
      way = record {
        looks = looks_more past.service past.rounds round way.looks between.caught_up;
        left_open = left_open;
        given = subst (λ (bs : List ℕ). HasGiven past.service now.session bs (followed_in (past.rounds ++ round ∷ []))) bytes
            (subst (HasGiven past.service now.session (bytes_in past.rounds)) same way.given);
        going = way.going;
        aimed = way.aimed;
        made = made_looked past.service (followed_in (past.rounds ++ round ∷ [])) past.before.pass now.standing.pass pass looks.history
            (subst (λ (fs : List Followed). HasMade past.service fs past.before.pass now.standing.pass) same way.made) looks.found looks.after;
        found = subst (AreInOrder past.service past.before.pass.seen (finds_in (past.rounds ++ round ∷ []))) (sym seen)
            (found_idle past.service past.before.pass.seen past.rounds now.standing.pass.seen looks.history way.found looks.found.seen);
        turns = omega (arith, way.turns, turns, ap number_asked same, idle);
        link = is ∙ ap after_idle way.link ∙ sym (after_rounds-looked past.service past.rounds look past.before.link);
        running = ap stop_at seen ∙ sym looks.told;
      };
      caught_up = record { all = quiet.all; going = quiet.going; left_open = left_open };
    }
