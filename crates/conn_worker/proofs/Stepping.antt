-- The step that a session gives next is executed.
use Rattle.std.proofs.Common.{◌≡◌, ◌≢◌, ℕ, ◌<◌, false, List, [], ◌∷◌, ◌++◌, length, refl, sym, subst, arith}
use Rattle.std.proofs.lemmas.Option.{get_or_from_slice_get, slice_get_within}
use Rattle.play_types.specs.Config.{ConfigView}
use Rattle.play_types.specs.Media.{MediaNameView}
use Rattle.history_model.proofs.Filled.{steps_are_filled}
use Rattle.std.specs.Prelude.{Option, Some, Ok, Err}
use Rattle.history_model.specs.commands.Channels.{AreAimed}
use Rattle.history_model.specs.sessions.Session as model
use Rattle.history_model.specs.sessions.Session.{IsFilledStep, is_end}
use Rattle.play_session.specs.SessionState.{SessionState}
use Rattle.play_session.specs.Session.{Gives, GivesStep, HasToken, Progress, after_step}
use Rattle.play_session.specs.Step.{ends, gives_up, viewed}
use Rattle.play_session.specs.declared.step.Step.{Step}
use Rattle.play_session.specs.declared.step.Step.TheVariants as step
use Rattle.conn_worker.specs.Followed.{Followed, is_lost, times_asked}
use Rattle.conn_worker.specs.Rounds.{bytes_in, followed_in}
use Rattle.conn_worker.specs.Explained.{Standing, IsExplained}
use Rattle.conn_worker.specs.inner.UnderWay.{FollowsStep, GoesOn, HasProgress, IsUnderWay, Past, progress_of, with_piece}
use Rattle.conn_worker.specs.declared.link_end.LinkEnd.{LinkEnd}
use Rattle.conn_worker.specs.declared.link_end.LinkEnd.TheVariants.{Over, Killed, LinkFault, Ended}
use Rattle.conn_worker.proofs.Going.{follows_step}
use Rattle.conn_worker.proofs.Ending.{IsAtStep, ends_unasked, ends_unsent, ends_with_bye, ends_with_kill}

-- what the stage is asked for is no line that was given up
asked_kept : (step : model.Step) → times_asked step ≡ 1 → is_lost step ≡ false
asked_kept (model.Local answer) asked = absurd (omega (arith, asked))
asked_kept (model.Ask command) asked = refl
asked_kept (model.AskBatch commands) asked = refl
asked_kept model.KillServer asked = refl
asked_kept model.EndConnection asked = refl
asked_kept model.Skip asked = refl

-- the call ends at a step
ends_at : (past : Past) (piece : List ℕ) (followed : List Followed) (before after : Standing) (step : model.Step) (end : LinkEnd) (here : IsAtStep past piece followed before step)
    → FollowsStep past.service here.told (Some step) (Err end) before after → IsExplained past.service end past.before after
ends_at past piece followed before after step Over here leaves = ends_with_bye past piece followed before step here after leaves
ends_at past piece followed before after step Killed here kills = ends_with_kill past piece followed before step here after kills
ends_at past piece followed before after step LinkFault here fails = ends_unsent past piece followed before step here after fails
ends_at past piece followed before after step (Ended at) here stops =
    ends_unasked past piece followed before step here at after (asked_kept step stops.asked) stops

module _ (past : Past) (piece : List ℕ) (followed : List Followed) (fed : List ℕ) (before after : Standing) (old new : SessionState)
    (way : IsUnderWay (with_piece past piece followed) fed (record { standing = before; session = old })) where
  -- a step that was given and executed
  given_goes : (result : Step) (step : model.Step) (has : HasToken result new (progress_of fed (followed_in (with_piece past piece followed).rounds))) → viewed result new.batch ≡ Some step → new.ended ≡ false → AreAimed past.service.config new.batch
      → GivesStep past.service.config past.service.names result new (progress_of fed (followed_in (with_piece past piece followed).rounds))
      → GoesOn past.service has.token step before after
      → (more : List Followed) × IsUnderWay (with_piece past piece more) fed (record { standing = after; session = new })
  given_goes result step has is going aimed gives on =
      (followed ++ on.goes.follows.one ∷ [], follows_step past piece followed fed before after old new result step way gives is going aimed has.token has.line on.goes)

  -- the connection goes on
  pub step_goes : (result : Step) (done : Unit {0}) → Gives past.service.config past.service.names result new (progress_of fed (followed_in (with_piece past piece followed).rounds))
      → new.ended ≡ ends result → AreAimed past.service.config new.batch → (result ≡ step.NeedMore → new ≡ old)
      → (result ≢ step.NeedMore → HasToken result new (progress_of fed (followed_in (with_piece past piece followed).rounds)))
      → ((told : Option (List ℕ)) → (gives_up result ≡ false → new.token ≡ told) → FollowsStep past.service told (viewed result new.batch) (Ok done) before after)
      → (more : List Followed) × IsUnderWay (with_piece past piece more) fed (record { standing = after; session = new })
  step_goes (step.Local answer) done gives ended aimed same token goes =
      let has = token (λ e. cc) in given_goes (step.Local answer) (model.Local answer) has refl ended aimed gives (goes has.token has.kept)
  step_goes (step.Ask command) done gives ended aimed same token goes =
      let has = token (λ e. cc) in given_goes (step.Ask command) (model.Ask command) has refl ended aimed gives (goes has.token has.kept)
  step_goes step.AskBatch done gives ended aimed same token goes =
      let has = token (λ e. cc) in given_goes step.AskBatch (model.AskBatch new.batch) has refl ended aimed gives (goes has.token has.kept)
  step_goes step.Kill done gives ended aimed same token goes = let on = goes new.token (λ kept. refl) in absurd (cc on.going)
  step_goes step.Bye done gives ended aimed same token goes = let on = goes new.token (λ kept. refl) in absurd (cc on.going)
  step_goes step.Skip done gives ended aimed same token goes =
      let has = token (λ e. cc) in given_goes step.Skip model.Skip has refl ended aimed gives (goes has.token has.kept)
  step_goes step.NeedMore done gives ended aimed same token goes = (
    followed,
    subst (λ (s : SessionState). IsUnderWay (with_piece past piece followed) fed (record { standing = after; session = s })) (sym (same refl))
        (subst (λ (s : Standing). IsUnderWay (with_piece past piece followed) fed (record { standing = s; session = old })) (sym (goes new.token (λ kept. refl))) way),
  )

  -- what holds if the session gave a step
  at_step : (result : Step) (step : model.Step) (has : HasToken result new (progress_of fed (followed_in (with_piece past piece followed).rounds))) (more : List ℕ) → fed ++ more ≡ bytes_in (with_piece past piece followed).rounds → viewed result new.batch ≡ Some step
      → GivesStep past.service.config past.service.names result new (progress_of fed (followed_in (with_piece past piece followed).rounds))
      → IsAtStep past piece followed before step
  at_step result step has more bytes is gives = record {
    fed = fed;
    more = more;
    old = old;
    new = new;
    result = result;
    way = way;
    bytes = bytes;
    gives = gives;
    is = is;
    told = has.token;
    line = has.line;
  }

  -- the call ends
  pub step_ends : (result : Step) (end : LinkEnd) (more : List ℕ) → fed ++ more ≡ bytes_in (with_piece past piece followed).rounds
      → Gives past.service.config past.service.names result new (progress_of fed (followed_in (with_piece past piece followed).rounds))
      → (result ≢ step.NeedMore → HasToken result new (progress_of fed (followed_in (with_piece past piece followed).rounds)))
      → ((told : Option (List ℕ)) → (gives_up result ≡ false → new.token ≡ told) → FollowsStep past.service told (viewed result new.batch) (Err end) before after)
      → IsExplained past.service end past.before after
  unfolding at_step
  step_ends (step.Local answer) end more bytes gives token ends =
      let has = token (λ e. cc) in
      ends_at past piece followed before after (model.Local answer) end (at_step (step.Local answer) (model.Local answer) has more bytes refl gives) (ends has.token has.kept)
  step_ends (step.Ask command) end more bytes gives token ends =
      let has = token (λ e. cc) in
      ends_at past piece followed before after (model.Ask command) end (at_step (step.Ask command) (model.Ask command) has more bytes refl gives) (ends has.token has.kept)
  step_ends step.AskBatch end more bytes gives token ends =
      let has = token (λ e. cc) in
      ends_at past piece followed before after (model.AskBatch new.batch) end (at_step step.AskBatch (model.AskBatch new.batch) has more bytes refl gives) (ends has.token has.kept)
  step_ends step.Kill end more bytes gives token ends =
      let has = token (λ e. cc) in
      ends_at past piece followed before after model.KillServer end (at_step step.Kill model.KillServer has more bytes refl gives) (ends has.token has.kept)
  step_ends step.Bye end more bytes gives token ends =
      let has = token (λ e. cc) in
      ends_at past piece followed before after model.EndConnection end (at_step step.Bye model.EndConnection has more bytes refl gives) (ends has.token has.kept)
  step_ends step.Skip end more bytes gives token ends =
      let has = token (λ e. cc) in
      ends_at past piece followed before after model.Skip end (at_step step.Skip model.Skip has more bytes refl gives) (ends has.token has.kept)
  step_ends step.NeedMore end more bytes gives token ends = absurd (ends new.token (λ kept. refl))

-- a session that gives a step has come further
pub progress_next : (config : ConfigView) (names : List MediaNameView) (result : Step) (session : SessionState) (progress : Progress)
    → Gives config names result session progress → HasProgress config names session
progress_next config names (step.Local answer) session progress gives = record { progress = after_step progress (step.Local answer); represents = gives.1 }
progress_next config names (step.Ask command) session progress gives = record { progress = after_step progress (step.Ask command); represents = gives.1 }
progress_next config names step.AskBatch session progress gives = record { progress = after_step progress step.AskBatch; represents = gives.1 }
progress_next config names step.Kill session progress gives = record { progress = after_step progress step.Kill; represents = gives.1 }
progress_next config names step.Bye session progress gives = record { progress = after_step progress step.Bye; represents = gives.1 }
progress_next config names step.Skip session progress gives = record { progress = after_step progress step.Skip; represents = gives.1 }
progress_next config names step.NeedMore session progress gives = record { progress = progress; represents = gives.1 }

-- a batch that is asked for is not empty
pub batch_filled : (config : ConfigView) (names : List MediaNameView) (result : Step) (session : SessionState) (progress : Progress)
    → Gives config names result session progress → result ≡ step.AskBatch → 0 < length session.batch
batch_filled config names (step.Local answer) session progress gives is = absurd cc
batch_filled config names (step.Ask command) session progress gives is = absurd cc
batch_filled config names step.AskBatch session progress gives is =
    let asked : model.Step = model.AskBatch session.batch in
    let all = model.steps config names progress.given_up progress.stream in
    let within = slice_get_within all progress.given asked gives.0 in
    subst IsFilledStep (get_or_from_slice_get all progress.given asked asked gives.0)
    (steps_are_filled config names progress.given_up progress.stream progress.given asked within)
batch_filled config names step.Kill session progress gives is = absurd cc
batch_filled config names step.Bye session progress gives is = absurd cc
batch_filled config names step.Skip session progress gives is = absurd cc
batch_filled config names step.NeedMore session progress gives is = absurd cc
