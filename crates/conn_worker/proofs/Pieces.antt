-- A piece that was read is fed to the session, and its steps are executed.
use Rattle.std.proofs.Common.{◌≡◌, ◌≢◌, ℕ, ◌+◌, ◌-◌, ◌≤◌, Bool, true, false, List, [], ◌++◌, take, drop, length, refl, sym, ap, subst, ◌∙◌, arith, append_assoc, append-nil}
use Rattle.std.specs.Prelude.{Option, Some, None, Result, Ok, Err}
use Rattle.std.proofs.lemmas.List.{take_all, take-append-drop, length-drop}
use Rattle.std.proofs.Math.Seq.{take-add}
use Rattle.amcp_text.specs.Lines.{lines_of}
use Rattle.amcp_text.specs.Reader.{taken_len}
use Rattle.play_types.specs.History.{stop_at}
use Rattle.play_types.specs.Config.{ConfigView}
use Rattle.play_types.specs.Media.{MediaNameView}
use Rattle.play_types.specs.declared.command.Cmd.{Cmd}
use Rattle.history_model.specs.commands.Channels.{AreAimed}
use Rattle.history_model.specs.sessions.Session as model
use Rattle.play_session.specs.SessionState.{SessionState}
use Rattle.play_session.specs.Session.{Gives, HasToken, IsAsBefore, Progress, Represents, after_bytes}
use Rattle.play_session.specs.Step.{ends, gives_up, viewed}
use Rattle.play_session.specs.declared.step.Step.{Step}
use Rattle.play_session.specs.declared.step.Step.TheVariants as step
use Rattle.conn_worker.specs.Followed.{Service, Followed}
use Rattle.conn_worker.specs.Rounds.{Got, bytes_in, followed_in}
use Rattle.conn_worker.specs.Explained.{Standing, IsExplained}
use Rattle.conn_worker.specs.inner.UnderWay.{FollowsStep, HasProgress, IsBetweenLooks, IsUnderWay, Now, Past, TakesPiece, TakesRound, progress_of, with_piece}
use Rattle.conn_worker.specs.declared.link_end.LinkEnd.{LinkEnd}
use Rattle.conn_worker.proofs.Lists.{bytes_in-more}
use Rattle.conn_worker.proofs.Going.{catches_up, feeds}
use Rattle.conn_worker.proofs.Stepping.{progress_next, step_ends, step_goes}

-- the bytes that a piece adds
pub piece_bytes : (past : Past) (piece : List ℕ) (followed : List Followed) → bytes_in (with_piece past piece followed).rounds ≡ bytes_in past.rounds ++ piece
piece_bytes past piece followed = bytes_in-more past.rounds (record { look = Got piece; followed = followed })

-- the rest of a slice that is taken from `at` on is what is left of the whole
pub rest_of : (piece : List ℕ) (at : ℕ) → at ≤ length piece → take (length piece - at) (drop at piece) ≡ drop at piece
rest_of piece at within = take_all (length piece - at) (drop at piece) (omega (arith, length-drop at piece))

-- more of the piece was fed
pub piece_fed : (service : Service) (past : Past) (piece : List ℕ) (followed : List Followed) (at taken : ℕ) (rest : List ℕ) (standing : Standing) (before after : SessionState)
    → past.service ≡ service → rest ≡ drop at piece
    → ((config : ConfigView) (names : List MediaNameView) (progress : Progress) → Represents config names before progress → Represents config names after (after_bytes progress (take taken rest)))
    → IsAsBefore before after
    → IsUnderWay (with_piece past piece followed) (bytes_in past.rounds ++ take at piece) (record { standing = standing; session = before })
    → IsUnderWay (with_piece past piece followed) (bytes_in past.rounds ++ take (at + taken) piece) (record { standing = standing; session = after })
piece_fed service past piece followed at taken rest standing before after same is grows kept way =
    let fed = bytes_in past.rounds ++ take at piece in
    let longer : fed ++ take taken rest ≡ bytes_in past.rounds ++ take (at + taken) piece =
    ap (λ (r : List ℕ). fed ++ take taken r) is
    ∙ append_assoc (bytes_in past.rounds) (take at piece) (take taken (drop at piece))
    ∙ ap (λ (b : List ℕ). bytes_in past.rounds ++ b) (sym (take-add at taken piece)) in
    subst (λ (b : List ℕ). IsUnderWay (with_piece past piece followed) b (record { standing = standing; session = after })) longer
    (feeds (with_piece past piece followed) fed (take taken rest) standing before after way (grows past.service.config past.service.names) kept.1 kept.2)

-- a step was given after that, and the connection goes on
pub piece_goes : (service mine : Service) (past : Past) (piece : List ℕ) (followed : List Followed) (fed : List ℕ) (before after : Standing) (old new : SessionState)
    (result : Step) (batch : List Cmd) (done : Unit {0})
    → past.service ≡ service → mine ≡ service → batch ≡ new.batch
    → IsUnderWay (with_piece past piece followed) fed (record { standing = before; session = old })
    → ((progress : Progress) → Represents service.config service.names old progress → Gives service.config service.names result new progress)
    → new.ended ≡ ends result → (AreAimed service.config old.batch → AreAimed service.config new.batch) → (result ≡ step.NeedMore → new ≡ old)
    → (result ≢ step.NeedMore → (progress : Progress) → Represents service.config service.names old progress → HasToken result new progress)
    → (token : Option (List ℕ)) → token ≡ new.token
    → ((told : Option (List ℕ)) → (gives_up result ≡ false → token ≡ told) → FollowsStep mine told (viewed result batch) (Ok done) before after)
    → (more : List Followed) × IsUnderWay (with_piece past piece more) fed (record { standing = after; session = new })
piece_goes service mine past piece followed fed before after old new result batch done same own asked way gives ended aimed kept has token is_token follows =
    let progress = progress_of fed (followed_in (with_piece past piece followed).rounds) in
    step_goes past piece followed fed before after old new way result done
    (subst (λ (s : Service). Gives s.config s.names result new progress) (sym same)
    (gives progress (subst (λ (s : Service). Represents s.config s.names old progress) same way.given.represents)))
    ended
    (subst (λ (s : Service). AreAimed s.config new.batch) (sym same) (aimed (subst (λ (s : Service). AreAimed s.config old.batch) same way.aimed)))
    kept
    (λ some. has some progress (subst (λ (s : Service). Represents s.config s.names old progress) same way.given.represents))
    (λ told is.
    subst (λ (s : Service). FollowsStep s told (viewed result new.batch) (Ok done) before after) (own ∙ sym same)
    (subst (λ (b : List Cmd). FollowsStep mine told (viewed result b) (Ok done) before after) asked (follows told (λ given. is_token ∙ is given))))

-- the call ends at the step
pub piece_ends : (service mine : Service) (past : Past) (piece : List ℕ) (followed : List Followed) (at : ℕ) (before after : Standing) (old new : SessionState)
    (result : Step) (batch : List Cmd) (end : LinkEnd)
    → past.service ≡ service → mine ≡ service → batch ≡ new.batch
    → IsUnderWay (with_piece past piece followed) (bytes_in past.rounds ++ take at piece) (record { standing = before; session = old })
    → ((progress : Progress) → Represents service.config service.names old progress → Gives service.config service.names result new progress)
    → (result ≢ step.NeedMore → (progress : Progress) → Represents service.config service.names old progress → HasToken result new progress)
    → (token : Option (List ℕ)) → token ≡ new.token
    → ((told : Option (List ℕ)) → (gives_up result ≡ false → token ≡ told) → FollowsStep mine told (viewed result batch) (Err end) before after)
    → IsExplained past.service end past.before after
piece_ends service mine past piece followed at before after old new result batch end same own asked way gives has token is_token follows =
    let fed = bytes_in past.rounds ++ take at piece in
    let progress = progress_of fed (followed_in (with_piece past piece followed).rounds) in
    let bytes : fed ++ drop at piece ≡ bytes_in (with_piece past piece followed).rounds =
    append_assoc (bytes_in past.rounds) (take at piece) (drop at piece)
    ∙ ap (λ (b : List ℕ). bytes_in past.rounds ++ b) (take-append-drop at piece) ∙ sym (piece_bytes past piece followed) in
    step_ends past piece followed fed before after old new way result end (drop at piece) bytes
    (subst (λ (s : Service). Gives s.config s.names result new progress) (sym same)
    (gives progress (subst (λ (s : Service). Represents s.config s.names old progress) same way.given.represents)))
    (λ some. has some progress (subst (λ (s : Service). Represents s.config s.names old progress) same way.given.represents))
    (λ told is.
    subst (λ (s : Service). FollowsStep s told (viewed result new.batch) (Err end) before after) (own ∙ sym same)
    (subst (λ (b : List Cmd). FollowsStep mine told (viewed result b) (Err end) before after) asked (follows told (λ given. is_token ∙ is given))))

-- all of the piece was fed, and the session gives no step more
pub piece_done : (service : Service) (past : Past) (piece : List ℕ) (followed : List Followed) (at : ℕ) (standing : Standing) (old new : SessionState) (result : Step)
    → past.service ≡ service → at ≡ length piece → result ≡ step.NeedMore → new ≡ old
    → IsUnderWay (with_piece past piece followed) (bytes_in past.rounds ++ take at piece) (record { standing = standing; session = old })
    → ((progress : Progress) → Represents service.config service.names old progress → Gives service.config service.names result new progress)
    → IsBetweenLooks (with_piece past piece followed) (record { standing = standing; session = new })
piece_done service past piece followed at standing old new result same all more kept way gives =
    let fed = bytes_in past.rounds ++ take at piece in
    let bytes : fed ≡ bytes_in (with_piece past piece followed).rounds =
    ap (λ (b : List ℕ). bytes_in past.rounds ++ b) (take_all at piece (omega arith)) ∙ sym (piece_bytes past piece followed) in
    let progress = progress_of fed (followed_in (with_piece past piece followed).rounds) in
    let given = gives progress (subst (λ (s : Service). Represents s.config s.names old progress) same way.given.represents) in
    let none = subst (λ (r : Step). Gives service.config service.names r new progress) more given in
    let lines : length (lines_of fed) ≡ length (followed_in (with_piece past piece followed).rounds) = none.0 in
    let here : IsUnderWay (with_piece past piece followed) (bytes_in (with_piece past piece followed).rounds) (record { standing = standing; session = new }) =
    subst (λ (s : SessionState). IsUnderWay (with_piece past piece followed) (bytes_in (with_piece past piece followed).rounds) (record { standing = standing; session = s })) (sym kept)
    (subst (λ (b : List ℕ). IsUnderWay (with_piece past piece followed) b (record { standing = standing; session = old })) bytes way) in
    catches_up (with_piece past piece followed) (record { standing = standing; session = new }) here
    (subst (λ (b : List ℕ). length (lines_of b) ≡ length (followed_in (with_piece past piece followed).rounds)) bytes lines)

-- nothing of the piece was fed yet
pub piece_begins : (past : Past) (piece : List ℕ) (now : Now) → IsUnderWay (with_piece past piece []) (bytes_in past.rounds) now
    → IsUnderWay (with_piece past piece []) (bytes_in past.rounds ++ take 0 piece) now
piece_begins past piece now way = subst (λ (b : List ℕ). IsUnderWay (with_piece past piece []) b now) (sym (append-nil (bytes_in past.rounds))) way

-- a piece that was taken is a round
pub piece_round : (past : Past) (piece : List ℕ) (result : Result (Unit {0}) LinkEnd) (now : Now) → TakesPiece past piece result now → TakesRound past result now
piece_round past piece (Ok done) now (followed, between) = (record { look = Got piece; followed = followed }, between)
piece_round past piece (Err end) now explained = explained

-- the session keeps a progress while it is fed, and while it gives steps
pub fed_progress : (config : ConfigView) (names : List MediaNameView) (before after : SessionState) (taken : List ℕ)
    → ((progress : Progress) → Represents config names before progress → Represents config names after (after_bytes progress taken))
    → HasProgress config names before → HasProgress config names after
fed_progress config names before after taken grows has = record { progress = after_bytes has.progress taken; represents = grows has.progress has.represents }

pub given_progress : (config : ConfigView) (names : List MediaNameView) (before after : SessionState) (result : Step)
    → ((progress : Progress) → Represents config names before progress → Gives config names result after progress)
    → HasProgress config names before → HasProgress config names after
given_progress config names before after result gives has = progress_next config names result after has.progress (gives has.progress has.represents)

-- no more is taken than is left
taken_within : (held : Bool) (rest : List ℕ) → taken_len held rest ≤ length rest
taken_within true rest = omega arith
taken_within false rest = omega arith

pub piece_within : (piece : List ℕ) (at taken : ℕ) (held : Bool) → at ≤ length piece → taken ≡ taken_len held (take (length piece - at) (drop at piece))
    → at + taken ≤ length piece
piece_within piece at taken held within is =
    let most = taken_within held (take (length piece - at) (drop at piece)) in
    let left : length (take (length piece - at) (drop at piece)) ≡ length piece - at = ap length (rest_of piece at within) ∙ length-drop at piece in
    omega (arith, within, is, most, left)

-- what holds if the connection goes on
pub goes_number : (service : Service) (told : Option (List ℕ)) (step : Option model.Step) (done : Unit {0}) (before after : Standing) → FollowsStep service told step (Ok done) before after → after.pass.number ≡ before.pass.number
goes_number service told None done before after same = ap (λ (s : Standing). s.pass.number) same
goes_number service told (Some step) done before after goes = goes.goes.follows.makes.number

pub goes_running : (service : Service) (told : Option (List ℕ)) (step : Option model.Step) (done : Unit {0}) (before after : Standing) → FollowsStep service told step (Ok done) before after
    → stop_at before.pass.seen ≡ None → stop_at after.pass.seen ≡ None
goes_running service told None done before after same running = ap (λ (s : Standing). stop_at s.pass.seen) same ∙ running
goes_running service told (Some step) done before after goes running = goes.goes.running

pub goes_going : (service : Service) (told : Option (List ℕ)) (result : Step) (batch : List Cmd) (done : Unit {0}) (before after : Standing) → FollowsStep service told (viewed result batch) (Ok done) before after
    → ends result ≡ false
goes_going service told (step.Local answer) batch done before after goes = refl
goes_going service told (step.Ask command) batch done before after goes = refl
goes_going service told step.AskBatch batch done before after goes = refl
goes_going service told step.Kill batch done before after goes = absurd (cc goes.going)
goes_going service told step.Bye batch done before after goes = absurd (cc goes.going)
goes_going service told step.Skip batch done before after goes = refl
goes_going service told step.NeedMore batch done before after goes = refl
