use Rattle.std.proofs.Common.{[], ◌≡◌, ap, sym, ◌∙◌, subst}
use Rattle.amcp_text.specs.ReaderState.{ReaderState}
use Rattle.amcp_text.specs.Reader.{line_view}
use Rattle.amcp_text.specs.Reader as reader
use Rattle.play_session.specs.SessionState.{SessionState}
use Rattle.play_session.specs.Session.{Represents}
use Rattle.history_model.specs.commands.Channels.{AreAimed}
use Rattle.play_session.specs.inner.Following.{batch_of}
use Rattle.play_session.proofs.Filled.{followed_filled}
use Rattle.play_session.proofs.Fitting.{followed_aimed, followed_fits}
use Rattle.play_session.proofs.Standing.{all_given}
use Rattle.play_session.proofs.NextLine.{TookLine, Gives-followed}
use Rattle.play_session.proofs.NextToken.{HasToken-next, token_kept}
use Rattle.play_session.proofs.session.Session.next.Goals as goal

pub returns-in-None-clause-gives : goal.returns-in-None-clause-gives
returns-in-None-clause-gives c = λ progress s.
    let inner = subst (λ (session : SessionState). Represents c.args.config.now c.args.media.now session progress) (sym c.self.view_is) s in
    (all_given c.args.config.now c.args.media.now _ progress inner c.in-None.ensures.line, s)

pub returns-clause-gives : goal.returns-clause-gives
returns-clause-gives c = λ progress s.
    let inner = subst (λ (session : SessionState). Represents c.args.config.now c.args.media.now session progress) (sym c.self.view_is) s in
    let inside = c.self.inside in
    let before : SessionState = record { reader = inside.reader; batch_open = inside.batch.is_open; batch = inside.batch.commands; ended = inside.ended; token = inside.token } in
    let going : before.ended ≡ _ = ap (λ (session : SessionState). session.ended) c.self.view_is ∙ c.requires in
    let dropped = subst (λ (r : ReaderState). reader.Represents r []) (sym c.follow.ensures.reader) c.next_line.ensures in
    let took : TookLine before c.follow.new.self (line_view c.in-Some.line) = record { going = going; held = sym c.in-Some.ensures.held; tells = c.in-Some.ensures.line; dropped = dropped } in
    Gives-followed c.args.config.now c.args.media.now c.read_line-read.result c.follow.result before c.follow.new.self (line_view c.in-Some.line) took
    c.read_line-read.ensures.meaning c.follow.ensures.follows c.follow.ensures.ended progress inner

pub returns-clause-fits : goal.returns-clause-fits
returns-clause-fits c =
    let inside = c.self.inside in
    let before : SessionState = record { reader = inside.reader; batch_open = inside.batch.is_open; batch = inside.batch.commands; ended = inside.ended; token = inside.token } in
    followed_fits c.args.config.now c.args.media.now (line_view c.in-Some.line) c.read_line-read.result c.follow.result before c.follow.new.self
    c.read_line-read.ensures.meaning c.follow.ensures.follows

pub returns-clause-aimed : goal.returns-clause-aimed
returns-clause-aimed c = λ aimed.
    let inside = c.self.inside in
    let before : SessionState = record { reader = inside.reader; batch_open = inside.batch.is_open; batch = inside.batch.commands; ended = inside.ended; token = inside.token } in
    let inner = subst (λ (session : SessionState). AreAimed c.args.config.now session.batch) (sym c.self.view_is) aimed in
    followed_aimed c.args.config.now c.args.media.now (line_view c.in-Some.line) c.read_line-read.result c.follow.result before c.follow.new.self
    c.read_line-read.ensures.meaning c.follow.ensures.follows inner

pub returns-clause-filled : goal.returns-clause-filled
returns-clause-filled c =
    let inside = c.self.inside in
    let before : SessionState = record { reader = inside.reader; batch_open = inside.batch.is_open; batch = inside.batch.commands; ended = inside.ended; token = inside.token } in
    followed_filled c.read_line-read.result c.follow.result (batch_of before) (batch_of c.follow.new.self) c.follow.ensures.follows

pub returns-clause-token : goal.returns-clause-token
returns-clause-token c = λ some progress s.
    let inner = subst (λ (session : SessionState). Represents c.args.config.now c.args.media.now session progress) (sym c.self.view_is) s in
    let inside = c.self.inside in
    let before : SessionState = record { reader = inside.reader; batch_open = inside.batch.is_open; batch = inside.batch.commands; ended = inside.ended; token = inside.token } in
    let going : before.ended ≡ _ = ap (λ (session : SessionState). session.ended) c.self.view_is ∙ c.requires in
    let dropped = subst (λ (r : ReaderState). reader.Represents r []) (sym c.follow.ensures.reader) c.next_line.ensures in
    let took : TookLine before c.follow.new.self (line_view c.in-Some.line) = record { going = going; held = sym c.in-Some.ensures.held; tells = c.in-Some.ensures.line; dropped = dropped } in
    HasToken-next c.args.config.now c.args.media.now c.follow.result before c.follow.new.self (line_view c.in-Some.line) took
    (token_kept c.read_line-read.result c.follow.result before c.follow.new.self (line_view c.in-Some.line) c.read_line-read.ensures.token c.follow.ensures.follows c.follow.ensures.token)
    progress inner
