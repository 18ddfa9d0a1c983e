use Rattle.std.proofs.lemmas.Str.{chars-nil}
use Rattle.history_model.specs.sessions.Line.{line_meaning}
use Rattle.history_model.specs.sessions.Request as request
use Rattle.play_session.proofs.meaning.read_line.Goals as goal

pub returns-in-TooLong-clause-meaning : goal.returns-in-TooLong-clause-meaning
unfolding line_meaning
returns-in-TooLong-clause-meaning c = rw c.in-TooLong.is (simp chars-nil at c.unknown.ensures.meaning)

pub returns-in-TooLong-clause-token : goal.returns-in-TooLong-clause-token
unfolding request.line_token
returns-in-TooLong-clause-token c = rw c.in-TooLong.is c.unknown.ensures.token

pub returns-in-NotUtf8-clause-meaning : goal.returns-in-NotUtf8-clause-meaning
unfolding line_meaning
returns-in-NotUtf8-clause-meaning c = rw c.in-NotUtf8.is (simp chars-nil at c.unknown-in-NotUtf8.ensures.meaning)

pub returns-in-NotUtf8-clause-token : goal.returns-in-NotUtf8-clause-token
unfolding request.line_token
returns-in-NotUtf8-clause-token c = rw c.in-NotUtf8.is c.unknown-in-NotUtf8.ensures.token
