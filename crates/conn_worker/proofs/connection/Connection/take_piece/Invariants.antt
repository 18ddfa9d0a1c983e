use Rattle.std.proofs.Common.{◌≡◌, ◌≤◌, false, [], ◌++◌, List, take, length, None}
use Rattle.play_types.specs.History.{stop_at}
use Rattle.history_model.specs.commands.Channels.{AreAimed}
use Rattle.conn_worker.specs.Followed.{Followed}
use Rattle.conn_worker.specs.Rounds.{bytes_in}
use Rattle.conn_worker.specs.inner.Steps.{service_in}
use Rattle.conn_worker.specs.inner.UnderWay.{HasProgress, IsUnderWay, Past, with_piece}
use Rattle.conn_worker.proofs.connection.Connection.take_piece.Given as goal

-- the bytes of the piece before `at` were fed, and the steps that were given have been executed
abbrev pub invariant-loop : goal.invariant-loop
invariant-loop g l = record {
  within : l.at ≤ length l.piece;
  of : l.pass.stage ≡ l.self.server.stage.now;
  number : l.pass.number ≡ l.fn.pass.number;
  known : HasProgress l.self.server.config.now l.self.server.media.now l.session;
  going : l.session.ended ≡ false;
  aimed : AreAimed l.self.server.config.now l.session.batch;
  running : stop_at l.pass.seen ≡ None;
  takes : (past : Past) → past.service ≡ service_in l.self l.fn.pass.number
      → IsUnderWay (with_piece past l.piece []) (bytes_in past.rounds)
      (record { standing = record { pass = l.fn.pass; link = g.L.Sink.state l.fn.link }; session = l.fn.session })
      → (followed : List Followed) × IsUnderWay (with_piece past l.piece followed) (bytes_in past.rounds ++ take l.at l.piece)
      (record { standing = record { pass = l.pass; link = g.L.Sink.state l.link }; session = l.session });
}
