-- What the connections of a server share.
use Rattle.std.specs.Prelude.{◌≡◌, ℕ, length}
use Rattle.play_outside.specs.SinkState.{SinkState}
use Rattle.conn_worker.specs.Work.{Setting}
use Rattle.conn_worker.specs.declared.server.Server.{Server}

-- the stage was made for the configuration
pub record HasStageOfConfig (server : Server) : Type 0 where
  pub channels : server.stage.now.sizes.channels ≡ length server.config.now.channels
  pub limit : server.stage.now.sizes.limit ≡ server.config.now.journal_limit

-- what the links of a door are served with by the worker whose pass has this number
abbrev pub setting_in : {L : Type 0} → Server → ℕ → (L → SinkState) → Setting L
setting_in server number tells = record {
  config = server.config.now;
  names = server.media.now;
  worker = number;
  tells = tells;
  given = server.stage.now.sizes.given;
}
