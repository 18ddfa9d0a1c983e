-- The player before the first line.
use Rattle.std.proofs.Common.{◌≡◌, [], length, replicate, refl, sym, ap, ◌∙◌, subst}
use Rattle.std.proofs.lemmas.List.{length-replicate}
use Rattle.std.proofs.lemmas.List.Elements.{All-nil}
use Rattle.play_types.specs.History.{stop_at}
use Rattle.history_model.specs.commands.Channels.{AreAimed}
use Rattle.history_model.proofs.Outputs.{script_events-none}
use Rattle.stage_core.specs.Stage.{StageView}
use Rattle.script_player.specs.declared.clients.Client.{Client}
use Rattle.script_player.specs.declared.player.Player.{Player}
use Rattle.script_player.specs.Clients.{AreClients, HaveAimedBatches, session_batch}
use Rattle.script_player.specs.Player.{IsReady, Represents, events_in, playout_in}
use Rattle.history_model.specs.scripts.History.{Playout}
use Rattle.script_player.specs.declared.ending.Ending.{Ending}
use Rattle.script_player.specs.Run.{RunsScript, Streams}
use Rattle.script_player.specs.Shown.{Shown, memory_needed}
use Rattle.script_player.proofs.Connections.{no_clients}

-- a stage without events, scenes without layers and no connections are ready
pub nothing_begun : (player : Player)
    → player.stage ≡ record { journal = record { limit = player.setup.config.journal_limit; events = [] }; channels = length player.setup.config.channels }
    → player.scenes ≡ replicate (length player.setup.config.channels) [] → player.clients.list.items ≡ [] → IsReady player
nothing_begun player stage scenes none_said =
    let channels = player.setup.config.channels in
    let none : events_in player ≡ [] = ap (λ (s : StageView). s.journal.events) stage in
    record {
      limit = ap (λ (s : StageView). s.journal.limit) stage;
      channels = ap (λ (s : StageView). s.channels) stage;
      scenes = ap length scenes ∙ length-replicate (length channels) [];
      batches = subst (HaveAimedBatches player.setup.config) (sym none_said) (All-nil (λ (client : Client). AreAimed player.setup.config (session_batch client.session)));
      running = ap stop_at none;
    }

-- without lines and connections the player represents the script so far
pub nothing_played : (player : Player) (shown : Shown) → memory_needed shown ≡ player.needs_memory → events_in player ≡ [] → player.clients.list.items ≡ []
    → Represents shown (playout_in player) player []
nothing_played player shown memory none clients = record {
  memory = sym memory;
  on = refl;
  history = none ∙ sym (script_events-none (playout_in player));
  clients = subst (λ l. AreClients (playout_in player) l []) (sym clients) (no_clients (playout_in player));
}

-- a playout that a player without lines represents is its own
pub as_itself : (shown : Shown) (playout : Playout) (player : Player) → Represents shown playout player [] → Represents shown (playout_in player) player []
as_itself shown playout player represents = subst (λ p. Represents shown p player []) (sym represents.on) represents

pub runs_as : (shown : Shown) (playout : Playout) (player : Player) → Represents shown playout player [] → (ending : Ending) (before after : Streams)
    → RunsScript shown (playout_in player) ending before after → RunsScript shown playout ending before after
runs_as shown playout player represents ending before after runs = subst (λ p. RunsScript shown p ending before after) represents.on runs
