-- What is returned for a text that was played.
use Rattle.std.proofs.Common.{◌≡◌, ℕ, Bool, true, false, List, [], length, take, refl, sym, ap, ◌∙◌, subst}
use Rattle.std.specs.Prelude.{Some, None, Result, Ok, Err, All}
use Rattle.std.proofs.lemmas.Bool.{false≢true}
use Rattle.play_types.specs.History.{stop_at}
use Rattle.history_model.specs.scripts.History.{Playout}
use Rattle.history_model.specs.scripts.Input.{unended}
use Rattle.history_replay.specs.Replay.{IsWritten}
use Rattle.server_setup.specs.declared.setup.ServerSetup.{ServerSetup}
use Rattle.stage_core.specs.Stage.{StageView}
use Rattle.script_player.specs.declared.player.Player.{Player}
use Rattle.script_player.specs.Player.{Represents, playout_in}
use Rattle.script_player.specs.Playouts.{playout_of}
use Rattle.script_player.specs.Shown.{Replies}
use Rattle.script_player.proofs.Beginning.{as_itself}
use Rattle.history_reader.specs.HistoryText.{faulty_line, has_stop, text_events}
use Rattle.history_reader.specs.Reading.{IsReadFrom}
use Rattle.history_reader.specs.declared.fault.ReadHistoryFault.{ReadHistoryFault}
use Rattle.history_reader.specs.declared.fault.ReadHistoryFault.TheVariants as fault
use Rattle.history_reader.specs.declared.reading.ReadHistory.{ReadHistory}
use Rattle.history_reader.specs.declared.text.TextEnd.{TextEnd}
use Rattle.history_reader.specs.declared.text.TextEnd.TheVariants as end
use Rattle.history_reader.specs.inner.PlayedLines.{HasPlayed}
use Rattle.history_reader.specs.inner.PlayedText.{HasText, IsHistoryOf, IsKilled, PlaysAnew, PlaysText}
use Rattle.history_reader.proofs.Asked.{text_written_as}
use Rattle.history_reader.proofs.PlayedUpTo.{none_played}

-- a new player has played no line
pub new_player : (playout : Playout) (player : Player) → Represents Replies playout player [] → HasPlayed (playout_in player) player []
new_player playout player represents = none_played (playout_in player) player (as_itself Replies playout player represents)

-- how the playing of a text ended
pub ends_as : (playout : Playout) (text : List ℕ) (found then : TextEnd) → found ≡ then → (player : Player) → PlaysText playout text (Ok found) player
    → PlaysText playout text (Ok then) player
ends_as playout text found then is player plays = subst (λ e. PlaysText playout text (Ok e) player) is plays

-- a text that was played on an equal playout
pub plays_on : (here playout : Playout) → here ≡ playout → (text : List ℕ) (result : Result TextEnd ReadHistoryFault) (player : Player)
    → PlaysText here text result player → PlaysText playout text result player
plays_on here playout same text result player plays = subst (λ p. PlaysText p text result player) same plays

-- a text that a player did not play is not played by a new one
pub not_played : (setup : ServerSetup) (playout : Playout) → playout ≡ playout_of setup false → (text : List ℕ) (reason : ReadHistoryFault) (player : Player)
    → PlaysText playout text (Err reason) player → PlaysAnew setup text (Err reason)
not_played setup playout same text (fault.Line number) player plays = subst (λ p. faulty_line p text ≡ Some number) same plays
not_played setup playout same text fault.OutOfMemory player plays = tt
not_played setup playout same text fault.Device player plays = plays
not_played setup playout same text fault.TooLong player plays = plays

module _ (setup : ServerSetup) (playout : Playout) (same : playout ≡ playout_of setup false) (text : List ℕ) where
  -- the history of a player that has the events of the text
  module _ (front : List ℕ) (left_out left : ℕ) (stopped stop : Bool) (player : Player) (history : ReadHistory) (has : HasText playout front left stop player)
      (of : IsHistoryOf player left_out stopped history) (back : player.setup ≡ setup) where
    on : playout_in player ≡ playout_of setup false
    on = has.on ∙ same

    pub read_as : faulty_line playout text ≡ None → text_events playout text ≡ text_events playout front → left_out ≡ length (unended text)
        → stopped ≡ has_stop playout text → IsReadFrom setup text history
    read_as right events count ends =
        let stage : history.stage ≡ player.stage = of.stage in
        let made : history.stage.journal.events ≡ text_events (playout_of setup false) text =
        ap (λ (s : StageView). s.journal.events) stage ∙ has.events ∙ sym events ∙ ap (λ p. text_events p text) same in
        record {
          right = subst (λ p. faulty_line p text ≡ None) same right;
          events = made;
          running = ap (λ (s : StageView). stop_at s.journal.events) stage ∙ has.ready.running;
          limit = ap (λ (s : StageView). s.journal.limit) stage ∙ has.ready.limit ∙ ap (λ (p : Playout). p.config.journal_limit) on;
          channels = ap (λ (s : StageView). s.channels) stage ∙ has.ready.channels ∙ ap (λ (p : Playout). length p.config.channels) on;
          written = λ digests. subst (All (IsWritten (playout_of setup digests))) (sym made) (text_written_as setup digests text);
          on = λ digests. ap (λ s. playout_of s digests) of.setup ∙ ap (λ (p : Playout). record p { digests = digests }) on;
          given_back = of.setup ∙ back;
          stop = of.stop ∙ ends ∙ ap (λ p. has_stop p text) same;
          left_out = of.left ∙ count;
        }

  -- all lines were played
  pub read_whole : (left_out : ℕ) (stopped : Bool) (player : Player) (history : ReadHistory) → HasText playout text left_out stopped player
      → IsHistoryOf player left_out stopped history → player.setup ≡ setup → IsReadFrom setup text history
  read_whole left_out stopped player history has of back =
      read_as text left_out left_out stopped stopped player history has of back has.right refl has.left has.stop

  -- the lines before a kill were played again
  module _ (front left_out : ℕ) (killed_player : Player) (killed : IsKilled playout text front left_out killed_player) where
    pub read_before_kill : (player : Player) (history : ReadHistory) (then : TextEnd) → PlaysText playout (take front text) (Ok then) player
        → IsHistoryOf player left_out true history → player.setup ≡ setup → IsReadFrom setup text history
    read_before_kill player history (end.Whole left stop) plays of back =
        read_as (take front text) left_out left true stop player history plays of back killed.right killed.events killed.left (sym killed.stop)
    read_before_kill player history (end.Killed again left) plays of back = absurd (false≢true (sym plays.over ∙ killed.goes))
