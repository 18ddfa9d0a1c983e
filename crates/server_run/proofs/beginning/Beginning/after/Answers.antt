use Rattle.std.proofs.Common.{◌≤◌, ℕ, length, sym, subst}
use Rattle.play_types.specs.History.{held}
use Rattle.play_journal.specs.Journal.{IsJournal, JournalView}
use Rattle.play_recorder.specs.Recording.{AreServedEvents}
use Rattle.play_ticker.specs.Frames.{AreLast}
use Rattle.server_run.proofs.beginning.Beginning.after.Goals as goal

pub last_frames-requires-clause-served : goal.last_frames-requires-clause-served
last_frames-requires-clause-served g c κs within =
    subst (λ (j : JournalView). AreServedEvents (length c.args.config.now.channels) j.events) (sym c.journal-2.ensures) c.requires.served

pub last_frames-requires-clause-room : goal.last_frames-requires-clause-room
last_frames-requires-clause-room g c κs within =
    let journal : IsJournal c.args.stage.journal = subst IsJournal c.journal.ensures c.held-held.ensures.range in
    subst (λ (j : JournalView). held j.events ≤ c.args.config.now.journal_limit) (sym c.journal-2.ensures)
    (subst (λ (n : ℕ). held c.args.stage.journal.events ≤ n) c.requires.stage.limit journal.commands)

pub returns-clause-begins : goal.returns-clause-begins
returns-clause-begins g c = record {
  stage = c.requires.stage;
  frames = c.in_ok-renderer.ensures.sizes;
  last = subst (λ (j : JournalView). AreLast j.events c.args.media.now c.in_ok-renderer.renderer) c.journal-2.ensures c.in_ok-renderer.ensures.last;
}
