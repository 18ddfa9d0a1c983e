use Rattle.std.proofs.Common.{◌≤◌, length, sym, ap, subst}
use Rattle.play_types.specs.History.{held}
use Rattle.play_journal.specs.Journal.{JournalView}
use Rattle.play_recorder.specs.Recording.{AreServedEvents}
use Rattle.live_view.specs.View.{state_of}
use Rattle.live_view.proofs.Views.{frames_of_setup, refreshed, room_of_view, served_view}
use Rattle.live_view.proofs.view.LiveView.catch_up.Goals as goal

pub last_frames-requires-clause-served : goal.last_frames-requires-clause-served
last_frames-requires-clause-served g c κs within =
    subst (λ (j : JournalView). AreServedEvents (length c.args.self.now.script.player.setup.config.channels) j.events) (sym c.journal.ensures)
    (served_view c.requires.0 c.requires.1 (state_of c.args.self.now) c.requires.2)

pub last_frames-requires-clause-room : goal.last_frames-requires-clause-room
last_frames-requires-clause-room g c κs within =
    subst (λ (j : JournalView). held j.events ≤ c.args.self.now.script.player.setup.config.journal_limit) (sym c.journal.ensures)
    (room_of_view c.requires.0 c.requires.1 (state_of c.args.self.now) c.requires.2)

pub returns-clause-of_bytes : goal.returns-clause-of_bytes
returns-clause-of_bytes g c = λ playout bytes is.
    refreshed playout bytes (state_of c.args.self.now) c.in_ok-renderer.renderer is
    (frames_of_setup c.args.self.now.script.player.setup _ _ c.in_ok-renderer.renderer (ap (λ (j : JournalView). j.events) c.journal.ensures)
    c.in_ok-renderer.ensures.sizes c.in_ok-renderer.ensures.last)

pub returns-clause-view : goal.returns-clause-view
returns-clause-view g c = (
  c.requires.0,
  c.requires.1,
  refreshed c.requires.0 c.requires.1 (state_of c.args.self.now) c.in_ok-renderer.renderer c.requires.2
      (frames_of_setup c.args.self.now.script.player.setup _ _ c.in_ok-renderer.renderer (ap (λ (j : JournalView). j.events) c.journal.ensures)
      c.in_ok-renderer.ensures.sizes c.in_ok-renderer.ensures.last),
)
