use Rattle.std.proofs.Common.{◌≡◌}
use Rattle.live_view.specs.View.{IsView, state_of}
use Rattle.play_viewer.specs.Moves.{DeskState}
use Rattle.play_viewer.specs.Viewing.{Viewed}
use Rattle.play_viewer.specs.inner.UnderWay.{IsUnderWay}
use Rattle.play_viewer.proofs.viewing.view_log.Given as goal

-- a viewing that was under way at the call still is
abbrev pub invariant-loop : goal.invariant-loop
invariant-loop g l = record {
  view : IsView (state_of l.view);
  folder : g.D.Desk.folder l.desk ≡ g.D.Desk.folder l.fn.desk;
  way : (viewed : Viewed) (before : DeskState) → IsUnderWay viewed before (g.D.Desk.state l.fn.desk) (state_of l.fn.view)
      → IsUnderWay viewed before (g.D.Desk.state l.desk) (state_of l.view);
}
