-- A viewing that is under way.
use Rattle.std.specs.Prelude.{◌≡◌, true, Option, Some, None, List, Result, Ok, Err}
use Rattle.server_setup.specs.declared.fault.RunFault.{RunFault}
use Rattle.live_view.specs.View.{IsViewOf, ViewState, state_of}
use Rattle.live_view.specs.declared.view.LiveView.{LiveView}
use Rattle.play_viewer.specs.Moves.{DeskState, Move, after_moves}
use Rattle.play_viewer.specs.Viewing.{AreOfViewing, MayGoOn, Viewed, Views, bytes_in, is_settled, sent_in}

-- the view has what was taken by these moves
pub record IsViewAfter (viewed : Viewed) (moves : List Move) (view : ViewState) : Type 0 where
  pub of_bytes : IsViewOf viewed.playout (bytes_in moves) view
  pub pictures : view.pictures ≡ viewed.pictures
  pub sent : view.sent ≡ sent_in viewed.playout moves
  pub fresh : is_settled moves ≡ true → viewed.pictures ≡ true → view.fresh ≡ true

-- these moves led from a desk to the desk as it is now, and to the view
pub record HasMoved (viewed : Viewed) (moves : List Move) (before now : DeskState) (view : ViewState) : Type 0 where
  pub are : AreOfViewing viewed moves
  pub even : MayGoOn viewed moves
  pub now_is : now ≡ after_moves moves before
  pub view_is : IsViewAfter viewed moves view

-- some moves did
abbrev pub IsUnderWay : Viewed → DeskState → DeskState → ViewState → Type 0
IsUnderWay viewed before now view = (moves : List Move) × HasMoved viewed moves before now view

-- the viewing is under way, or it has ended
abbrev pub GoesOn : {R : Type 0} → Viewed → DeskState → DeskState → Result (Option (LiveView R)) RunFault → Type 0
GoesOn viewed before now (Ok (Some view)) = IsUnderWay viewed before now (state_of view)
GoesOn viewed before now (Ok None) = Views viewed (Ok tt) before now
GoesOn viewed before now (Err fault) = Views viewed (Err fault) before now
