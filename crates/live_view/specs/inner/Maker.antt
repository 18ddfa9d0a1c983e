-- What pages are made of, as the code has it.
use Rattle.std.specs.Prelude.{◌≡◌, true, Option, List}
use Rattle.json.specs.Print.{print}
use Rattle.http_pages.specs.declared.content.ContentType.TheVariants.{Json}
use Rattle.http_pages.specs.declared.page.Page.{Page}
use Rattle.http_pages.specs.declared.page.Status.TheVariants.{Shown}
use Rattle.script_player.specs.Player.{channels_in, events_in, playout_in}
use Rattle.view_status.specs.Status.{status_tokens}
use Rattle.view_status.specs.declared.levels.Levels.{Levels}
use Rattle.live_view.specs.Page.{PageSource, page_of}
use Rattle.live_view.specs.View.{AreLastFrames}
use Rattle.live_view.specs.declared.maker.PageMaker.{PageMaker}

-- what the pages are made of
abbrev pub source_in : PageMaker → PageSource
source_in maker = record {
  playout = playout_in maker.player.now;
  events = events_in maker.player.now;
  pictures = maker.pictures;
  fresh = maker.fresh;
}

-- the frames are those of the last tick
abbrev pub HasFrames : PageMaker → Type 0
HasFrames maker = AreLastFrames maker.player.now.setup (events_in maker.player.now) maker.renderer.now

-- the stage has the configured channels, and frames that are fresh are those of the last tick
pub record CanShow (maker : PageMaker) : Type 0 where
  pub channels : maker.player.now.stage.channels ≡ channels_in maker.player.now
  pub frames : maker.fresh ≡ true → HasFrames maker

-- the status with these levels as a document
abbrev pub status_with : PageSource → Option (List Levels) → Option Page
status_with source levels = page_of Shown Json (print (status_tokens source.playout.config source.playout.names levels source.events))
