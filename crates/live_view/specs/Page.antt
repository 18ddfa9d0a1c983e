-- The page at a path.
use Rattle.std.specs.Prelude.{◌≡◌, ℕ, ◌*◌, ◌/◌, ◌&&◌, Bool, true, false, if◌then◌else◌, Option, Some, None, List, length, map, unsigned_abs}
use Rattle.std.specs.List.{range_with_len}
use Rattle.json.specs.Print.{print}
use Rattle.play_types.specs.declared.event.Event.{Event}
use Rattle.play_types.specs.declared.geometry.Geometry.{Geometry}
use Rattle.pixel_math.specs.Pixel.{pixel_bytes}
use Rattle.history_model.specs.pictures.Frame.{last_pixel}
use Rattle.history_model.specs.pictures.Media.{size}
use Rattle.history_model.specs.pictures.Sound.{last_sample}
use Rattle.history_model.specs.scripts.History.{Playout, setup_of}
use Rattle.history_model.specs.stage.Answer.{numbers_below}
use Rattle.frame_bitmap.specs.Bitmap.{IsBitmap}
use Rattle.frame_bitmap.specs.Size.{shown}
use Rattle.frame_bitmap.specs.declared.dimensions.Size.{Size}
use Rattle.http_pages.specs.declared.content.ContentType.{ContentType}
use Rattle.http_pages.specs.declared.content.ContentType.TheVariants.{Html, Json, Plain, Bitmap}
use Rattle.http_pages.specs.declared.page.Page.{Page}
use Rattle.http_pages.specs.declared.page.Status.{Status}
use Rattle.http_pages.specs.declared.page.Status.TheVariants as status
use Rattle.view_status.specs.Events.{events_tokens}
use Rattle.view_status.specs.Levels.{greatest}
use Rattle.view_status.specs.Status.{status_tokens}
use Rattle.view_status.specs.declared.levels.Levels.{Levels}
use Rattle.live_view.specs.declared.target.Target.{Target}
use Rattle.live_view.specs.declared.target.Target.TheVariants as target
use Rattle.live_view.specs.declared.page.TheConstants.{WRONG_QUERY, NOT_YET}
use Rattle.live_view.specs.declared.page_text.TheConstants.{PAGE}
use Rattle.live_view.specs.Query.{after_in, width_in}
use Rattle.live_view.specs.Target.{target_of}

-- what pages are made of: the playout and its history, whether pictures are wanted, and whether those of the last tick were made
pub record PageSource : Type 0 where
  pub playout : Playout
  pub events : List Event
  pub pictures : Bool
  pub fresh : Bool

-- a page of this status and content, with these bytes
abbrev pub page_of : Status → ContentType → List ℕ → Option Page
page_of answer content bytes = Some (record { status = answer; content = content; bytes = bytes })

-- the number of channels
abbrev pub channel_count : PageSource → ℕ
channel_count source = length source.playout.config.channels

-- the size of a channel
abbrev pub size_of : PageSource → ℕ → Geometry
size_of source channel = size (setup_of source.playout) channel

-- the columns and rows of a channel
abbrev pub dimensions_of : PageSource → ℕ → Size
dimensions_of source channel = record { width = (size_of source channel).width; height = (size_of source channel).height }

-- the four bytes at column x and row y of a picture of `columns` columns: those of the pixel of the channel at the last tick that is
-- nearest to the left and above, in the ratio of the widths
abbrev pub picture_pixel : PageSource → ℕ → ℕ → ℕ → ℕ → List ℕ
picture_pixel source channel columns x y =
    let width = (size_of source channel).width in
    pixel_bytes (last_pixel (setup_of source.playout) source.events channel (x * width / columns) (y * width / columns))

-- the bytes are the BMP file of the picture of a channel at the last tick, of the width that is asked for
abbrev pub IsPictureOf : PageSource → ℕ → Option ℕ → List ℕ → Type 0
IsPictureOf source channel asked file =
    let size = shown (dimensions_of source channel) asked in
    IsBitmap file size (picture_pixel source channel size.width)

-- the greatest absolute value of the samples of a side of a channel's sound at the last tick: side 0 is left and 1 is right
abbrev pub level_at : PageSource → ℕ → ℕ → ℕ
level_at source channel side =
    greatest (map (λ pair. unsigned_abs (last_sample (setup_of source.playout) source.events channel pair side))
    (numbers_below (size_of source channel).pairs))

-- the levels of a channel at the last tick
abbrev pub levels_at : PageSource → ℕ → Levels
levels_at source channel = record { left = level_at source channel 0; right = level_at source channel 1 }

-- the levels of all channels, channel 1 first, if pictures are wanted and the last tick was made
abbrev pub levels_shown : PageSource → Option (List Levels)
levels_shown source =
    if source.pictures && source.fresh then Some (map (levels_at source) (range_with_len 1 (channel_count source))) else None

-- the bytes of the page that shows what is on air
abbrev pub home_bytes : List ℕ
home_bytes = PAGE.now

-- the page that shows what is on air
unfoldable pub home_page : Option Page
home_page = page_of status.Shown Html home_bytes

-- the status as a document
abbrev pub status_page : PageSource → Option Page
status_page source =
    page_of status.Shown Json (print (status_tokens source.playout.config source.playout.names (levels_shown source) source.events))

-- the page that says that the query is wrong
abbrev pub wrong_query : Option Page
wrong_query = page_of status.BadRequest Plain WRONG_QUERY.now

-- the events from a position on as a document, or that the query is wrong
abbrev pub events_page : PageSource → Option ℕ → Option Page
events_page source None = wrong_query
events_page source (Some after) =
    page_of status.Shown Json (print (events_tokens source.playout.names source.playout.config.rate after source.events))

-- the page shows the picture of a channel of the width that is asked for
abbrev pub ShowsPicture : PageSource → ℕ → Option ℕ → Option Page → Type 0
ShowsPicture source channel asked page =
    (file : List ℕ) × IsPictureOf source channel asked file × (page ≡ page_of status.Shown Bitmap file)

-- the page shows a picture if that of the last tick was made, and else says that there is none yet
abbrev pub ShowsIfFresh : Bool → PageSource → ℕ → Option ℕ → Option Page → Type 0
ShowsIfFresh false source channel asked page = page ≡ page_of status.Unavailable Plain NOT_YET.now
ShowsIfFresh true source channel asked page = ShowsPicture source channel asked page

-- the page answers a query for the picture of a channel: it says that the query is wrong, or shows the picture
abbrev pub AnswersPicture : PageSource → ℕ → Option (Option ℕ) → Option Page → Type 0
AnswersPicture source channel None page = page ≡ wrong_query
AnswersPicture source channel (Some asked) page = ShowsIfFresh source.fresh source channel asked page

-- there are pages of pictures if pictures are wanted
abbrev pub AnswersIfWanted : Bool → PageSource → ℕ → Option (List ℕ) → Option Page → Type 0
AnswersIfWanted false source channel query page = page ≡ None
AnswersIfWanted true source channel query page = AnswersPicture source channel (width_in query) page

-- the page of what is at a path, for a query
abbrev pub IsPageOf : PageSource → Target → Option (List ℕ) → Option Page → Type 0
IsPageOf source target.Home query page = page ≡ home_page
IsPageOf source target.Status query page = page ≡ status_page source
IsPageOf source target.Events query page = page ≡ events_page source (after_in query)
IsPageOf source (target.Picture channel) query page = AnswersIfWanted source.pictures source channel query page
IsPageOf source target.Nowhere query page = page ≡ None

-- the page at a path for a query, or none
abbrev pub IsPage : PageSource → List ℕ → Option (List ℕ) → Option Page → Type 0
IsPage source path query page = IsPageOf source (target_of (channel_count source) path) query page
