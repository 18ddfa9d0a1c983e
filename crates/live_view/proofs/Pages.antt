-- The pages of the frames of a player.
use Rattle.std.proofs.Common.{◌≡◌, ℕ, zero, suc, ◌+◌, ◌-◌, ◌*◌, ◌/◌, ◌<◌, ◌≤◌, Bool, List, [], ◌∷◌, ◌++◌, length, map, unwrap_or, sym, ap, ◌∙◌, subst, arith}
use Rattle.std.specs.Prelude.{Option, Some, Result, Ok, Err, IfOk, option_map, slice_get, unsigned_abs}
use Rattle.std.specs.List.{range_with_len}
use Rattle.std.proofs.lemmas.List.FromFn.{map-range_with_len_more}
use Rattle.std.proofs.lemmas.Option.{slice_get-map}
use Rattle.play_types.specs.Config.{ChannelView}
use Rattle.play_types.specs.Scene.{IsConfigured}
use Rattle.play_types.specs.declared.geometry.Geometry.{Geometry}
use Rattle.pixel_math.specs.Pixel.{pixel_bytes}
use Rattle.history_model.specs.pictures.Frame.{last_pixel}
use Rattle.history_model.specs.pictures.Media.{Setup, no_size, size}
use Rattle.history_model.specs.pictures.Sound.{last_sample}
use Rattle.history_model.specs.scripts.History.{channel_size, setup_of}
use Rattle.history_model.specs.stage.Answer.{numbers_below}
use Rattle.play_scene.specs.Frames.{FrameView, IsFrame, frame_at}
use Rattle.play_scene.proofs.Rows.{picture_small}
use Rattle.band_render.proofs.Ticks.{size_in_setup}
use Rattle.frame_bitmap.specs.Bitmap.{IsBitmap, shown_pixel}
use Rattle.frame_bitmap.specs.Size.{shown}
use Rattle.frame_bitmap.specs.Size as bitmap
use Rattle.frame_bitmap.specs.declared.dimensions.Size.{Size}
use Rattle.script_player.specs.Player.{channels_in, events_in, playout_in}
use Rattle.script_player.specs.declared.player.Player.{Player}
use Rattle.view_status.specs.Levels.{greatest, levels_of}
use Rattle.view_status.specs.declared.levels.Levels.{Levels}
use Rattle.live_view.specs.Page.{IsPictureOf, PageSource, levels_at}
use Rattle.live_view.specs.View.{AreLastFrames}
use Rattle.live_view.proofs.Rendering.{frame_count}
use Rattle.live_view.proofs.Pixels.{same_bitmap, shown_of_history}
use Rattle.live_view.proofs.Sounds.{level_of_history}

-- the size of a configured channel
pub size_configured : (player : Player) (channel : ℕ) (one : ChannelView) → 1 ≤ channel → slice_get player.setup.config.channels (channel - 1) ≡ Some one
    → size (setup_of (playout_in player)) channel ≡ channel_size one
size_configured player zero one low there = absurd (omega (arith, low))
size_configured player (suc before) one low there =
    ap (λ (o : Option Geometry). unwrap_or o no_size)
    (slice_get-map channel_size player.setup.config.channels before
    ∙ ap (option_map channel_size) (ap (slice_get player.setup.config.channels) (let same : before ≡ suc before - 1 = omega arith in same) ∙ there))

-- the columns and rows of a size
abbrev pub dimensions : Geometry → Size
dimensions size = record { width = size.width; height = size.height }

-- a frame can be written as a bitmap
pub can_write : (frame : FrameView) → IsFrame frame → bitmap.IsFrame (dimensions frame.size) frame.bytes
can_write frame is =
    let small = picture_small frame.size is.size in
    let long = is.bytes in
    record {
      some_columns = is.size.some_columns;
      some_rows = is.size.some_rows;
      bytes = (let product : 4 * frame.size.width * frame.size.height ≡ 4 * (frame.size.width * frame.size.height) = grind arith in long ∙ product);
      fits = omega (arith, small, long);
    }

module _ (player : Player) (frames : List FrameView) (has : AreLastFrames player.setup (events_in player) frames) (channel : ℕ) (configured : IsConfigured (channels_in player) channel) where
  abbrev setup : Setup
  setup = setup_of (playout_in player)

  abbrev frame : FrameView
  frame = frame_at channel frames

  abbrev source : Bool → Bool → PageSource
  source pictures fresh = record { playout = playout_in player; events = events_in player; pictures = pictures; fresh = fresh }

  -- there is a frame of the channel
  pub there : IsConfigured (length frames) channel
  there = (let count = frame_count player.setup (events_in player) frames has in (configured.0, omega (arith, configured.1, count)))

  -- it has the size of the channel
  pub size_is : frame.size ≡ size setup channel
  size_is = sym (size_in_setup setup frames channel configured.0 has.pictures.sizes)

  -- its file is that of the picture of the history
  pub picture_of_history : (pictures fresh : Bool) (asked : Option ℕ) (one : Size) (file : List ℕ) → IsFrame frame → one ≡ dimensions frame.size
      → IsBitmap file (shown one asked) (shown_pixel one.width frame.bytes (shown one asked).width) → IsPictureOf (source pictures fresh) channel asked file
  picture_of_history pictures fresh asked one file is same written =
      subst (λ (g : Geometry). IsBitmap file (shown (dimensions g) asked)
      (λ x y. pixel_bytes (last_pixel setup (events_in player) channel (x * g.width / (shown (dimensions g) asked).width) (y * g.width / (shown (dimensions g) asked).width))))
      size_is
      (same_bitmap file (shown (dimensions frame.size) asked) _ _ (shown_of_history setup (events_in player) player.setup.media frames channel asked has.pictures there is)
      (subst (λ (s : Size). IsBitmap file (shown s asked) (shown_pixel s.width frame.bytes (shown s asked).width)) same written))

  -- its levels are those of the history
  pub levels_of_history : (pictures fresh : Bool) → IsFrame frame → levels_of frame.sound ≡ levels_at (source pictures fresh) channel
  levels_of_history pictures fresh is =
      let level = λ (side : ℕ) (small : side < 2).
      (level_of_history setup (events_in player) player.setup.media frames channel has.sounds there is side small
      ∙ ap (λ (g : Geometry). greatest (map (λ pair. unsigned_abs (last_sample setup (events_in player) channel pair side)) (numbers_below g.pairs))) size_is) in
      λ i. record { left = level 0 (omega arith) i; right = level 1 (omega arith) i }

-- what holds of a value that is there
pub if_ok : {T E : Type 0} (result : Result T E) (P Q : T → Type 0) → ((value : T) → P value → Q value) → IfOk result P → IfOk result Q
if_ok (Ok value) P Q step holds = step value holds
if_ok (Err error) P Q step holds = tt

-- the levels of one channel more
pub levels_more : (source : PageSource) (at : ℕ) (old new : List Levels) (one : Levels) → old ≡ map (levels_at source) (range_with_len 1 at) → one ≡ levels_at source (at + 1)
    → new ≡ old ++ one ∷ [] → new ≡ map (levels_at source) (range_with_len 1 (at + 1))
levels_more source at old new one was is more =
    more ∙ (λ i. was i ++ is i ∷ []) ∙ sym (map-range_with_len_more (levels_at source) 1 at (at + 1) (omega arith))
