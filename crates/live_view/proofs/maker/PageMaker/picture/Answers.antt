use Rattle.std.proofs.Common.{◌≡◌, ◌-◌, List, ℕ, sym, ap, ap₂, ◌∙◌, subst, subst₂}
use Rattle.std.specs.Prelude.{Some, slice_get}
use Rattle.std.specs.Option.{option_copied}
use Rattle.play_scene.specs.Frames.{frame_at}
use Rattle.frame_bitmap.specs.Bitmap.{IsBitmap, shown_pixel}
use Rattle.frame_bitmap.specs.Size.{IsFrame, shown}
use Rattle.live_view.specs.Page.{IsPictureOf}
use Rattle.live_view.specs.inner.Maker.{source_in}
use Rattle.live_view.proofs.Pages.{can_write, dimensions, if_ok, picture_of_history, size_configured, size_is}
use Rattle.live_view.proofs.maker.PageMaker.picture.Goals as goal

pub bitmap-requires : goal.bitmap-requires
bitmap-requires c =
    let player = c.args.self.player.now in
    let frames = c.args.self.renderer.now in
    let there : slice_get player.setup.config.channels (c.args.channel - 1) ≡ Some c.unwrap.result.now =
    ap₂ slice_get (sym c.channels-channels.ensures.value) (sym c.channel_index.ensures) ∙ sym c.get.ensures ∙ ap option_copied c.unwrap.ensures in
    let same : (frame_at c.args.channel frames).size ≡ c.geometry-size.result =
    size_is player frames c.requires.frames c.args.channel c.requires.channel ∙ size_configured player c.args.channel c.unwrap.result.now c.requires.channel.0 there
    ∙ sym c.geometry-size.ensures.value in
    subst₂ IsFrame (ap dimensions same) (sym c.frame-frame.ensures.value) (can_write (frame_at c.args.channel frames) c.frame-frame.ensures.range)

pub returns : goal.returns
returns c =
    let player = c.args.self.player.now in
    let frames = c.args.self.renderer.now in
    let there : slice_get player.setup.config.channels (c.args.channel - 1) ≡ Some c.unwrap.result.now =
    ap₂ slice_get (sym c.channels-channels.ensures.value) (sym c.channel_index.ensures) ∙ sym c.get.ensures ∙ ap option_copied c.unwrap.ensures in
    let same : (frame_at c.args.channel frames).size ≡ c.geometry-size.result =
    size_is player frames c.requires.frames c.args.channel c.requires.channel ∙ size_configured player c.args.channel c.unwrap.result.now c.requires.channel.0 there
    ∙ sym c.geometry-size.ensures.value in
    let one = dimensions c.geometry-size.result in
    if_ok c.bitmap.result
    (λ file. IsBitmap file.items (shown one c.args.width) (shown_pixel one.width c.frame-frame.result.now (shown one c.args.width).width))
    (λ file. IsPictureOf (source_in c.args.self) c.args.channel c.args.width file.items)
    (λ file written. picture_of_history player frames c.requires.frames c.args.channel c.requires.channel c.args.self.pictures c.args.self.fresh c.args.width one file.items
    c.frame-frame.ensures.range (ap dimensions (sym same))
    (subst (λ (bytes : List ℕ). IsBitmap file.items (shown one c.args.width) (shown_pixel one.width bytes (shown one c.args.width).width)) c.frame-frame.ensures.value written))
    c.bitmap.ensures
