use Rattle.std.proofs.Common.{◌≡◌, ◌+◌, ◌*◌, length, sym, ap, subst, ◌∙◌, arith}
use Rattle.play_types.specs.Scene.{IsConfigured, ShowsConfigured}
use Rattle.play_types.specs.declared.drawn.Still.{Still}
use Rattle.history_model.specs.pictures.Media.{pixel_of_bytes}
use Rattle.history_model.specs.pictures.Raster.{scaled_to, still_pixel}
use Rattle.play_scene.specs.Frames.{frame_at}
use Rattle.play_scene.proofs.Stills.{channel-shown}
use Rattle.play_scene.proofs.composition.still_pixel.Goals as goal

pub returns-in-Channel : goal.returns-in-Channel
returns-in-Channel c = λ pictures are.
    let channel = c.in-Channel.channel in
    let frames = c.args.view.now.prev.now in
    let frame = frame_at channel frames in
    let size = c.args.view.now.size in
    let configured : IsConfigured (length frames) channel = subst (ShowsConfigured (length frames)) c.in-Channel.is c.requires.names in
    let shown = channel-shown pictures frames c.args.view.now.media.now channel size c.args.x c.args.y are configured c.size-picture.ensures.range c.requires.column c.requires.row in
    let at = 4 * (scaled_to frame.size.height size.height c.args.y * frame.size.width + scaled_to frame.size.width size.width c.args.x) in
    let first : 0 + at ≡ at = omega arith in
    c.scaled_pixel.ensures
    ∙ (λ i. pixel_of_bytes (c.bytes.ensures.value i)
    (0 + 4 * (scaled_to (c.size-picture.ensures.value i).height size.height c.args.y * (c.size-picture.ensures.value i).width
    + scaled_to (c.size-picture.ensures.value i).width size.width c.args.x)))
    ∙ ap (pixel_of_bytes frame.bytes) first
    ∙ sym shown
    ∙ sym (ap (λ (still : Still). still_pixel pictures size still c.args.x c.args.y) c.in-Channel.is)
