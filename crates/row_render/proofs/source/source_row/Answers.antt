use Rattle.std.proofs.Common.{◌≡◌, ℕ, ◌+◌, ◌*◌, List, length, take, drop, sym, ap, subst, ◌∙◌, arith}
use Rattle.play_types.specs.Scene.{IsConfigured, ShowsConfigured}
use Rattle.play_types.specs.declared.geometry.Geometry.{Geometry}
use Rattle.play_types.specs.declared.drawn.Still.{Still}
use Rattle.history_model.specs.pictures.Media.{pixel_of_bytes}
use Rattle.history_model.specs.pictures.Raster.{scaled_to, still_pixel}
use Rattle.play_scene.specs.Frames.{frame_at}
use Rattle.play_scene.proofs.Stills.{channel-shown}
use Rattle.row_render.specs.inner.Sources.{IsPicture, scaled_pixel}
use Rattle.row_render.proofs.Sources.{HasPicture-frame, IsPicture-row, picture_row, picture_row-shown}
use Rattle.row_render.proofs.source.source_row.Goals as goal

-- the row, by the size of the frame as it was read
same_picture_row : (bytes list row : List ℕ) (size read : Geometry) (height y : ℕ) → list ≡ bytes → read ≡ size →
    row ≡ take (4 * read.width) (drop (0 + 4 * (scaled_to read.height height y * read.width)) list) →
    row ≡ picture_row bytes 0 size.width size.height height y
same_picture_row bytes list row size read height y b r is =
    is ∙ (λ i. take (4 * (r i).width) (drop (0 + 4 * (scaled_to (r i).height height y * (r i).width)) (b i)))

pub returns-in-Channel-clause-value : goal.returns-in-Channel-clause-value
returns-in-Channel-clause-value c = λ pictures x are lt.
    let view = c.args.view.now in
    let channel = c.in-Channel.channel in
    let frames = view.prev.now in
    let frame = frame_at channel frames in
    let configured : IsConfigured (length frames) channel = subst (ShowsConfigured (length frames)) c.in-Channel.is c.requires.names in
    let is = c.size-size.ensures.range in
    let row = same_picture_row frame.bytes c.bytes.result.now c.picture_row.result.now frame.size c.size-size.result view.size.height c.args.y
    c.bytes.ensures.value c.size-size.ensures.value c.picture_row.ensures in
    let start : 4 * (scaled_to frame.size.height view.size.height c.args.y * frame.size.width + scaled_to frame.size.width view.size.width x)
    ≡ 0 + 4 * (scaled_to frame.size.height view.size.height c.args.y * frame.size.width + scaled_to frame.size.width view.size.width x) = omega arith in
    ap (λ (still : Still). still_pixel pictures view.size still x c.args.y) c.in-Channel.is
    ∙ channel-shown pictures frames view.media.now channel view.size x c.args.y are configured is lt c.requires.row
    ∙ ap (pixel_of_bytes frame.bytes) start
    ∙ picture_row-shown frame.bytes 0 frame.size.width frame.size.height view.size.height c.args.y view.size.width x (HasPicture-frame frame is) c.requires.row lt
    ∙ ap (λ (l : List ℕ). scaled_pixel l view.size.width x) (sym row)

pub returns-in-Channel-clause-picture : goal.returns-in-Channel-clause-picture
returns-in-Channel-clause-picture c =
    let view = c.args.view.now in
    let frame = frame_at c.in-Channel.channel view.prev.now in
    let is = c.size-size.ensures.range in
    let row = same_picture_row frame.bytes c.bytes.result.now c.picture_row.result.now frame.size c.size-size.result view.size.height c.args.y
    c.bytes.ensures.value c.size-size.ensures.value c.picture_row.ensures in
    subst IsPicture (sym row) (IsPicture-row frame.bytes 0 frame.size.width frame.size.height view.size.height c.args.y (HasPicture-frame frame is) c.requires.row)
