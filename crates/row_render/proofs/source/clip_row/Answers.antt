use Rattle.std.proofs.Common.{◌≡◌, ℕ, ◌+◌, ◌*◌, ◌<◌, List, take, drop, refl, sym, ap, subst, ◌∙◌, lt-ltb, arith}
use Rattle.play_types.specs.Geometry.{frame_bytes}
use Rattle.play_types.specs.declared.geometry.Geometry.{Geometry}
use Rattle.history_model.specs.pictures.Media.{clip_pixel, pixel_of_bytes}
use Rattle.history_model.specs.pictures.Raster.{scaled_to}
use Rattle.row_render.specs.inner.Sources.{IsPicture, scaled_pixel}
use Rattle.row_render.proofs.Sources.{HasPicture-clip, IsPicture-row, picture_row, picture_row-shown}
use Rattle.row_render.proofs.source.clip_row.Goals as goal

-- the row, by the size and the first byte of the frame as they were read
same_picture_row : (bytes list row : List ℕ) (size read : Geometry) (frame count from height y : ℕ) → list ≡ bytes → read ≡ size → from ≡ frame → count ≡ frame_bytes read →
    row ≡ take (4 * read.width) (drop (from * count + 4 * (scaled_to read.height height y * read.width)) list) →
    row ≡ picture_row bytes (frame * frame_bytes size) size.width size.height height y
same_picture_row bytes list row size read frame count from height y b r f n is =
    is ∙ ap (λ (k : ℕ). take (4 * read.width) (drop (from * k + 4 * (scaled_to read.height height y * read.width)) list)) n
    ∙ (λ i. take (4 * (r i).width) (drop (f i * frame_bytes (r i) + 4 * (scaled_to (r i).height height y * (r i).width)) (b i)))

pub returns-clause-value : goal.returns-clause-value
returns-clause-value c = λ width x lt.
    let clip = c.args.clip.now in
    let size = clip.geometry in
    let below : c.args.frame < clip.frames = omega (arith, c.if-frame-frames.false, c.frames.ensures.value) in
    let has = HasPicture-clip clip c.args.frame c.frames.ensures.range c.requires.clip below in
    let at = c.args.frame * frame_bytes size + 4 * (scaled_to size.height c.args.height c.args.y * size.width + scaled_to size.width width x) in
    let row = same_picture_row clip.bytes c.bytes.result.now c.picture_row.result.now size c.geometry-size.result c.args.frame c.frame_bytes.result c.from.result c.args.height c.args.y
    c.bytes.ensures.value c.geometry-size.ensures.value c.from.ensures c.frame_bytes.ensures c.picture_row.ensures in
    let shown : clip_pixel clip c.args.frame (scaled_to size.width width x) (scaled_to size.height c.args.height c.args.y) ≡ pixel_of_bytes clip.bytes at =
    rw (lt-ltb c.args.frame clip.frames below, c.requires.version) refl in
    shown
    ∙ picture_row-shown clip.bytes (c.args.frame * frame_bytes size) size.width size.height c.args.height c.args.y width x has c.requires.row lt
    ∙ ap (λ (l : List ℕ). scaled_pixel l width x) (sym row)

pub returns-clause-picture : goal.returns-clause-picture
returns-clause-picture c =
    let clip = c.args.clip.now in
    let size = clip.geometry in
    let below : c.args.frame < clip.frames = omega (arith, c.if-frame-frames.false, c.frames.ensures.value) in
    let has = HasPicture-clip clip c.args.frame c.frames.ensures.range c.requires.clip below in
    let row = same_picture_row clip.bytes c.bytes.result.now c.picture_row.result.now size c.geometry-size.result c.args.frame c.frame_bytes.result c.from.result c.args.height c.args.y
    c.bytes.ensures.value c.geometry-size.ensures.value c.from.ensures c.frame_bytes.ensures c.picture_row.ensures in
    subst IsPicture (sym row) (IsPicture-row clip.bytes (c.args.frame * frame_bytes size) size.width size.height c.args.height c.args.y has c.requires.row)
