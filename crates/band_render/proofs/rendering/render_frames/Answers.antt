use Rattle.std.proofs.Common.{◌≡◌, ℕ, ◌+◌, ◌-◌, List, set, refl, sym, subst, ap, ◌∙◌, arith}
use Rattle.play_types.specs.declared.geometry.Geometry.{Geometry}
use Rattle.play_scene.specs.Frames.{FrameView, frame_at}
use Rattle.band_render.specs.Rendered.{sizes}
use Rattle.band_render.specs.inner.Drawing.{AreDrawn, HasSoundOf, ShowsRows}
use Rattle.band_render.specs.Rows.{byte_count, rows_of_frames}
use Rattle.band_render.proofs.Drawn.{drawn_long, picture_there, pictures_long, scene_shown, sizes_with_pixels}
use Rattle.band_render.proofs.Writing.{frames_more, pictures_stay, same_many, sizes_stay}
use Rattle.band_render.proofs.rendering.render_frames.Goals as goal

pub exchange-requires-clause-length : goal.exchange-requires-clause-length
exchange-requires-clause-length c =
    let tick = c.args.tick.now in
    drawn_long tick (rows_of_frames 1 (sizes tick.prev.now)) c.args.pixels.now.items c.requires.drawn
    ∙ ap (λ (list : List Geometry). byte_count (rows_of_frames 1 list)) (sym c.requires.next)
    ∙ sym (pictures_long 1 c.args.next.now)

pub loop-at-init : goal.loop-at-init
loop-at-init c =
    let tick = c.args.tick.now in
    let before = c.args.next.now in
    let pixels = c.args.pixels.now.items in
    let exchanged = c.exchange.ensures.frames in
    let many = same_many tick.prev.now before c.requires.next in
    let drawn = subst (λ (list : List Geometry). AreDrawn tick (rows_of_frames 1 list) pixels) (sym c.requires.next) c.requires.drawn in
    record {
      same_sizes = ap sizes exchanged ∙ sizes_with_pixels before pixels ∙ c.requires.next;
      room = refl;
      shown = λ channel h.
          subst (λ (frames : List FrameView). ShowsRows tick channel (frame_at channel frames)) (sym exchanged)
          (picture_there tick 1 before pixels (channel - 1) channel (omega (arith, h.0, h.1, many)) (omega (arith, h.0)) drawn);
      heard = λ channel h. absurd (omega (arith, h.0, h.1));
    }

pub loop-at-preserved : goal.loop-at-preserved
loop-at-preserved c =
    let tick = c.args.tick.now in
    let at = c.loop-at.at in
    let before = c.loop-at.next in
    let now = c.render_sound.new.next in
    let sound = (frame_at (at + 1) now).sound in
    let others = c.render_sound.ensures.others in
    let same : at + 1 - 1 ≡ at = omega arith in
    let many = same_many tick.prev.now before c.loop-at.invariant.same_sizes in
    record {
      same_sizes = sizes_stay (at + 1) sound before now others ∙ c.loop-at.invariant.same_sizes;
      room = c.render_sound.ensures.room ∙ c.loop-at.invariant.room;
      shown = λ channel h.
          pictures_stay (ShowsRows tick channel) (at + 1) channel sound before now others (h.0, omega (arith, h.1, many)) (c.loop-at.invariant.shown channel h);
      heard = frames_more (HasSoundOf tick) at (record (frame_at (at + 1) before) { sound = sound }) before now
          (others ∙ ap (λ (k : ℕ). set before k (record (frame_at (at + 1) before) { sound = sound })) same)
          c.loop-at.invariant.heard c.render_sound.ensures.heard;
    }

pub returns-clause-rendered : goal.returns-clause-rendered
returns-clause-rendered c = record {
  same_sizes = c.loop-at.invariant.same_sizes;
  each = λ channel h.
      scene_shown c.args.tick.now channel (frame_at channel c.loop-at.next) (c.loop-at.invariant.shown channel h)
      (c.loop-at.invariant.heard channel (h.0, omega (arith, h.1, c.loop-at-test.false, c.channels-at-end.ensures.value, c.requires.tick)));
}
