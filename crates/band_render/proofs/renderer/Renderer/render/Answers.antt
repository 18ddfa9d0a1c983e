use Rattle.std.proofs.Common.{ℕ, List, length, sym, ap, ◌∙◌, subst, arith}
use Rattle.std.proofs.lemmas.List.{length-map}
use Rattle.play_scene.specs.Frames.{FrameView}
use Rattle.band_render.specs.declared.band.Band.{Band}
use Rattle.band_render.specs.Bands.{AreNumbered}
use Rattle.band_render.specs.Rendered.{sizes}
use Rattle.band_render.specs.Rows.{byte_count, rows_of_bands, rows_of_frames}
use Rattle.band_render.specs.inner.Rooms.{AreWide}
use Rattle.band_render.proofs.Bands.{bands_in_rooms, bands_of_channels}
use Rattle.band_render.proofs.renderer.Renderer.render.Goals as goal

pub draw_all-requires-after_bounds : goal.draw_all-requires-after_bounds
draw_all-requires-after_bounds g c κs within =
    let frames : List FrameView = c.self.inside.shown in
    let bands : List Band = c.deref.result.now in
    let rooms : List ℕ = c.deref_mut.result.now in
    let rows = ap (λ (l : List Band). rows_of_bands l) c.deref.ensures.value ∙ c.cut_frames.ensures.rows in
    let many = ap length c.self.view_is ∙ sym c.requires in
    let each = length-map frames (λ (frame : FrameView). frame.size) in
    let long = ap length c.deref_mut-2.ensures.value in
    let are = c.deref_mut.ensures.value in
    let can = c.self.invariant.6 in
    record {
      same = many;
      channels = bands_of_channels (length c.args.scenes.now) (sizes frames) bands rows (each ∙ many);
      counted = long ∙ c.self.invariant.2 ∙ sym (ap byte_count rows);
      small = omega (arith, long, c.self.invariant.3);
      some = omega (arith, can.some, ap length are);
      wide = subst (AreWide bands) (sym are) (bands_in_rooms (sizes frames) bands c.self.inside.rooms.items rows can.wide);
    }

pub returns-clause-entered : goal.returns-clause-entered
returns-clause-entered g c =
    record {
      bands = c.deref.result.now;
      rows = ap (λ (l : List Band). rows_of_bands l) c.deref.ensures.value ∙ c.cut_frames.ensures.rows
          ∙ ap (λ (l : List FrameView). rows_of_frames 1 (sizes l)) c.self.view_is;
      numbers = subst AreNumbered (sym c.deref.ensures.value) c.cut_frames.ensures.numbers;
      each = c.draw_all.ensures.entered;
    }
