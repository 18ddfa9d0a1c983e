use Rattle.std.proofs.Common.{rules, ◌≡◌, List, length, map, sym, ap, ◌∙◌, subst, arith}
use Rattle.play_scene.specs.Frames.{zero_frame}
use Rattle.std.proofs.lemmas.List.{length-map}
use Rattle.band_render.specs.declared.band.Band.{Band}
use Rattle.play_types.specs.declared.geometry.Geometry.{Geometry}
use Rattle.band_render.specs.Plans.{AreGroups}
use Rattle.band_render.specs.Rendered.{sizes}
use Rattle.band_render.specs.Rows.{byte_count, rows_of_bands, rows_of_frames, size_of}
use Rattle.band_render.proofs.Plans.{rooms_of_sizes, sizes_of_new}
use Rattle.band_render.proofs.renderer.Renderer.new.Goals as goal

pub invariant_of-result : goal.invariant_of-result
invariant_of-result c =
    let channels = c.args.config.now.channels in
    let long : length c.in_ok-pixels.pixels.items ≡ c.bytes_of_bands.result = search rules in
    let same = ap (λ (l : List Band). byte_count (rows_of_bands l)) c.deref.ensures.value in
    let own : sizes (map zero_frame channels) ≡ map size_of channels = sizes_of_new channels in
    let shown = ap sizes c.in_ok-new.ensures ∙ own in
    let many : length (map size_of channels) ≡ length channels = length-map channels size_of in (
      ap sizes (c.in_ok-new-2.ensures ∙ sym c.in_ok-new.ensures),
      search rules,
      long ∙ c.bytes_of_bands.ensures ∙ same ∙ ap byte_count (c.in_ok-bands.ensures.rows ∙ ap (rows_of_frames 1) (sym shown)),
      omega (arith, long, c.bytes_of_bands.type_inv),
      omega (arith, c.requires.some_workers, c.requires.few_workers),
      omega (arith, c.requires.few_workers),
      record {
        room = omega (arith, c.in_ok-bands.ensures.room, many, ap length shown);
        some = c.in_ok-rooms.ensures.rooms.some;
        groups = subst (λ (l : List Geometry). AreGroups c.args.workers l (length c.in_ok-rooms.rooms.items)) (sym shown) c.in_ok-rooms.ensures.groups;
        wide = rooms_of_sizes channels c.in_ok-rooms.rooms.items _ shown c.in_ok-rooms.ensures.rooms.wide;
      },
    )
