use Rattle.std.proofs.Common.{◌≡◌, ℕ, ◌*◌, ◌<◌, ◌≤◌, List, length, map, ⊎_elim, sym, ap, ap₂, ◌∙◌, arith}
use Rattle.std.specs.Prelude.{Some, slice_get}
use Rattle.std.specs.Option.{option_copied}
use Rattle.std.proofs.lemmas.Bool.{cases_lt}
use Rattle.std.proofs.lemmas.List.{take_all}
use Rattle.play_types.specs.Config.{ChannelView}
use Rattle.play_types.specs.declared.geometry.Geometry.{Geometry}
use Rattle.band_render.specs.Plans.{pixel_count, row_count}
use Rattle.band_render.specs.Rows.{size_of}
use Rattle.band_render.proofs.Plans.{no_rows, pixels_more, rows_more}
use Rattle.band_render.proofs.rooms.thread_count.Goals as goal

pub loop-at-preserved : goal.loop-at-preserved
loop-at-preserved c =
    let channels = c.args.channels.now in
    let channel : ChannelView = c.unwrap.result.now in
    let lt : c.loop-at.at < length channels = omega (arith, c.loop-at-test.true, c.len-at-end.ensures.value) in
    let there : slice_get channels c.loop-at.at ≡ Some channel = sym c.get.ensures ∙ ap option_copied c.unwrap.ensures in
    let rows = rows_more channels c.loop-at.at channel lt there in
    let pixels = pixels_more channels c.loop-at.at channel lt there in
    let height = ap (λ (s : Geometry). s.height) c.geometry-size.ensures.value in
    let width = ap (λ (s : Geometry). s.width) c.geometry-size.ensures.value in
    let product : c.from-height.result * c.from.result ≡ channel.height * channel.width =
    ap₂ (λ (a b : ℕ). a * b) (c.from-height.ensures ∙ height) (c.from.ensures ∙ width) in
    record {
      rows = omega (arith, c.min-rows.ensures, c.from-height.ensures, c.loop-at.invariant.rows, rows, height);
      pixels = omega (arith, c.min-pixels.ensures, c.from-height.ensures, c.loop-at.invariant.pixels, pixels, product);
    }

pub returns-else-pixels-lt-MIN_SHARED_PIXELS-clause-groups : goal.returns-else-pixels-lt-MIN_SHARED_PIXELS-clause-groups
returns-else-pixels-lt-MIN_SHARED_PIXELS-clause-groups c =
    let channels = c.args.channels.now in
    let sizes = map size_of channels in
    let all = take_all c.loop-at.at channels (omega (arith, c.loop-at-test.false, c.loop-at.auto.at-end, c.len-at-end.ensures.value)) in
    let rows = ap (λ (l : List ChannelView). row_count (map size_of l)) all in
    let pixels = ap (λ (l : List ChannelView). pixel_count (map size_of l)) all in
    record {
      small = λ (less : pixel_count sizes < 64).
          absurd (omega (arith, less, pixels, c.loop-at.invariant.pixels, c.if-pixels-lt-MIN_SHARED_PIXELS.false));
      large = λ (many : 64 ≤ pixel_count sizes).
          let some : 0 < row_count sizes =
          ⊎_elim (λ (lt : 0 < row_count sizes). lt)
          (λ (le : row_count sizes ≤ 0). absurd (let none = no_rows sizes (omega (arith, le)) in omega (arith, many, none)))
          (cases_lt 0 (row_count sizes)) in
          omega (arith, some, rows, c.loop-at.invariant.rows, c.max.ensures, c.requires.some);
    }
