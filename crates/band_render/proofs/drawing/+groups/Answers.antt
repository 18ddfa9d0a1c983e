use Rattle.std.proofs.Common.{rules, ◌≡◌, ◌<◌, ◌++◌, length, ◌∙◌, arith}
use Rattle.band_render.proofs.Bands.{bytes_of_parts}
use Rattle.band_render.proofs.Drawn.{can_draw_parts, has_drawn_both}
use Rattle.band_render.proofs.LetIn.{let_in_both}
use Rattle.band_render.proofs.drawing.+groups.Goals as goal

pub draw_all-bytes_of_bands-requires : goal.draw_all-bytes_of_bands-requires
draw_all-bytes_of_bands-requires g t c =
    let whole : c.split_at.result.0.now ++ c.split_at.result.1.now ≡ c.args.bands.now = search rules in
    let sum = bytes_of_parts c.args.bands.now c.split_at.result.0.now c.split_at.result.1.now whole in
    omega (arith, sum, c.requires.counted, c.requires.small)

pub draw_all-split_at_mut-first_bytes-requires : goal.draw_all-split_at_mut-first_bytes-requires
draw_all-split_at_mut-first_bytes-requires g t c =
    let whole : c.split_at.result.0.now ++ c.split_at.result.1.now ≡ c.args.bands.now = search rules in
    let sum = bytes_of_parts c.args.bands.now c.split_at.result.0.now c.split_at.result.1.now whole in
    omega (arith, sum, c.requires.counted, c.bytes_of_bands.ensures)

pub draw_all-draw_both-requires-clause-first : goal.draw_all-draw_both-requires-clause-first
draw_all-draw_both-requires-clause-first g t c κs within =
    let bands = c.split_at.result in
    let bytes = c.split_at_mut-first_bytes.result in
    let rooms = c.split_at_mut-first.result in
    let whole : bands.0.now ++ bands.1.now ≡ c.args.bands.now = search rules in
    let are : rooms.0.now ++ rooms.1.now ≡ c.args.rooms.now = search rules in
    let parts : bytes.0.now ++ bytes.1.now ≡ c.args.bytes.now = search rules in
    let long : length bytes.0.now ≡ c.bytes_of_bands.result = search rules in
    let one : 0 < length rooms.0.now = search rules in
    let two : 0 < length rooms.1.now = search rules in
    (can_draw_parts c.args.tick.now c.args.bands.now bands.0.now bands.1.now c.args.rooms.now rooms.0.now rooms.1.now c.args.bytes.now bytes.0.now bytes.1.now c.requires
    whole are parts one two (long ∙ c.bytes_of_bands.ensures)).0

pub draw_all-draw_both-requires-clause-last : goal.draw_all-draw_both-requires-clause-last
draw_all-draw_both-requires-clause-last g t c κs within =
    let bands = c.split_at.result in
    let bytes = c.split_at_mut-first_bytes.result in
    let rooms = c.split_at_mut-first.result in
    let whole : bands.0.now ++ bands.1.now ≡ c.args.bands.now = search rules in
    let are : rooms.0.now ++ rooms.1.now ≡ c.args.rooms.now = search rules in
    let parts : bytes.0.now ++ bytes.1.now ≡ c.args.bytes.now = search rules in
    let long : length bytes.0.now ≡ c.bytes_of_bands.result = search rules in
    let one : 0 < length rooms.0.now = search rules in
    let two : 0 < length rooms.1.now = search rules in
    (can_draw_parts c.args.tick.now c.args.bands.now bands.0.now bands.1.now c.args.rooms.now rooms.0.now rooms.1.now c.args.bytes.now bytes.0.now bytes.1.now c.requires
    whole are parts one two (long ∙ c.bytes_of_bands.ensures)).1

pub draw_all-returns-in_default-clause-drawn : goal.draw_all-returns-in_default-clause-drawn
draw_all-returns-in_default-clause-drawn g t c =
    let bands = c.split_at.result in
    let rooms = c.split_at_mut-first.result in
    let whole : bands.0.now ++ bands.1.now ≡ c.args.bands.now = search rules in
    let are : rooms.0.now ++ rooms.1.now ≡ c.args.rooms.now = search rules in
    has_drawn_both c.args.tick.now c.args.bands.now bands.0.now bands.1.now c.args.rooms.now rooms.0.now rooms.1.now c.draw_both.new.first c.draw_both.new.last
    c.draw_both.new.first_bytes c.draw_both.new.last_bytes whole are c.draw_both.ensures.first c.draw_both.ensures.last

pub draw_all-returns-in_default-clause-entered : goal.draw_all-returns-in_default-clause-entered
draw_all-returns-in_default-clause-entered g t c =
    let bands = c.split_at.result in
    let whole : bands.0.now ++ bands.1.now ≡ c.args.bands.now = search rules in
    let_in_both (g.G.Gate.entered c.args.gate.now) c.args.bands.now bands.0.now bands.1.now whole c.draw_both.ensures.first_entered c.draw_both.ensures.last_entered
