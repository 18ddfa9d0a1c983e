use Rattle.std.proofs.Common.{ℕ, ◌<◌, refl, ◌∙◌, arith}
use Rattle.history_model.specs.pictures.Frame.{layer_pixel, placement_of}
use Rattle.history_model.specs.pictures.Raster.{raster_pixel}
use Rattle.play_scene.proofs.Fills.{placed-no_column}
use Rattle.row_render.proofs.Keying.{first_layer, hidden_over, keyer_over, layer_over}
use Rattle.row_render.proofs.composition.lay_layer.Goals as goal

pub returns-then-layer-clause-row : goal.returns-then-layer-clause-row
returns-then-layer-clause-row c = λ pictures layers are keys under.
    keyer_over (λ (x : ℕ). layer_pixel pictures c.args.view.now.size x c.args.view.now.y) c.args.view.now.size.width c.args.layer.now layers c.args.below.blank c.args.row.now
    c.if-layer.true under

pub returns-then-layer-clause-keys : goal.returns-then-layer-clause-keys
returns-then-layer-clause-keys c = λ pictures layers are. (refl, λ e. c.layer_row.ensures.row pictures are)

pub returns-then-shows_nothing-clause-row : goal.returns-then-shows_nothing-clause-row
returns-then-shows_nothing-clause-row c = λ pictures layers are keys under.
    hidden_over (λ (x : ℕ). layer_pixel pictures c.args.view.now.size x c.args.view.now.y) c.args.view.now.size.width c.args.layer.now layers c.args.below.blank c.args.row.now
    c.if-layer.false (c.shows_nothing.ensures c.if-shows_nothing.true pictures) under

pub returns-then-below-clause-row : goal.returns-then-below-clause-row
returns-then-below-clause-row c = λ pictures layers are keys under.
    first_layer (λ (x : ℕ). layer_pixel pictures c.args.view.now.size x c.args.view.now.y) c.args.view.now.size.width c.args.layer.now layers c.args.below.keyed c.args.keys.now
    c.layer_row-then-below.new.row c.key_by.new.row
    c.if-layer.false keys (c.layer_row-then-below.ensures.row pictures are) (under.nothing c.if-below.true) c.key_by.ensures.row

pub returns-clause-row : goal.returns-clause-row
returns-clause-row c = λ pictures layers are keys under.
    let size = c.args.view.now.size in
    let y = c.args.view.now.y in
    let layer = c.args.layer.now in
    let made = c.layer_row-2.ensures.row pictures are in
    layer_over (λ (x : ℕ). layer_pixel pictures size x y) size.width layer layers c.args.below.keyed c.args.keys.now
    c.layer_row-2.new.row c.args.row.now c.lay_columns.new.row
    c.if-layer.false keys made (under.shown c.if-below.false)
    (c.lay_columns.ensures.row
    (λ x lt out.
    let inside : x < size.width = omega (arith, lt, c.requires.row) in
    made.pixels x inside ∙ placed-no_column size (placement_of layer) (raster_pixel pictures size layer) x y (c.shown_columns-from.ensures.hidden x inside out)))
