use Rattle.std.proofs.Common.{◌-◌, List, length, drop, ap, ◌∙◌, arith, length-drop}
use Rattle.std.proofs.lemmas.List.{take_all}
use Rattle.play_types.specs.declared.drawn.Drawn.{Drawn}
use Rattle.history_model.specs.pictures.Frame.{scene_pixel}
use Rattle.row_render.proofs.composition.compose_row.Goals as goal

pub returns-clause-row : goal.returns-clause-row
returns-clause-row c = λ pictures are.
    let size = c.args.view.now.size in
    let y = c.args.view.now.y in
    let layers = c.drawn-layers.result.now in
    let hidden = c.hidden_layers-hidden.result in
    let made = c.lay_layers.ensures.row pictures are in
    let long = length-drop hidden layers in
    let rest = take_all (length layers - hidden) (drop hidden layers) (omega (arith, long)) in
    record {
      len = made.len;
      pixels = λ x lt.
          made.pixels x lt
          ∙ ap (λ (l : List Drawn). scene_pixel pictures size l x y) rest
          ∙ c.hidden_layers-hidden.ensures.value pictures x lt
          ∙ ap (λ (l : List Drawn). scene_pixel pictures size l x y) c.drawn-layers.ensures.value;
    }
