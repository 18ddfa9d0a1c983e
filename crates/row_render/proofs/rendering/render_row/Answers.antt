use Rattle.lane_blend.proofs.Pieces.{row_pieces}
use Rattle.row_render.proofs.rendering.render_row.Goals as goal

pub returns-clause-picture : goal.returns-clause-picture
returns-clause-picture c = λ pictures are. row_pieces _ _ _ (c.compose_with.ensures.row pictures are)
