use Rattle.std.proofs.Common.{◌+◌, ◌*◌, length}
use Rattle.band_render.proofs.drawing.+groups.Given as goal

abbrev pub decreases-draw_both-join_mut+arg2 : goal.decreases-draw_both-join_mut+arg2
decreases-draw_both-join_mut+arg2 g l = 8 * length l.first.now + 7

abbrev pub decreases-draw_both-join_mut+arg3 : goal.decreases-draw_both-join_mut+arg3
decreases-draw_both-join_mut+arg3 g l = 8 * length l.last.now + 7

abbrev pub decreases-draw_all : goal.decreases-draw_all
decreases-draw_all g l = 8 * length l.rooms.now + 2

abbrev pub decreases-draw_both : goal.decreases-draw_both
decreases-draw_both g l = 8 * (length l.first.now + length l.last.now) + 1

abbrev pub decreases-draw_started : goal.decreases-draw_started
decreases-draw_started g l = 8 * length l.rooms.now + 6

abbrev pub decreases-draw_started-join_mut+arg2 : goal.decreases-draw_started-join_mut+arg2
decreases-draw_started-join_mut+arg2 g l = 8 * length l.rooms.now + 4
