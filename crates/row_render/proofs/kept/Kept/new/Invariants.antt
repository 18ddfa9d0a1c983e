use Rattle.std.proofs.Common.{◌≡◌, vec_len}
use Rattle.row_render.proofs.kept.Kept.new.Given as goal

-- a row for each turn
abbrev pub invariant-loop-place : goal.invariant-loop-place
invariant-loop-place l = vec_len l.scaled ≡ l._place
