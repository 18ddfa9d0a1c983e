use Rattle.std.proofs.Common.{◌≡◌}
use Rattle.std.specs.Str.{chars}
use Rattle.cmd_parse.proofs.Clips.{clip_from}
use Rattle.cmd_parse.proofs.line.Line.clip.Given as goal

abbrev pub invariant-loop-id : goal.invariant-loop-id
invariant-loop-id l = clip_from l.self.media (chars l.word) 0 ≡ clip_from l.self.media (chars l.word) l.id
