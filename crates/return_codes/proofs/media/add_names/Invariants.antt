use Rattle.std.proofs.Common.{◌++◌, take, length}
use Rattle.std.specs.List.{flat_map}
use Rattle.play_outside.specs.Gathered.{Gathered}
use Rattle.history_model.specs.text.Replies.{media_line}
use Rattle.return_codes.specs.inner.Style.{styled}
use Rattle.return_codes.proofs.media.add_names.Given as goal

-- the names before this one were added
abbrev pub invariant-loop-clip : goal.invariant-loop-clip
invariant-loop-clip g l =
    Gathered (l.initial.text ++ flat_map (λ clip. styled l.style (media_line clip)) (take (length l.yielded) l.media)) l.text
    (g.K.Sink.state l.initial.to) (g.K.Sink.state l.to)
