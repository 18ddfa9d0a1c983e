use Rattle.frame_digests.proofs.Lines.{lines_kept, none_awaited}
use Rattle.frame_digests.proofs.waiting.Waiting.place_of.Goals as goal

pub returns-then-not-keep-clause-text : goal.returns-then-not-keep-clause-text
returns-then-not-keep-clause-text c =
    let old = c.args.self.now in
    lines_kept old.frames.items c.keep.new.frames.items c.next-next.result c.keep.ensures.others old.lines.items
    (none_awaited old.lines.items c.deref-3.result.now c.next-next.result _ c.deref-3.ensures.value c.is_awaited.ensures c.if-is_awaited.false)

pub returns-clause-text : goal.returns-clause-text
returns-clause-text c =
    let old = c.args.self.now in
    lines_kept old.frames.items c.keep.new.frames.items c.next-next.result c.keep.ensures.others old.lines.items
    (none_awaited old.lines.items c.deref-3.result.now c.next-next.result _ c.deref-3.ensures.value c.is_awaited.ensures c.if-is_awaited.false)
