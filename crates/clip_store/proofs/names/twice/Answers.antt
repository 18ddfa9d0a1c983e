use Rattle.std.proofs.Common.{◌-◌, drop, length-drop, sym, ◌∙◌, arith}
use Rattle.std.proofs.lemmas.List.{length-map}
use Rattle.clip_store.specs.inner.Kept.{file_view, file_views}
use Rattle.clip_store.proofs.Twice.{first_twice-short}
use Rattle.clip_store.proofs.names.twice.Goals as goal

pub returns : goal.returns
returns c =
    let rest = drop (c.loop-at.at - 1) c.args.files.now in
    sym (c.loop-at.invariant ∙ first_twice-short (file_views rest) (omega (arith, length-map rest file_view, length-drop (c.loop-at.at - 1) c.args.files.now, c.loop-at.auto.at)))
