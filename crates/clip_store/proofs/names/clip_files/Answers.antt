use Rattle.std.proofs.Common.{◌≡◌, length, ◌∙◌, ap, sym, subst, IsPermutation}
use Rattle.clip_store.specs.inner.Kept.{file_view, file_views}
use Rattle.clip_store.specs.Listing.{sorted}
use Rattle.clip_format.proofs.Frames.{written_back}
use Rattle.clip_store.proofs.Sorting.{sorted-views}
use Rattle.clip_store.proofs.names.clip_files.Goals as goal

pub returns : goal.returns
returns c =
    let old = c.in_ok-files.files.items in
    let new = c.sort_unstable.new.self in
    let value = c.as_mut_slice.ensures.value in
    let same : length new ≡ length old = c.sort_unstable.ensures.len ∙ ap length value in
    let size : length old ≡ c.in_ok-files.files.len = sym (ap length value) ∙ c.as_mut_slice.ensures.len in
    let moved : IsPermutation old new = subst (λ xs. IsPermutation xs new) value c.sort_unstable.ensures.permutation in
    ap file_views (written_back new old c.in_ok-files.files.len same size)
    ∙ sorted-views file_view old new moved c.sort_unstable.ensures.sorted
    ∙ ap sorted c.in_ok-files.ensures
