use Rattle.std.proofs.Common.{◌≡◌, List, map, sym, ap, subst, ◌∙◌, Err, string_bytes, String}
use Rattle.std.specs.Prelude.{Some, None}
use Rattle.std.specs.Global.{Global}
use Rattle.play_outside.specs.FolderState.{FolderState}
use Rattle.clip_store.specs.declared.names.ClipFile.{ClipFile}
use Rattle.clip_store.specs.declared.fault.ScanFault.TheVariants.{TwoNames}
use Rattle.clip_store.specs.inner.Kept.{file_views}
use Rattle.clip_store.specs.Listing.{clip_files, first_twice, sorted}
use Rattle.clip_store.specs.inner.Orders.{IsStrict}
use Rattle.clip_store.specs.Scan.{table_of, scanned, Tells, Answers}
use Rattle.clip_store.proofs.Scans.{AreOrdered-listed, Tells-twice, Answers-scanned, IsStrict-listed}
use Rattle.clip_store.proofs.scanning.scan.Goals as goal

pub returns-in-Some : goal.returns-in-Some
returns-in-Some g c =
    let order = file_views c.in_ok-files.files.items in
    let listed = map string_bytes c.in_ok-listed.listed.items in
    let is : order ≡ sorted (clip_files listed) = c.in_ok-files.ensures ∙ ap (λ (l : List (String Global)). sorted (clip_files (map string_bytes l))) c.as_slice.ensures.value in
    let are = AreOrdered-listed c.args.folder.now (g.M.MediaDir.state c.args.media.now).files listed order c.in_ok-listed.ensures.0 is in
    let twice : first_twice order ≡ Some c.in-Some.name.now = ap (λ (fs : List ClipFile). first_twice (file_views fs)) (sym c.as_slice-2.ensures.value) ∙ sym c.in-Some.ensures in
    let named = Tells-twice c.args.folder.now (g.M.MediaDir.state c.args.media.now).files order c.in-Some.name.now are twice in (
      subst (λ n. Tells (scanned c.args.folder.now) (Err (TwoNames n)) (g.M.MediaDir.state c.args.media.now).files) (sym c.in_ok-name.ensures) named,
      c.in_ok-listed.ensures.1,
    )

pub read_all-requires-after_bounds : goal.read_all-requires-after_bounds
read_all-requires-after_bounds g c κs within =
    let order = file_views c.in_ok-files.files.items in
    let listed = map string_bytes c.in_ok-listed.listed.items in
    let is : order ≡ sorted (clip_files listed) = c.in_ok-files.ensures ∙ ap (λ (l : List (String Global)). sorted (clip_files (map string_bytes l))) c.as_slice.ensures.value in
    let once : first_twice order ≡ None = ap (λ (fs : List ClipFile). first_twice (file_views fs)) (sym c.as_slice-2.ensures.value) ∙ sym c.in_default.ensures in
    subst (λ (fs : List ClipFile). IsStrict (file_views fs)) (sym c.as_slice-3.ensures.value) (IsStrict-listed listed order is once)

pub returns : goal.returns
returns g c =
    let order = file_views c.in_ok-files.files.items in
    let listed = map string_bytes c.in_ok-listed.listed.items in
    let before = g.M.MediaDir.state c.args.media.now in
    let after = g.M.MediaDir.state c.read_all.new.media in
    let is : order ≡ sorted (clip_files listed) = c.in_ok-files.ensures ∙ ap (λ (l : List (String Global)). sorted (clip_files (map string_bytes l))) c.as_slice.ensures.value in
    let are = AreOrdered-listed c.args.folder.now before.files listed order c.in_ok-listed.ensures.0 is in
    let once : first_twice order ≡ None = ap (λ (fs : List ClipFile). first_twice (file_views fs)) (sym c.as_slice-2.ensures.value) ∙ sym c.in_default.ensures in
    let read = subst (λ (fs : List ClipFile). Answers (λ held. table_of c.args.folder.now held (file_views fs)) c.read_all.result (g.M.MediaDir.state c.names.new.self) after) c.as_slice-3.ensures.value c.read_all.ensures in
    let whole = subst (λ (s : FolderState). Answers (λ held. table_of c.args.folder.now held order) c.read_all.result s after) c.in_ok-listed.ensures.1 read in
    Answers-scanned c.args.folder.now order c.read_all.result before after are once whole
