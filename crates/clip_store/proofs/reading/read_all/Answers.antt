use Rattle.std.proofs.Common.{◌≡◌, ◌+◌, ◌≤◌, ◌∷◌, ◌++◌, [], ℕ, List, length, map, Result, sym, ap, ap₂, subst, ◌∙◌, length-append, IsUtf8, string_bytes, rules, arith}
use Rattle.std.specs.Prelude.{max}
use Rattle.std.specs.Str.{chars}
use Rattle.std.proofs.lemmas.List.{length-map}
use Rattle.play_outside.specs.FolderState.{FolderState}
use Rattle.play_outside.specs.Folder.{IsHeld, bytes_at}
use Rattle.play_types.specs.ClipFile.{ClipView}
use Rattle.play_types.specs.declared.clip_fault.ClipFault.{ClipFault}
use Rattle.clip_format.specs.Decoding.{clip_of}
use Rattle.clip_format.specs.Table.{Entry, IsAbove}
use Rattle.clip_store.specs.inner.Kept.{file_view, file_views}
use Rattle.clip_store.specs.Scan.{kept_clip}
use Rattle.clip_store.proofs.FilesRead.{Progress, HasRead, HasRead-more, Tells-large, Tells-all, name_bytes, names-more, IsAbove-names, view_at}
use Rattle.clip_store.proofs.reading.read_all.Goals as goal

pub returns-then-total-gt-MAX_MEDIA_BYTES : goal.returns-then-total-gt-MAX_MEDIA_BYTES
returns-then-total-gt-MAX_MEDIA_BYTES g c =
    let item = c.file-item.result in
    let bytes = c.in_ok-bytes.bytes.items in
    let inv = c.loop-file.invariant in
    let seen = view_at c.args.files.now c.loop-file.file-index item c.loop-file-test.true c.file-item.is in
    let held = subst (λ (s : FolderState). IsHeld (bytes_at c.args.folder.now (string_bytes item.file)) bytes s.files) inv.same
    (subst (λ (n : List ℕ). IsHeld (bytes_at c.args.folder.now n) bytes (g.M.MediaDir.state c.loop-file.media).files) c.as_str.ensures.value c.in_ok-bytes.ensures.0) in
    let len : c.len.result ≡ length bytes = search rules in
    let read : Progress = record { count = c.loop-file.file-index; table = c.loop-file.table; total = c.loop-file.total } in
    let counted : c.max.result ≡ max (length bytes) 1 = c.max.ensures ∙ ap (λ n. max n 1) len in (
      rw counted (Tells-large c.args.folder.now _ (file_views c.args.files.now) read (file_view item) bytes seen.0 seen.1 held
          (rw counted at c.if-total-gt-MAX_MEDIA_BYTES.true) inv.told),
      c.if-total-gt-MAX_MEDIA_BYTES.true,
      c.in_ok-bytes.ensures.1 ∙ inv.same,
    )

pub add-requires-clause-above : goal.add-requires-clause-above
add-requires-clause-above g c =
    let item = c.file-item.result in
    let seen = view_at c.args.files.now c.loop-file.file-index item c.loop-file-test.true c.file-item.is in
    let value = c.as_str-in-loop-file.ensures.value in
    let named : c.in_ok-name.name ≡ chars (string_bytes item.name) = c.in_ok-name.ensures ∙ ap chars value in
    let text : IsUtf8 (string_bytes item.name) = subst IsUtf8 value c.as_str-in-loop-file.utf8 in
    subst (λ (n : List ℕ). IsAbove n c.loop-file.table) (sym named)
    (IsAbove-names (file_views c.args.files.now) c.loop-file.file-index c.loop-file.table (file_view item) c.requires seen.0 seen.1 text c.loop-file.invariant.names)

pub loop-file-preserved : goal.loop-file-preserved
loop-file-preserved g c =
    let item = c.file-item.result in
    let bytes = c.in_ok-bytes.bytes.items in
    let inv = c.loop-file.invariant in
    let order = file_views c.args.files.now in
    let at = c.loop-file.file-index in
    let table = c.loop-file.table in
    let read : Progress = record { count = at; table = table; total = c.loop-file.total } in
    let seen = view_at c.args.files.now at item c.loop-file-test.true c.file-item.is in
    let held = subst (λ (s : FolderState). IsHeld (bytes_at c.args.folder.now (string_bytes item.file)) bytes s.files) inv.same
    (subst (λ (n : List ℕ). IsHeld (bytes_at c.args.folder.now n) bytes (g.M.MediaDir.state c.loop-file.media).files) c.as_str.ensures.value c.in_ok-bytes.ensures.0) in
    let len : c.len.result ≡ length bytes = search rules in
    let counted : c.max.result ≡ max (length bytes) 1 = c.max.ensures ∙ ap (λ n. max n 1) len in
    let value = c.as_str-in-loop-file.ensures.value in
    let named : c.in_ok-name.name ≡ chars (string_bytes item.name) = c.in_ok-name.ensures ∙ ap chars value in
    let text : IsUtf8 (string_bytes item.name) = subst IsUtf8 value c.as_str-in-loop-file.utf8 in
    let clip = kept_clip (clip_of bytes) in
    let added : c.add.new.self ≡ table ++ record { name = chars (string_bytes item.name); clip = clip } ∷ [] =
    c.in_ok-add.ensures.ok ∙ ap₂ (λ (n : List ℕ) (r : Result ClipView ClipFault). table ++ record { name = n; clip = r } ∷ []) named c.ready_clip.ensures.value in
    record {
      same = c.in_ok-bytes.ensures.1 ∙ inv.same;
      count = omega (arith, ap length added, length-append table (record { name = chars (string_bytes item.name); clip = clip } ∷ []), counted, inv.count);
      few = c.if-total-gt-MAX_MEDIA_BYTES.false;
      names = ap (map name_bytes) added ∙ names-more order at table (file_view item) clip seen.0 seen.1 text inv.names;
      told = subst (λ (t : List Entry). HasRead c.args.folder.now (g.M.MediaDir.state c.args.media.now).files order (record { count = at + 1; table = t; total = c.loop-file.total + c.max.result })) (sym added)
          (rw counted (HasRead-more c.args.folder.now _ order read (file_view item) bytes seen.0 seen.1 held (rw counted at c.if-total-gt-MAX_MEDIA_BYTES.false) inv.told));
    }

pub returns : goal.returns
returns g c =
    let inv = c.loop-file.invariant in
    let order = file_views c.args.files.now in
    let all : length order ≤ c.loop-file.file-index = omega (arith, length-map c.args.files.now file_view) in
    (Tells-all c.args.folder.now _ order (record { count = c.loop-file.file-index; table = c.loop-file.table; total = c.loop-file.total }) all inv.told, inv.same)
