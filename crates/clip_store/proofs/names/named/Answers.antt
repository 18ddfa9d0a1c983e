use Rattle.std.proofs.Common.{◌++◌, ◌∷◌, [], List, map, take, string_bytes, sym, ap, ap₂, ◌∙◌, append-nil}
use Rattle.std.specs.Prelude.{Option, option_map}
use Rattle.std.specs.Global.{Vec}
use Rattle.std.specs.List.{cons_option}
use Rattle.std.proofs.lemmas.List.{map-append}
use Rattle.clip_store.specs.declared.names.ClipFile.{ClipFile}
use Rattle.clip_store.specs.inner.Kept.{file_view, file_views}
use Rattle.clip_store.specs.Listing.{Found, clip_file, clip_files}
use Rattle.clip_store.proofs.ClipFiles.{clip_files-more}
use Rattle.clip_store.proofs.names.named.Goals as goal
use Rattle.clip_store.proofs.names.named.Goals.{in-Some+in_ok-push, in_default}

pub loop-file-preserved : goal.loop-file-preserved
loop-file-preserved c =
    let more = clip_files-more c.args.listed.now c.loop-file.file-index c.file-item.result (option_map file_view c.in_ok-found.field-0) c.loop-file-test.true (sym c.file-item.is)
    (c.in_ok-found.ensures ∙ ap clip_file c.as_str.ensures.value) in
    let done = clip_files (map string_bytes (take c.loop-file.file-index c.args.listed.now)) in
    elim c.match-branch-2.branch [
      | in-Some+in_ok-push w ↦
          ap (λ (v : Vec ClipFile). file_views v.items) w.files-is ∙ ap file_views w.in_ok-push.ensures.items
          ∙ map-append file_view c.loop-file.files.items (w.in-Some.found ∷ [])
          ∙ ap₂ (λ (front : List Found) (o : Option ClipFile). front ++ cons_option (option_map file_view o) []) c.loop-file.invariant (sym w.in-Some.is)
          ∙ sym more
      | in_default w ↦
          ap (λ (v : Vec ClipFile). file_views v.items) w.files-is ∙ c.loop-file.invariant ∙ sym (append-nil done)
          ∙ ap (λ (o : Option ClipFile). done ++ cons_option (option_map file_view o) []) (sym w.in_default.is)
          ∙ sym more
    ]
