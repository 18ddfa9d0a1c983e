-- Entries of the media table by their numbers.
use Rattle.std.proofs.Common.{◌≡◌, ℕ, ◌+◌, List, [], ◌∷◌, ◌++◌, take, get_or, ap, sym, subst, ◌∙◌, String, Result}
use Rattle.std.specs.Prelude.{Some, option_map, slice_get, unwrap_or}
use Rattle.std.specs.Global.{Global}
use Rattle.std.proofs.lemmas.Option.{slice_get-map, slice_get_within, unwrap_or-slice_get}
use Rattle.std.proofs.lemmas.List.{map-append, take_more}
use Rattle.play_types.specs.ClipFile.{ClipView}
use Rattle.play_types.specs.declared.clip_fault.ClipFault.{ClipFault}
use Rattle.clip_format.specs.Table.{Entry, IsReady, IsMediaTable, media_name, media_names}
use Rattle.clip_format.specs.Shown.{entry_of, entries_of}

-- the entry that is kept at a place is shown there
pub entry_at : (kept : List (String Global × Result ClipView ClipFault)) (shown : List Entry) (id : ℕ) (entry : String Global × Result ClipView ClipFault)
    → entries_of kept ≡ shown → Some entry ≡ slice_get kept id → slice_get shown id ≡ Some (entry_of entry)
entry_at kept shown id entry is at =
    rw (← is) (slice_get-map entry_of kept id ∙ ap (option_map entry_of) (sym at))

item_at : (entries : List Entry) (id : ℕ) (entry : Entry) → slice_get entries id ≡ Some entry → get_or entries id entry ≡ entry
item_at entries id entry at = sym (unwrap_or-slice_get entries id entry) ∙ ap (λ o. unwrap_or o entry) at

-- the clip of an entry of a table is lowered
pub ready_at : (entries : List Entry) (id : ℕ) (entry : Entry) → IsMediaTable entries → slice_get entries id ≡ Some entry → IsReady entry.clip
ready_at entries id entry table at =
    subst (λ (e : Entry). IsReady e.clip) (item_at entries id entry at) (table.ready id entry (slice_get_within entries id entry at))

-- the names of the first entries, and of one more
pub media_names-more : (entries : List Entry) (id : ℕ) (entry : Entry) → slice_get entries id ≡ Some entry
    → media_names (take (id + 1) entries) ≡ media_names (take id entries) ++ media_name entry.name entry.clip ∷ []
media_names-more entries id entry at =
    ap media_names (take_more entries id entry (slice_get_within entries id entry at) ∙ ap (λ (e : Entry). take id entries ++ e ∷ []) (item_at entries id entry at))
    ∙ map-append _ (take id entries) (entry ∷ [])
