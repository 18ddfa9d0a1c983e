-- Clip files among the files of a folder.
use Rattle.std.proofs.Common.{◌≡◌, ℕ, ◌+◌, ◌<◌, List, [], ◌∷◌, ◌++◌, length, map, take, get_or, sym, ap, ◌∙◌, string_bytes, String}
use Rattle.std.specs.Prelude.{Option}
use Rattle.std.specs.Global.{Global}
use Rattle.std.specs.List.{cons_option}
use Rattle.std.proofs.lemmas.List.{map-append, take_more}
use Rattle.std.proofs.lemmas.List.Elements.{filter_map-append}
use Rattle.clip_store.specs.Listing.{Found, clip_file, clip_files}

-- one more file was looked at
pub clip_files-more : (listed : List (String Global)) (i : ℕ) (item : String Global) (found : Option Found) → i < length listed → get_or listed i item ≡ item → found ≡ clip_file (string_bytes item)
    → clip_files (map string_bytes (take (i + 1) listed)) ≡ clip_files (map string_bytes (take i listed)) ++ cons_option found []
clip_files-more listed i item found within at is =
    let front : take (i + 1) listed ≡ take i listed ++ item ∷ [] = take_more listed i item within ∙ ap (λ (x : String Global). take i listed ++ x ∷ []) at in
    ap (λ (xs : List (String Global)). clip_files (map string_bytes xs)) front
    ∙ ap clip_files (map-append string_bytes (take i listed) (item ∷ []))
    ∙ filter_map-append clip_file (map string_bytes (take i listed)) (string_bytes item ∷ [])
    ∙ ap (λ (f : Option Found). clip_files (map string_bytes (take i listed)) ++ cons_option f []) (sym is)
