-- Clip files that are read one after another.
use Rattle.std.proofs.Common.{◌≡◌, ℕ, zero, suc, ◌+◌, ◌<◌, ◌≤◌, true, List, [], ◌∷◌, ◌++◌, length, map, take, drop, get_or, cond, refl, sym, ap, ap₂, subst, ◌∙◌, take_all, Result, Ok, Err, IsUtf8, encode_utf8_all, All, arith}
use Rattle.std.specs.Prelude.{Option, Some, None, max, nat_lt, unwrap_or}
use Rattle.std.specs.Ordering.{nat_cmp, is_lt}
use Rattle.std.specs.Cmp.Lexicographic.{slice_cmp}
use Rattle.std.specs.Str.{chars}
use Rattle.std.proofs.lemmas.Bool.{lt-ltb, le-ltb}
use Rattle.std.proofs.lemmas.List.{map-append, take_more, drop_more, drop_all, length-map, get_or-map}
use Rattle.std.proofs.lemmas.List.Elements.{All-nil, All-cons, All-map}
use Rattle.play_types.proofs.Texts.{encode_utf8_all-chars}
use Rattle.play_types.specs.ClipFile.{ClipView}
use Rattle.play_outside.specs.FolderState.{Files}
use Rattle.play_outside.specs.Folder.{IsHeld, bytes_at}
use Rattle.play_types.specs.declared.clip_fault.ClipFault.{ClipFault}
use Rattle.clip_format.specs.Decoding.{clip_of}
use Rattle.clip_format.specs.Table.{Entry, IsAbove}
use Rattle.clip_store.specs.declared.fault.ScanFault.TheVariants.{TooLarge}
use Rattle.clip_store.specs.declared.names.ClipFile.{ClipFile}
use Rattle.clip_store.specs.inner.Kept.{file_view, file_views}
use Rattle.clip_store.specs.Listing.{Found}
use Rattle.clip_store.specs.inner.Orders.{IsStrict}
use Rattle.clip_store.specs.declared.reading.TheConstants.{MAX_MEDIA_BYTES}
use Rattle.clip_store.specs.Scan.{bytes_of, kept_clip, entry, weight, first_above, table_of, Tells}

-- the progress of reading: how many files were read, their table, and the sum of their lengths
pub record Progress : Type 0 where
  pub count : ℕ
  pub table : List Entry
  pub total : ℕ

-- the progress after one more file, with these bytes
abbrev pub after_file : Progress → Found → List ℕ → Progress
after_file read found bytes = record {
  count = read.count + 1;
  table = read.table ++ record { name = chars found.name; clip = kept_clip (clip_of bytes) } ∷ [];
  total = read.total + max (length bytes) 1;
}

-- the table and the sum are those of the first `count` files, if the folder's files are known
abbrev pub HasRead : List ℕ → Option Files → List Found → Progress → Type 0
HasRead folder None order read = Unit {0}
HasRead folder (Some files) order read =
    (read.table ≡ map (entry folder files) (take read.count order))
    × (first_above 0 (map (weight folder files) order) ≡ first_above read.total (map (weight folder files) (drop read.count order)))

-- the first sum above the limit, from the next file on
first_above-more : (folder : List ℕ) (files : Files) (order : List Found) (at total : ℕ) (found : Found) (bytes : List ℕ) → at < length order → get_or order at found ≡ found
    → bytes_of folder files found ≡ bytes
    → first_above total (map (weight folder files) (drop at order))
    ≡ cond (nat_lt MAX_MEDIA_BYTES (total + max (length bytes) 1)) (Some (total + max (length bytes) 1)) (first_above (total + max (length bytes) 1) (map (weight folder files) (drop (at + 1) order)))
first_above-more folder files order at total found bytes within is held =
    let rest : drop at order ≡ found ∷ drop (at + 1) order = drop_more order at found within ∙ ap (λ (f : Found). f ∷ drop (at + 1) order) is in
    rw (rest, held) refl

-- one more file was read
pub HasRead-more : (folder : List ℕ) (o : Option Files) (order : List Found) (read : Progress) (found : Found) (bytes : List ℕ) → read.count < length order → get_or order read.count found ≡ found
    → IsHeld (bytes_at folder found.file) bytes o → read.total + max (length bytes) 1 ≤ MAX_MEDIA_BYTES → HasRead folder o order read
    → HasRead folder o order (after_file read found bytes)
HasRead-more folder None order read found bytes within is held few so = tt
HasRead-more folder (Some files) order read found bytes within is held few so =
    let at = read.count in
    let same : bytes_of folder files found ≡ bytes = ap (λ o. unwrap_or o []) held in
    let one : entry folder files found ≡ record { name = chars found.name; clip = kept_clip (clip_of bytes) } =
    ap (λ (b : List ℕ). record { name = chars found.name; clip = kept_clip (clip_of b) }) same in
    let front : take (at + 1) order ≡ take at order ++ found ∷ [] = take_more order at found within ∙ ap (λ (f : Found). take at order ++ f ∷ []) is in (
      ap₂ (λ (t : List Entry) (e : Entry). t ++ e ∷ []) so.0 (sym one) ∙ sym (map-append (entry folder files) (take at order) (found ∷ [])) ∙ ap (map (entry folder files)) (sym front),
      so.1 ∙ first_above-more folder files order at read.total found bytes within is same ∙ rw (le-ltb MAX_MEDIA_BYTES (read.total + max (length bytes) 1) few) refl,
    )

-- the files are too large with this one
pub Tells-large : (folder : List ℕ) (o : Option Files) (order : List Found) (read : Progress) (found : Found) (bytes : List ℕ) → read.count < length order → get_or order read.count found ≡ found
    → IsHeld (bytes_at folder found.file) bytes o → MAX_MEDIA_BYTES < read.total + max (length bytes) 1 → HasRead folder o order read
    → Tells (λ files. table_of folder files order) (Err (TooLarge (read.total + max (length bytes) 1))) o
unfolding table_of
Tells-large folder None order read found bytes within is held many so = tt
Tells-large folder (Some files) order read found bytes within is held many so =
    let same : bytes_of folder files found ≡ bytes = ap (λ o. unwrap_or o []) held in
    let above : first_above 0 (map (weight folder files) order) ≡ Some (read.total + max (length bytes) 1) =
    so.1 ∙ first_above-more folder files order read.count read.total found bytes within is same ∙ rw (lt-ltb MAX_MEDIA_BYTES (read.total + max (length bytes) 1) many) refl in
    rw above refl

-- all files were read
pub Tells-all : (folder : List ℕ) (o : Option Files) (order : List Found) (read : Progress) → length order ≤ read.count → HasRead folder o order read
    → Tells (λ files. table_of folder files order) (Ok read.table) o
unfolding table_of
Tells-all folder None order read all so = tt
Tells-all folder (Some files) order read all so =
    let nothing : drop read.count order ≡ [] = drop_all read.count order all in
    let above : first_above 0 (map (weight folder files) order) ≡ None = so.1 ∙ ap (λ (fs : List Found). first_above read.total (map (weight folder files) fs)) nothing in
    let whole : read.table ≡ map (entry folder files) order = so.0 ∙ ap (map (entry folder files)) (take_all read.count order all) in
    rw (above, whole) refl

-- the bytes of a name
abbrev pub name_bytes : Entry → List ℕ
name_bytes e = encode_utf8_all e.name

-- the names in the table after one more file
pub names-more : (order : List Found) (at : ℕ) (table : List Entry) (found : Found) (clip : Result ClipView ClipFault) → at < length order → get_or order at found ≡ found → IsUtf8 found.name
    → map name_bytes table ≡ map (λ (f : Found). f.name) (take at order)
    → map name_bytes (table ++ record { name = chars found.name; clip = clip } ∷ []) ≡ map (λ (f : Found). f.name) (take (at + 1) order)
names-more order at table found clip within is text so =
    let front : take (at + 1) order ≡ take at order ++ found ∷ [] = take_more order at found within ∙ ap (λ (f : Found). take at order ++ f ∷ []) is in
    map-append name_bytes table (record { name = chars found.name; clip = clip } ∷ [])
    ∙ ap₂ (λ (ns : List (List ℕ)) (n : List ℕ). ns ++ n ∷ []) so (encode_utf8_all-chars found.name text)
    ∙ sym (map-append (λ (f : Found). f.name) (take at order) (found ∷ [])) ∙ ap (map (λ (f : Found). f.name)) (sym front)

read_map : (table : List Entry) (i : ℕ) (d : Entry) → get_or (map name_bytes table) i (name_bytes d) ≡ name_bytes (get_or table i d)
read_map [] i d = refl
read_map (e ∷ es) zero d = refl
read_map (e ∷ es) (suc i) d = read_map es i d

-- the names before a file are below its own
strict_below : (order : List Found) (at : ℕ) (found : Found) → IsStrict order → at < length order → get_or order at found ≡ found
    → All (λ (f : Found). is_lt (slice_cmp nat_cmp f.name found.name) ≡ true) (take at order)
strict_below [] at found strict within is = absurd (omega arith)
strict_below (x ∷ xs) zero found strict within is = All-nil (λ (f : Found). is_lt (slice_cmp nat_cmp f.name found.name) ≡ true)
strict_below (x ∷ xs) (suc at) found strict within is =
    All-cons (λ (f : Found). is_lt (slice_cmp nat_cmp f.name found.name) ≡ true) x (take at xs)
    (subst (λ (f : Found). is_lt (slice_cmp nat_cmp x.name f.name) ≡ true) is (strict.0 at found (omega arith)))
    (strict_below xs at found strict.1 (omega arith) is)

-- the name of a file is above those of the files before it
pub IsAbove-names : (order : List Found) (at : ℕ) (table : List Entry) (found : Found) → IsStrict order → at < length order → get_or order at found ≡ found → IsUtf8 found.name
    → map name_bytes table ≡ map (λ (f : Found). f.name) (take at order) → IsAbove (chars found.name) table
IsAbove-names order at table found strict within is text so =
    let names : All (λ (n : List ℕ). is_lt (slice_cmp nat_cmp n found.name) ≡ true) (map (λ (f : Found). f.name) (take at order)) =
    All-map (λ (n : List ℕ). is_lt (slice_cmp nat_cmp n found.name) ≡ true) (λ (f : Found). f.name) (take at order) (strict_below order at found strict within is) in
    let kept = subst (λ ns. All (λ (n : List ℕ). is_lt (slice_cmp nat_cmp n found.name) ≡ true) ns) (sym so) names in
    λ i d lt.
    let lower = kept i (name_bytes d) (omega (arith, length-map table name_bytes)) in
    let at_i = subst (λ n. is_lt (slice_cmp nat_cmp n found.name) ≡ true) (read_map table i d) lower in
    subst (λ n. is_lt (slice_cmp nat_cmp (name_bytes (get_or table i d)) n) ≡ true) (sym (encode_utf8_all-chars found.name text)) at_i

-- a clip file of the code as one of the definitions, by its index
pub view_at : (files : List ClipFile) (at : ℕ) (item : ClipFile) → at < length files → item ≡ get_or files at item
    → (at < length (file_views files)) × (get_or (file_views files) at (file_view item) ≡ file_view item)
view_at files at item within is = (
  omega (arith, length-map files file_view),
  get_or-map file_view files at item (file_view item) within ∙ ap file_view (sym is),
)
