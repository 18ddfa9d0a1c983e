-- An entry whose name is above all others goes last.
use Rattle.std.proofs.Common.{◌≡◌, ℕ, suc, ◌<◌, Bool, true, false, List, [], ◌∷◌, ◌++◌, length, refl, ap, ap₂, ◌∙◌, string_bytes, arith, String, Result, All, length-append}
use Rattle.std.specs.Global.{Global}
use Rattle.std.specs.Str.{chars, encode_utf8_all}
use Rattle.std.specs.String.{string_eq}
use Rattle.std.proofs.lemmas.Cmp.{tied_itself, nat_list_cmp_total}
use Rattle.std.proofs.lemmas.List.{map-append}
use Rattle.std.proofs.lemmas.List.Elements.{All-nil, All-cons}
use Rattle.std.proofs.lemmas.Slice.Eq.{bytes_eq-Decides}
use Rattle.indexmap.specs.IndexMap.{insert_entry}
use Rattle.play_types.specs.ClipFile.{ClipView}
use Rattle.play_types.specs.declared.clip_fault.ClipFault.{ClipFault}
use Rattle.clip_format.specs.Table.{Entry, IsBelow, IsAbove, IsRising, IsReady, IsMediaTable}
use Rattle.clip_format.specs.Shown.{entry_of, entries_of}
use Rattle.play_types.specs.declared.media.TheConstants.{MAX_MEDIA_NAMES}

differs : (k x : String Global) (same : Bool) → string_eq k x ≡ same → IsBelow (chars (string_bytes x)) (chars (string_bytes k)) → string_eq k x ≡ false
differs k x false e below = e
differs k x true e below =
    let bytes : string_bytes k ≡ string_bytes x = (bytes_eq-Decides (string_bytes k) (string_bytes x)).0 e in
    let tied = tied_itself nat_list_cmp_total (encode_utf8_all (chars (string_bytes k))) in
    let bad : false ≡ true = rw (← bytes, tied) at below in
    cc

-- an entry whose name is above all others goes last
pub insert_entry-above : (es : List (String Global × Result ClipView ClipFault)) (k : String Global) (v : Result ClipView ClipFault)
    → IsAbove (chars (string_bytes k)) (entries_of es) → insert_entry string_eq es k v ≡ es ++ (k, v) ∷ []
insert_entry-above [] k v above = refl
insert_entry-above (e ∷ es) k v above =
    let first : string_eq k e.0 ≡ false = differs k e.0 (string_eq k e.0) refl (above 0 (entry_of e) (omega arith)) in
    let rest : IsAbove (chars (string_bytes k)) (entries_of es) = λ i d lt. above (suc i) d (omega arith) in
    rw first (ap (λ (l : List (String Global × Result ClipView ClipFault)). e ∷ l) (insert_entry-above es k v rest))

all_append_one : {X : Type 0} (P : X → Type 0) (xs : List X) (x : X) → All P xs → P x → All P (xs ++ x ∷ [])
all_append_one P [] x all last = All-cons P x [] last (All-nil P)
all_append_one P (y ∷ ys) x all last =
    All-cons P y (ys ++ x ∷ []) (all 0 y (omega arith)) (all_append_one P ys x (λ i d lt. all (suc i) d (omega arith)) last)

-- rising names and one above them are rising
IsRising-append : (es : List Entry) (e : Entry) → IsRising es → IsAbove e.name es → IsRising (es ++ e ∷ [])
IsRising-append [] e rising above = (All-nil _, tt)
IsRising-append (x ∷ xs) e rising above =
    (all_append_one (λ later. IsBelow x.name later.name) xs e rising.0 (above 0 x (omega arith)), IsRising-append xs e rising.1 (λ i d lt. above (suc i) d (omega arith)))

-- a table and an entry above it are a table
pub IsMediaTable-append : (es : List Entry) (e : Entry) → IsMediaTable es → length es < MAX_MEDIA_NAMES → IsAbove e.name es → IsReady e.clip → IsMediaTable (es ++ e ∷ [])
IsMediaTable-append es e table few above ready = record {
  few = omega (arith, length-append es (e ∷ []));
  rising = IsRising-append es e table.rising above;
  ready = all_append_one (λ entry. IsReady entry.clip) es e table.ready ready;
}

-- after the insertion the entries are those before it, and the new one
pub entries_of-insert : (es : List (String Global × Result ClipView ClipFault)) (k : String Global) (v : Result ClipView ClipFault) (name : List ℕ) (before : List Entry)
    → chars (string_bytes k) ≡ name → entries_of es ≡ before → IsAbove name before
    → entries_of (insert_entry string_eq es k v) ≡ before ++ record { name = name; clip = v } ∷ []
entries_of-insert es k v name before named shown above =
    let fits : IsAbove (chars (string_bytes k)) (entries_of es) = rw (named, shown) above in
    ap entries_of (insert_entry-above es k v fits) ∙ map-append entry_of es ((k, v) ∷ [])
    ∙ ap₂ (λ (a : List Entry) (n : List ℕ). a ++ record { name = n; clip = v } ∷ []) shown named
