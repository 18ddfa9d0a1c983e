-- The name of a clip in quotation marks, as bytes: they are a text, and have no line end.
use Rattle.std.proofs.Common.{◌≡◌, ℕ, ◌+◌, ◌<◌, ◌==◌, true, false, List, [], ◌∷◌, ◌++◌, get_or, length, refl, sym, ap, ◌∙◌, subst, arith, inl, inr, append-nil, length-append}
use Rattle.std.specs.Prelude.{codes, flat_map, encode_utf8_all}
use Rattle.std.specs.List.{list_any}
use Rattle.std.specs.Str.{IsUtf8, all_scalars}
use Rattle.std.specs.Char.{encode_utf8, IsScalar}
use Rattle.std.proofs.lemmas.Bool.{and_parts, cases_Bool, ne_eqb, or_from}
use Rattle.std.proofs.lemmas.Grind.{get_or_default_zero}
use Rattle.std.proofs.lemmas.List.Folds.{list_any-append, list_any_none}
use Rattle.std.proofs.lemmas.Str.{IsUtf8-append, IsUtf8-encode, IsUtf8-nil, encodes-append, inside_one}
use Rattle.amcp_text.specs.Lines.{is_line_end}
use Rattle.amcp_text.specs.Escapes.{escaped, quoted}
use Rattle.amcp_text.proofs.Escapes.{quoted-parts}
use Rattle.history_replay.proofs.Tagged.{HasBareEnd, HasBareEnd-append}

-- bytes that are a text and have no line end
pub record IsInLine (bytes : List ℕ) : Type 0 where
  pub utf8 : IsUtf8 bytes
  pub one : list_any is_line_end bytes ≡ false

pub IsInLine-nil : IsInLine []
IsInLine-nil = record { utf8 = IsUtf8-nil; one = refl }

pub IsInLine-append : (a b : List ℕ) → IsInLine a → IsInLine b → IsInLine (a ++ b)
IsInLine-append a b x y = record {
  utf8 = IsUtf8-append a b x.utf8 y.utf8;
  one = list_any-append is_line_end a b ∙ or_from (list_any is_line_end a) (list_any is_line_end b) x.one y.one;
}

-- a character that is no line feed has no such byte
encode_one : (c : ℕ) → (c == 10) ≡ false → list_any is_line_end (encode_utf8 c) ≡ false
encode_one c other =
    list_any_none is_line_end (encode_utf8 c)
    (λ k d inside. ne_eqb (get_or (encode_utf8 c) k d) 10 (λ e. found k inside (sym (get_or_default_zero (encode_utf8 c) k d inside) ∙ e)))
  where
    found : (k : ℕ) → k < length (encode_utf8 c) → get_or (encode_utf8 c) k 0 ≡ 10 → ⊥
    found k inside e =
        let same : c ≡ 10 = inside_one c [] (encode_utf8 c) k (sym (append-nil (encode_utf8 c))) inside (omega (arith, e)) ∙ e in
        cc

character_in_line : (c : ℕ) → IsScalar c → (c == 10) ≡ false → IsInLine (encode_utf8_all (c ∷ []))
character_in_line c scalar other =
    subst IsInLine (sym (append-nil (encode_utf8 c))) (record { utf8 = IsUtf8-encode c scalar; one = encode_one c other })

escaped_in_line : (c : ℕ) → IsScalar c → IsInLine (encode_utf8_all (escaped c))
unfolding encode_utf8
escaped_in_line c scalar = elim (cases_Bool (c == 34)) [
  | inl is ↦ rw is (record { utf8 = (codes "\\\"", (refl, refl)); one = refl })
  | inr mark ↦ elim (cases_Bool (c == 92)) [
    | inl is ↦ rw (mark, is) (record { utf8 = (codes "\\\\", (refl, refl)); one = refl })
    | inr slash ↦ elim (cases_Bool (c == 10)) [
      | inl is ↦ rw (mark, slash, is) (record { utf8 = (codes "\\n", (refl, refl)); one = refl })
      | inr feed ↦ rw (mark, slash, feed) (character_in_line c scalar feed)
    ]
  ]
]

name_in_line : (name : List ℕ) → all_scalars name ≡ true → IsInLine (encode_utf8_all (flat_map escaped name))
name_in_line [] scalars = IsInLine-nil
name_in_line (c ∷ name) scalars =
    let parts = and_parts _ _ scalars in
    rw (encodes-append (escaped c) (flat_map escaped name))
    (IsInLine-append (encode_utf8_all (escaped c)) (encode_utf8_all (flat_map escaped name)) (escaped_in_line c parts.0) (name_in_line name parts.1))

mark_in_line : IsInLine (34 ∷ [])
unfolding encode_utf8
mark_in_line = record { utf8 = (34 ∷ [], (refl, refl)); one = refl }

pub quoted_in_line : (name : List ℕ) → all_scalars name ≡ true → IsInLine (encode_utf8_all (quoted name))
quoted_in_line name scalars =
    let inside = encode_utf8_all (flat_map escaped name) in
    subst IsInLine (sym (quoted-parts name))
    (IsInLine-append (34 ∷ inside) (34 ∷ []) (IsInLine-append (34 ∷ []) inside mark_in_line (name_in_line name scalars)) mark_in_line)

pub quoted_end : (name : List ℕ) → HasBareEnd (encode_utf8_all (quoted name))
quoted_end name =
    subst HasBareEnd (sym (quoted-parts name))
    (HasBareEnd-append (34 ∷ encode_utf8_all (flat_map escaped name)) (34 ∷ []) (record { some = omega arith; bare = refl }))

pub length-quoted : (name : List ℕ) → length (encode_utf8_all (quoted name)) ≡ length (encode_utf8_all (flat_map escaped name)) + 2
length-quoted name =
    let inside = encode_utf8_all (flat_map escaped name) in
    ap length (quoted-parts name) ∙ omega (arith, length-append (34 ∷ inside) (34 ∷ []))
