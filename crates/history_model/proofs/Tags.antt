-- Equal tags, and which connection's line a line is.
use Rattle.std.proofs.Common.{◌≡◌, ℕ, Bool, true, false, ◌&&◌, ◌==◌, List, refl, ap, ◌∙◌, eq-eqb, eqb-true, if◌then◌else◌}
use Rattle.std.specs.Prelude.{Some, None}
use Rattle.std.proofs.lemmas.Bool.{and_parts}
use Rattle.play_types.specs.declared.event.Tag.{Tag}
use Rattle.history_model.specs.scripts.Line.{Said}
use Rattle.history_model.specs.scripts.History.{PlayedLine, same_tag, text_by}

pub same_tag-equal : (one other : Tag) → same_tag one other ≡ true → one ≡ other
same_tag-equal one other e =
    let parts = and_parts (one.worker == other.worker) (one.session == other.session) e in
    λ i. record { worker = eqb-true one.worker other.worker parts.0 i; session = eqb-true one.session other.session parts.1 i }

-- the text of a line of this connection, which is no line of another
pub text_by-own : (tag : Tag) (line : PlayedLine) (text : List ℕ) → line.line ≡ Said tag text → text_by tag line.line ≡ Some text
text_by-own tag line text says =
    ap (text_by tag) says
    ∙ (λ i. if eq-eqb tag.worker tag.worker refl i && eq-eqb tag.session tag.session refl i then Some text else None)

pub text_by-else : (tag other : Tag) (line : PlayedLine) (text : List ℕ) → line.line ≡ Said tag text → same_tag other tag ≡ false → text_by other line.line ≡ None
text_by-else tag other line text says differ =
    ap (text_by other) says ∙ ap (λ (b : Bool). if b then Some text else None) differ
