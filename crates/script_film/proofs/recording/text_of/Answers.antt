use Rattle.std.proofs.Common.{◌≡◌, refl, sym, ap, ◌∙◌, subst}
use Rattle.std.specs.Prelude.{IfOk, Result, Ok, Err}
use Rattle.std.specs.Result.{IsOk, MatchResult}
use Rattle.std.specs.Str.{IsUtf8, chars}
use Rattle.std.proofs.lemmas.Str.{IsUtf8-from_ascii, chars-IsAscii}
use Rattle.script_film.proofs.Films.{name_is_ascii}
use Rattle.script_film.proofs.recording.text_of.Goals as goal

-- a result is `Ok` if no error is possible
read : {T E : Type 0} (result : Result T E) (P : T → Type 0) (Q : E → Type 0) → MatchResult result P Q → ((error : E) → ¬ Q error) → IsOk result
read (Ok value) P Q cases none = refl
read (Err error) P Q cases none = absurd (none error cases)

pub unwrap-requires : goal.unwrap-requires
unwrap-requires c =
    let name = c.args.name.now in
    let utf8 = subst IsUtf8 (sym c.as_bytes.ensures.value) (IsUtf8-from_ascii name (name_is_ascii name c.as_bytes.ensures.reads_back)) in
    read c.from_utf8.result _ _ c.from_utf8.ensures.cases (λ error is. is.0 utf8)

pub returns : goal.returns
returns c =
    let name = c.args.name.now in
    let read = rw c.unwrap.ensures at c.from_utf8.ensures.cases in
    subst (λ value. IfOk c.copy.result (λ text. text ≡ value))
    (ap chars (read.0 ∙ c.as_bytes.ensures.value) ∙ chars-IsAscii name (name_is_ascii name c.as_bytes.ensures.reads_back))
    c.copy.ensures
