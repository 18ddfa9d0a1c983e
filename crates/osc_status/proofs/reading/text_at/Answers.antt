use Rattle.std.proofs.Common.{◌≡◌, true, inl, inr, refl}
use Rattle.std.specs.Str.{is_utf8}
use Rattle.std.proofs.lemmas.Bool.{cases_Bool}
use Rattle.std.proofs.lemmas.Str.{IsUtf8-from_is_utf8, is_utf8-from_IsUtf8}
use Rattle.osc_status.specs.inner.Reading.{text_at}
use Rattle.osc_status.proofs.reading.text_at.Goals as goal

pub returns-in-Ok : goal.returns-in-Ok
unfolding text_at
returns-in-Ok c =
    let found = rw c.in_ok-word.was at c.padded_at.ensures in
    let test : is_utf8 c.in_ok-word.word.now ≡ true = is_utf8-from_IsUtf8 c.in_ok-word.word.now c.in-Ok.ensures.cases.1 in
    rw (← found) (rw (test, c.in-Ok.ensures.cases.0) refl)

pub returns-in-Err : goal.returns-in-Err
unfolding text_at
returns-in-Err c =
    let found = rw c.in_ok-word.was at c.padded_at.ensures in
    rw (← found)
    (elim (cases_Bool (is_utf8 c.in_ok-word.word.now)) [
      | inl test ↦ absurd (c.in-Err.ensures.cases.0 (IsUtf8-from_is_utf8 c.in_ok-word.word.now test))
      | inr test ↦ rw test refl
    ])
