use Rattle.std.proofs.Common.{refl, sym, ap, ◌∙◌, subst}
use Rattle.std.specs.Prelude.{IsSome, Option, Some}
use Rattle.std.proofs.lemmas.Result.{on_ok_weaker}
use Rattle.mixer_state.specs.declared.courses.Courses.{Courses}
use Rattle.mixer_state.specs.Entries.{Table, table_of}
use Rattle.mixer_state.specs.inner.Changes.{with_entry}
use Rattle.mixer_state.proofs.Swaps.{both_replaced, carried, carried_back, second_kept}
use Rattle.mixer_state.proofs.places.Places.swap.Goals as goal

pub returns-in-Some-None-clause-ok : goal.returns-in-Some-None-clause-ok
returns-in-Some-None-clause-ok c =
    let arm = c.in-Some-None in
    let table : Table = table_of c.args.self.now.entries in
    on_ok_weaker c.carry-in-Some-None.result
    (λ moved place.
    ap (λ (t : Table). t place) moved
    ∙ carried c.args.a c.args.b table place arm.courses (sym (c.copied.ensures ∙ c.get.ensures) ∙ arm.is-0) (sym (c.copied-2.ensures ∙ c.get-2.ensures) ∙ arm.is-1))
    c.carry-in-Some-None.ensures.ok

pub returns-in-None-Some-clause-ok : goal.returns-in-None-Some-clause-ok
returns-in-None-Some-clause-ok c =
    let arm = c.in-None-Some in
    let table : Table = table_of c.args.self.now.entries in
    on_ok_weaker c.carry.result
    (λ moved place.
    ap (λ (t : Table). t place) moved
    ∙ carried_back c.args.a c.args.b table place arm.courses (sym (c.copied-2.ensures ∙ c.get-2.ensures) ∙ arm.is-1) (sym (c.copied.ensures ∙ c.get.ensures) ∙ arm.is-0))
    c.carry.ensures.ok

pub replace-requires-in-Some-Some-clause-entry : goal.replace-requires-in-Some-Some-clause-entry
replace-requires-in-Some-Some-clause-entry c =
    let arm = c.in-Some-Some in
    let table : Table = table_of c.args.self.now.entries in
    subst (λ (entry : Option Courses). IsSome entry)
    (sym (ap (λ (t : Table). t c.args.b) c.replace.ensures.entries
    ∙ second_kept c.args.a c.args.b table arm.second (sym (c.copied-2.ensures ∙ c.get-2.ensures) ∙ arm.is-1))) refl

pub returns-in-Some-Some-clause-ok : goal.returns-in-Some-Some-clause-ok
returns-in-Some-Some-clause-ok c place =
    let arm = c.in-Some-Some in
    let table : Table = table_of c.args.self.now.entries in
    ap (λ (t : Table). t place)
    (c.replace-in-Some-Some.ensures.entries ∙ ap (with_entry c.args.b (Some arm.first)) c.replace.ensures.entries)
    ∙ both_replaced c.args.a c.args.b table place arm.first arm.second (sym (c.copied.ensures ∙ c.get.ensures) ∙ arm.is-0)
    (sym (c.copied-2.ensures ∙ c.get-2.ensures) ∙ arm.is-1)
