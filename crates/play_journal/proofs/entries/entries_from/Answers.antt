use Rattle.std.proofs.Common.{◌≡◌, ℕ, ◌∷◌, ◌++◌, ◌+◌, ◌-◌, ◌≤◌, List, drop, length, refl, sym, ap, ◌∙◌, arith}
use Rattle.std.specs.List.{flat_map}
use Rattle.std.proofs.lemmas.List.{drop-drop, drop_at}
use Rattle.play_journal.specs.declared.entries.Entry.{Entry}
use Rattle.play_journal.proofs.entries.entries_from.Goals as goal

-- a whole block was passed over
passed_over : (block rest all : List Entry) (left many : ℕ) → many ≡ length block → many ≤ left → drop left (block ++ rest) ≡ all → drop (left - many) rest ≡ all
passed_over block rest all left many is below eq =
    let parts : many + (left - many) ≡ left = omega (arith, below) in
    ap (λ es. drop (left - many) es) (sym (drop_at block rest many (sym is)))
    ∙ drop-drop (left - many) many (block ++ rest)
    ∙ ap (λ n. drop n (block ++ rest)) parts
    ∙ eq

pub loop-block-preserved : goal.loop-block-preserved
loop-block-preserved c =
    let many : c.len-left.result ≡ length c.in-Some.block.now.items = grind (arith, c.len-left.ensures) in
    passed_over c.in-Some.block.now.items (flat_map (λ block. block.items) c.in-Some.rest.now) _ c.loop-block.left c.len-left.result many
    (grind (arith, c.if-left-len.false, c.len.ensures, c.len-left.ensures))
    (ap (λ blocks. drop c.loop-block.left (flat_map (λ block. block.items) blocks)) (sym c.in-Some.ensures.cases.0) ∙ c.loop-block.invariant)
