use Rattle.std.proofs.Common.{◌≡◌, ◌∷◌, ◌++◌, [], ◌+◌, ◌-◌, length, sym, ap, ◌∙◌, arith, append-nil, vec_len}
use Rattle.std.proofs.lemmas.Result.{MatchResult-from_err}
use Rattle.play_journal.proofs.Blocks.{last_grows}
use Rattle.play_journal.proofs.entries.push_entry.Goals as goal

pub returns-in_err-push-clause-err : goal.returns-in_err-push-clause-err
returns-in_err-push-clause-err c =
    let blocks = c.args.blocks.now in
    let last : vec_len blocks - 1 + 1 ≡ length blocks.items = grind (arith, c.in-Some.ensures.variant) in
    let same = c.in_err-push.ensures.items ∙ ap (λ block. block.items) c.in-Some.ensures.value ∙ sym (append-nil _) in
    let unchanged = last_grows (λ block. block.items) blocks.items (vec_len blocks - 1) c.in-Some.block.now c.push.new.self [] last same ∙ append-nil _ in
    MatchResult-from_err c.from_residual.result _ _ c.from_residual.ensures.0 (λ _. unchanged)

pub returns-clause-ok : goal.returns-clause-ok
returns-clause-ok c =
    let blocks = c.args.blocks.now in
    let last : vec_len blocks - 1 + 1 ≡ length blocks.items = grind (arith, c.in-Some.ensures.variant) in
    let grows = c.in_ok-push.ensures.items ∙ ap (λ block. block.items ++ c.args.entry ∷ []) c.in-Some.ensures.value in
    last_grows (λ block. block.items) blocks.items (vec_len blocks - 1) c.in-Some.block.now c.push.new.self (c.args.entry ∷ []) last grows
