use Rattle.std.proofs.Common.{◌≡◌, ◌+◌, ◌-◌, ◌%◌, ℕ, List, [], ◌∷◌, ◌++◌, length, replicate, map, refl, ap, ◌∙◌, arith}
use Rattle.std.specs.List.{flat_map}
use Rattle.std.proofs.lemmas.List.{drop-replicate, length-map, take-replicate}
use Rattle.play_outside.proofs.Following.{added-then, added-left}
use Rattle.osc_status.specs.declared.arg.OscArg.{OscArg}
use Rattle.osc_status.specs.Texts.{padded}
use Rattle.osc_status.specs.Message.{letter, letters}
use Rattle.osc_status.specs.Written.{arg_value}
use Rattle.osc_status.proofs.writing.add_letters.Goals as goal

-- the letters, one after another
abbrev each : List OscArg → List ℕ
each args = flat_map (λ arg. letter (arg_value arg) ∷ []) args

abbrev zeros : List OscArg → List ℕ
zeros args = replicate (4 - (length args + 1) % 4) 0

each-letter : (args : List OscArg) → map letter (map arg_value args) ≡ each args
each-letter [] = refl
each-letter (arg ∷ args) = ap (λ (more : List ℕ). letter (arg_value arg) ∷ more) (each-letter args)

-- a comma, the letters, and their padding
letters-parts : (args : List OscArg) → padded (letters (map arg_value args)) ≡ 44 ∷ (each args ++ zeros args)
letters-parts args =
    let len : length (letters (map arg_value args)) ≡ length args + 1 = omega (arith, length-map (map arg_value args) letter, length-map args arg_value) in
    ap (λ (n : ℕ). letters (map arg_value args) ++ replicate {A = ℕ} (4 - n % 4) 0) len
    ∙ ap (λ (more : List ℕ). 44 ∷ (more ++ zeros args)) (each-letter args)

pub returns-in_err-add : goal.returns-in_err-add
returns-in_err-add g c =
    rw (letters-parts c.args.args.now)
    (added-left _ _ c.args.pieces.now (44 ∷ []) (each c.args.args.now ++ zeros c.args.args.now) _ _ _ c.add.ensures.adds c.in_err-add.ensures c.from_residual.ensures)

pub returns-in_err-add_each_letter : goal.returns-in_err-add_each_letter
returns-in_err-add_each_letter g c =
    rw (letters-parts c.args.args.now)
    (added-then _ c.args.pieces.now (44 ∷ []) (each c.args.args.now ++ zeros c.args.args.now) _ _ _ _ _ (rw c.in_ok-add.ensures at c.add.ensures.adds)
    (added-left _ _ _ (each c.args.args.now) (zeros c.args.args.now) _ _ _ c.add_each_letter.ensures c.in_err-add_each_letter.ensures c.from_residual-in_err-add_each_letter.ensures))

pub returns : goal.returns
returns g c =
    rw (letters-parts c.args.args.now)
    (added-then _ c.args.pieces.now (44 ∷ []) (each c.args.args.now ++ zeros c.args.args.now) _ _ _ _ _ (rw c.in_ok-add.ensures at c.add.ensures.adds)
    (added-then _ _ (each c.args.args.now) (zeros c.args.args.now) _ _ _ _ _ (rw c.in_ok-add_each_letter.ensures at c.add_each_letter.ensures)
    (rw (drop-replicate {X = ℕ} ((length c.args.args.now + 1) % 4) 4 0, take-replicate {X = ℕ} (4 - (length c.args.args.now + 1) % 4) (4 - (length c.args.args.now + 1) % 4) 0 (omega arith)) at c.add-2.ensures.adds)))
