use Rattle.std.proofs.Common.{◌≡◌, ℕ, ◌+◌, ◌<◌, List, [], ◌∷◌, ◌++◌, length, map, take, get_or, sym, ap, ap₂, ◌∙◌, add-one, arith, rules}
use Rattle.std.specs.Char.{to_ascii_uppercase}
use Rattle.std.proofs.lemmas.List.{length-set, map-append, take_all, take_more_set}
use Rattle.std.proofs.Math.Seq.{take-suc}
use Rattle.osc_status.proofs.producer.in_capitals.Goals as goal

-- one digit more
more-capitals : (digits : List ℕ) (at : ℕ) → at < length digits
    → map to_ascii_uppercase (take at digits) ++ to_ascii_uppercase (get_or digits at 0) ∷ [] ≡ map to_ascii_uppercase (take (at + 1) digits)
more-capitals digits at within =
    sym (ap (λ (n : ℕ). map to_ascii_uppercase (take n digits)) (add-one at) ∙ ap (map to_ascii_uppercase) (take-suc digits at 0 within)
    ∙ map-append to_ascii_uppercase (take at digits) (get_or digits at 0 ∷ []))

pub loop-at-preserved : goal.loop-at-preserved
loop-at-preserved c =
    let eight : length c.args.digits ≡ 8 = search rules in
    let within : c.loop-at.at < length c.args.digits = omega (arith, eight, c.loop-at-test.true) in
    record {
      len = length-set c.loop-at.capitals c.loop-at.at c.to_ascii_uppercase.result ∙ c.loop-at.invariant.len;
      done = take_more_set c.loop-at.capitals c.loop-at.at c.to_ascii_uppercase.result (omega (arith, within, c.loop-at.invariant.len))
          ∙ ap₂ (λ (front : List ℕ) (digit : ℕ). front ++ digit ∷ []) c.loop-at.invariant.done c.to_ascii_uppercase.ensures.value
          ∙ more-capitals c.args.digits c.loop-at.at within;
    }

pub returns : goal.returns
returns c =
    let eight : length c.args.digits ≡ 8 = search rules in
    sym (take_all c.loop-at.at c.loop-at.capitals (omega (arith, eight, c.loop-at.invariant.len, c.loop-at-test.false)))
    ∙ c.loop-at.invariant.done
    ∙ ap (map to_ascii_uppercase) (take_all c.loop-at.at c.args.digits (omega (arith, eight, c.loop-at-test.false)))
