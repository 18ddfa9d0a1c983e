use Rattle.std.proofs.Common.{◌≡◌, ℕ, List, [], ◌++◌, map, false, sym, ap, ◌∙◌, arith}
use Rattle.std.specs.List.{flat_map, list_any}
use Rattle.std.specs.Str.{IsUtf8}
use Rattle.std.proofs.lemmas.List.Folds.{flat_map-map}
use Rattle.play_outside.proofs.Gathering.{Sends-gathered}
use Rattle.play_outside.proofs.Following.{added-then, added-left, gathered-left}
use Rattle.play_outside.specs.declared.sink.Sent.TheVariants.{All}
use Rattle.osc_status.specs.declared.arg.OscArg.{OscArg}
use Rattle.osc_status.specs.Texts.{is_zero, padded, without_zeros}
use Rattle.osc_status.specs.Message.{letters, message_bytes, value_bytes}
use Rattle.osc_status.specs.Written.{arg_value, written_message}
use Rattle.osc_status.proofs.Characters.{IsText-chars, begins-chars, written-word}
use Rattle.osc_status.proofs.writing.write_message.Goals as goal

abbrev address_part : List ℕ → List ℕ
address_part address = padded (without_zeros address ++ [])

abbrev letters_part : List OscArg → List ℕ
letters_part args = padded (letters (map arg_value args))

abbrev args_part : List OscArg → List ℕ
args_part args = flat_map (λ arg. value_bytes (arg_value arg)) args

-- a message in the parts in which it is written
message-parts : (address : List ℕ) (args : List OscArg) → IsUtf8 address → list_any is_zero address ≡ false
    → message_bytes (written_message address args) ≡ address_part address ++ (letters_part args ++ args_part args)
message-parts address args utf8 whole =
    ap (λ (text : List ℕ). padded text ++ (letters_part args ++ flat_map value_bytes (map arg_value args))) (sym (written-word address utf8 whole))
    ∙ ap (λ (values : List ℕ). address_part address ++ (letters_part args ++ values)) (flat_map-map value_bytes arg_value args)

pub returns-in_err-add_text-clause-sends : goal.returns-in_err-add_text-clause-sends
returns-in_err-add_text-clause-sends g c =
    rw (message-parts c.args.address.now c.args.args.now c.utf8.address c.requires.address)
    (gathered-left _ _ _ _ _ _
    (added-left _ _ [] (address_part c.args.address.now) (letters_part c.args.args.now ++ args_part c.args.args.now) _ _ _
    (rw (c.new-pieces.ensures, c.as_bytes.ensures.value) at c.add_text.ensures) c.in_err-add_text.ensures c.from_residual.ensures) c.from_residual.ensures c.from_residual.ensures)

pub returns-in_err-add_letters-clause-sends : goal.returns-in_err-add_letters-clause-sends
returns-in_err-add_letters-clause-sends g c =
    rw (message-parts c.args.address.now c.args.args.now c.utf8.address c.requires.address)
    (gathered-left _ _ _ _ _ _
    (added-then _ [] (address_part c.args.address.now) (letters_part c.args.args.now ++ args_part c.args.args.now) _ _ _ _ _
    (rw (c.new-pieces.ensures, c.as_bytes.ensures.value, c.in_ok-add_text.ensures) at c.add_text.ensures)
    (added-left _ _ _ (letters_part c.args.args.now) (args_part c.args.args.now) _ _ _ c.add_letters.ensures c.in_err-add_letters.ensures c.from_residual-in_err-add_letters.ensures))
    c.from_residual-in_err-add_letters.ensures c.from_residual-in_err-add_letters.ensures)

pub returns-in_err-add_args-clause-sends : goal.returns-in_err-add_args-clause-sends
returns-in_err-add_args-clause-sends g c =
    rw (message-parts c.args.address.now c.args.args.now c.utf8.address c.requires.address)
    (gathered-left _ _ _ _ _ _
    (added-then _ [] (address_part c.args.address.now) (letters_part c.args.args.now ++ args_part c.args.args.now) _ _ _ _ _
    (rw (c.new-pieces.ensures, c.as_bytes.ensures.value, c.in_ok-add_text.ensures) at c.add_text.ensures)
    (added-then _ _ (letters_part c.args.args.now) (args_part c.args.args.now) _ _ _ _ _ (rw c.in_ok-add_letters.ensures at c.add_letters.ensures) c.add_args.ensures.adds))
    c.in_err-add_args.ensures c.from_residual-in_err-add_args.ensures)

pub returns-clause-message : goal.returns-clause-message
returns-clause-message g c = λ all. record {
  address = IsText-chars c.args.address.now c.utf8.address c.requires.address;
  slash = begins-chars 47 c.args.address.now (omega arith) c.utf8.address ∙ c.requires.slash;
  args = c.add_args.ensures.fit c.in_ok-add_args.ensures;
}

pub returns-clause-sends : goal.returns-clause-sends
returns-clause-sends g c =
    rw (message-parts c.args.address.now c.args.args.now c.utf8.address c.requires.address)
    (Sends-gathered _ _ _ _ _ _
    (added-then All [] (address_part c.args.address.now) (letters_part c.args.args.now ++ args_part c.args.args.now) _ _ _ _ _
    (rw (c.new-pieces.ensures, c.as_bytes.ensures.value, c.in_ok-add_text.ensures) at c.add_text.ensures)
    (added-then All _ (letters_part c.args.args.now) (args_part c.args.args.now) _ _ _ _ _ (rw c.in_ok-add_letters.ensures at c.add_letters.ensures)
    (rw c.in_ok-add_args.ensures at c.add_args.ensures.adds)))
    c.finish.ensures.sends)
