use Rattle.std.proofs.Common.{◌≡◌, true, false, sym, ap, ◌∙◌, map}
use Rattle.std.specs.Prelude.{Some}
use Rattle.std.specs.Char.{to_ascii_uppercase}
use Rattle.play_types.specs.RecNames.{is_rec_word}
use Rattle.play_types.proofs.RecNames.{IsKept-capitals, kept_capitals, no_name, some_name}
use Rattle.play_types.proofs.rec_name.RecName.read.Goals as goal

pub returns-then-not-is_rec_word : goal.returns-then-not-is_rec_word
returns-then-not-is_rec_word c =
    let word = c.args.word.now in
    let no : is_rec_word word ≡ false = ap is_rec_word (sym c.as_bytes-word.ensures.value) ∙ sym c.is_rec_word.ensures ∙ c.if-not-is_rec_word.true in
    sym (no_name word c.utf8.word no)

pub invariant_of-result : goal.invariant_of-result
invariant_of-result c =
    let word = c.as_bytes-word.result.now in
    let yes : is_rec_word word ≡ true = sym c.is_rec_word.ensures ∙ c.if-not-is_rec_word.false in
    IsKept-capitals word c.in_capitals.result yes c.in_capitals.ensures

pub returns : goal.returns
returns c =
    let word = c.as_bytes-word.result.now in
    let is = c.as_bytes-word.ensures.value in
    let yes : is_rec_word c.args.word.now ≡ true = ap is_rec_word (sym is) ∙ sym c.is_rec_word.ensures ∙ c.if-not-is_rec_word.false in
    ap Some (kept_capitals word c.in_capitals.result c.in_capitals.ensures ∙ ap (map to_ascii_uppercase) is)
    ∙ sym (some_name c.args.word.now c.utf8.word yes)
