use Rattle.std.proofs.Common.{◌≡◌, [], ◌∷◌, false, refl, lit<}
use Rattle.std.specs.Str.{bytes_eq}
use Rattle.std.proofs.lemmas.Bool.{false_from_ne_true}
use Rattle.std.proofs.lemmas.Slice.Eq.{bytes_eq-Decides}
use Rattle.cmd_parse.proofs.Texts.{one_char}
use Rattle.cmd_parse.proofs.mixer.keyer.Goals as goal

pub returns-in-text : goal.returns-in-text
returns-in-text c = rw (one_char 48 (lit< tt) c.args.word.now c.utf8.word, c.in-text.is) refl

pub returns-in-text-2 : goal.returns-in-text-2
returns-in-text-2 c =
    rw (one_char 48 (lit< tt) c.args.word.now c.utf8.word, one_char 49 (lit< tt) c.args.word.now c.utf8.word, c.in-text-2.is) refl

pub returns-in_default : goal.returns-in_default
returns-in_default c =
    let word = c.args.word.now in
    let no_zero : bytes_eq word (48 ∷ []) ≡ false = false_from_ne_true _ (λ e. c.in_default.not-text ((bytes_eq-Decides word (48 ∷ [])).0 e)) in
    let no_one : bytes_eq word (49 ∷ []) ≡ false = false_from_ne_true _ (λ e. c.in_default.not-text-2 ((bytes_eq-Decides word (49 ∷ [])).0 e)) in
    rw (one_char 48 (lit< tt) word c.utf8.word, one_char 49 (lit< tt) word c.utf8.word, no_zero, no_one) refl
