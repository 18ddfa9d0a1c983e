use Rattle.std.proofs.Common.{◌≡◌, ℕ, List, ◌++◌, false, subst}
use Rattle.std.specs.Str.{IsUtf8}
use Rattle.std.specs.List.{list_any}
use Rattle.play_outside.specs.Gathered.{Adds}
use Rattle.osc_status.specs.Texts.{is_zero, padded}
use Rattle.osc_status.proofs.Characters.{IsText-chars, written-word}
use Rattle.osc_status.proofs.writing.add_arg.Goals as goal

pub returns-in-Word-clause-fits : goal.returns-in-Word-clause-fits
returns-in-Word-clause-fits g c =
    let whole : list_any is_zero c.in-Word.word.now ≡ false = rw c.in-Word.is at c.requires in
    let utf8 : IsUtf8 c.in-Word.word.now = rw c.as_bytes.ensures.value at c.as_bytes.ensures.utf8 in
    rw c.in-Word.is (IsText-chars c.in-Word.word.now utf8 whole)

pub returns-in-Word-clause-adds : goal.returns-in-Word-clause-adds
returns-in-Word-clause-adds g c =
    let whole : list_any is_zero c.in-Word.word.now ≡ false = rw c.in-Word.is at c.requires in
    let utf8 : IsUtf8 c.in-Word.word.now = rw c.as_bytes.ensures.value at c.as_bytes.ensures.utf8 in
    rw c.in-Word.is
    (subst (λ (text : List ℕ). Adds c.add_text.result (c.args.pieces.now ++ padded text) c.add_text.new.pieces (g.K.Sink.state c.args.to.now) (g.K.Sink.state c.add_text.new.to))
    (written-word c.in-Word.word.now utf8 whole) (rw c.as_bytes.ensures.value at c.add_text.ensures))
