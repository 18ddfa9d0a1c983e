use Rattle.std.proofs.Common.{◌≡◌, true, false, refl, sym, ap, ◌∙◌}
use Rattle.std.specs.Prelude.{Some, option_copied, slice_get}
use Rattle.std.specs.Str.{chars}
use Rattle.play_types.specs.Words.{is_same_name}
use Rattle.history_model.specs.commands.Producer.{clip_producer}
use Rattle.cmd_parse.proofs.Clips.{clip_here, clip_later}
use Rattle.cmd_parse.proofs.line.Line.clip.Goals as goal

pub returns-then-not-is_readable : goal.returns-then-not-is_readable
returns-then-not-is_readable c =
    let line = c.args.self.now in
    let word = chars c.args.word.now in
    let entry = c.unwrap-entry.result.now in
    let here : slice_get line.media c.loop-id.id ≡ Some entry =
    ap (λ l. slice_get l.media c.loop-id.id) (sym c.self.view_is) ∙ sym c.get.ensures ∙ ap option_copied c.unwrap-entry.ensures in
    let same : is_same_name entry.name word ≡ true =
    ap (λ name. is_same_name name word) (sym c.name.ensures ∙ sym c.as_str.ensures) ∙ sym c.is_same_name.ensures ∙ c.if-is_same_name.true in
    let unreadable : entry.readable ≡ false = sym c.is_readable.ensures ∙ c.if-not-is_readable.true in
    sym (ap (clip_producer line) (c.loop-id.invariant ∙ clip_here line.media word c.loop-id.id entry here same) ∙ rw (unreadable, ← c.self.view_is) refl)

pub returns-then-is_same_name : goal.returns-then-is_same_name
returns-then-is_same_name c =
    let line = c.args.self.now in
    let word = chars c.args.word.now in
    let entry = c.unwrap-entry.result.now in
    let here : slice_get line.media c.loop-id.id ≡ Some entry =
    ap (λ l. slice_get l.media c.loop-id.id) (sym c.self.view_is) ∙ sym c.get.ensures ∙ ap option_copied c.unwrap-entry.ensures in
    let same : is_same_name entry.name word ≡ true =
    ap (λ name. is_same_name name word) (sym c.name.ensures ∙ sym c.as_str.ensures) ∙ sym c.is_same_name.ensures ∙ c.if-is_same_name.true in
    let is_readable : entry.readable ≡ true = sym c.is_readable.ensures ∙ c.if-not-is_readable.false in
    sym (ap (clip_producer line) (c.loop-id.invariant ∙ clip_here line.media word c.loop-id.id entry here same) ∙ rw (is_readable, c.frames.ensures.value) refl)

pub loop-id-preserved : goal.loop-id-preserved
loop-id-preserved c =
    let line = c.args.self.now in
    let word = chars c.args.word.now in
    let entry = c.unwrap-entry.result.now in
    let here : slice_get line.media c.loop-id.id ≡ Some entry =
    ap (λ l. slice_get l.media c.loop-id.id) (sym c.self.view_is) ∙ sym c.get.ensures ∙ ap option_copied c.unwrap-entry.ensures in
    let other : is_same_name entry.name word ≡ false =
    ap (λ name. is_same_name name word) (sym c.name.ensures ∙ sym c.as_str.ensures) ∙ sym c.is_same_name.ensures ∙ c.if-is_same_name.false in
    c.loop-id.invariant ∙ clip_later line.media word c.loop-id.id entry here other
