use Rattle.std.proofs.Common.{◌||◌, refl, ap, sym, ◌∙◌}
use Rattle.std.specs.List.{list_any}
use Rattle.real_devices.specs.inner.OpenLine.{is_line_end, is_word_byte}
use Rattle.real_devices.proofs.LastEnd.{none_from_end, some_from_end, before_from_end, after_from_end}
use Rattle.real_devices.proofs.open_line.OpenLine.take.Goals as goal

pub returns-in-None-clause-ended : goal.returns-in-None-clause-ended
returns-in-None-clause-ended c =
    rw (none_from_end is_line_end c.args.bytes.now (sym c.after_last_end.ensures ∙ c.in-None.is)) refl

pub returns-in-None-clause-left : goal.returns-in-None-clause-left
returns-in-None-clause-left c =
    rw (none_from_end is_line_end c.args.bytes.now (sym c.after_last_end.ensures ∙ c.in-None.is))
    (ap (λ b. c.args.self.now.has_word || b) c.has_word.ensures)

pub returns-in-Some-clause-ended : goal.returns-in-Some-clause-ended
returns-in-Some-clause-ended c =
    let found = sym c.after_last_end.ensures ∙ c.in-Some.is in
    rw (some_from_end is_line_end c.args.bytes.now c.in-Some.after 0 found)
    (c.replace.ensures.value
    ∙ ap (λ b. c.args.self.now.has_word || b)
    (c.has_word-in-Some.ensures ∙ ap (list_any is_word_byte) (before_from_end is_line_end c.args.bytes.now c.in-Some.after 0 found)))

pub returns-in-Some-clause-left : goal.returns-in-Some-clause-left
returns-in-Some-clause-left c =
    let found = sym c.after_last_end.ensures ∙ c.in-Some.is in
    rw (some_from_end is_line_end c.args.bytes.now c.in-Some.after 0 found)
    (c.replace.ensures.after
    ∙ c.has_word-in-Some-2.ensures
    ∙ ap (list_any is_word_byte) (after_from_end is_line_end c.args.bytes.now c.in-Some.after 0 found))
