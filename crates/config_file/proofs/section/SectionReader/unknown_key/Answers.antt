use Rattle.std.proofs.Common.{◌≡◌, ◌∙◌, ap, sym, true, false, string_bytes, Some, ℕ, List}
use Rattle.config_file.specs.Section.{is_among, known_names}
use Rattle.config_file.proofs.Unknown.{first_unknown, unknown_of-first, past_known, at_unknown}
use Rattle.config_file.proofs.section.SectionReader.unknown_key.Goals as goal

pub loop-key-init : goal.loop-key-init
loop-key-init c =
    unknown_of-first c.args.self.now.section c.args.self.now.table.now.entries c.keys-key-items.ensures.ordered
    ∙ ap (first_unknown c.args.self.now.section) (sym (c.into_iter-key-iterator.ensures.into_iter_gives ∙ c.keys-key-items.ensures.rest))

pub loop-key-preserved : goal.loop-key-preserved
loop-key-preserved c =
    let known : is_among (known_names c.args.self.now.section) (string_bytes c.in-Some.key.now) ≡ true =
    ap (is_among (known_names c.args.self.now.section)) (sym c.as_str.ensures.value) ∙ (sym c.is_known.ensures ∙ c.if-not-is_known.false) in
    c.loop-key.invariant ∙ past_known c.args.self.now.section _ _ _ c.in-Some.ensures.steps known

pub returns-then-not-is_known : goal.returns-then-not-is_known
returns-then-not-is_known c =
    let unknown : is_among (known_names c.args.self.now.section) (string_bytes c.in-Some.key.now) ≡ false =
    ap (is_among (known_names c.args.self.now.section)) (sym c.as_str.ensures.value) ∙ (sym c.is_known.ensures ∙ c.if-not-is_known.true) in
    sym (c.loop-key.invariant ∙ (at_unknown c.args.self.now.section _ _ _ c.in-Some.ensures.steps unknown ∙ ap (λ (t : List ℕ). Some t) (sym c.as_str-then-not-is_known.ensures.value)))

pub returns : goal.returns
returns c = sym (c.loop-key.invariant ∙ ap (first_unknown c.args.self.now.section) c.in-None.ensures.steps.0)
