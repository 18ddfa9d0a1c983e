use Rattle.std.proofs.Common.{rules, ◌≡◌, false, cond, not, ◌&&◌, ◌++◌, Ok, refl, sym, ap, ◌∙◌, append-nil}
use Rattle.std.specs.Prelude.{Some, None, is_some, string_bytes}
use Rattle.std.specs.Option.{option_to_list}
use Rattle.std.specs.Str.{chars}
use Rattle.std.proofs.lemmas.Bool.{ne_eqb}
use Rattle.std.proofs.lemmas.Str.{IsUtf8-string_bytes}
use Rattle.amcp_text.proofs.ReadingText.{turned_none, turned_some, none_from_test, no_gap_in_quotes, no_gap_at_letter, read_nothing, read_bad, read_escape, read_backslash, read_mark, read_gap, read_letter, end_in_escape, end_in_quotes, end_of_words}
use Rattle.amcp_text.specs.Words.{is_blank}
use Rattle.amcp_text.proofs.token.tokens.Goals as goal
use Rattle.amcp_text.proofs.token.tokens.Goals.{then-begun+in_ok-push, else-begun, else-is_blank-via-then-is_blank+else-is_none-2, else-is_blank-via-else-is_blank, then-begun-2+in_ok-push-3, else-begun-2}

pub loop-at-init : goal.loop-at-init
loop-at-init c = record {
  can_next = search rules;
  is_finite = search rules;
  reads =
      rw (c.into_iter-at-iterator.ensures.into_iter_gives, c.char_indices-at-items.ensures.rest, c.char_indices-at-items.ensures.offset, c.new-word.ensures.bytes, c.new-words.ensures)
      (read_nothing c.args.line.now c.utf8.line);
}

pub returns-in-None-escaped : goal.returns-in-None-escaped
returns-in-None-escaped c =
    let steps = c.in-Some.ensures.steps in
    read_bad c.loop-at.invariant.reads (record { bytes = steps.1; step = steps.2 }) c.in-Some-escape.start c.in-Some-escape.is c.in-None-escaped.ensures

pub loop-at-preserved-in-Some-escape : goal.loop-at-preserved-in-Some-escape
loop-at-preserved-in-Some-escape c =
    let steps = c.in-Some.ensures.steps in
    record {
      can_next = search rules;
      is_finite = search rules;
      reads = rw c.in_ok-push-in-Some-escaped.ensures.bytes
          (read_escape c.loop-at.invariant.reads (record { bytes = steps.1; step = steps.2 }) c.in-Some-escape.start c.in-Some-escaped.c c.in-Some-escape.is
          c.in-Some-escaped.ensures (IsUtf8-string_bytes c.loop-at.word));
    }

pub loop-at-preserved-then-c-eq92 : goal.loop-at-preserved-then-c-eq92
loop-at-preserved-then-c-eq92 c =
    let steps = c.in-Some.ensures.steps in
    record {
      can_next = search rules;
      is_finite = search rules;
      reads = read_backslash c.loop-at.invariant.reads (record { bytes = steps.1; step = steps.2 }) c.in-Some.at steps.0 c.if-c-eq92.true c.in_default.is;
    }

pub loop-at-preserved-then-is_none : goal.loop-at-preserved-then-is_none
loop-at-preserved-then-is_none c =
    let steps = c.in-Some.ensures.steps in
    let turns = turned_none c.loop-at.open c.in-Some.at _ (c.is_none.ensures ∙ ap not c.if-is_none.true) steps.0 in
    record {
      can_next = search rules;
      is_finite = search rules;
      reads = read_mark c.loop-at.invariant.reads (record { bytes = steps.1; step = steps.2 }) _ turns c.if-c-eq34.true c.in_default.is;
    }

pub loop-at-preserved-else-is_none : goal.loop-at-preserved-else-is_none
loop-at-preserved-else-is_none c =
    let steps = c.in-Some.ensures.steps in
    let turns = turned_some c.loop-at.open _ (c.is_none.ensures ∙ ap not c.if-is_none.false) in
    record {
      can_next = search rules;
      is_finite = search rules;
      reads = read_mark c.loop-at.invariant.reads (record { bytes = steps.1; step = steps.2 }) _ turns c.if-c-eq34.true c.in_default.is;
    }

pub loop-at-preserved-then-is_none-2 : goal.loop-at-preserved-then-is_none-2
loop-at-preserved-then-is_none-2 c =
    let steps = c.in-Some.ensures.steps in
    let closed = none_from_test c.loop-at.open (c.is_none-then-is_blank.ensures ∙ ap not c.if-is_none-2.true) in
    let added : c.if-begun.words ≡ c.loop-at.words ++ option_to_list (cond c.loop-at.begun (Some (chars (string_bytes c.loop-at.word))) None) =
    elim c.if-begun.branch [
      | then-begun+in_ok-push w ↦ w.words-is ∙ w.in_ok-push.ensures.ok ∙ rw (w.if-begun.true, w.as_str.ensures.value) refl
      | else-begun w ↦ w.words-is ∙ rw w.if-begun.false (sym (append-nil c.loop-at.words))
    ] in
    record {
      can_next = search rules;
      is_finite = search rules;
      reads = rw (added, c.clear.ensures.bytes)
          (read_gap c.loop-at.invariant.reads (record { bytes = steps.1; step = steps.2 }) (sym c.is_blank.ensures ∙ c.if-is_blank.true) closed c.in_default.is);
    }

pub loop-at-preserved : goal.loop-at-preserved
loop-at-preserved c =
    let steps = c.in-Some.ensures.steps in
    let gap : (is_blank c.in-Some.c && not (is_some c.loop-at.open)) ≡ false =
    elim c.else-is_blank.branch [
      | else-is_blank-via-then-is_blank+else-is_none-2 w ↦ no_gap_in_quotes c.in-Some.c c.loop-at.open (w.is_none-then-is_blank.ensures ∙ ap not w.if-is_none-2.false)
      | else-is_blank-via-else-is_blank w ↦ no_gap_at_letter c.in-Some.c c.loop-at.open (sym c.is_blank.ensures ∙ w.if-is_blank.false)
    ] in
    record {
      can_next = search rules;
      is_finite = search rules;
      reads = rw c.in_ok-push-2.ensures.bytes
          (read_letter c.loop-at.invariant.reads (record { bytes = steps.1; step = steps.2 }) (ne_eqb c.in-Some.c 92 c.if-c-eq92.false)
          (ne_eqb c.in-Some.c 34 c.if-c-eq34.false) gap (IsUtf8-string_bytes c.loop-at.word) c.in_default.is);
    }

pub returns-in-Some-escape-2 : goal.returns-in-Some-escape-2
returns-in-Some-escape-2 c =
    end_in_escape c.loop-at.invariant.reads c.in-None.ensures.steps.0 c.in-Some-escape-2.at c.in-Some-escape-2.is

pub returns-in-Some-open : goal.returns-in-Some-open
returns-in-Some-open c =
    end_in_quotes c.loop-at.invariant.reads c.in-None.ensures.steps.0 c.in-Some-open.at c.in_default-escape.is c.in-Some-open.is

pub returns : goal.returns
returns c =
    let added : c.if-begun-2.words ≡ c.loop-at.words ++ option_to_list (cond c.loop-at.begun (Some (chars (string_bytes c.loop-at.word))) None) =
    elim c.if-begun-2.branch [
      | then-begun-2+in_ok-push-3 w ↦ w.words-is ∙ w.in_ok-push-3.ensures.ok ∙ rw (w.if-begun-2.true, w.as_str-then-begun-2.ensures.value) refl
      | else-begun-2 w ↦ w.words-is ∙ rw w.if-begun-2.false (sym (append-nil c.loop-at.words))
    ] in
    end_of_words c.loop-at.invariant.reads c.in-None.ensures.steps.0 c.in_default-escape.is c.in_default-open.is ∙ ap Ok (sym added)
