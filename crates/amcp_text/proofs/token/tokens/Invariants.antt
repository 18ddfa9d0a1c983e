use Rattle.std.specs.Prelude.{string_bytes}
use Rattle.std.specs.Str.Iter.{char_indices_rest, char_indices_offset}
use Rattle.amcp_text.proofs.ReadingText.{Reads}
use Rattle.amcp_text.proofs.token.tokens.Given as goal

abbrev pub invariant-loop-at : goal.invariant-loop-at
invariant-loop-at l = record {
  can_next : (goal.iterator-loop-at).can_next l.at-iterator;
  is_finite : (goal.iterator-loop-at).is_finite l.at-iterator;
  reads : Reads (record {
    line = l.line;
    words = l.words;
    has_begun = l.begun;
    word = string_bytes l.word;
    quote = l.open;
    escape = l.escape;
    offset = char_indices_offset l.at-iterator;
    rest = char_indices_rest l.at-iterator;
  });
}
