use Rattle.std.proofs.Common.{◌≡◌, ◌+◌, ◌∷◌, codes, length, map, take, vec_capacity, vec_len, string_bytes, ◌≤◌}
use Rattle.play_viewer.proofs.words.command_line.Given as goal

abbrev pub invariant-loop-word : goal.invariant-loop-word
invariant-loop-word l = record {
  items : map (λ word. word.now) l.line.items ≡ codes "playview" ∷ map string_bytes (take l.word-index l.words);
  filled : vec_len l.line ≡ l.word-index + 1;
  capacity : length l.words + 1 ≤ vec_capacity l.line;
}
