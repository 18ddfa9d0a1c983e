-- The bytes of printed words.
use Rattle.std.specs.Prelude.{List, ℕ, ◌∷◌, flat_map, encode_utf8_all}
use Rattle.amcp_text.specs.Escapes.{quoted}
use Rattle.history_model.specs.text.Commands.{Word, Plain, Quoted}

-- the bytes of a word: a plain one is ASCII alone, and a quoted name is in UTF-8
abbrev pub word_bytes : Word → List ℕ
word_bytes (Plain word) = word
word_bytes (Quoted name) = encode_utf8_all (quoted name)

-- the bytes of words, each after a space
unfoldable pub spaced : List Word → List ℕ
spaced words = flat_map (λ word. 32 ∷ word_bytes word) words
