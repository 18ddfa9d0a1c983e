-- What a layer plays, as a word.
use Rattle.std.specs.Prelude.{ℕ, List, encode_utf8_all}
use Rattle.play_types.specs.Media.{MediaNameView}
use Rattle.play_types.specs.declared.take.Spec.{Spec}
use Rattle.history_model.specs.text.Commands.{producer_word, word_meant}

-- the bytes of what a layer plays: the name of a clip, a colour, or a route, as commands are printed but without quotation marks
abbrev pub producer_bytes : List MediaNameView → Spec → List ℕ
producer_bytes names spec = encode_utf8_all (word_meant (producer_word names spec))
