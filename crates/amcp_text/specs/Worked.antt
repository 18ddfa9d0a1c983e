-- Short lines, words of a line and values for the worked examples.
use Rattle.std.specs.Prelude.{ℕ, Result, Option, List, ℤ, codes}
use Prim.Native.String.{String}
use Rattle.amcp_text.specs.Lines.{Line, Text}
use Rattle.amcp_text.specs.Tokens.{words_of}
use Rattle.amcp_text.specs.Micros.{micro_of}
use Rattle.amcp_text.specs.declared.token.TokenFault.{TokenFault}

-- the line of this text
abbrev pub line : String → Line
line text = Text (codes text)

-- the words of the line of this text, or its fault
abbrev pub words : String → Result (List (List ℕ)) TokenFault
words text = words_of (codes text)

-- the value that this text spells, in millionths
abbrev pub value : String → Option ℤ
value text = micro_of (codes text)
