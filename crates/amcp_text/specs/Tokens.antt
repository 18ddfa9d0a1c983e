-- The words of a line, or its fault.
use Rattle.std.specs.Prelude.{◌≡◌, ℕ, if◌then◌else◌, List, Result, Ok, Err, sum_by}
use Rattle.std.specs.List.{before_first, before_last, list_any}
use Rattle.amcp_text.specs.Words.{Part, parts_of, byte_len, is_mark, is_bad, is_unclosed, roles_of, words_between}
use Rattle.amcp_text.specs.declared.token.TokenFault.{TokenFault}
use Rattle.amcp_text.specs.declared.token.TokenFault.TheVariants.{OpenQuote, BadEscape, OutOfMemory}

-- the words of a line's parts, or its fault: the first bad escape, else the last quotation mark if it is not closed
abbrev pub words_of_parts : List Part → Result (List (List ℕ)) TokenFault
words_of_parts parts =
    if list_any is_bad parts then Err (BadEscape (sum_by byte_len (before_first is_bad parts)))
    else (if is_unclosed parts then Err (OpenQuote (sum_by byte_len (before_last is_mark parts)))
    else Ok (words_between (roles_of parts)))

-- the words of a line of characters, or its fault, at a byte of the line
abbrev pub words_of : List ℕ → Result (List (List ℕ)) TokenFault
words_of line = words_of_parts (parts_of line)

-- the result is the line's words or its fault, unless memory ran out
abbrev pub AreTokens : List ℕ → Result (List (List ℕ)) TokenFault → Type 0
AreTokens line (Ok words) = words_of line ≡ Ok words
AreTokens line (Err (OpenQuote at)) = words_of line ≡ Err (OpenQuote at)
AreTokens line (Err (BadEscape at)) = words_of line ≡ Err (BadEscape at)
AreTokens line (Err OutOfMemory) = Unit {0}
