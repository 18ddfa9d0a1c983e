-- A text in quotation marks, with its escapes.
use Rattle.std.specs.Prelude.{ℕ, ◌==◌, if◌then◌else◌, List, [], ◌∷◌, ◌++◌, flat_map, codes}

-- a character of a text: a quotation mark, a backslash and a new line are escaped by a backslash
abbrev pub escaped : ℕ → List ℕ
escaped c =
    if c == 34 then codes "\\\""
    else if c == 92 then codes "\\\\"
    else if c == 10 then codes "\\n"
    else c ∷ []

-- the characters of a text in quotation marks, with its escapes
unfoldable pub quoted : List ℕ → List ℕ
quoted text = 34 ∷ flat_map escaped text ++ 34 ∷ []
