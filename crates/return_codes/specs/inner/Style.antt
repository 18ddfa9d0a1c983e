-- How the lines of a reply are written.
use Rattle.std.specs.Prelude.{ℕ, Option, None, List, [], ◌∷◌, ◌++◌, flat_map, option_map}
use Rattle.history_model.specs.text.Replies.{token_text, wrapped}
use Rattle.return_codes.specs.declared.line.LineStyle.{LineStyle}

-- the token of the first line
abbrev pub token_of : LineStyle → Option (List ℕ)
token_of style = option_map (λ token. token.now) style.token

-- the beginning of a line: the parts, and the token
abbrev pub head_of : LineStyle → List ℕ
head_of style = flat_map (λ part. part.now) style.before.now ++ token_text (token_of style)

-- the style of the lines after the first
abbrev pub later : LineStyle → LineStyle
later style = record style { token = None }

-- a line with its beginning and its end
abbrev pub styled : LineStyle → List ℕ → List ℕ
styled style line = wrapped (head_of style) style.after.now line

-- the lines of a reply, of which the first has the token
abbrev pub styled_lines : LineStyle → List (List ℕ) → List ℕ
styled_lines style [] = []
styled_lines style (line ∷ lines) = styled style line ++ flat_map (styled (later style)) lines
