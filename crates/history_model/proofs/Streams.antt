-- The stream of a connection when one more line of a script is played.
use Rattle.std.proofs.Common.{◌≡◌, ℕ, ◌+◌, Bool, true, false, List, [], ◌∷◌, ◌++◌, length, refl, sym, ap, ◌∙◌, append-nil, append_assoc, arith}
use Rattle.std.specs.Prelude.{Option, Some, None, filter_map, flat_map}
use Rattle.std.specs.List.{cons_option, enumerate_from}
use Rattle.std.proofs.lemmas.Grind.{flat_map-append}
use Rattle.std.proofs.lemmas.List.Elements.{filter_map-append}
use Rattle.play_types.specs.declared.event.Tag.{Tag}
use Rattle.history_model.specs.scripts.History.{PlayedLine, text_by, mark_of, given_up_by, texts_of, stream_of, number_given_up, given_up_of}
use Rattle.history_model.proofs.Sessions.{enumerate_from-append}

-- a line of another connection, or of none, adds nothing
pub texts_of-other : (tag : Tag) (played : List PlayedLine) (line : PlayedLine) → text_by tag line.line ≡ None → texts_of tag (played ++ line ∷ []) ≡ texts_of tag played
unfolding texts_of
texts_of-other tag played line other =
    filter_map-append (λ (one : PlayedLine). text_by tag one.line) played (line ∷ [])
    ∙ ap (λ (found : Option (List ℕ)). texts_of tag played ++ cons_option found []) other
    ∙ append-nil (texts_of tag played)

pub stream_of-other : (tag : Tag) (played : List PlayedLine) (line : PlayedLine) → text_by tag line.line ≡ None → stream_of tag (played ++ line ∷ []) ≡ stream_of tag played
unfolding stream_of
stream_of-other tag played line other = ap (flat_map (λ text. text ++ 13 ∷ 10 ∷ [])) (texts_of-other tag played line other)

-- whether each line of a connection was given up
abbrev marks : Tag → List PlayedLine → List Bool
marks tag played = filter_map (given_up_by tag) played

marks-other : (tag : Tag) (played : List PlayedLine) (line : PlayedLine) → text_by tag line.line ≡ None → marks tag (played ++ line ∷ []) ≡ marks tag played
marks-other tag played line other =
    filter_map-append (given_up_by tag) played (line ∷ [])
    ∙ ap (λ (found : Option (List ℕ)). marks tag played ++ cons_option (mark_of found line.given_up) []) other
    ∙ append-nil (marks tag played)

pub given_up_of-other : (tag : Tag) (played : List PlayedLine) (line : PlayedLine) → text_by tag line.line ≡ None → given_up_of tag (played ++ line ∷ []) ≡ given_up_of tag played
unfolding given_up_of
given_up_of-other tag played line other = ap (λ (ms : List Bool). filter_map number_given_up (enumerate_from 0 ms)) (marks-other tag played line other)

-- the text of a line of the connection comes after those before it
pub texts_of-said : (tag : Tag) (played : List PlayedLine) (line : PlayedLine) (text : List ℕ) → text_by tag line.line ≡ Some text → texts_of tag (played ++ line ∷ []) ≡ texts_of tag played ++ text ∷ []
unfolding texts_of
texts_of-said tag played line text said =
    filter_map-append (λ (one : PlayedLine). text_by tag one.line) played (line ∷ [])
    ∙ ap (λ (found : Option (List ℕ)). texts_of tag played ++ cons_option found []) said

pub stream_of-said : (tag : Tag) (played : List PlayedLine) (line : PlayedLine) (text : List ℕ) → text_by tag line.line ≡ Some text
    → stream_of tag (played ++ line ∷ []) ≡ (stream_of tag played ++ text) ++ 13 ∷ 10 ∷ []
unfolding stream_of
stream_of-said tag played line text said =
    ap (flat_map (λ text. text ++ 13 ∷ 10 ∷ [])) (texts_of-said tag played line text said)
    ∙ flat_map-append (λ text. text ++ 13 ∷ 10 ∷ []) (texts_of tag played) (text ∷ [])
    ∙ ap (λ (l : List ℕ). stream_of tag played ++ l) (append-nil (text ++ 13 ∷ 10 ∷ []))
    ∙ sym (append_assoc (stream_of tag played) text (13 ∷ 10 ∷ []))

marks-said : (tag : Tag) (played : List PlayedLine) (line : PlayedLine) (text : List ℕ) → text_by tag line.line ≡ Some text → marks tag (played ++ line ∷ []) ≡ marks tag played ++ line.given_up ∷ []
marks-said tag played line text said =
    filter_map-append (given_up_by tag) played (line ∷ [])
    ∙ ap (λ (found : Option (List ℕ)). marks tag played ++ cons_option (mark_of found line.given_up) []) said

length-marks_by : (found : Option (List ℕ)) (given_up : Bool) (ms : List Bool) (ts : List (List ℕ)) → length ms ≡ length ts
    → length (cons_option (mark_of found given_up) ms) ≡ length (cons_option found ts)
length-marks_by None given_up ms ts same = same
length-marks_by (Some text) given_up ms ts same = omega (arith, same)

-- there is a mark for each text
length-marks : (tag : Tag) (played : List PlayedLine) → length (marks tag played) ≡ length (texts_of tag played)
unfolding texts_of
length-marks tag [] = refl
length-marks tag (one ∷ played) =
    length-marks_by (text_by tag one.line) one.given_up (marks tag played) (texts_of tag played) (length-marks tag played)

pub given_up_of-more : (tag : Tag) (played : List PlayedLine) (line : PlayedLine) (text : List ℕ) → text_by tag line.line ≡ Some text
    → given_up_of tag (played ++ line ∷ []) ≡ given_up_of tag played ++ filter_map number_given_up ((length (texts_of tag played), line.given_up) ∷ [])
unfolding given_up_of
given_up_of-more tag played line text said =
    ap (λ (ms : List Bool). filter_map number_given_up (enumerate_from 0 ms)) (marks-said tag played line text said)
    ∙ ap (filter_map number_given_up) (enumerate_from-append 0 (marks tag played) (line.given_up ∷ []))
    ∙ filter_map-append number_given_up (enumerate_from 0 (marks tag played)) (enumerate_from (0 + length (marks tag played)) (line.given_up ∷ []))
    ∙ ap (λ (n : ℕ). given_up_of tag played ++ filter_map number_given_up ((n, line.given_up) ∷ []))
    (let number : 0 + length (marks tag played) ≡ length (texts_of tag played) = omega (arith, length-marks tag played) in number)

-- the number of a line is among those given up if it was given up
pub given_up_of-kept : (tag : Tag) (played : List PlayedLine) (line : PlayedLine) (text : List ℕ) → text_by tag line.line ≡ Some text → line.given_up ≡ false
    → given_up_of tag (played ++ line ∷ []) ≡ given_up_of tag played
given_up_of-kept tag played line text said kept =
    given_up_of-more tag played line text said
    ∙ ap (λ (b : Bool). given_up_of tag played ++ filter_map number_given_up ((length (texts_of tag played), b) ∷ [])) kept
    ∙ append-nil (given_up_of tag played)

pub given_up_of-lost : (tag : Tag) (played : List PlayedLine) (line : PlayedLine) (text : List ℕ) → text_by tag line.line ≡ Some text → line.given_up ≡ true
    → given_up_of tag (played ++ line ∷ []) ≡ given_up_of tag played ++ length (texts_of tag played) ∷ []
given_up_of-lost tag played line text said lost =
    given_up_of-more tag played line text said
    ∙ ap (λ (b : Bool). given_up_of tag played ++ filter_map number_given_up ((length (texts_of tag played), b) ∷ [])) lost

-- a connection without a line has no stream
pub stream_of-none : (tag : Tag) (played : List PlayedLine) → texts_of tag played ≡ [] → stream_of tag played ≡ []
unfolding stream_of
stream_of-none tag played none = ap (flat_map (λ text. text ++ 13 ∷ 10 ∷ [])) none

no_marks : (ms : List Bool) → length ms ≡ 0 → ms ≡ []
no_marks [] none = refl
no_marks (m ∷ ms) none = absurd (omega (arith, none))

pub given_up_of-none : (tag : Tag) (played : List PlayedLine) → texts_of tag played ≡ [] → given_up_of tag played ≡ []
unfolding given_up_of
given_up_of-none tag played none =
    ap (λ (ms : List Bool). filter_map number_given_up (enumerate_from 0 ms)) (no_marks (marks tag played) (length-marks tag played ∙ ap length none))
