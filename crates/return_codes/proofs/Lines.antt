-- Lines in the parts in which they are sent.
use Rattle.std.proofs.Common.{◌≡◌, ℕ, ◌+◌, true, false, refl, ap, ◌∙◌, List, [], ◌∷◌, ◌++◌, append_assoc, append-nil}
use Rattle.std.specs.Prelude.{Option, codes, decimal, encode_utf8_all}
use Rattle.std.specs.List.{flat_map, zip, enumerate_from}
use Rattle.std.proofs.lemmas.Grind.{flat_map-append}
use Rattle.std.proofs.lemmas.List.Folds.{flat_map-map}
use Rattle.amcp_text.specs.Escapes.{quoted}
use Rattle.play_types.specs.Words.{name_text, status_text}
use Rattle.play_types.specs.Config.{ChannelView, ConfigView}
use Rattle.play_types.specs.Media.{MediaNameView}
use Rattle.play_types.specs.declared.answer.Status.{Status}
use Rattle.play_types.specs.declared.reply.Name.{Name}
use Rattle.play_types.specs.declared.reply.Reply.{Reply}
use Rattle.history_model.specs.text.Replies.{code_line, size_text, channel_line, channel_lines, numbers_text, clip_text, media_line, answer_lines, reply_lines, reply_token, token_text, with_token, wrapped}
use Rattle.return_codes.specs.declared.line.LineStyle.{LineStyle}
use Rattle.return_codes.specs.inner.Style.{head_of, later, styled, styled_lines, token_of}

-- a code, a name and a word
pub code_line-parts : (code : ℕ) (name : Name) (word : List ℕ)
    → decimal code ++ (32 ∷ (name_text name ++ (32 ∷ (word ++ [])))) ≡ code_line code name word
unfolding code_line
code_line-parts code name word = simp (append_assoc, append-nil)

-- a number, width and height, and a status
pub channel_line-parts : (number : ℕ) (channel : ChannelView) (state : Status)
    → decimal number ++ (32 ∷ (decimal channel.width ++ (120 ∷ (decimal channel.height ++ (32 ∷ (status_text state ++ []))))))
    ≡ channel_line number channel state
unfolding channel_line size_text
channel_line-parts number channel state = simp (append_assoc, append-nil)

-- a space, width and height, frames and pairs
pub numbers_text-parts : (clip : MediaNameView)
    → 32 ∷ (decimal clip.width ++ (120 ∷ (decimal clip.height ++ (32 ∷ (decimal clip.frames ++ (32 ∷ (decimal clip.pairs ++ [])))))))
    ≡ codes " " ++ numbers_text clip
unfolding numbers_text size_text
numbers_text-parts clip = simp (append_assoc, append-nil)

-- a line is its beginning, the line itself, and its end
pub styled-parts : (style : LineStyle) (line : List ℕ) → styled style line ≡ head_of style ++ (line ++ style.after.now)
styled-parts style line = append_assoc (head_of style) line style.after.now

-- the line of a clip is its beginning, the name, what follows the name, and its end
pub media_line-parts : (style : LineStyle) (clip : MediaNameView)
    → styled style (media_line clip) ≡ head_of style ++ (encode_utf8_all (quoted clip.name) ++ ((codes " " ++ clip_text clip) ++ style.after.now))
unfolding media_line
media_line-parts style clip = simp append_assoc

-- the line of the channel at a place, counted from 0, with its status
abbrev pub numbered_line : LineStyle → ℕ × (ChannelView × Status) → List ℕ
numbered_line style at = styled style (channel_line (at.0 + 1) at.1.0 at.1.1)

-- what follows the name of a readable clip, and of another one
pub clip_text-readable : (clip : MediaNameView) → clip.readable ≡ true → clip_text clip ≡ numbers_text clip
clip_text-readable clip readable = rw readable refl

pub clip_text-unreadable : (clip : MediaNameView) → clip.readable ≡ false → clip_text clip ≡ codes "UNREADABLE"
clip_text-unreadable clip unreadable = rw unreadable refl

-- lines by their numbers are lines by their places
numbered-from : (style : LineStyle) (pairs : List (ChannelView × Status)) (at : ℕ)
    → flat_map (λ p. styled style (channel_line p.0 p.1.0 p.1.1)) (enumerate_from (at + 1) pairs) ≡ flat_map (numbered_line style) (enumerate_from at pairs)
numbered-from style [] at = refl
numbered-from style (p ∷ pairs) at = ap (λ (text : List ℕ). numbered_line style (at, p) ++ text) (numbered-from style pairs (at + 1))

-- the lines of the channels by their places
pub channel_lines-numbered : (style : LineStyle) (channels : List ChannelView) (states : List Status)
    → flat_map (styled style) (channel_lines channels states) ≡ flat_map (numbered_line style) (enumerate_from 0 (zip channels states))
channel_lines-numbered style channels states =
    flat_map-map (styled style) (λ at. channel_line at.0 at.1.0 at.1.1) (enumerate_from 1 (zip channels states))
    ∙ numbered-from style (zip channels states) 0

-- a list of lines between a line and an empty one
pub listed_lines : (style : LineStyle) (first : List ℕ) (lines : List (List ℕ))
    → styled_lines style (first ∷ lines ++ [] ∷ []) ≡ styled style first ++ (flat_map (styled (later style)) lines ++ styled (later style) [])
listed_lines style first lines = rw (flat_map-append (styled (later style)) lines ([] ∷ []), append-nil (styled (later style) [])) refl

-- lines after the first have nothing more than each line before them
later_lines : (style : LineStyle) (lines : List (List ℕ))
    → flat_map (styled (later style)) lines ≡ flat_map (wrapped (flat_map (λ part. part.now) style.before.now) style.after.now) lines
later_lines style lines =
    ap (λ (head : List ℕ). flat_map (wrapped head style.after.now) lines) (append-nil (flat_map (λ part. part.now) style.before.now))

-- the lines of a reply are its lines with the token before the first, each with the parts before it and its end
pub lines_of_style : (style : LineStyle) (lines : List (List ℕ))
    → styled_lines style lines ≡ flat_map (wrapped (flat_map (λ part. part.now) style.before.now) style.after.now) (with_token (token_of style) lines)
lines_of_style style [] = refl
lines_of_style style (line ∷ lines) =
    let head = flat_map (λ part. part.now) style.before.now in
    (λ i. (append_assoc head (token_text (token_of style)) line i ++ style.after.now) ++ later_lines style lines i)

-- the lines of the reply to a line with a token, or without one
pub lines_sent : (style : LineStyle) (config : ConfigView) (media : List MediaNameView) (token : Option (List ℕ)) (answer : Reply) → token_of style ≡ reply_token token answer
    → styled_lines style (reply_lines config media answer)
    ≡ flat_map (wrapped (flat_map (λ part. part.now) style.before.now) style.after.now) (answer_lines config media token answer)
lines_sent style config media token answer is =
    lines_of_style style (reply_lines config media answer)
    ∙ ap (λ (t : Option (List ℕ)). flat_map (wrapped (flat_map (λ part. part.now) style.before.now) style.after.now) (with_token t (reply_lines config media answer))) is
