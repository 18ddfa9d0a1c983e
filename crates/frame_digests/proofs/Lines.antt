-- Lines that wait for frames that are kept.
use Rattle.std.proofs.Common.{◌≡◌, ◌≢◌, ℕ, ◌<◌, ◌==◌, ◌||◌, Bool, true, false, List, [], ◌∷◌, ◌++◌, length, get_or, refl, sym, ap, ap₂, ◌∙◌, append-nil, arith}
use Rattle.std.specs.Prelude.{MatchBool, if◌then◌else◌}
use Rattle.std.specs.List.{flat_map, list_any}
use Rattle.std.proofs.lemmas.Bool.{false≢true}
use Rattle.std.proofs.lemmas.Bool.Decides.{nat_tests}
use Rattle.std.proofs.lemmas.List.{get_or_default}
use Rattle.std.proofs.lemmas.Grind.{flat_map-append}
use Rattle.history_model.specs.text.Frames.{digest_line}
use Rattle.frame_digests.specs.declared.waiting.WaitingLine.{WaitingLine}
use Rattle.frame_digests.specs.Waiting.{HasFrames, IsKeptAt, line_text, lines_text}

neither : (a b : Bool) → (a || b) ≡ false → (a ≡ false) × (b ≡ false)
neither true b none = absurd (false≢true (sym none))
neither false b none = (refl, none)

-- a place for which no line waits is that of no line
apart : (frame at : ℕ) → (frame == at) ≡ false → frame ≢ at
apart frame at is = grind (arith, nat_tests, is)

-- lines are as before if frames changed at a place alone for which no line waits
pub lines_kept : (old new : List (List ℕ)) (at : ℕ) → ((i : ℕ) → i ≢ at → get_or new i [] ≡ get_or old i []) → (lines : List WaitingLine)
    → list_any (λ (line : WaitingLine). line.frame == at) lines ≡ false → lines_text new lines ≡ lines_text old lines
lines_kept old new at others [] none = refl
lines_kept old new at others (line ∷ lines) none =
    let parts = neither (line.frame == at) (list_any (λ (one : WaitingLine). one.frame == at) lines) none in
    ap₂ (λ (a b : List ℕ). a ++ b)
    (ap (λ bytes. digest_line line.channel line.tick bytes []) (others line.frame (apart line.frame at parts.0)))
    (lines_kept old new at others lines parts.1)

pub none_awaited : (lines read : List WaitingLine) (at : ℕ) (found : Bool) → read ≡ lines → found ≡ list_any (λ (line : WaitingLine). line.frame == at) read → found ≡ false
    → list_any (λ (line : WaitingLine). line.frame == at) lines ≡ false
none_awaited lines read at found is tells none = ap (list_any (λ (line : WaitingLine). line.frame == at)) (sym is) ∙ sym tells ∙ none

-- the text of the frame that was read is that of its line
pub text_there : (frames : List (List ℕ)) (lines : List WaitingLine) (at : ℕ) (d : WaitingLine) (e : List ℕ) → HasFrames frames lines → at < length lines
    → digest_line (get_or lines at d).channel (get_or lines at d).tick (get_or frames (get_or lines at d).frame e) [] ≡ line_text frames (get_or lines at d)
text_there frames lines at d e have within =
    ap (λ bytes. digest_line (get_or lines at d).channel (get_or lines at d).tick bytes []) (get_or_default frames (get_or lines at d).frame e [] (have at d within))

-- the digest of a frame and its sound is that of their bytes in a row
whole_digest : (channel tick : ℕ) (frame sound : List ℕ) → digest_line channel tick (frame ++ sound) [] ≡ digest_line channel tick frame sound
unfolding digest_line
whole_digest channel tick frame sound = rw append-nil refl

-- one line more
pub lines_more : (frames : List (List ℕ)) (lines : List WaitingLine) (line : WaitingLine) (frame sound : List ℕ) → IsKeptAt frames line.frame (frame ++ sound)
    → lines_text frames (lines ++ line ∷ []) ≡ lines_text frames lines ++ digest_line line.channel line.tick frame sound
lines_more frames lines line frame sound kept =
    flat_map-append (line_text frames) lines (line ∷ [])
    ∙ ap (λ (text : List ℕ). lines_text frames lines ++ text)
    (append-nil (line_text frames line)
    ∙ ap (λ bytes. digest_line line.channel line.tick bytes []) kept.1
    ∙ whole_digest line.channel line.tick frame sound)

-- one line more, or none
pub line_held : (b : Bool) (frames : List (List ℕ)) (lines now : List WaitingLine) (line : WaitingLine) (frame sound before : List ℕ) → IsKeptAt frames line.frame (frame ++ sound)
    → lines_text frames lines ≡ before → now ≡ (if b then lines ++ line ∷ [] else lines)
    → MatchBool b (lines_text frames now ≡ before ++ digest_line line.channel line.tick frame sound) (lines_text frames now ≡ before)
line_held true frames lines now line frame sound before kept was is =
    ap (lines_text frames) is ∙ lines_more frames lines line frame sound kept ∙ ap (λ (text : List ℕ). text ++ digest_line line.channel line.tick frame sound) was
line_held false frames lines now line frame sound before kept was is = ap (lines_text frames) is ∙ was
