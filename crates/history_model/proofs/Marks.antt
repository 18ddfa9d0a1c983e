-- The step of a connection's line if no line before it was given up, or the connection had ended before the first that was.
use Rattle.std.proofs.Common.{◌≡◌, ℕ, ◌+◌, ◌≤◌, Bool, true, false, ◌||◌, ◌⊎◌, inl, inr, List, [], ◌∷◌, ◌++◌, length, take, refl, sym, ap, ◌∙◌, subst, arith, eq-eqb, append-nil, append_assoc, length-append, if◌then◌else◌}
use Rattle.std.specs.Prelude.{Some, None, All, slice_get}
use Rattle.std.specs.List.{list_any}
use Rattle.std.proofs.lemmas.Bool.{cases_Bool}
use Rattle.std.proofs.lemmas.Option.{slice_get_past}
use Rattle.std.proofs.lemmas.List.Elements.{All-nil, All-cons, All-append}
use Rattle.amcp_text.specs.Lines.{Line}
use Rattle.play_types.specs.Config.{ConfigView}
use Rattle.play_types.specs.Media.{MediaNameView}
use Rattle.play_types.specs.declared.reply.Reply.TheVariants as reply
use Rattle.history_model.specs.sessions.Line.{line_meaning}
use Rattle.history_model.specs.sessions.Session.{Step, Local, asks, is_end, is_given_up, line_steps, step_of_line, step_of_meaning, until_end}
use Rattle.history_model.proofs.Sessions.{length-line_steps, length-until_end, line_steps-append, line_steps-later, until_end-going, until_end-lines_ended}

-- the connection ended before the first line that was given up
pub record IsOver (config : ConfigView) (media : List MediaNameView) (given_up : List ℕ) (lines : List Line) : Type 0 where
  pub first : List Line
  pub rest : List Line
  pub parts : lines ≡ first ++ rest
  pub high : All (λ k. length first ≤ k) given_up
  pub ended : list_any is_end (line_steps config media [] first) ≡ true

-- no line was given up before the connection ended
abbrev pub IsUnmarked : ConfigView → List MediaNameView → List ℕ → List Line → Type 0
IsUnmarked config media given_up lines = (given_up ≡ []) ⊎ IsOver config media given_up lines

-- an ended connection has no more steps
pub over_step : (config : ConfigView) (media : List MediaNameView) (given_up later : List ℕ) (lines : List Line) (line : Line)
    → (over : IsOver config media given_up lines) → All (λ k. length over.first ≤ k) later
    → slice_get (until_end (line_steps config media later (lines ++ line ∷ []))) (length lines) ≡ None
over_step config media given_up later lines line over high =
    let first = over.first in
    let more = over.rest ++ line ∷ [] in
    let whole : lines ++ line ∷ [] ≡ first ++ more = ap (λ l. l ++ line ∷ []) over.parts ∙ append_assoc first over.rest (line ∷ []) in
    let many : length lines ≡ length first + length over.rest = ap length over.parts ∙ length-append first over.rest in
    let few = length-until_end (line_steps config media [] first) in
    let each = length-line_steps config media [] first in
    ap (λ ls. slice_get (until_end (line_steps config media later ls)) (length lines)) whole
    ∙ ap (λ ss. slice_get ss (length lines)) (until_end-lines_ended config media [] later first more high over.ended)
    ∙ slice_get_past (until_end (line_steps config media [] first)) (length lines) (omega (arith, many, few, each))

-- an ended connection stays ended
pub over-more : (config : ConfigView) (media : List MediaNameView) (given_up later : List ℕ) (lines : List Line) (line : Line)
    → (over : IsOver config media given_up lines) → All (λ k. length over.first ≤ k) later → IsOver config media later (lines ++ line ∷ [])
over-more config media given_up later lines line over high = record {
  first = over.first;
  rest = over.rest ++ line ∷ [];
  parts = ap (λ l. l ++ line ∷ []) over.parts ∙ append_assoc over.first over.rest (line ∷ []);
  high = high;
  ended = over.ended;
}

-- one more line that is given up comes after the end
pub over-lost : (config : ConfigView) (media : List MediaNameView) (given_up : List ℕ) (lines : List Line) (n : ℕ)
    → (over : IsOver config media given_up lines) → length lines ≡ n → All (λ k. length over.first ≤ k) (given_up ++ n ∷ [])
over-lost config media given_up lines n over is =
    let many : length lines ≡ length over.first + length over.rest = ap length over.parts ∙ length-append over.first over.rest in
    All-append (λ k. length over.first ≤ k) given_up (n ∷ []) over.high
    (All-cons (λ k. length over.first ≤ k) n [] (omega (arith, many, is)) (All-nil (λ (k : ℕ). length over.first ≤ k)))

-- a connection whose lines ended it is over
pub over_now : (config : ConfigView) (media : List MediaNameView) (given_up : List ℕ) (lines : List Line) → given_up ≡ []
    → list_any is_end (line_steps config media [] lines) ≡ true → IsOver config media given_up lines
over_now config media given_up lines none ended = record {
  first = lines;
  rest = [];
  parts = sym (append-nil lines);
  high = subst (λ g. All (λ k. length lines ≤ k) g) (sym none) (All-nil (λ (k : ℕ). length lines ≤ k));
  ended = ended;
}

pub last_step : (steps : List Step) (step : Step) → slice_get (steps ++ step ∷ []) (length steps) ≡ Some step
last_step [] step = refl
last_step (first ∷ steps) step = last_step steps step

pub until_end-one : (step : Step) → until_end (step ∷ []) ≡ step ∷ []
until_end-one step = elim (cases_Bool (is_end step)) [
  | inl ends ↦ rw ends refl
  | inr goes ↦ rw goes refl
]

-- the step of the next line of a connection that goes on
pub next_step : (config : ConfigView) (media : List MediaNameView) (given_up : List ℕ) (lines : List Line) (line : Line)
    → All (λ k. length lines ≤ k) given_up → list_any is_end (line_steps config media [] lines) ≡ false
    → slice_get (until_end (line_steps config media given_up (lines ++ line ∷ []))) (length lines)
    ≡ Some (step_of_line config media given_up (lines ++ line ∷ []) (length lines, line))
next_step config media given_up lines line high goes =
    let step = step_of_line config media given_up (lines ++ line ∷ []) (length lines, line) in
    let before : List Step = line_steps config media [] lines in
    ap (λ ss. slice_get (until_end ss) (length lines))
    (line_steps-append config media given_up lines (line ∷ []) ∙ ap (λ (ss : List Step). ss ++ step ∷ []) (line_steps-later config media [] given_up lines high))
    ∙ ap (λ ss. slice_get ss (length lines)) (until_end-going before (step ∷ []) goes ∙ ap (λ (ss : List Step). before ++ ss) (until_end-one step))
    ∙ ap (slice_get (before ++ step ∷ [])) (sym (length-line_steps config media [] lines))
    ∙ last_step before step

-- the step is a 500 if the line is given up
pub given_up_here : (n : ℕ) → is_given_up (n ∷ []) n ≡ true
given_up_here n = ap (λ (b : Bool). b || false) (eq-eqb n n refl)

pub lost_step : (config : ConfigView) (media : List MediaNameView) (lines : List Line) (line : Line)
    → list_any is_end (line_steps config media [] lines) ≡ false
    → slice_get (until_end (line_steps config media (length lines ∷ []) (lines ++ line ∷ []))) (length lines) ≡ Some (Local reply.NoMemory)
lost_step config media lines line goes =
    let given_up = length lines ∷ [] in
    let all = lines ++ line ∷ [] in
    next_step config media given_up lines line
    (All-cons (λ k. length lines ≤ k) (length lines) [] (omega arith) (All-nil (λ (k : ℕ). length lines ≤ k))) goes
    ∙ ap (λ (b : Bool). Some (if b then Local reply.NoMemory
    else step_of_meaning (asks config media given_up (take (length lines) all)) (line_meaning config media line))) (given_up_here (length lines))
