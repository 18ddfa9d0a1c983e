-- A connection after lines of a script, and its next step.
use Rattle.std.proofs.Common.{◌≡◌, ℕ, ◌+◌, ◌<◌, ◌≤◌, ◌==◌, Bool, true, false, cond, ◌||◌, inl, inr, List, [], ◌∷◌, ◌++◌, take, length, refl, sym, ap, ◌∙◌, subst, arith, append_assoc, length-append, if◌then◌else◌}
use Rattle.std.specs.Prelude.{All, Option, Some, None, filter_map, slice_get}
use Rattle.std.specs.List.{cons_option, list_any}
use Rattle.std.proofs.Math.Bool.{or-false}
use Rattle.std.proofs.lemmas.Bool.{ne_eqb}
use Rattle.std.proofs.lemmas.Option.{slice_get_past}
use Rattle.std.proofs.lemmas.List.{take_all}
use Rattle.std.proofs.lemmas.List.Elements.{All-append, All-cons, All-nil}
use Rattle.std.proofs.lemmas.List.Folds.{list_any-append, list_any_none}
use Rattle.amcp_text.specs.Lines.{Line, IsEnded, is_line_end, line_of_text, lines_of}
use Rattle.amcp_text.proofs.LineLaws.{lines_of_return, lines_of-append}
use Rattle.play_types.specs.declared.event.Tag.{Tag}
use Rattle.play_types.specs.declared.parsed.Parsed.{Parsed}
use Rattle.play_types.specs.declared.reply.Reply.TheVariants as reply
use Rattle.history_model.specs.sessions.Line.{asked_by, line_meaning}
use Rattle.history_model.specs.sessions.Session.{Step, Local, asked_by_line, asks, is_end, is_given_up, line_steps, step_of_line, step_of_meaning, steps, until_end}
use Rattle.history_model.specs.scripts.History.{Playout, PlayedLine, given_up_of, number_given_up, said_step, stream_of, text_by, texts_of}
use Rattle.history_model.proofs.Marks.{given_up_here, last_step, until_end-one}
use Rattle.history_model.proofs.Sessions.{asks-append, asks-later, length-line_steps, length-until_end, line_steps-later, line_steps-snoc, until_end-going, until_end-lines_ended}
use Rattle.history_model.proofs.Streams.{given_up_of-more, given_up_of-other, stream_of-other, stream_of-said, texts_of-other, texts_of-said}

-- after these lines each text of the connection is a line, and each number that was given up is one of a line
pub record Side (tag : Tag) (before : List PlayedLine) : Type 0 where
  pub whole : IsEnded (stream_of tag before)
  pub count : length (lines_of (stream_of tag before)) ≡ length (texts_of tag before)
  pub numbers : All (λ k. k < length (texts_of tag before)) (given_up_of tag before)

pub Side-none : (tag : Tag) → Side tag []
unfolding texts_of stream_of given_up_of
Side-none tag = record { whole = inl refl; count = refl; numbers = All-nil (λ (k : ℕ). k < 0) }

pub Side-other : (tag : Tag) (before : List PlayedLine) (line : PlayedLine) → text_by tag line.line ≡ None → Side tag before →
    Side tag (before ++ line ∷ [])
Side-other tag before line other h =
    let s = stream_of-other tag before line other in
    record {
      whole = subst IsEnded (sym s) h.whole;
      count = ap (λ st. length (lines_of st)) s ∙ h.count ∙ ap length (sym (texts_of-other tag before line other));
      numbers = subst (λ (ks : List ℕ). All (λ k. k < length (texts_of tag (before ++ line ∷ []))) ks) (sym (given_up_of-other tag before line other))
          (subst (λ (ts : List (List ℕ)). All (λ k. k < length ts) (given_up_of tag before)) (sym (texts_of-other tag before line other)) h.numbers);
    }

-- the lines of the connection after one more
pub lines-said : (tag : Tag) (before : List PlayedLine) (line : PlayedLine) (text : List ℕ) → text_by tag line.line ≡ Some text →
    list_any is_line_end text ≡ false → Side tag before →
    lines_of (stream_of tag (before ++ line ∷ [])) ≡ lines_of (stream_of tag before) ++ line_of_text text ∷ []
lines-said tag before line text said one h =
    ap lines_of (stream_of-said tag before line text said ∙ append_assoc (stream_of tag before) text (13 ∷ 10 ∷ []))
    ∙ lines_of-append (stream_of tag before) (text ++ 13 ∷ 10 ∷ []) h.whole
    ∙ ap (λ (ls : List Line). lines_of (stream_of tag before) ++ ls) (lines_of_return text [] one)

-- the number of a line, if it was given up
abbrev later_of : ℕ → Bool → List ℕ
later_of number given_up = filter_map number_given_up ((number, given_up) ∷ [])

later-high : (n number : ℕ) (given_up : Bool) → n ≡ number → All (λ k. n ≤ k) (later_of number given_up)
later-high n number true is = All-cons (λ k. n ≤ k) number [] (omega (arith, is)) (All-nil (λ (k : ℕ). n ≤ k))
later-high n number false is = All-nil (λ (k : ℕ). n ≤ k)

later-low : (n number : ℕ) (given_up : Bool) → number < n → All (λ k. k < n) (later_of number given_up)
later-low n number true low = All-cons (λ k. k < n) number [] low (All-nil (λ (k : ℕ). k < n))
later-low n number false low = All-nil (λ (k : ℕ). k < n)

pub Side-said : (tag : Tag) (before : List PlayedLine) (line : PlayedLine) (text : List ℕ) → text_by tag line.line ≡ Some text →
    list_any is_line_end text ≡ false → Side tag before → Side tag (before ++ line ∷ [])
Side-said tag before line text said one h =
    let stream = stream_of-said tag before line text said in
    let n : ℕ = length (texts_of tag before) in
    let more : length (texts_of tag (before ++ line ∷ [])) ≡ n + 1 =
    ap length (texts_of-said tag before line text said) ∙ length-append (texts_of tag before) (text ∷ []) in
    record {
      whole = subst IsEnded (sym stream)
          (inr ((stream_of tag before ++ text) ++ 13 ∷ [], sym (append_assoc (stream_of tag before ++ text) (13 ∷ []) (10 ∷ []))));
      count =
          ap length (lines-said tag before line text said one h)
          ∙ length-append (lines_of (stream_of tag before)) (line_of_text text ∷ []) ∙ ap (λ n. n + 1) h.count
          ∙ sym more;
      numbers = subst (λ (ks : List ℕ). All (λ k. k < length (texts_of tag (before ++ line ∷ []))) ks) (sym (given_up_of-more tag before line text said))
          (subst (λ (m : ℕ). All (λ k. k < m) (given_up_of tag before ++ later_of n line.given_up)) (sym more)
          (All-append (λ k. k < n + 1) (given_up_of tag before) (later_of n line.given_up)
          (λ k d inside. let low = h.numbers k d inside in omega (arith, low)) (later-low (n + 1) n line.given_up (omega arith))));
    }

-- what a connection asked for, and whether it has ended
abbrev pub asked_of : Playout → Tag → List PlayedLine → List Parsed
asked_of playout tag before = asks playout.config playout.names (given_up_of tag before) (lines_of (stream_of tag before))

abbrev pub has_ended : Playout → Tag → List PlayedLine → Bool
has_ended playout tag before =
    list_any is_end (line_steps playout.config playout.names (given_up_of tag before) (lines_of (stream_of tag before)))

-- the step of the connection's next line, given up or not, and what that line asks for
abbrev pub own_step : Playout → Tag → List PlayedLine → List ℕ → Bool → Step
own_step playout tag before text given_up =
    if given_up then Local reply.NoMemory
    else step_of_meaning (asked_of playout tag before) (line_meaning playout.config playout.names (line_of_text text))

abbrev pub own_ask : Playout → List ℕ → Bool → Option Parsed
own_ask playout text given_up = if given_up then None else asked_by (line_meaning playout.config playout.names (line_of_text text))

-- the next line is given up if it is marked so
is_given_up-here : (numbers : List ℕ) (n number : ℕ) (given_up : Bool) → n ≡ number → All (λ k. k < number) numbers →
    is_given_up (numbers ++ later_of number given_up) n ≡ given_up
is_given_up-here numbers n number given_up is low =
    list_any-append (λ k. k == n) numbers (later_of number given_up)
    ∙ ap (λ (b : Bool). b || is_given_up (later_of number given_up) n)
    (list_any_none (λ k. k == n) numbers (λ k d inside. ne_eqb _ n (λ e. omega (arith, low k d inside, e, is))))
    ∙ by_mark given_up
  where
    by_mark : (given_up : Bool) → is_given_up (later_of number given_up) n ≡ given_up
    by_mark true = ap (λ (m : ℕ). is_given_up (m ∷ []) n) (sym is) ∙ given_up_here n
    by_mark false = refl

-- the next line of a connection, with those before it
record IsNext (playout : Playout) (tag : Tag) (before : List PlayedLine) (line : PlayedLine) (lines : List Line) (next : Line) (later : List ℕ) : Type 0 where
  now : lines_of (stream_of tag (before ++ line ∷ [])) ≡ lines ++ next ∷ []
  numbers : given_up_of tag (before ++ line ∷ []) ≡ given_up_of tag before ++ later
  high : All (λ k. length lines ≤ k) later
  here : is_given_up (given_up_of tag before ++ later) (length lines) ≡ line.given_up

comes_next : (playout : Playout) (tag : Tag) (before : List PlayedLine) (line : PlayedLine) (text : List ℕ) → text_by tag line.line ≡ Some text →
    list_any is_line_end text ≡ false → Side tag before →
    IsNext playout tag before line (lines_of (stream_of tag before)) (line_of_text text) (later_of (length (texts_of tag before)) line.given_up)
comes_next playout tag before line text said one h =
    let n : ℕ = length (texts_of tag before) in
    record {
      now = lines-said tag before line text said one h;
      numbers = given_up_of-more tag before line text said;
      high = later-high (length (lines_of (stream_of tag before))) n line.given_up h.count;
      here = is_given_up-here (given_up_of tag before) (length (lines_of (stream_of tag before))) n line.given_up h.count h.numbers;
    }

-- the step of the next line, among those of the lines before it
step-here : (playout : Playout) (tag : Tag) (before : List PlayedLine) (line : PlayedLine) (text : List ℕ) (later : List ℕ) →
    IsNext playout tag before line (lines_of (stream_of tag before)) (line_of_text text) later →
    step_of_line playout.config playout.names (given_up_of tag before ++ later) (lines_of (stream_of tag before))
    (length (lines_of (stream_of tag before)), line_of_text text)
    ≡ own_step playout tag before text line.given_up
step-here playout tag before line text later x =
    let lines : List Line = lines_of (stream_of tag before) in
    let meaning = line_meaning playout.config playout.names (line_of_text text) in
    let asked : asks playout.config playout.names (given_up_of tag before ++ later) (take (length lines) lines) ≡ asked_of playout tag before =
    ap (asks playout.config playout.names (given_up_of tag before ++ later)) (take_all (length lines) lines (omega arith))
    ∙ asks-later playout.config playout.names (given_up_of tag before) later lines x.high in
    λ i. if x.here i then Local reply.NoMemory else step_of_meaning (asked i) meaning

asked_of-next : (playout : Playout) (tag : Tag) (before : List PlayedLine) (line : PlayedLine) (text : List ℕ) (later : List ℕ) →
    IsNext playout tag before line (lines_of (stream_of tag before)) (line_of_text text) later →
    asked_of playout tag (before ++ line ∷ []) ≡ asked_of playout tag before ++ cons_option (own_ask playout text line.given_up) []
asked_of-next playout tag before line text later x =
    let lines : List Line = lines_of (stream_of tag before) in
    let numbers : List ℕ = given_up_of tag before ++ later in
    (λ i. asks playout.config playout.names (x.numbers i) (x.now i))
    ∙ asks-append playout.config playout.names numbers lines (line_of_text text ∷ [])
    ∙ ap (λ (asked : List Parsed). asked ++ cons_option (asked_by_line playout.config playout.names numbers (length lines, line_of_text text)) [])
    (asks-later playout.config playout.names (given_up_of tag before) later lines x.high)
    ∙ ap (λ (b : Bool). asked_of playout tag before
    ++ cons_option (if b then None else asked_by (line_meaning playout.config playout.names (line_of_text text))) []) x.here

pub asked_of-said : (playout : Playout) (tag : Tag) (before : List PlayedLine) (line : PlayedLine) (text : List ℕ) → text_by tag line.line ≡ Some text →
    list_any is_line_end text ≡ false → Side tag before →
    asked_of playout tag (before ++ line ∷ []) ≡ asked_of playout tag before ++ cons_option (own_ask playout text line.given_up) []
asked_of-said playout tag before line text said one h =
    asked_of-next playout tag before line text (later_of (length (texts_of tag before)) line.given_up)
    (comes_next playout tag before line text said one h)

-- the steps of the lines so far, and that of the next line
steps-next : (playout : Playout) (tag : Tag) (before : List PlayedLine) (line : PlayedLine) (text : List ℕ) (later : List ℕ) →
    IsNext playout tag before line (lines_of (stream_of tag before)) (line_of_text text) later →
    line_steps playout.config playout.names (given_up_of tag before ++ later) (lines_of (stream_of tag before) ++ line_of_text text ∷ [])
    ≡ line_steps playout.config playout.names (given_up_of tag before) (lines_of (stream_of tag before))
    ++ own_step playout tag before text line.given_up ∷ []
steps-next playout tag before line text later x =
    let lines : List Line = lines_of (stream_of tag before) in
    line_steps-snoc playout.config playout.names (given_up_of tag before ++ later) lines (line_of_text text)
    ∙ (λ i. line_steps-later playout.config playout.names (given_up_of tag before) later lines x.high i
    ++ step-here playout tag before line text later x i ∷ [])

pub has_ended-said : (playout : Playout) (tag : Tag) (before : List PlayedLine) (line : PlayedLine) (text : List ℕ) → text_by tag line.line ≡ Some text →
    list_any is_line_end text ≡ false → Side tag before →
    has_ended playout tag (before ++ line ∷ []) ≡ (has_ended playout tag before || is_end (own_step playout tag before text line.given_up))
has_ended-said playout tag before line text said one h =
    let later : List ℕ = later_of (length (texts_of tag before)) line.given_up in
    let x : IsNext playout tag before line (lines_of (stream_of tag before)) (line_of_text text) later = comes_next playout tag before line text said one h in
    let steps : List Step = line_steps playout.config playout.names (given_up_of tag before) (lines_of (stream_of tag before)) in
    (λ i. list_any is_end (line_steps playout.config playout.names (x.numbers i) (x.now i)))
    ∙ ap (list_any is_end) (steps-next playout tag before line text later x)
    ∙ list_any-append is_end steps (own_step playout tag before text line.given_up ∷ [])
    ∙ ap (λ b. list_any is_end steps || b) (or-false (is_end (own_step playout tag before text line.given_up)))

shown_by : (playout : Playout) (tag : Tag) (before : List PlayedLine) (line : PlayedLine) (text : List ℕ) (later : List ℕ) (ended : Bool) →
    IsNext playout tag before line (lines_of (stream_of tag before)) (line_of_text text) later → has_ended playout tag before ≡ ended →
    slice_get (until_end (line_steps playout.config playout.names (given_up_of tag before ++ later) (lines_of (stream_of tag before) ++ line_of_text text ∷ [])))
    (length (lines_of (stream_of tag before)))
    ≡ cond ended None (Some (own_step playout tag before text line.given_up))
shown_by playout tag before line text later true x is =
    let lines : List Line = lines_of (stream_of tag before) in
    let steps : List Step = line_steps playout.config playout.names (given_up_of tag before) lines in
    let few = length-until_end steps in
    let each = length-line_steps playout.config playout.names (given_up_of tag before) lines in
    ap (λ ss. slice_get ss (length lines))
    (until_end-lines_ended playout.config playout.names (given_up_of tag before) later lines (line_of_text text ∷ []) x.high is)
    ∙ slice_get_past (until_end steps) (length lines) (omega (arith, few, each))
shown_by playout tag before line text later false x is =
    let lines : List Line = lines_of (stream_of tag before) in
    let steps : List Step = line_steps playout.config playout.names (given_up_of tag before) lines in
    let step : Step = own_step playout tag before text line.given_up in
    ap (λ ss. slice_get (until_end ss) (length lines)) (steps-next playout tag before line text later x)
    ∙ ap (λ ss. slice_get ss (length lines)) (until_end-going steps (step ∷ []) is ∙ ap (λ (ss : List Step). steps ++ ss) (until_end-one step))
    ∙ ap (slice_get (steps ++ step ∷ [])) (sym (length-line_steps playout.config playout.names (given_up_of tag before) lines))
    ∙ last_step steps step

pub said_step-own : (playout : Playout) (tag : Tag) (before : List PlayedLine) (line : PlayedLine) (text : List ℕ) → text_by tag line.line ≡ Some text →
    list_any is_line_end text ≡ false → Side tag before →
    said_step playout before line tag ≡ cond (has_ended playout tag before) None (Some (own_step playout tag before text line.given_up))
unfolding said_step steps
said_step-own playout tag before line text said one h =
    let later : List ℕ = later_of (length (texts_of tag before)) line.given_up in
    let x : IsNext playout tag before line (lines_of (stream_of tag before)) (line_of_text text) later = comes_next playout tag before line text said one h in
    (λ i. slice_get (until_end (line_steps playout.config playout.names (x.numbers i) (x.now i))) (sym h.count i))
    ∙ shown_by playout tag before line text later (has_ended playout tag before) x refl
