-- The step of a connection's line is that of the line without marks, or the line is answered 500.
use Rattle.std.proofs.Common.{◌≡◌, ℕ, ◌+◌, ◌≤◌, Bool, true, false, ◌⊎◌, inl, inr, List, [], ◌∷◌, ◌++◌, map, length, refl, sym, ap, ◌∙◌, subst, subst₂, append_assoc, length-append}
use Rattle.std.specs.Prelude.{Option, Some, None, All, slice_get, filter_map, flat_map}
use Rattle.std.specs.List.{cons_option, enumerate_from, list_any}
use Rattle.std.proofs.lemmas.List.Elements.{All-nil}
use Rattle.amcp_text.specs.Lines.{Line, IsEnded, is_line_end, line_of_text, lines_of}
use Rattle.amcp_text.proofs.LineLaws.{lines_of_return, lines_of-append}
use Rattle.play_types.specs.declared.event.Tag.{Tag}
use Rattle.play_types.specs.declared.reply.Reply.TheVariants as reply
use Rattle.history_model.specs.sessions.Session.{Local, is_end, line_steps, steps, until_end}
use Rattle.history_model.specs.scripts.History.{Playout, PlayedLine, given_up_by, given_up_of, mark_of, number_given_up, said_step, stream_of, text_by, texts_of}
use Rattle.history_model.proofs.Marks.{IsOver, IsUnmarked, lost_step, over-lost, over-more, over_now, over_step}
use Rattle.history_model.proofs.Streams.{given_up_of-kept, given_up_of-lost, given_up_of-other, stream_of-other, stream_of-said, texts_of-other, texts_of-said}

-- a line without its marks
abbrev pub unmarked : PlayedLine → PlayedLine
unmarked played = record { line = played.line; given_up = false; no_memory = false }

pub unmarked-append : (lines : List PlayedLine) (line : PlayedLine) → map unmarked lines ++ unmarked line ∷ [] ≡ map unmarked (lines ++ line ∷ [])
unmarked-append [] line = refl
unmarked-append (first ∷ lines) line = ap (λ l. unmarked first ∷ l) (unmarked-append lines line)

-- the texts and the stream of a connection have no marks, and without marks no line was given up
texts-unmarked : (tag : Tag) (lines : List PlayedLine) → texts_of tag (map unmarked lines) ≡ texts_of tag lines
unfolding texts_of
texts-unmarked tag [] = refl
texts-unmarked tag (line ∷ lines) = ap (cons_option (text_by tag line.line)) (texts-unmarked tag lines)

stream-unmarked : (tag : Tag) (lines : List PlayedLine) → stream_of tag (map unmarked lines) ≡ stream_of tag lines
unfolding stream_of
stream-unmarked tag lines = ap (flat_map (λ text. text ++ 13 ∷ 10 ∷ [])) (texts-unmarked tag lines)

no_number : (found : Option (List ℕ)) (n : ℕ) (marks : List Bool) → ((m : ℕ) → filter_map number_given_up (enumerate_from m marks) ≡ []) →
    filter_map number_given_up (enumerate_from n (cons_option (mark_of found false) marks)) ≡ []
no_number None n marks each = each n
no_number (Some text) n marks each = each (n + 1)

no_numbers : (tag : Tag) (lines : List PlayedLine) (n : ℕ) →
    filter_map number_given_up (enumerate_from n (filter_map (given_up_by tag) (map unmarked lines))) ≡ []
no_numbers tag [] n = refl
no_numbers tag (line ∷ lines) n =
    no_number (text_by tag line.line) n (filter_map (given_up_by tag) (map unmarked lines)) (no_numbers tag lines)

pub given_up-unmarked : (tag : Tag) (lines : List PlayedLine) → given_up_of tag (map unmarked lines) ≡ []
unfolding given_up_of
given_up-unmarked tag lines = no_numbers tag lines 0

-- after these lines no line of the connection was given up before it ended, and each of its texts is a line
pub record Keeps (playout : Playout) (tag : Tag) (before : List PlayedLine) : Type 0 where
  pub whole : IsEnded (stream_of tag before)
  pub count : length (lines_of (stream_of tag before)) ≡ length (texts_of tag before)
  pub marks : IsUnmarked playout.config playout.names (given_up_of tag before) (lines_of (stream_of tag before))

pub Keeps-none : (playout : Playout) (tag : Tag) → Keeps playout tag []
unfolding texts_of stream_of given_up_of
Keeps-none playout tag = record { whole = inl refl; count = refl; marks = inl refl }

pub Keeps-other : (playout : Playout) (tag : Tag) (before : List PlayedLine) (line : PlayedLine) → text_by tag line.line ≡ None →
    Keeps playout tag before → Keeps playout tag (before ++ line ∷ [])
Keeps-other playout tag before line other h =
    let s = stream_of-other tag before line other in
    record {
      whole = subst IsEnded (sym s) h.whole;
      count = ap (λ st. length (lines_of st)) s ∙ h.count ∙ ap length (sym (texts_of-other tag before line other));
      marks = subst₂ (λ g st. IsUnmarked playout.config playout.names g (lines_of st)) (sym (given_up_of-other tag before line other)) (sym s) h.marks;
    }

-- the next line is one of the connection
record IsNext (tag : Tag) (before : List PlayedLine) (line : PlayedLine) (lines : List Line) (next : Line) : Type 0 where
  now : lines_of (stream_of tag (before ++ line ∷ [])) ≡ lines ++ next ∷ []
  number : length lines ≡ length (texts_of tag before)
  whole : IsEnded (stream_of tag (before ++ line ∷ []))
  count : length (lines_of (stream_of tag (before ++ line ∷ []))) ≡ length (texts_of tag (before ++ line ∷ []))

comes_next : (playout : Playout) (tag : Tag) (before : List PlayedLine) (line : PlayedLine) (text : List ℕ) → text_by tag line.line ≡ Some text →
    list_any is_line_end text ≡ false → Keeps playout tag before → IsNext tag before line (lines_of (stream_of tag before)) (line_of_text text)
comes_next playout tag before line text said one h =
    let stream = stream_of-said tag before line text said in
    let lines = lines_of (stream_of tag before) in
    let now : lines_of (stream_of tag (before ++ line ∷ [])) ≡ lines ++ line_of_text text ∷ [] =
    ap lines_of (stream ∙ append_assoc (stream_of tag before) text (13 ∷ 10 ∷ []))
    ∙ lines_of-append (stream_of tag before) (text ++ 13 ∷ 10 ∷ []) h.whole
    ∙ ap (λ (ls : List Line). lines ++ ls) (lines_of_return text [] one) in
    record {
      now = now;
      number = h.count;
      whole = subst IsEnded (sym stream)
          (inr ((stream_of tag before ++ text) ++ 13 ∷ [], sym (append_assoc (stream_of tag before ++ text) (13 ∷ []) (10 ∷ []))));
      count =
          ap length now ∙ length-append lines (line_of_text text ∷ []) ∙ ap (λ n. n + 1) h.count
          ∙ sym (length-append (texts_of tag before) (text ∷ [])) ∙ ap length (sym (texts_of-said tag before line text said));
    }

-- the step of the next line, by which lines were given up
step_shown : (playout : Playout) (tag : Tag) (before : List PlayedLine) (line : PlayedLine) (lines : List Line) (next : Line) (given_up : List ℕ) →
    IsNext tag before line lines next → given_up_of tag (before ++ line ∷ []) ≡ given_up →
    said_step playout before line tag ≡ slice_get (until_end (line_steps playout.config playout.names given_up (lines ++ next ∷ []))) (length lines)
unfolding said_step steps
step_shown playout tag before line lines next given_up x is =
    λ i. slice_get (until_end (line_steps playout.config playout.names (is i) (x.now i))) (sym x.number i)

step_unmarked : (playout : Playout) (tag : Tag) (before : List PlayedLine) (line : PlayedLine) (lines : List Line) (next : Line) →
    IsNext tag before line lines next →
    said_step playout (map unmarked before) (unmarked line) tag
    ≡ slice_get (until_end (line_steps playout.config playout.names [] (lines ++ next ∷ []))) (length lines)
unfolding said_step steps
step_unmarked playout tag before line lines next x =
    let all = before ++ line ∷ [] in
    let whole = unmarked-append before line in
    let g : given_up_of tag (map unmarked before ++ unmarked line ∷ []) ≡ [] = ap (given_up_of tag) whole ∙ given_up-unmarked tag all in
    let s : lines_of (stream_of tag (map unmarked before ++ unmarked line ∷ [])) ≡ lines ++ next ∷ [] =
    ap (λ ls. lines_of (stream_of tag ls)) whole ∙ ap lines_of (stream-unmarked tag all) ∙ x.now in
    let n : length (texts_of tag (map unmarked before)) ≡ length lines = ap length (texts-unmarked tag before) ∙ sym x.number in
    λ i. slice_get (until_end (line_steps playout.config playout.names (g i) (s i))) (n i)

-- the next line is answered 500, or its step is that without marks
abbrev pub Outcome : Playout → Tag → List PlayedLine → PlayedLine → Type 0
Outcome playout tag before line =
    (said_step playout before line tag ≡ Some (Local reply.NoMemory))
    ⊎ ((said_step playout before line tag ≡ said_step playout (map unmarked before) (unmarked line) tag) × Keeps playout tag (before ++ line ∷ []))

kept_on : (playout : Playout) (tag : Tag) (before : List PlayedLine) (line : PlayedLine) (lines : List Line) (next : Line) →
    IsNext tag before line lines next →
    IsUnmarked playout.config playout.names (given_up_of tag (before ++ line ∷ [])) (lines ++ next ∷ []) → Keeps playout tag (before ++ line ∷ [])
kept_on playout tag before line lines next x marks = record {
  whole = x.whole;
  count = x.count;
  marks = subst (IsUnmarked playout.config playout.names (given_up_of tag (before ++ line ∷ []))) (sym x.now) marks;
}

over_outcome : (playout : Playout) (tag : Tag) (before : List PlayedLine) (line : PlayedLine) (lines : List Line) (next : Line) (later : List ℕ) →
    IsNext tag before line lines next → (over : IsOver playout.config playout.names (given_up_of tag before) lines) →
    given_up_of tag (before ++ line ∷ []) ≡ later → All (λ k. length over.first ≤ k) later → Outcome playout tag before line
over_outcome playout tag before line lines next later x over is high =
    let given_up = given_up_of tag before in
    inr (
      step_shown playout tag before line lines next later x is
          ∙ over_step playout.config playout.names given_up later lines next over high
          ∙ sym (over_step playout.config playout.names given_up [] lines next over (All-nil (λ (k : ℕ). length over.first ≤ k)))
          ∙ sym (step_unmarked playout tag before line lines next x),
      kept_on playout tag before line lines next x
          (inr (subst (λ g. IsOver playout.config playout.names g (lines ++ next ∷ [])) (sym is)
          (over-more playout.config playout.names given_up later lines next over high))),
    )

over_by : (playout : Playout) (tag : Tag) (before : List PlayedLine) (line : PlayedLine) (text : List ℕ) (lines : List Line) (next : Line) (lost : Bool) →
    text_by tag line.line ≡ Some text → line.given_up ≡ lost → IsNext tag before line lines next →
    IsOver playout.config playout.names (given_up_of tag before) lines → Outcome playout tag before line
over_by playout tag before line text lines next true said is x over =
    over_outcome playout tag before line lines next (given_up_of tag before ++ length (texts_of tag before) ∷ []) x over
    (given_up_of-lost tag before line text said is)
    (over-lost playout.config playout.names (given_up_of tag before) lines (length (texts_of tag before)) over x.number)
over_by playout tag before line text lines next false said is x over =
    over_outcome playout tag before line lines next (given_up_of tag before) x over (given_up_of-kept tag before line text said is) over.high

going_by : (playout : Playout) (tag : Tag) (before : List PlayedLine) (line : PlayedLine) (text : List ℕ) (lines : List Line) (next : Line) (lost : Bool) →
    text_by tag line.line ≡ Some text → line.given_up ≡ lost → IsNext tag before line lines next → given_up_of tag before ≡ [] →
    list_any is_end (line_steps playout.config playout.names [] lines) ≡ false → Outcome playout tag before line
going_by playout tag before line text lines next true said is x none goes =
    inl (step_shown playout tag before line lines next (length lines ∷ []) x
    (given_up_of-lost tag before line text said is ∙ ap (λ g. g ++ length (texts_of tag before) ∷ []) none ∙ ap (λ k. k ∷ []) (sym x.number))
    ∙ lost_step playout.config playout.names lines next goes)
going_by playout tag before line text lines next false said is x none goes =
    let kept = given_up_of-kept tag before line text said is ∙ none in
    inr (
      step_shown playout tag before line lines next [] x kept ∙ sym (step_unmarked playout tag before line lines next x),
      kept_on playout tag before line lines next x (inl kept),
    )

outcome_by : (playout : Playout) (tag : Tag) (before : List PlayedLine) (line : PlayedLine) (text : List ℕ) (lines : List Line) (next : Line) (ended : Bool) →
    text_by tag line.line ≡ Some text → IsNext tag before line lines next → given_up_of tag before ≡ [] →
    list_any is_end (line_steps playout.config playout.names [] lines) ≡ ended → Outcome playout tag before line
outcome_by playout tag before line text lines next true said x none is =
    over_by playout tag before line text lines next line.given_up said refl x (over_now playout.config playout.names (given_up_of tag before) lines none is)
outcome_by playout tag before line text lines next false said x none is =
    going_by playout tag before line text lines next line.given_up said refl x none is

outcome_of_marks : (playout : Playout) (tag : Tag) (before : List PlayedLine) (line : PlayedLine) (text : List ℕ) (lines : List Line) (next : Line) →
    text_by tag line.line ≡ Some text → IsNext tag before line lines next →
    IsUnmarked playout.config playout.names (given_up_of tag before) lines → Outcome playout tag before line
outcome_of_marks playout tag before line text lines next said x (inl none) =
    outcome_by playout tag before line text lines next (list_any is_end (line_steps playout.config playout.names [] lines)) said x none refl
outcome_of_marks playout tag before line text lines next said x (inr over) =
    over_by playout tag before line text lines next line.given_up said refl x over

pub outcome : (playout : Playout) (tag : Tag) (before : List PlayedLine) (line : PlayedLine) (text : List ℕ) → text_by tag line.line ≡ Some text →
    list_any is_line_end text ≡ false → Keeps playout tag before → Outcome playout tag before line
outcome playout tag before line text said one h =
    outcome_of_marks playout tag before line text (lines_of (stream_of tag before)) (line_of_text text) said
    (comes_next playout tag before line text said one h) h.marks
