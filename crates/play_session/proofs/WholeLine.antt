-- A line that is taken whole, without the reader.
use Rattle.std.proofs.Common.{◌≡◌, ℕ, true, false, List, [], ◌∷◌, ◌++◌, refl, sym, ap, ◌∙◌, subst, append_assoc, append-nil}
use Rattle.std.specs.Prelude.{Result, IfOk}
use Rattle.std.specs.List.{list_any}
use Rattle.std.proofs.lemmas.Bool.{or_from}
use Rattle.std.proofs.lemmas.List.Folds.{list_any-append}
use Rattle.amcp_text.specs.Lines.{Line, is_line_end, line_of_text, lines_of}
use Rattle.amcp_text.specs.ReaderState.{ReaderState}
use Rattle.amcp_text.specs.Reader.{with_text}
use Rattle.amcp_text.specs.Reader as reader
use Rattle.amcp_text.proofs.LineLaws.{lines_of_return}
use Rattle.amcp_text.proofs.ReaderLaws.{Represents-end, Represents-text, lines_held}
use Rattle.play_types.specs.Config.{ConfigView}
use Rattle.play_types.specs.Media.{MediaNameView}
use Rattle.history_model.specs.sessions.Line.{line_meaning}
use Rattle.play_session.specs.Step.{ends}
use Rattle.play_session.specs.inner.Meaning.{meaning_view}
use Rattle.play_session.specs.Session.{Gives, IsBetweenLines, Progress, Represents, after_bytes}
use Rattle.play_session.specs.SessionState.{SessionState}
use Rattle.play_session.specs.inner.Following.{Follows, batch_of}
use Rattle.play_session.specs.declared.meaning.ReadLine.{ReadLine}
use Rattle.play_session.specs.declared.step.Step.{Step}
use Rattle.play_session.proofs.NextLine.{Gives-followed, TookLine}
use Rattle.play_session.proofs.Standing.{Represents-fed}

-- a reader as if a text and CR LF had been fed to it
abbrev fed_reader : ReaderState → List ℕ → ReaderState
fed_reader r text = record { kept = (with_text r (text ++ 13 ∷ [])).kept; over = (with_text r (text ++ 13 ∷ [])).over; held = true }

-- a session as if a text and CR LF had been fed to it
abbrev fed : SessionState → List ℕ → SessionState
fed session text = record session { reader = fed_reader session.reader text }

one_head : (a b : Line) (xs ys : List Line) → a ∷ xs ≡ b ∷ ys → a ≡ b
one_head a b xs ys e = cc

module _ (before : SessionState) (text : List ℕ) (between : IsBetweenLines before) (one_line : list_any is_line_end text ≡ false) where
  unheld : before.reader.held ≡ false
  unheld = between.held

  no_end : list_any is_line_end (text ++ 13 ∷ []) ≡ false
  no_end = list_any-append is_line_end text (13 ∷ []) ∙ or_from _ _ one_line refl

  reads : (bytes : List ℕ) → reader.Represents before.reader bytes → reader.Represents (fed_reader before.reader text) (bytes ++ (text ++ 13 ∷ 10 ∷ []))
  reads bytes represents =
      subst (λ (all : List ℕ). reader.Represents (fed_reader before.reader text) all)
      (append_assoc bytes (text ++ 13 ∷ []) (10 ∷ []) ∙ ap (λ (end : List ℕ). bytes ++ end) (append_assoc text (13 ∷ []) (10 ∷ [])))
      (Represents-end (with_text before.reader (text ++ 13 ∷ [])) (bytes ++ (text ++ 13 ∷ []))
      (Represents-text before.reader bytes (text ++ 13 ∷ []) represents unheld no_end) unheld)

  -- the line that a reader holds after a text and CR LF is that of the text
  line_is : reader.line_kept (fed_reader before.reader text) ≡ line_of_text text
  line_is =
      one_head _ _ (lines_of []) (lines_of [])
      (sym ((lines_held (fed_reader before.reader text) (text ++ 13 ∷ 10 ∷ []) (reads [] between) refl).first [])
      ∙ ap lines_of (append-nil (text ++ 13 ∷ 10 ∷ [])) ∙ lines_of_return text [] one_line)

  took : (after : SessionState) → before.ended ≡ false → reader.Represents after.reader [] → TookLine (fed before text) after (line_of_text text)
  took after going dropped = record {
    going = going;
    held = refl;
    tells = λ bytes represents rest.
        (lines_held (fed_reader before.reader text) bytes represents refl).first rest ∙ ap (λ (l : Line). l ∷ lines_of rest) line_is;
    dropped = dropped;
  }

-- the step of the line is the next one of the stream with the text and CR LF at its end
pub Gives-whole : {E : Type 0} (config : ConfigView) (media : List MediaNameView) (read : Result ReadLine E) (result : Step) (before after : SessionState) (text : List ℕ)
    → IsBetweenLines before → list_any is_line_end text ≡ false → before.ended ≡ false → reader.Represents after.reader []
    → IfOk read (λ (r : ReadLine). meaning_view r.meaning ≡ line_meaning config media (line_of_text text)) → Follows read result (batch_of before) (batch_of after) → after.ended ≡ ends result
    → (progress : Progress) → Represents config media before progress
    → Gives config media result after (after_bytes progress (text ++ 13 ∷ 10 ∷ []))
Gives-whole config media read result before after text between one_line going dropped meant follows ends_so progress s =
    Gives-followed config media read result (fed before text) after (line_of_text text) (took before text between one_line after going dropped)
    meant follows ends_so (after_bytes progress (text ++ 13 ∷ 10 ∷ []))
    (Represents-fed config media before (fed before text) progress (text ++ 13 ∷ 10 ∷ []) s (reads before text between one_line) refl refl refl)
