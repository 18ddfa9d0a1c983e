-- How far a session has come, as it is restarted and fed.
use Rattle.std.proofs.Common.{◌≡◌, ℕ, ◌<◌, false, List, [], ◌++◌, length, refl, sym, ap, ◌∙◌, inl, append_assoc, append-nil}
use Rattle.std.proofs.lemmas.Bool.{false≢true}
use Rattle.std.proofs.lemmas.List.Elements.{All-nil}
use Rattle.amcp_text.specs.Lines.{Line, lines_of}
use Rattle.amcp_text.specs.Reader as reader
use Rattle.amcp_text.proofs.LineLaws.{lines_of-append}
use Rattle.play_types.specs.Config.{ConfigView}
use Rattle.play_types.specs.Media.{MediaNameView}
use Rattle.history_model.specs.sessions.Session.{asks, line_steps}
use Rattle.play_session.specs.SessionState.{SessionState}
use Rattle.play_session.specs.Session.{Progress, Represents, after_bytes, at_start}

-- a session that was fed nothing
pub Represents-nothing : (config : ConfigView) (media : List MediaNameView) (session : SessionState) → reader.Represents session.reader []
    → session.batch_open ≡ false → session.ended ≡ false → Represents config media session at_start
unfolding asks line_steps
Represents-nothing config media session reads closed going = record {
  before = [];
  rest = [];
  parts = refl;
  whole = inl refl;
  count = refl;
  known = All-nil (λ number. number < 0);
  reads = reads;
  batch_open = closed;
  batch = λ e. absurd (false≢true (sym closed ∙ e));
  ended = going;
}

-- a session whose reader took more bytes
pub Represents-fed : (config : ConfigView) (media : List MediaNameView) (before after : SessionState) (progress : Progress) (taken : List ℕ)
    → Represents config media before progress
    → ((bytes : List ℕ) → reader.Represents before.reader bytes → reader.Represents after.reader (bytes ++ taken))
    → after.batch_open ≡ before.batch_open → after.batch ≡ before.batch → after.ended ≡ before.ended
    → Represents config media after (after_bytes progress taken)
Represents-fed config media before after progress taken s reads same_open same_batch same_ended = record {
  before = s.before;
  rest = s.rest ++ taken;
  parts = ap (λ (bytes : List ℕ). bytes ++ taken) s.parts ∙ append_assoc s.before s.rest taken;
  whole = s.whole;
  count = s.count;
  known = s.known;
  reads = reads s.rest s.reads;
  batch_open = same_open ∙ s.batch_open;
  batch = λ e. same_batch ∙ s.batch (sym same_open ∙ e);
  ended = same_ended ∙ s.ended;
}

-- if no whole line is held, all steps of the stream were given
pub all_given : (config : ConfigView) (media : List MediaNameView) (session : SessionState) (progress : Progress)
    → Represents config media session progress
    → ((bytes : List ℕ) → reader.Represents session.reader bytes → lines_of bytes ≡ [])
    → length (lines_of progress.stream) ≡ progress.given
all_given config media session progress s none =
    ap (λ (bytes : List ℕ). length (lines_of bytes)) s.parts
    ∙ ap (λ (ls : List Line). length ls) (lines_of-append s.before s.rest s.whole
    ∙ ap (λ (ls : List Line). lines_of s.before ++ ls) (none s.rest s.reads) ∙ append-nil (lines_of s.before))
    ∙ s.count
