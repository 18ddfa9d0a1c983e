-- The token of the next line of a stream.
use Rattle.std.proofs.Common.{◌≡◌, ℕ, true, false, List, [], ◌∷◌, ◌++◌, map, length, refl, sym, ap, ◌∙◌}
use Rattle.std.specs.Prelude.{Option, Some, Result, Ok, Err, IfOk, slice_get}
use Rattle.std.proofs.lemmas.Bool.{false≢true}
use Rattle.std.proofs.lemmas.List.{length-map, map-append}
use Rattle.amcp_text.specs.Lines.{Line, lines_of}
use Rattle.play_types.specs.Config.{ConfigView}
use Rattle.play_types.specs.Media.{MediaNameView}
use Rattle.play_types.specs.declared.reply.Reply.{Reply}
use Rattle.play_types.specs.declared.reply.Reply.TheVariants as reply
use Rattle.history_model.specs.text.Replies.{reply_token}
use Rattle.history_model.specs.sessions.Request.{line_token, tokens}
use Rattle.play_session.specs.SessionState.{SessionState}
use Rattle.play_session.specs.inner.Following.{Follows, batch_of, token_read}
use Rattle.play_session.specs.declared.meaning.ReadLine.{ReadLine}
use Rattle.play_session.specs.Step.{gives_up, is_out_of_memory}
use Rattle.play_session.specs.Session.{HasToken, Progress, Represents}
use Rattle.play_session.specs.declared.step.Step.{Step}
use Rattle.play_session.proofs.NextLine.{TookLine, line_read, lines_before, lines_with, slice_get_after}

-- a line that is not given up was read, and its token was kept
pub token_kept : {E : Type 0} (read : Result ReadLine E) (result : Step) (before after : SessionState) (line : Line)
    → IfOk read (λ (r : ReadLine). r.token ≡ line_token line) → Follows read result (batch_of before) (batch_of after) → after.token ≡ token_read read
    → gives_up result ≡ false → after.token ≡ line_token line
token_kept (Ok read) result before after line has follows same kept = same ∙ has
token_kept (Err fault) result before after line has follows same kept = absurd (false≢true (sym kept ∙ ap gives_up follows.0))

-- the token of a line that was given up is the token of no reply
pub reply_token-kept : (token told : Option (List ℕ)) (answer : Reply) → (is_out_of_memory answer ≡ false → token ≡ told) → reply_token token answer ≡ reply_token told answer
reply_token-kept token told (reply.Done command) same = same refl
reply_token-kept token told (reply.Value micros) same = same refl
reply_token-kept token told (reply.Info statuses) same = same refl
reply_token-kept token told reply.Cls same = same refl
reply_token-kept token told reply.Version same = same refl
reply_token-kept token told (reply.Unknown line) same = same refl
reply_token-kept token told (reply.Refused code command) same = same refl
reply_token-kept token told reply.NoMemory same = refl

-- the token is that of the next line of the stream
pub HasToken-next : (config : ConfigView) (media : List MediaNameView) (result : Step) (before after : SessionState) (line : Line)
    → TookLine before after line → (gives_up result ≡ false → after.token ≡ line_token line)
    → (progress : Progress) → Represents config media before progress → HasToken result after progress
unfolding tokens
HasToken-next config media result before after line took kept progress s =
    let lines = lines_of s.before in
    let next = line_read (lines_before config media progress lines) line in
    let whole : map line_token (lines_of progress.stream) ≡ map line_token lines ++ line_token line ∷ [] =
    ap (map line_token) (lines_with config media before after next took progress s) ∙ map-append line_token lines (line ∷ []) in
    let place : length (map line_token lines) ≡ progress.given = length-map lines line_token ∙ s.count in
    record {
      token = line_token line;
      line = rw (whole, ← place) (slice_get_after (map line_token lines) (line_token line));
      kept = kept;
    }
