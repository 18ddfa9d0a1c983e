-- A line of a connection that its session takes.
use Rattle.std.proofs.Common.{◌≡◌, ℕ, ◌+◌, ◌≤◌, ◌==◌, Bool, true, false, cond, ◌&&◌, ◌||◌, List, [], ◌∷◌, ◌++◌, length, refl, sym, ap, ap₂, ◌∙◌, subst, arith, inr, append-nil, append_assoc, length-append}
use Rattle.std.specs.Prelude.{Option, Some, None, slice_get}
use Rattle.std.specs.List.{list_any}
use Rattle.std.proofs.lemmas.Bool.Decides.{nat_tests}
use Rattle.std.proofs.lemmas.List.Elements.{All-nil}
use Rattle.std.proofs.lemmas.List.Folds.{list_any-append}
use Rattle.std.proofs.lemmas.Option.{slice_get_past}
use Rattle.amcp_text.specs.Lines.{Line, line_of_text, lines_of, IsEnded}
use Rattle.amcp_text.proofs.LineLaws.{lines_of_return, lines_of-append}
use Rattle.play_types.specs.declared.event.Tag.{Tag}
use Rattle.play_types.specs.declared.reply.Reply.TheVariants as reply
use Rattle.play_types.specs.Config.{ConfigView}
use Rattle.play_types.specs.Media.{MediaNameView}
use Rattle.history_model.specs.scripts.Line.{Said}
use Rattle.history_model.specs.scripts.History.{Playout, PlayedLine, same_tag, text_by, texts_of, stream_of, given_up_of, said_step}
use Rattle.history_model.specs.sessions.Session.{line_steps, is_end, until_end, steps}
use Rattle.history_model.specs.sessions.Session as model
use Rattle.history_model.proofs.Streams.{texts_of-said, stream_of-said, given_up_of-kept, given_up_of-lost}
use Rattle.history_model.proofs.Sessions.{until_end-lines_ended, length-until_end, length-line_steps, line_steps-longer}
use Rattle.play_session.specs.Session.{Gives, GivesStep, IsBetweenLines, Progress, Represents, after_step}
use Rattle.play_session.specs.SessionState.{SessionState}
use Rattle.play_session.specs.Step.{ends, viewed}
use Rattle.play_session.specs.declared.step.Step.{Step}
use Rattle.play_session.specs.declared.step.Step.TheVariants as step
use Rattle.script_player.specs.declared.clients.Client.{Client}
use Rattle.script_player.specs.Clients.{IsServed, ServesConnection, NextText, played_text, gave_up, kept_session, progress_of, session_batch, ClientTakesLine}
use Rattle.history_model.proofs.OneLines.{HasNoLineEnd}

-- numbers and tags are equal to themselves
pub same_number : (n : ℕ) → (n == n) ≡ true
same_number n = grind (arith, nat_tests)

pub same_tag-refl : (tag : Tag) → same_tag tag tag ≡ true
same_tag-refl tag = ap₂ (λ a b. a && b) (same_number tag.worker) (same_number tag.session)

text_by-said : (tag : Tag) (text : List ℕ) → text_by tag (Said tag text) ≡ Some text
text_by-said tag text = ap (λ (b : Bool). cond b (Some text) None) (same_tag-refl tag)

text_by-other : (tag other : Tag) (text : List ℕ) → same_tag tag other ≡ false → text_by tag (Said other text) ≡ None
text_by-other tag other text differ = ap (λ (b : Bool). cond b (Some text) None) differ

lines_more : (stream text : List ℕ) → IsEnded stream → HasNoLineEnd text → lines_of ((stream ++ text) ++ 13 ∷ 10 ∷ []) ≡ lines_of stream ++ line_of_text text ∷ []
lines_more stream text whole none =
    ap lines_of (append_assoc stream text (13 ∷ 10 ∷ []))
    ∙ lines_of-append stream (text ++ 13 ∷ 10 ∷ []) whole
    ∙ ap (λ (ls : List Line). lines_of stream ++ ls) (lines_of_return text [] none)

ended_more : (stream text : List ℕ) → IsEnded ((stream ++ text) ++ 13 ∷ 10 ∷ [])
ended_more stream text = inr ((stream ++ text) ++ 13 ∷ [], sym (append_assoc (stream ++ text) (13 ∷ []) (10 ∷ [])))

-- a line that was not given up adds no number
kept : (next : NextText) (found : Step) → gave_up (Some found) ≡ false → given_up_of next.tag next.played ≡ given_up_of next.tag (next.played ++ played_text next (Some found) ∷ [])
kept next found is = sym (given_up_of-kept next.tag next.played (played_text next (Some found)) next.text (text_by-said next.tag next.text) is)

-- the numbers that were given up, after the step of a line
given_up-is : (next : NextText) (found : Step)
    → (after_step (progress_of next.tag next.played) found).given_up ≡ given_up_of next.tag (next.played ++ played_text next (Some found) ∷ [])
given_up-is next (step.Local reply.NoMemory) =
    sym (given_up_of-lost next.tag next.played (played_text next (Some (step.Local reply.NoMemory))) next.text (text_by-said next.tag next.text) refl)
given_up-is next (step.Local (reply.Done name)) = kept next (step.Local (reply.Done name)) refl
given_up-is next (step.Local (reply.Value micros)) = kept next (step.Local (reply.Value micros)) refl
given_up-is next (step.Local (reply.Info statuses)) = kept next (step.Local (reply.Info statuses)) refl
given_up-is next (step.Local reply.Cls) = kept next (step.Local reply.Cls) refl
given_up-is next (step.Local reply.Version) = kept next (step.Local reply.Version) refl
given_up-is next (step.Local (reply.Unknown line)) = kept next (step.Local (reply.Unknown line)) refl
given_up-is next (step.Local (reply.Refused code name)) = kept next (step.Local (reply.Refused code name)) refl
given_up-is next (step.Ask command) = kept next (step.Ask command) refl
given_up-is next step.AskBatch = kept next step.AskBatch refl
given_up-is next step.Kill = kept next step.Kill refl
given_up-is next step.Bye = kept next step.Bye refl
given_up-is next step.Skip = kept next step.Skip refl
given_up-is next step.NeedMore = kept next step.NeedMore refl

-- a step was given
gave : (config : ConfigView) (media : List MediaNameView) (found : Step) (session : SessionState) (progress : Progress)
    → Gives config media found session progress → length (lines_of progress.stream) ≡ progress.given + 1
    → GivesStep config media found session progress
gave config media (step.Local answer) session progress gives more = gives
gave config media (step.Ask command) session progress gives more = gives
gave config media step.AskBatch session progress gives more = gives
gave config media step.Kill session progress gives more = gives
gave config media step.Bye session progress gives more = gives
gave config media step.Skip session progress gives more = gives
gave config media step.NeedMore session progress gives more = absurd (let all = gives.0 in omega (arith, all, more))

-- if a step was given for each line, these lines are all lines of the stream
lines_before : (config : ConfigView) (media : List MediaNameView) (session : SessionState) (progress : Progress)
    → (stands : Represents config media session progress) → length (lines_of progress.stream) ≡ progress.given → lines_of progress.stream ≡ lines_of stands.before
lines_before config media session progress stands all =
    let whole = ap lines_of stands.parts ∙ lines_of-append stands.before stands.rest stands.whole in
    let both = ap length whole ∙ length-append (lines_of stands.before) (lines_of stands.rest) in
    let before = stands.count in
    whole ∙ ap (λ (ls : List Line). lines_of stands.before ++ ls) (no_lines (lines_of stands.rest) (omega (arith, both, before, all))) ∙ append-nil (lines_of stands.before)
  where
    no_lines : (ls : List Line) → length ls ≡ 0 → ls ≡ []
    no_lines [] none = refl
    no_lines (l ∷ ls) none = absurd (omega (arith, none))

-- the connection is served after the step of one line more
served_by : (playout : Playout) (tag : Tag) (now : SessionState) (played : List PlayedLine) (over : Bool) → now.ended ≡ over
    → length (lines_of (stream_of tag played)) ≡ length (texts_of tag played)
    → Represents playout.config playout.names now (progress_of tag played)
    → IsBetweenLines now → IsServed playout tag (kept_session over now) played
served_by playout tag now played false ended count stands between = (stands, between)
served_by playout tag now played true ended count stands between =
    ap (λ ls. list_any is_end (line_steps playout.config playout.names (given_up_of tag played) ls))
    (lines_before playout.config playout.names now (progress_of tag played) stands count)
    ∙ sym stands.ended ∙ ended

-- a step that asks for a batch keeps the session, which has the batch
step_kept : (found : Step) (now : SessionState) → viewed found now.batch ≡ viewed found (session_batch (kept_session (ends found) now))
step_kept (step.Local answer) now = refl
step_kept (step.Ask command) now = refl
step_kept step.AskBatch now = refl
step_kept step.Kill now = refl
step_kept step.Bye now = refl
step_kept step.Skip now = refl
step_kept step.NeedMore now = refl

-- a line was taken, and its step was given
pub spoken : (next : NextText) (client new : Client) (found : Step) (now : SessionState) → ServesConnection next.playout client next.played → HasNoLineEnd next.text
    → Gives next.playout.config next.playout.names found now (record (progress_of client.tag next.played) { stream = (stream_of client.tag next.played ++ next.text) ++ 13 ∷ 10 ∷ [] })
    → IsBetweenLines now → now.ended ≡ ends found → client.tag ≡ next.tag → new.tag ≡ next.tag → new.session ≡ kept_session (ends found) now
    → ClientTakesLine next (Some found) new
unfolding said_step
spoken next client new found now was none gives between ended old_tag new_tag kept_now =
    let playout = next.playout in
    let played = next.played in
    let tag = next.tag in
    let text = next.text in
    let all = played ++ played_text next (Some found) ∷ [] in
    let given = length (texts_of tag played) in
    let whole = subst (λ t. IsEnded (stream_of t played)) old_tag was.whole in
    let count_before = subst (λ t. length (lines_of (stream_of t played)) ≡ length (texts_of t played)) old_tag was.count in
    let more : length (lines_of ((stream_of tag played ++ text) ++ 13 ∷ 10 ∷ [])) ≡ length (texts_of tag played) + 1 =
    ap length (lines_more (stream_of tag played) text whole none) ∙ length-append (lines_of (stream_of tag played)) (line_of_text text ∷ [])
    ∙ ap (λ (n : ℕ). n + 1) count_before in
    let gives' = subst (λ t. Gives playout.config playout.names found now (record (progress_of t played) { stream = (stream_of t played ++ text) ++ 13 ∷ 10 ∷ [] })) old_tag gives in
    let step = gave playout.config playout.names found now (record (progress_of tag played) { stream = (stream_of tag played ++ text) ++ 13 ∷ 10 ∷ [] }) gives' more in
    let lost = given_up-is next found in
    let stream = stream_of-said tag played (played_text next (Some found)) text (text_by-said tag text) in
    let texts : length (texts_of tag all) ≡ given + 1 =
    ap length (texts_of-said tag played (played_text next (Some found)) text (text_by-said tag text)) ∙ length-append (texts_of tag played) (text ∷ []) in
    let count : length (lines_of (stream_of tag all)) ≡ length (texts_of tag all) = ap (λ (s : List ℕ). length (lines_of s)) stream ∙ more ∙ sym texts in
    let stands : Represents playout.config playout.names now (progress_of tag all) =
    subst (λ n. Represents playout.config playout.names now (record (progress_of tag all) { given = n })) (sym texts)
    (subst (λ s. Represents playout.config playout.names now (record { stream = s; given_up = given_up_of tag all; given = given + 1 })) (sym stream)
    (subst (λ g. Represents playout.config playout.names now (record { stream = (stream_of tag played ++ text) ++ 13 ∷ 10 ∷ []; given_up = g; given = given + 1 })) lost step.1)) in
    record {
      given = ap₂ (λ g s. slice_get (steps playout.config playout.names g s) given) (sym lost) stream ∙ step.0 ∙ step_kept found now
          ∙ ap (λ (s : Option SessionState). viewed found (session_batch s)) (sym kept_now);
      serves = record {
        whole = subst (λ t. IsEnded (stream_of t all)) (sym new_tag) (subst IsEnded (sym stream) (ended_more (stream_of tag played) text));
        count = subst (λ t. length (lines_of (stream_of t all)) ≡ length (texts_of t all)) (sym new_tag) count;
        served = subst (λ t. IsServed playout t new.session all) (sym new_tag)
            (subst (λ s. IsServed playout tag s all) (sym kept_now) (served_by playout tag now all (ends found) ended count stands between));
      };
    }

-- a line of a connection that has ended is passed over
pub passed_over : (next : NextText) (client new : Client) → client.tag ≡ next.tag → new.tag ≡ next.tag → HasNoLineEnd next.text → ServesConnection next.playout client next.played
    → client.session ≡ None → new.session ≡ None → ClientTakesLine next None new
unfolding said_step steps
passed_over next client new own new_tag none serves over over_now =
    let playout = next.playout in
    let played = next.played in
    let tag = next.tag in
    let text = next.text in
    let line = played_text next None in
    let all = played ++ line ∷ [] in
    let whole = subst (λ t. IsEnded (stream_of t played)) own serves.whole in
    let count = subst (λ t. length (lines_of (stream_of t played)) ≡ length (texts_of t played)) own serves.count in
    let lost = given_up_of-kept tag played line text (text_by-said tag text) refl in
    let stream = stream_of-said tag played line text (text_by-said tag text) in
    let texts = texts_of-said tag played line text (text_by-said tag text) in
    let lines = lines_of (stream_of tag played) in
    let more = line_of_text text ∷ [] in
    let given_up = given_up_of tag played in
    let now : lines_of (stream_of tag all) ≡ lines ++ more = ap lines_of stream ∙ lines_more (stream_of tag played) text whole none in
    let ended : list_any is_end (line_steps playout.config playout.names given_up lines) ≡ true =
    subst (λ s. IsServed playout tag s played) over (subst (λ t. IsServed playout t client.session played) own serves.served) in
    let same : line_steps playout.config playout.names (given_up_of tag all) (lines_of (stream_of tag all)) ≡ line_steps playout.config playout.names (given_up ++ []) (lines ++ more) =
    ap₂ (λ g ls. line_steps playout.config playout.names g ls) (lost ∙ sym (append-nil given_up)) now in
    let longer = line_steps-longer playout.config playout.names given_up [] lines more (All-nil (λ (k : ℕ). length lines ≤ k)) in
    let ends_all = until_end-lines_ended playout.config playout.names given_up [] lines more (All-nil (λ (k : ℕ). length lines ≤ k)) ended in
    let few = length-until_end (line_steps playout.config playout.names given_up lines) in
    let one_each = length-line_steps playout.config playout.names given_up lines in
    let past = slice_get_past (until_end (line_steps playout.config playout.names given_up lines)) (length (texts_of tag played)) (omega (arith, few, one_each, count)) in
    let ended_all : list_any is_end (line_steps playout.config playout.names (given_up_of tag all) (lines_of (stream_of tag all))) ≡ true =
    ap (list_any is_end) (same ∙ longer.whole) ∙ any_prefix (line_steps playout.config playout.names given_up lines) longer.added ended in
    record {
      given = ap (λ ss. slice_get (until_end ss) (length (texts_of tag played))) same
          ∙ ap (λ ss. slice_get ss (length (texts_of tag played))) ends_all ∙ past;
      serves = record {
        whole = subst (λ t. IsEnded (stream_of t all)) (sym new_tag) (subst IsEnded (sym stream) (ended_more (stream_of tag played) text));
        count = subst (λ t. length (lines_of (stream_of t all)) ≡ length (texts_of t all)) (sym new_tag)
            (ap length now ∙ length-append lines more ∙ ap (λ (n : ℕ). n + 1) count
            ∙ sym (ap length texts ∙ length-append (texts_of tag played) (text ∷ [])));
        served = subst (λ t. IsServed playout t new.session all) (sym new_tag) (subst (λ s. IsServed playout tag s all) (sym over_now) ended_all);
      };
    }
  where
    any_prefix : (prefix added : List model.Step) → list_any is_end prefix ≡ true → list_any is_end (prefix ++ added) ≡ true
    any_prefix prefix added some = list_any-append is_end prefix added ∙ ap (λ (b : Bool). b || list_any is_end added) some
