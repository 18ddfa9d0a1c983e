-- The steps that a session gives for the bytes that it is fed are those of the whole stream.
use Rattle.std.proofs.Common.{◌≡◌, ℕ, suc, ◌+◌, ◌≤◌, Bool, true, false, List, [], ◌∷◌, ◌++◌, map, take, drop, length, refl, sym, ap, subst, ◌∙◌, arith, append_assoc, append-nil, length-append}
use Rattle.std.specs.Prelude.{Option, Some, All, slice_get, filter_map, if◌then◌else◌}
use Rattle.std.specs.List.{enumerate_from, list_any, position_or_len}
use mathlib.Core.List.{IsPrefix}
use Rattle.std.proofs.lemmas.List.{map-append, length-map, take_at, take_all, take-append-drop, take-map, length-take-le}
use Rattle.std.proofs.lemmas.List.Elements.{All-nil, All-cons, filter_map-append}
use Rattle.std.proofs.lemmas.Option.{none-some, same_Some}
use Rattle.amcp_text.specs.Lines.{Line, lines_of}
use Rattle.amcp_text.proofs.LineLaws.{lines_of-append}
use Rattle.play_types.specs.Config.{ConfigView}
use Rattle.play_types.specs.Media.{MediaNameView}
use Rattle.play_types.specs.declared.command.Cmd.{Cmd}
use Rattle.history_model.specs.scripts.History.{number_given_up}
use Rattle.history_model.specs.sessions.Request.{line_token, tokens}
use Rattle.history_model.specs.sessions.Session as model
use Rattle.history_model.specs.sessions.Session.{is_end, line_steps, steps, until_end}
use Rattle.history_model.proofs.Sessions.{enumerate_from-append, length-line_steps, line_steps-append, line_steps-longer, until_end-ended, until_end-going}
use Rattle.play_session.specs.SessionState.{SessionState}
use Rattle.play_session.specs.Session.{Progress, Represents, GivesStep, after_bytes, after_step, at_start}
use Rattle.play_session.specs.Step.{viewed, gives_up}
use Rattle.play_session.specs.declared.step.Step.{Step}
use Rattle.play_session.specs.declared.step.Step.TheVariants as step
use Rattle.conn_worker.specs.Followed.{Service, Followed, given_up_of, is_lost, steps_in, steps_of, tokens_in}
use Rattle.conn_worker.specs.inner.UnderWay.{HasGiven, progress_of}
use Rattle.conn_worker.proofs.Lists.{list_any-last, list_any-more, slice_get-after, slice_get-seam, steps_in-more, take_next, tokens_in-more}

-- the number of a line if it was given up
abbrev lost_number : ℕ → Bool → List ℕ
lost_number n lost = filter_map number_given_up ((n, lost) ∷ [])

-- the lines that were given up, with one step more
given_up_of-more : (followed : List Followed) (one : Followed) → given_up_of (followed ++ one ∷ []) ≡ given_up_of followed ++ lost_number (length followed) (is_lost one.step)
given_up_of-more followed one =
    let marks = map (λ (f : Followed). is_lost f.step) followed in
    let number : 0 + length marks ≡ length followed = omega (arith, length-map followed (λ (f : Followed). is_lost f.step)) in
    ap (λ (ms : List Bool). filter_map number_given_up (enumerate_from 0 ms)) (map-append (λ (f : Followed). is_lost f.step) followed (one ∷ []))
    ∙ ap (filter_map number_given_up) (enumerate_from-append 0 marks (is_lost one.step ∷ []))
    ∙ filter_map-append number_given_up (enumerate_from 0 marks) (enumerate_from (0 + length marks) (is_lost one.step ∷ []))
    ∙ ap (λ (n : ℕ). given_up_of followed ++ lost_number n (is_lost one.step)) number

-- a step that is no loss leaves them as they are
pub given_up_of-kept : (followed : List Followed) (one : Followed) → is_lost one.step ≡ false → given_up_of (followed ++ one ∷ []) ≡ given_up_of followed
given_up_of-kept followed one kept =
    given_up_of-more followed one ∙ ap (λ (b : Bool). given_up_of followed ++ lost_number (length followed) b) kept ∙ append-nil (given_up_of followed)

lost_after : (followed : List Followed) (lost : Bool)
    → (if lost then given_up_of followed ++ length followed ∷ [] else given_up_of followed) ≡ given_up_of followed ++ lost_number (length followed) lost
lost_after followed true = refl
lost_after followed false = sym (append-nil (given_up_of followed))

-- a step of a session gives its line up if the step of the definition does
same_loss : (result : Step) (commands : List Cmd) (given : model.Step) → viewed result commands ≡ Some given → gives_up result ≡ is_lost given
same_loss (step.Local answer) commands given is = ap is_lost (same_Some (model.Local answer) given is)
same_loss (step.Ask command) commands given is = ap is_lost (same_Some (model.Ask command) given is)
same_loss step.AskBatch commands given is = ap is_lost (same_Some (model.AskBatch commands) given is)
same_loss step.Kill commands given is = ap is_lost (same_Some model.KillServer given is)
same_loss step.Bye commands given is = ap is_lost (same_Some model.EndConnection given is)
same_loss step.Skip commands given is = ap is_lost (same_Some model.Skip given is)
same_loss step.NeedMore commands given is = absurd (none-some given is)

-- the session has come one step further
progress_more : (fed : List ℕ) (followed : List Followed) (one : Followed) (result : Step) (commands : List Cmd) → viewed result commands ≡ Some one.step
    → after_step (progress_of fed followed) result ≡ progress_of fed (followed ++ one ∷ [])
progress_more fed followed one result commands is =
    let lost : gives_up result ≡ is_lost one.step = same_loss result commands one.step is in
    let given_up : (if gives_up result then given_up_of followed ++ length followed ∷ [] else given_up_of followed) ≡ given_up_of (followed ++ one ∷ []) =
    lost_after followed (gives_up result) ∙ ap (λ (b : Bool). given_up_of followed ++ lost_number (length followed) b) lost ∙ sym (given_up_of-more followed one) in
    let given : length followed + 1 ≡ length (followed ++ one ∷ []) = omega (arith, length-append followed (one ∷ [])) in
    λ i. record { stream = fed; given_up = given_up i; given = given i }

-- no line of a number that comes later
high_loss : (n : ℕ) (lost : Bool) → All (λ k. n ≤ k) (lost_number n lost)
high_loss n true = All-cons (λ k. n ≤ k) n [] (omega arith) (All-nil (λ k. n ≤ k))
high_loss n false = All-nil (λ k. n ≤ k)

-- the lines of a longer stream begin with those whose steps were given
lines_split : (config : ConfigView) (media : List MediaNameView) (session : SessionState) (progress : Progress) (s : Represents config media session progress) (more : List ℕ)
    → lines_of (progress.stream ++ more) ≡ lines_of s.before ++ lines_of (s.rest ++ more)
lines_split config media session progress s more =
    ap lines_of (ap (λ (b : List ℕ). b ++ more) s.parts ∙ append_assoc s.before s.rest more) ∙ lines_of-append s.before (s.rest ++ more) s.whole

lines_done_of : (config : ConfigView) (media : List MediaNameView) (session : SessionState) (progress : Progress) (s : Represents config media session progress) (more : List ℕ)
    → take progress.given (lines_of (progress.stream ++ more)) ≡ lines_of s.before
lines_done_of config media session progress s more =
    ap (take progress.given) (lines_split config media session progress s more)
    ∙ take_at (lines_of s.before) (lines_of (s.rest ++ more)) progress.given s.count

lines_done : (config : ConfigView) (media : List MediaNameView) (session : SessionState) (progress : Progress) (s : Represents config media session progress)
    → take progress.given (lines_of progress.stream) ≡ lines_of s.before
lines_done config media session progress s =
    ap (λ (b : List ℕ). take progress.given (lines_of b)) (sym (append-nil progress.stream)) ∙ lines_done_of config media session progress s []

module _ (service : Service) (session : SessionState) (fed : List ℕ) (followed : List Followed) (has : HasGiven service session fed followed) where
  -- the steps that were given, by the lines that the session has done with
  steps_done : steps_in followed ≡ line_steps service.config service.names (given_up_of followed) (lines_of has.represents.before)
  steps_done =
      has.steps ∙ ap (line_steps service.config service.names (given_up_of followed))
      (lines_done service.config service.names session (progress_of fed followed) has.represents)

  -- while the session has not ended, no step that was given is an end
  pub none_ends : session.ended ≡ false → list_any is_end (steps_in followed) ≡ false
  none_ends going = ap (list_any is_end) steps_done ∙ sym has.represents.ended ∙ going

  -- the steps of a longer stream, in which lines that come later were given up too
  record Goes (later more : List ℕ) : Type 0 where
    pub added : List model.Step
    pub whole : line_steps service.config service.names (given_up_of followed ++ later) (lines_of (fed ++ more)) ≡ steps_in followed ++ added

  goes : (later more : List ℕ) → All (λ k. length followed ≤ k) later → Goes later more
  goes later more high =
      let s = has.represents in
      let high' : All (λ k. length (lines_of s.before) ≤ k) later = subst (λ (n : ℕ). All (λ k. n ≤ k) later) (sym s.count) high in
      let l = line_steps-longer service.config service.names (given_up_of followed) later (lines_of s.before) (lines_of (s.rest ++ more)) high' in
      record {
        added = l.added;
        whole =
            ap (line_steps service.config service.names (given_up_of followed ++ later)) (lines_split service.config service.names session (progress_of fed followed) s more)
            ∙ l.whole ∙ ap (λ (ss : List model.Step). ss ++ l.added) (sym steps_done);
      }

  -- the steps of a longer stream, if no line was given up later
  goes_on : (more : List ℕ) → (added : List model.Step) × (line_steps service.config service.names (given_up_of followed) (lines_of (fed ++ more)) ≡ steps_in followed ++ added)
  goes_on more =
      let g = goes [] more (All-nil (λ k. length followed ≤ k)) in
      (g.added, ap (λ (l : List ℕ). line_steps service.config service.names l (lines_of (fed ++ more))) (sym (append-nil (given_up_of followed))) ∙ g.whole)

  -- the tokens that were given, by the lines that the session has done with
  tokens_done : tokens_in followed ≡ map line_token (lines_of has.represents.before)
  tokens_done = has.tokens ∙ ap (map line_token) (lines_done service.config service.names session (progress_of fed followed) has.represents)

  -- they are the first ones of every longer stream
  pub tokens_first : (more : List ℕ) → IsPrefix (tokens_in followed) (tokens (fed ++ more))
  unfolding tokens
  tokens_first more =
      let s = has.represents in
      let whole = ap (map line_token) (lines_split service.config service.names session (progress_of fed followed) s more)
      ∙ map-append line_token (lines_of s.before) (lines_of (s.rest ++ more)) in
      (map line_token (lines_of (s.rest ++ more)), ap (λ (ts : List (Option (List ℕ))). ts ++ map line_token (lines_of (s.rest ++ more))) tokens_done ∙ sym whole)

  -- the session was fed more bytes
  pub given_fed : (after : SessionState) (taken : List ℕ)
      → ((progress : Progress) → Represents service.config service.names session progress → Represents service.config service.names after (after_bytes progress taken))
      → HasGiven service after (fed ++ taken) followed
  given_fed after taken grows = record {
    represents = grows (progress_of fed followed) has.represents;
    steps = steps_done ∙ ap (line_steps service.config service.names (given_up_of followed))
        (sym (lines_done_of service.config service.names session (progress_of fed followed) has.represents taken));
    tokens = tokens_done ∙ ap (map line_token) (sym (lines_done_of service.config service.names session (progress_of fed followed) has.represents taken));
  }

  -- the steps are the first ones of every longer stream
  pub given_prefix : (more : List ℕ) → list_any is_end (steps_in followed) ≡ false → IsPrefix (steps_in followed) (steps_of service followed (fed ++ more))
  unfolding steps
  given_prefix more going =
      let g = goes_on more in
      (until_end g.0, sym (ap until_end g.1 ∙ until_end-going (steps_in followed) g.0 going))

  -- if a step has been given for each line, they are all steps
  pub given_all : list_any is_end (steps_in followed) ≡ false → length (lines_of fed) ≡ length followed → steps_in followed ≡ steps_of service followed fed
  unfolding steps
  given_all going all =
      let whole : take (length followed) (lines_of fed) ≡ lines_of fed = take_all (length followed) (lines_of fed) (omega arith) in
      let lines = has.steps ∙ ap (line_steps service.config service.names (given_up_of followed)) whole in
      let ended : until_end (steps_in followed) ≡ steps_in followed =
      ap until_end (sym (append-nil (steps_in followed))) ∙ until_end-going (steps_in followed) [] going ∙ append-nil (steps_in followed) in
      sym ended ∙ ap until_end lines

-- a session that was restarted has given nothing
pub given_nothing : (service : Service) (session : SessionState) → Represents service.config service.names session at_start → HasGiven service session [] []
unfolding line_steps
given_nothing service session is = record { represents = is; steps = refl; tokens = refl }

-- the steps of the first lines
line_steps-take : (config : ConfigView) (media : List MediaNameView) (given_up : List ℕ) (n : ℕ) (lines : List Line) → n ≤ length lines
    → line_steps config media given_up (take n lines) ≡ take n (line_steps config media given_up lines)
line_steps-take config media given_up n lines within =
    let more = line_steps-append config media given_up (take n lines) (drop n lines) in
    let whole : line_steps config media given_up lines ≡ line_steps config media given_up (take n lines) ++ _ = ap (line_steps config media given_up) (sym (take-append-drop n lines)) ∙ more in
    sym (ap (take n) whole ∙ take_at (line_steps config media given_up (take n lines)) _ n (length-line_steps config media given_up (take n lines) ∙ length-take-le n lines within))

-- the first step of a list up to its end
first_given : (added : List model.Step) (given : model.Step) → slice_get (until_end added) 0 ≡ Some given → (rest : List model.Step) × (added ≡ given ∷ rest)
first_given [] given at = absurd (none-some given at)
first_given (x ∷ xs) given at =
    let n : position_or_len is_end (x ∷ xs) + 1 ≡ suc (position_or_len is_end (x ∷ xs)) = omega arith in
    let here : slice_get (take (suc (position_or_len is_end (x ∷ xs))) (x ∷ xs)) 0 ≡ Some given = subst (λ (k : ℕ). slice_get (take k (x ∷ xs)) 0 ≡ Some given) n at in
    (xs, ap (λ (y : model.Step). y ∷ xs) (same_Some x given here))

-- a step that is an end is the last one
until_end-one : (one : model.Step) → is_end one ≡ true → until_end (one ∷ []) ≡ one ∷ []
until_end-one one ends = rw ends refl

-- the tokens of the first lines with one more
tokens_next : (fed : List ℕ) (followed : List Followed) (one : Followed) → tokens_in followed ≡ map line_token (take (length followed) (lines_of fed))
    → slice_get (tokens fed) (length followed) ≡ Some one.token
    → tokens_in (followed ++ one ∷ []) ≡ map line_token (take (length (followed ++ one ∷ [])) (lines_of fed))
unfolding tokens
tokens_next fed followed one so_far next =
    let n = length followed in
    let more : length (followed ++ one ∷ []) ≡ suc n = omega (arith, length-append followed (one ∷ [])) in
    tokens_in-more followed one
    ∙ ap (λ (ts : List (Option (List ℕ))). ts ++ one.token ∷ []) (so_far ∙ sym (take-map line_token n (lines_of fed)))
    ∙ sym (take_next (map line_token (lines_of fed)) n one.token next)
    ∙ take-map line_token (suc n) (lines_of fed)
    ∙ ap (λ (k : ℕ). map line_token (take k (lines_of fed))) (sym more)

-- the session gave one step more, of a line with this token
pub given_step : (service : Service) (session after : SessionState) (fed : List ℕ) (followed : List Followed) (one : Followed) (result : Step)
    → HasGiven service session fed followed → session.ended ≡ false → viewed result after.batch ≡ Some one.step
    → GivesStep service.config service.names result after (progress_of fed followed) → slice_get (tokens fed) (length followed) ≡ Some one.token
    → HasGiven service after fed (followed ++ one ∷ [])
unfolding steps
given_step service session after fed followed one result has going is gives next =
    let c = service.config in
    let m = service.names in
    let same = progress_more fed followed one result after.batch is in
    let g' = given_up_of (followed ++ one ∷ []) in
    let later = lost_number (length followed) (is_lost one.step) in
    let more : given_up_of followed ++ later ≡ g' = sym (given_up_of-more followed one) in
    let found = goes service session fed followed has later [] (high_loss (length followed) (is_lost one.step)) in
    let whole : line_steps c m g' (lines_of fed) ≡ steps_in followed ++ found.added =
    subst (λ (l : List ℕ). line_steps c m l (lines_of fed) ≡ steps_in followed ++ found.added) more
    (subst (λ (b : List ℕ). line_steps c m (given_up_of followed ++ later) (lines_of b) ≡ steps_in followed ++ found.added) (append-nil fed) found.whole) in
    let all : steps c m g' fed ≡ steps_in followed ++ until_end found.added =
    ap until_end whole ∙ until_end-going (steps_in followed) found.added (none_ends service session fed followed has going) in
    let count : length followed ≡ length (steps_in followed) = sym (length-map followed (λ (f : Followed). f.step)) in
    let at : slice_get (steps_in followed ++ until_end found.added) (length (steps_in followed)) ≡ Some one.step =
    subst (λ (k : ℕ). slice_get (steps_in followed ++ until_end found.added) k ≡ Some one.step) count
    (subst (λ (ss : List model.Step). slice_get ss (length followed) ≡ Some one.step) all
    (ap (λ (p : Progress). slice_get (steps c m p.given_up fed) (length followed)) (sym same) ∙ gives.0 ∙ is)) in
    let first = first_given found.added one.step (slice_get-after (steps_in followed) (until_end found.added) one.step at) in
    let lines : line_steps c m g' (lines_of fed) ≡ steps_in (followed ++ one ∷ []) ++ first.0 =
    whole ∙ ap (λ (ss : List model.Step). steps_in followed ++ ss) first.1
    ∙ sym (append_assoc (steps_in followed) (one.step ∷ []) first.0)
    ∙ ap (λ (ss : List model.Step). ss ++ first.0) (sym (steps_in-more followed one)) in
    let n = length (followed ++ one ∷ []) in
    let long : length (steps_in (followed ++ one ∷ [])) ≡ n = length-map (followed ++ one ∷ []) (λ (f : Followed). f.step) in
    let within : n ≤ length (lines_of fed) =
    omega (arith, ap length lines, length-line_steps c m g' (lines_of fed), length-append (steps_in (followed ++ one ∷ [])) first.0, long) in
    record {
      represents = subst (Represents c m after) same gives.1;
      steps = sym (line_steps-take c m g' n (lines_of fed) within ∙ ap (take n) lines ∙ take_at (steps_in (followed ++ one ∷ [])) first.0 n long);
      tokens = tokens_next fed followed one has.tokens next;
    }

-- a step that is an end comes last, whatever bytes follow: all steps have been given
pub given_end : (service : Service) (session : SessionState) (fed more : List ℕ) (followed : List Followed) (one : Followed)
    → HasGiven service session fed (followed ++ one ∷ []) → list_any is_end (steps_in followed) ≡ false → is_end one.step ≡ true
    → steps_in (followed ++ one ∷ []) ≡ steps_of service (followed ++ one ∷ []) (fed ++ more)
unfolding steps
given_end service session fed more followed one has going ends =
    let g = goes_on service session fed (followed ++ one ∷ []) has more in
    let last : list_any is_end (steps_in followed ++ one.step ∷ []) ≡ true = list_any-last is_end (steps_in followed) one.step ends in
    let shorter : until_end (steps_in (followed ++ one ∷ []) ++ g.0) ≡ steps_in followed ++ one.step ∷ [] =
    ap (λ (ss : List model.Step). until_end (ss ++ g.0)) (steps_in-more followed one)
    ∙ until_end-ended (steps_in followed ++ one.step ∷ []) g.0 last
    ∙ until_end-going (steps_in followed) (one.step ∷ []) going
    ∙ ap (λ (ss : List model.Step). steps_in followed ++ ss) (until_end-one one.step ends) in
    steps_in-more followed one ∙ sym (ap until_end g.1 ∙ shorter)

-- the steps with one more are the first ones of every longer stream, also if that is an end
pub given_first : (service : Service) (session : SessionState) (fed more : List ℕ) (followed : List Followed) (one : Followed)
    → HasGiven service session fed (followed ++ one ∷ []) → list_any is_end (steps_in followed) ≡ false
    → IsPrefix (steps_in (followed ++ one ∷ [])) (steps_of service (followed ++ one ∷ []) (fed ++ more))
given_first service session fed more followed one has going = by_end (is_end one.step) refl
  where
    by_end : (b : Bool) → is_end one.step ≡ b → IsPrefix (steps_in (followed ++ one ∷ [])) (steps_of service (followed ++ one ∷ []) (fed ++ more))
    by_end true ends = ([], append-nil (steps_in (followed ++ one ∷ [])) ∙ given_end service session fed more followed one has going ends)
    by_end false goes = given_prefix service session fed (followed ++ one ∷ []) has more
        (ap (list_any is_end) (steps_in-more followed one) ∙ list_any-more is_end (steps_in followed) one.step going goes)

-- a step that was given and not executed is the first one that was not
pub given_next : (service : Service) (session : SessionState) (fed more : List ℕ) (followed : List Followed) (one : Followed)
    → HasGiven service session fed (followed ++ one ∷ []) → list_any is_end (steps_in followed) ≡ false → is_lost one.step ≡ false
    → slice_get (steps_of service followed (fed ++ more)) (length followed) ≡ Some one.step
given_next service session fed more followed one has going kept =
    let p = given_first service session fed more followed one has going in
    let same : steps_of service (followed ++ one ∷ []) (fed ++ more) ≡ steps_of service followed (fed ++ more) =
    ap (λ (l : List ℕ). steps service.config service.names l (fed ++ more)) (given_up_of-kept followed one kept) in
    let whole : steps_of service followed (fed ++ more) ≡ steps_in followed ++ one.step ∷ p.0 =
    sym same ∙ sym p.1 ∙ ap (λ (ss : List model.Step). ss ++ p.0) (steps_in-more followed one) ∙ append_assoc (steps_in followed) (one.step ∷ []) p.0 in
    let count : length followed ≡ length (steps_in followed) = sym (length-map followed (λ (f : Followed). f.step)) in
    ap (λ (ss : List model.Step). slice_get ss (length followed)) whole
    ∙ ap (λ (k : ℕ). slice_get (steps_in followed ++ one.step ∷ p.0) k) count ∙ slice_get-seam (steps_in followed) one.step p.0
