-- A script that is played line by line with memory for what it asks.
use Rattle.std.proofs.Common.{◌≡◌, ℕ, zero, suc, ◌+◌, ◌*◌, Bool, true, false, cond, ◌||◌, List, [], ◌∷◌, ◌++◌, map, replicate, refl, sym, ap, ◌∙◌, subst, subst₂, arith, append_assoc, append-nil}
use Rattle.std.specs.Prelude.{Some, None}
use Rattle.std.specs.List.{cons_option, list_any}
use Rattle.std.proofs.lemmas.List.{replicate-append-replicate}
use Rattle.amcp_text.specs.Lines.{is_line_end, line_of_text}
use Rattle.play_types.specs.declared.event.Event.{Event}
use Rattle.play_types.specs.declared.event.Event.TheVariants as event
use Rattle.play_types.specs.declared.event.Tag.{Tag}
use Rattle.play_types.specs.declared.parsed.Parsed.{Parsed}
use Rattle.history_model.specs.scripts.Memory.{with_memory}
use Rattle.history_model.specs.sessions.Request.{text_token}
use Rattle.history_model.specs.sessions.Line.{Asks, line_meaning, asked_by}
use Rattle.history_model.specs.sessions.Session.{Step, is_end, line_steps, step_after, step_of_meaning}
use Rattle.history_model.specs.scripts.Line.{Ticks, Said}
use Rattle.history_model.specs.scripts.History.{given_up_of, Playout, PlayedLine, goes_on, is_kill, said_step, same_tag, script_events, step_events, stream_of, texts_of, turn_of}
use Rattle.history_model.specs.scripts.Output.{answer_output, reply_output, script_output, step_reply, tick_output, ticks_output}
use Rattle.history_model.proofs.Played.{no_kill}
use Rattle.history_model.proofs.Outputs.{goes_on-none, goes_on-snoc, script_events-none, script_events-snoc, script_output-none, script_output-snoc}
use Rattle.history_model.proofs.Besides.{same_ended}
use Rattle.history_model.proofs.Sides.{Side, Side-none, Side-other, Side-said, asked_of, asked_of-said, has_ended, has_ended-said, own_step, said_step-own}
use Rattle.history_model.proofs.Tags.{same_tag-equal, text_by-else, text_by-own}

-- after these lines the run goes on, they made these events, this was written, and no connection has ended
pub record At (playout : Playout) (before : List PlayedLine) (events : List Event) (output : List ℕ) : Type 0 where
  pub goes : goes_on playout before ≡ true
  pub made : script_events playout before ≡ events
  pub wrote : script_output playout before ≡ output
  pub sides : (tag : Tag) → Side tag before
  pub running : (tag : Tag) → has_ended playout tag before ≡ false

none_ended : (playout : Playout) (tag : Tag) → has_ended playout tag [] ≡ false
unfolding line_steps stream_of texts_of given_up_of
none_ended playout tag = refl

pub At-none : (playout : Playout) → At playout [] [] []
At-none playout = record {
  goes = goes_on-none playout;
  made = script_events-none playout;
  wrote = script_output-none playout;
  sides = Side-none;
  running = none_ended playout;
}

pub At-as : (playout : Playout) (before : List PlayedLine) (events same : List Event) (output text : List ℕ) → events ≡ same → output ≡ text
    → At playout before events output → At playout before same text
At-as playout before events same output text e o h = subst₂ (At playout before) e o h

-- ticks of one line
pub At-ticks : (playout : Playout) (before : List PlayedLine) (events : List Event) (output : List ℕ) (count : ℕ) → At playout before events output
    → At playout (before ++ with_memory (Ticks count) ∷ []) (events ++ replicate count event.Tick) (output ++ ticks_output playout events count)
At-ticks playout before events output count h =
    let line = with_memory (Ticks count) in
    record {
      goes = goes_on-snoc playout before line h.goes refl;
      made = script_events-snoc playout before line h.goes ∙ ap (λ es. es ++ replicate count event.Tick) h.made;
      wrote = script_output-snoc playout before line h.goes ∙ (λ i. h.wrote i ++ ticks_output playout (h.made i) count);
      sides = λ tag. Side-other tag before line refl (h.sides tag);
      running = λ tag. same_ended playout tag before line refl ∙ h.running tag;
    }

-- what is so for a connection and for each other one is so for all
pub each_tag : (P : Tag → Type 0) (tag other : Tag) (same : Bool) → same_tag other tag ≡ same → P tag → (same_tag other tag ≡ false → P other) → P other
each_tag P tag other true is own else_ = subst P (sym (same_tag-equal other tag is)) own
each_tag P tag other false is own else_ = else_ is

-- a connection's line
module _ (playout : Playout) (before : List PlayedLine) (events : List Event) (output : List ℕ) (h : At playout before events output) where
  -- its step, if it is one
  pub step_said : (tag : Tag) (text : List ℕ) (step : Step) → list_any is_line_end text ≡ false → own_step playout tag before text false ≡ step
      → said_step playout before (with_memory (Said tag text)) tag ≡ Some step
  step_said tag text step one is =
      let line = with_memory (Said tag text) in
      said_step-own playout tag before line text (text_by-own tag line text refl) one (h.sides tag)
      ∙ ap (λ (b : Bool). cond b None (Some (own_step playout tag before text false))) (h.running tag)
      ∙ ap Some is

  pub At-said : (tag : Tag) (text : List ℕ) (step : Step) → list_any is_line_end text ≡ false → text_token text ≡ None → own_step playout tag before text false ≡ step → is_end step ≡ false
      → At playout (before ++ with_memory (Said tag text) ∷ [])
      (events ++ step_events (turn_of playout events (with_memory (Said tag text)) tag) (Some step))
      (output ++ reply_output playout tag (step_reply (turn_of playout events (with_memory (Said tag text)) tag) (Some step)))
  At-said tag text step one untold is goes =
      let line = with_memory (Said tag text) in
      let own = step_said tag text step one is in
      let said = text_by-own tag line text refl in
      record {
        goes = goes_on-snoc playout before line h.goes (ap is_kill own ∙ no_kill step goes);
        made = script_events-snoc playout before line h.goes ∙ (λ i. h.made i ++ step_events (turn_of playout (h.made i) line tag) (own i));
        wrote =
            script_output-snoc playout before line h.goes
            ∙ (λ i. h.wrote i ++ answer_output playout tag (untold i) (step_reply (turn_of playout (h.made i) line tag) (own i)));
        sides = λ other.
            each_tag (λ t. Side t (before ++ line ∷ [])) tag other (same_tag other tag) refl (Side-said tag before line text said one (h.sides tag))
            (λ differ. Side-other other before line (text_by-else tag other line text refl differ) (h.sides other));
        running = λ other.
            each_tag (λ t. has_ended playout t (before ++ line ∷ []) ≡ false) tag other (same_tag other tag) refl
            (has_ended-said playout tag before line text said one (h.sides tag)
            ∙ (λ i. h.running tag i || is_end (is i)) ∙ goes)
            (λ differ. same_ended playout other before line (text_by-else tag other line text refl differ) ∙ h.running other);
      }

  -- what the connection asked for then
  pub asked_more : (tag : Tag) (text : List ℕ) (ask : Parsed) → list_any is_line_end text ≡ false
      → line_meaning playout.config playout.names (line_of_text text) ≡ Asks ask
      → asked_of playout tag (before ++ with_memory (Said tag text) ∷ []) ≡ asked_of playout tag before ++ ask ∷ []
  asked_more tag text ask one meant =
      let line = with_memory (Said tag text) in
      asked_of-said playout tag before line text (text_by-own tag line text refl) one (h.sides tag)
      ∙ ap (λ m. asked_of playout tag before ++ cons_option (asked_by m) []) meant

pub own_step-asks : (playout : Playout) (tag : Tag) (before : List PlayedLine) (text : List ℕ) (ask : Parsed)
    → line_meaning playout.config playout.names (line_of_text text) ≡ Asks ask → own_step playout tag before text false ≡ step_after (asked_of playout tag before) ask
own_step-asks playout tag before text ask meant = ap (step_of_meaning (asked_of playout tag before)) meant

-- ticks in two parts
pub ticks_output-add : (playout : Playout) (events : List Event) (a b : ℕ)
    → ticks_output playout events (a + b) ≡ ticks_output playout events a ++ ticks_output playout (events ++ replicate a event.Tick) b
unfolding ticks_output
ticks_output-add playout events zero b =
    let e : zero + b ≡ b = omega arith in
    rw (e, append-nil events) refl
ticks_output-add playout events (suc a) b =
    let e : suc a + b ≡ suc (a + b) = omega arith in
    rw e
    (ap (λ (text : List ℕ). tick_output playout events ++ text)
    (ticks_output-add playout (events ++ event.Tick ∷ []) a b
    ∙ ap (λ (es : List Event). ticks_output playout (events ++ event.Tick ∷ []) a ++ ticks_output playout es b)
    (append_assoc events (event.Tick ∷ []) (replicate a event.Tick)))
    ∙ sym (append_assoc (tick_output playout events) (ticks_output playout (events ++ event.Tick ∷ []) a)
    (ticks_output playout (events ++ replicate (suc a) event.Tick) b)))

-- lines of ticks, each of `most` ticks
pub At-full_lines : (playout : Playout) (before : List PlayedLine) (events : List Event) (output : List ℕ) (most times : ℕ) → At playout before events output
    → At playout (before ++ map with_memory (replicate times (Ticks most))) (events ++ replicate (times * most) event.Tick)
    (output ++ ticks_output playout events (times * most))
unfolding ticks_output
At-full_lines playout before events output most zero h =
    let e : zero * most ≡ 0 = omega arith in
    rw (e, append-nil before, append-nil events, append-nil output) h
At-full_lines playout before events output most (suc times) h =
    let line = with_memory (Ticks most) in
    let e : suc times * most ≡ most + times * most = omega arith in
    rw (
      e,
      ← replicate-append-replicate most (times * most) event.Tick,
      ticks_output-add playout events most (times * most),
      ← append_assoc events (replicate most event.Tick) (replicate (times * most) event.Tick),
      ← append_assoc output (ticks_output playout events most) (ticks_output playout (events ++ replicate most event.Tick) (times * most)),
      ← append_assoc before (line ∷ []) (map with_memory (replicate times (Ticks most))),
    )
    (At-full_lines playout (before ++ line ∷ []) (events ++ replicate most event.Tick) (output ++ ticks_output playout events most) most times
    (At-ticks playout before events output most h))
