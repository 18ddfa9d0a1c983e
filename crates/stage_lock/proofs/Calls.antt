-- The pass after a call.
use Rattle.std.proofs.Common.{◌≡◌, ◌⊎◌, ℕ, ◌+◌, ◌||◌, ◌&&◌, ◌==◌, Bool, true, false, cond, List, [], ◌∷◌, ◌++◌, length, refl, sym, ap, subst, ◌∙◌, inl, inr, eq-eqb, append_assoc}
use Rattle.std.specs.Prelude.{Result, Ok, Err, IfErr, IfOk, MatchResult, OnErr, OnOk}
use Rattle.std.proofs.lemmas.List.{append_cancel_left}
use Rattle.std.proofs.lemmas.Result.{IfErr-weaker, on_err_weaker, on_ok_weaker}
use Rattle.atomic_table.specs.Seated.{TableId}
use Rattle.play_types.specs.declared.answer.Answer.{Answer}
use Rattle.play_types.specs.declared.event.Event.{Event}
use Rattle.play_types.specs.declared.drawn.Drawn.{Drawn}
use Rattle.play_types.specs.declared.event.Event.TheVariants.{Stop, Tick}
use Rattle.history_model.specs.pictures.Media.{Setup}
use Rattle.play_types.specs.History.{held_by}
use Rattle.play_journal.specs.Journal.{JournalView}
use Rattle.history_model.specs.stage.Answer.{StageAnswer, answer}
use Rattle.stage_core.specs.Stage.{HasRoom, IsNotTaken, StageView, after_event}
use Rattle.stage_core.specs.declared.fault.ApplyFault.{ApplyFault}
use Rattle.stage_lock.specs.Own.{is_final, is_own, made_by}
use Rattle.stage_lock.specs.declared.ticked.Ticked.{Ticked}
use Rattle.stage_lock.specs.Views.{PassView, Sizes, journal_of, stage_of, whole}
use Rattle.stage_lock.specs.Calls.{Adds, IsAnswered, IsCounted, IsTicked, Looks, added, looked, stop_tag, tag_of}
use Rattle.stage_lock.specs.Seats.{SeatView, ends_final, grown, holding, pass_view, released}
use Rattle.stage_lock.specs.Rule.{Seat}
use Rattle.stage_lock.specs.Steps.{HasEntered, HasEvent, HasWon}
use Rattle.stage_lock.proofs.Positions.{ends_final-snoc, made_by-other, made_by-own}

-- what was won, by the sizes of the shared stage
pub journal_is : (m m' : Seat) (c : StageView) (sizes : Sizes) → (won : HasWon m c m') → m.0.sizes ≡ sizes → c.journal ≡ journal_of sizes won.log
journal_is m m' c sizes won same = ap (λ (x : StageView). x.journal) won.whole ∙ ap (λ (x : Sizes). journal_of x won.log) same

pub events_are : (m m' : Seat) (c : StageView) (sizes : Sizes) → (won : HasWon m c m') → m.0.sizes ≡ sizes → c.journal.events ≡ whole sizes won.log
events_are m m' c sizes won same = ap (λ (j : JournalView). j.events) (journal_is m m' c sizes won same)

pub channels_are : (m m' : Seat) (c : StageView) (sizes : Sizes) → HasWon m c m' → m.0.sizes ≡ sizes → c.channels ≡ sizes.channels
channels_are m m' c sizes won same = ap (λ (x : StageView). x.channels) won.whole ∙ ap (λ (x : Sizes). x.channels) same

-- a seat whose event has entered, as contracts see it
grown_as_added : (t : TableId) (v : SeatView) (log : List Event) (e : Event) → made_by v.number log ≡ v.made
    → pass_view t (released (grown (holding v log) (log ++ e ∷ []))) ≡ added (pass_view t v) log e
grown_as_added t v log e known =
    let made : made_by v.number (log ++ e ∷ []) ≡ cond (is_own v.number e) (v.made ++ length log ∷ []) v.made = go (is_own v.number e) refl in
    let ends : (v.ends || ends_final (log ++ e ∷ [])) ≡ (v.ends || is_final e) = ap (λ b. v.ends || b) (ends_final-snoc log e) in
    λ i. record (pass_view t v) { seen = log ++ e ∷ []; turns = v.turns + 1; made = made i; ends = ends i }
  where
    go : (b : Bool) → is_own v.number e ≡ b → made_by v.number (log ++ e ∷ []) ≡ cond b (v.made ++ length log ∷ []) v.made
    go true own = made_by-own v.number log e own ∙ ap (λ l. l ++ length log ∷ []) known
    go false own = made_by-other v.number log e own ∙ known

-- the history that was found, and the event
log_grew : (m m' n : Seat) (c c' : StageView) (e : Event) → (won : HasWon m c m') → c' ≡ after_event e c → (entered : HasEntered m'.0 c' n) → entered.log ≡ won.log ++ e ∷ []
log_grew m m' n c c' e won grew entered =
    let given : List Event = m.0.sizes.given in
    let found : c.journal.events ≡ given ++ won.log = ap (λ (x : StageView). x.journal.events) won.whole in
    let same : m'.0.sizes.given ≡ given = ap (λ (x : Seat). x.0.sizes.given) won.after in
    let left : c'.journal.events ≡ given ++ entered.log = ap (λ (x : StageView). x.journal.events) entered.whole ∙ ap (λ (es : List Event). es ++ entered.log) same in
    let right : c'.journal.events ≡ given ++ (won.log ++ e ∷ []) =
    ap (λ (x : StageView). x.journal.events) grew ∙ (ap (λ (es : List Event). es ++ e ∷ []) found ∙ append_assoc given won.log (e ∷ [])) in
    append_cancel_left given entered.log (won.log ++ e ∷ []) (sym left ∙ right)

-- a call whose event has entered
adds_at : (t t' : TableId) (m m' n : Seat) (c c' : StageView) (e : Event) (IsTold : List Event → Type 0) → (won : HasWon m c m') → t' ≡ t → c' ≡ after_event e c
    → HasEntered m'.0 c' n → IsTold won.log → Adds (pass_view t m.0) e IsTold (pass_view t' n.0)
adds_at t t' m m' n c c' e IsTold won table grew entered told =
    let log : List Event = won.log in
    let more : entered.log ≡ log ++ e ∷ [] = log_grew m m' n c c' e won grew entered in
    let first : pass_view t' n.0 ≡ pass_view t (released (grown m'.0 entered.log)) = λ i. pass_view (table i) (entered.after i).0 in
    let second : pass_view t (released (grown m'.0 entered.log)) ≡ pass_view t (released (grown (holding m.0 log) (log ++ e ∷ []))) = λ i. pass_view t (released (grown (won.after i).0 (more i))) in
    record {
      history = log;
      found = record { seen = won.seen; made = won.made; made_seen = won.made_seen };
      told = told;
      after = first ∙ (second ∙ grown_as_added t m.0 log e won.made);
    }

-- a call that left the history as it found it
pub looks_at : (t t' : TableId) (m m' n : Seat) (c : StageView) (IsTold : List Event → Type 0) → (won : HasWon m c m') → t' ≡ t
    → n ≡ (released m'.0, []) → IsTold won.log → Looks (pass_view t m.0) IsTold (pass_view t' n.0)
looks_at t t' m m' n c IsTold won table is told =
    let first : pass_view t' n.0 ≡ pass_view t (released m'.0) = λ i. pass_view (table i) (is i).0 in
    let second : pass_view t (released m'.0) ≡ looked (pass_view t m.0) won.log = λ i. pass_view t (released (won.after i).0) in
    record {
      history = won.log;
      found = record { seen = won.seen; made = won.made; made_seen = won.made_seen };
      told = told;
      after = first ∙ second;
    }

-- the answer to a command, where f is its event with the pass's number, and e the same event with the number of its view
answered_at : (m m' : Seat) (c : StageView) (sizes : Sizes) (f e : Event) (reply : Answer) → (won : HasWon m c m') → m.0.sizes ≡ sizes → f ≡ e → HasRoom c.journal (held_by f)
    → ((setup : Setup) → length setup.channels ≡ c.channels → answer setup c.journal.events f ≡ StageAnswer.Answered reply) → IsAnswered sizes e reply won.log
answered_at m m' c sizes f e reply won same is room replies = record {
  room = subst (λ (x : Event). HasRoom (journal_of sizes won.log) (held_by x)) is (subst (λ (j : JournalView). HasRoom j (held_by f)) (journal_is m m' c sizes won same) room);
  reply = λ setup channels.
      let events : whole sizes won.log ≡ c.journal.events = sym (events_are m m' c sizes won same) in
      (λ i. answer setup (events i) (sym is i)) ∙ replies setup (channels ∙ sym (channels_are m m' c sizes won same));
}

-- a tick beside which the commands were counted is a tick
pub counted_tick : (old new : PassView) (sizes : Sizes) (ticked : Ticked) (drawn : List (List Drawn)) → Adds old Tick (IsCounted sizes ticked drawn) new → Adds old Tick (IsTicked sizes ticked.number drawn) new
counted_tick old new sizes ticked drawn h = record { history = h.history; found = h.found; told = h.told.tick; after = h.after }

-- the stage that holds one event more than was won
event_at : (m m' : Seat) (c c' : StageView) (e : Event) → HasWon m c m' → c' ≡ after_event e c → (is_own m.0.number e ≡ true) ⊎ (is_final e ≡ true) → HasEvent m'.0 c'
event_at m m' c c' e won grew own =
    let more : after_event e (stage_of m.0.sizes won.log) ≡ stage_of m.0.sizes (won.log ++ e ∷ []) =
    λ i. record (stage_of m.0.sizes won.log) { journal = record { limit = m.0.sizes.limit; events = append_assoc m.0.sizes.given won.log (e ∷ []) i } } in
    subst (λ (x : Seat). HasEvent x.0 c') (sym won.after) record { event = e; own = own; whole = grew ∙ (ap (λ (x : StageView). after_event e x) won.whole ∙ more) }

-- a stage after a call that adds an event, which is then put back
module _ {T F : Type 0} (m m' : Seat) (c c' : StageView) (called : Result T F) (won : HasWon m c m') where
  -- it holds the event if the call succeeded
  pub holds_event : (e : Event) → OnOk called (c' ≡ after_event e c) → (is_own m.0.number e ≡ true) ⊎ (is_final e ≡ true) → OnOk called (HasEvent m'.0 c')
  holds_event e grew own = on_ok_weaker called (λ is. event_at m m' c c' e won is own) grew

  -- and is as it was if the call failed
  pub stays : OnErr called (c' ≡ c) → OnErr called (c' ≡ stage_of m'.0.sizes m'.0.seen)
  stays same = on_err_weaker called (λ is. is ∙ subst (λ (x : Seat). c ≡ stage_of x.0.sizes x.0.seen) (sym won.after) won.whole) same

  -- a call that asked for an event, by what the stage answered
  pub called_at : (t t' : TableId) (n : Seat) (e : Event) (IsTold : T → List Event → Type 0) (IsRefused : F → List Event → Type 0) (given : Result T F) → t' ≡ t → given ≡ called
      → OnOk called (c' ≡ after_event e c) → OnOk called (HasEntered m'.0 c' n) → OnErr called (n ≡ (released m'.0, []))
      → IfOk called (λ answered. IsTold answered won.log) → IfErr called (λ fault. IsRefused fault won.log)
      → MatchResult given (λ answered. Adds (pass_view t m.0) e (IsTold answered) (pass_view t' n.0)) (λ fault. Looks (pass_view t m.0) (IsRefused fault) (pass_view t' n.0))
  called_at t t' n e IsTold IsRefused given table is grew entered kept told refused =
      subst (λ (r : Result T F). MatchResult r (λ answered. Adds (pass_view t m.0) e (IsTold answered) (pass_view t' n.0)) (λ fault. Looks (pass_view t m.0) (IsRefused fault) (pass_view t' n.0)))
      (sym is) (by_answer called grew entered kept told refused)
    where
      by_answer : (r : Result T F) → OnOk r (c' ≡ after_event e c) → OnOk r (HasEntered m'.0 c' n) → OnErr r (n ≡ (released m'.0, []))
          → IfOk r (λ answered. IsTold answered won.log) → IfErr r (λ fault. IsRefused fault won.log)
          → MatchResult r (λ answered. Adds (pass_view t m.0) e (IsTold answered) (pass_view t' n.0)) (λ fault. Looks (pass_view t m.0) (IsRefused fault) (pass_view t' n.0))
      by_answer (Ok answered) grew entered kept told refused = adds_at t t' m m' n c c' e (IsTold answered) won table grew entered told
      by_answer (Err fault) grew entered kept told refused = looks_at t t' m m' n c (IsRefused fault) won table kept refused

-- a call for a command or a batch, where f is its event with the pass's number, and e the same event with that of its view
pub asked_at : (t t' : TableId) (m m' n : Seat) (c c' : StageView) (sizes : Sizes) (f e : Event) (called given : Result Answer ApplyFault) → (won : HasWon m c m') → t' ≡ t → m.0.sizes ≡ sizes → f ≡ e → given ≡ called
    → OnOk called (c' ≡ after_event f c) → OnOk called (HasEntered m'.0 c' n) → OnErr called (n ≡ (released m'.0, []))
    → OnOk called (HasRoom c.journal (held_by f)) → IfOk called (λ reply. (setup : Setup) → length setup.channels ≡ c.channels → answer setup c.journal.events f ≡ StageAnswer.Answered reply)
    → IfErr called (λ fault. IsNotTaken c.journal (held_by f) fault)
    → MatchResult given (λ reply. Adds (pass_view t m.0) e (IsAnswered sizes e reply) (pass_view t' n.0)) (λ fault. Looks (pass_view t m.0) (λ history. IsNotTaken (journal_of sizes history) (held_by f) fault) (pass_view t' n.0))
asked_at t t' m m' n c c' sizes f e called given won table same is returned grew entered kept room replies cause =
    called_at m m' c c' called won t t' n e (IsAnswered sizes e) (λ fault history. IsNotTaken (journal_of sizes history) (held_by f) fault) given table returned
    (on_ok_weaker called (λ g. g ∙ ap (λ (x : Event). after_event x c) is) grew) entered kept
    (told called room replies)
    (IfErr-weaker called _ _ (λ fault h. subst (λ (j : JournalView). IsNotTaken j (held_by f) fault) (journal_is m m' c sizes won same) h) cause)
  where
    told : (r : Result Answer ApplyFault) → OnOk r (HasRoom c.journal (held_by f)) → IfOk r (λ reply. (setup : Setup) → length setup.channels ≡ c.channels → answer setup c.journal.events f ≡ StageAnswer.Answered reply)
        → IfOk r (λ reply. IsAnswered sizes e reply won.log)
    told (Ok reply) room replies = answered_at m m' c sizes f e reply won same is room replies
    told (Err fault) room replies = tt

-- a stop of a pass is its own event, or that of tag 0.0
pub stop_is_own : (number session : ℕ) → (is_own number (Stop (stop_tag number session)) ≡ true) ⊎ (is_final (Stop (stop_tag number session)) ≡ true)
stop_is_own number session = go (session == 0) refl
  where
    and_false : (a b : Bool) → b ≡ false → (a && b) ≡ false
    and_false true b h = h
    and_false false b h = refl

    go : (b : Bool) → (session == 0) ≡ b → (is_own number (Stop (cond b (tag_of 0 0) (tag_of number session))) ≡ true) ⊎ (is_final (Stop (cond b (tag_of 0 0) (tag_of number session))) ≡ true)
    go true h = inr refl
    go false h = inl (ap (λ b. cond b false (number == number)) (and_false (number == 0) (session == 0) h) ∙ eq-eqb number number refl)
