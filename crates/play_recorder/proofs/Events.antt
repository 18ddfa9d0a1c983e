-- A finder represents a history, event by event.
use Rattle.std.proofs.Common.{◌≡◌, ℕ, ◌+◌, ◌<◌, true, false, cond, List, [], ◌∷◌, ◌++◌, map, refl, sym, ap, ap₂, ◌∙◌, subst, append_assoc, append-nil, arith}
use Rattle.std.specs.Prelude.{Option, Some, None, option_and_then}
use Rattle.std.specs.List.{AllByRecursion}
use Rattle.play_types.specs.History.{ticks}
use Rattle.play_types.specs.declared.command.Cmd.{Cmd}
use Rattle.play_types.specs.declared.event.Tag.{Tag}
use Rattle.play_types.specs.declared.event.Event.{Event}
use Rattle.play_types.specs.declared.event.Event.TheVariants.{Do, Batch, Tick, Stop}
use Rattle.play_types.proofs.Histories.{ticks-append}
use Rattle.history_model.specs.recordings.Film.{Begun, accepted_after, accepted_commands, accepted_of, begun_in, commands_of, film_span, span_of}
use Rattle.history_model.specs.stage.Act.{act_after}
use Rattle.history_model.specs.stage.Acts.{is_refused}
use Rattle.play_recorder.specs.Finder.{FinderView, Represents}
use Rattle.play_journal.specs.Runs.{HasItsTimes, Run}
use Rattle.play_recorder.specs.inner.EachEvent.{HaveEvents}
use Rattle.play_recorder.specs.inner.Begun.{followed, followed_all}
use Rattle.play_recorder.proofs.Marks.{followed-knows, followed_all-knows}

-- the accepted commands of two parts of a history
accepted_after-append : (history xs ys : List Event) → accepted_after history (xs ++ ys) ≡ accepted_after history xs ++ accepted_after (history ++ xs) ys
accepted_after-append history [] ys = ap (λ h. accepted_after h ys) (sym (append-nil history))
accepted_after-append history (x ∷ xs) ys =
    ap (λ more. accepted_of history x ++ more) (accepted_after-append (history ++ x ∷ []) xs ys)
    ∙ sym (append_assoc (accepted_of history x) (accepted_after (history ++ x ∷ []) xs) (accepted_after ((history ++ x ∷ []) ++ xs) ys))
    ∙ ap (λ h. (accepted_of history x ++ accepted_after (history ++ x ∷ []) xs) ++ accepted_after h ys) (append_assoc history (x ∷ []) xs)

accepted_commands-more : (history : List Event) (event : Event) → accepted_commands (history ++ event ∷ []) ≡ accepted_commands history ++ accepted_of history event
unfolding accepted_commands
accepted_commands-more history event =
    accepted_after-append [] history (event ∷ []) ∙ ap (λ more. accepted_after [] history ++ more) (append-nil (accepted_of history event))

-- an event that is refused, or holds no command
module _ (finder : FinderView) (past : List Event) (event : Event) (h : Represents finder past) where
  none_accepted : accepted_of past event ≡ [] → ticks (event ∷ []) ≡ 0 → Represents finder (past ++ event ∷ [])
  none_accepted none still = record {
    ticks = omega (arith, h.ticks, ticks-append past (event ∷ []), still);
    begun = h.begun
        ∙ ap (begun_in finder.name) (sym (accepted_commands-more past event ∙ ap (λ more. accepted_commands past ++ more) none ∙ append-nil (accepted_commands past)));
  }

  pub Represents-refused : is_refused past event ≡ true → ticks (event ∷ []) ≡ 0 → Represents finder (past ++ event ∷ [])
  Represents-refused refused still =
      none_accepted (ap (λ b. cond b [] (map (act_after (ticks past)) (commands_of event))) refused) still

-- an event of these commands that is not refused
module _ (name : List ℕ) (t : ℕ) (begun : Option Begun) (past : List Event) (h : Represents (record { name = name; ticks = t; begun = begun }) past) where
  known : begun_in name (accepted_commands past) ≡ begun
  known = sym h.begun

  accepted_here : (event : Event) → is_refused past event ≡ false → ticks (event ∷ []) ≡ 0 → (finder : FinderView)
      → finder ≡ record { name = name; ticks = t; begun = begun_in name (accepted_commands past ++ map (act_after t) (commands_of event)) }
      → Represents finder (past ++ event ∷ [])
  accepted_here event taken still finder is =
      let accepted : accepted_of past event ≡ map (act_after t) (commands_of event) =
      ap (λ b. cond b [] (map (act_after (ticks past)) (commands_of event))) taken ∙ ap (λ n. map (act_after n) (commands_of event)) (sym h.ticks) in
      subst (λ one. Represents one (past ++ event ∷ [])) (sym is)
      (record {
        ticks = omega (arith, h.ticks, ticks-append past (event ∷ []), still);
        begun = ap (begun_in name) (sym (accepted_commands-more past event ∙ ap (λ more. accepted_commands past ++ more) accepted));
      })

  pub Represents-do : (tag : Tag) (cmd : Cmd) → is_refused past (Do tag cmd) ≡ false
      → Represents (followed (record { name = name; ticks = t; begun = begun }) cmd) (past ++ Do tag cmd ∷ [])
  Represents-do tag cmd taken =
      accepted_here (Do tag cmd) taken refl (followed (record { name = name; ticks = t; begun = begun }) cmd)
      (ap (λ one. followed (record { name = name; ticks = t; begun = one }) cmd) (sym known) ∙ followed-knows name (accepted_commands past) t cmd)

  pub Represents-batch : (tag : Tag) (cmds : List Cmd) → is_refused past (Batch tag cmds) ≡ false
      → Represents (followed_all (record { name = name; ticks = t; begun = begun }) cmds) (past ++ Batch tag cmds ∷ [])
  Represents-batch tag cmds taken =
      accepted_here (Batch tag cmds) taken refl (followed_all (record { name = name; ticks = t; begun = begun }) cmds)
      (ap (λ one. followed_all (record { name = name; ticks = t; begun = one }) cmds) (sym known) ∙ followed_all-knows name (accepted_commands past) t cmds)

  pub Represents-tick : Represents (record { name = name; ticks = t + 1; begun = begun }) (past ++ Tick ∷ [])
  unfolding is_refused
  Represents-tick = record {
    ticks = omega (arith, h.ticks, ticks-append past (Tick ∷ []));
    begun = h.begun ∙ ap (begun_in name) (sym (accepted_commands-more past Tick ∙ append-nil (accepted_commands past)));
  }

  pub Represents-stop : (tag : Tag) → Represents (record { name = name; ticks = t; begun = begun }) (past ++ Stop tag ∷ [])
  unfolding is_refused
  Represents-stop tag = record {
    ticks = omega (arith, h.ticks, ticks-append past (Stop tag ∷ []));
    begun = h.begun ∙ ap (begun_in name) (sym (accepted_commands-more past (Stop tag) ∙ append-nil (accepted_commands past)));
  }

-- the film of a finder
module _ (finder : FinderView) (events : List Event) (h : Represents finder events) where
  pub film_some : (begun : Begun) → finder.begun ≡ Some begun → span_of finder.ticks begun ≡ film_span events finder.name
  unfolding film_span
  film_some begun is =
      ap (option_and_then (span_of finder.ticks)) (sym is)
      ∙ ap₂ (λ (t : ℕ) (found : Option Begun). option_and_then (span_of t) found) h.ticks h.begun

  pub film_none : finder.begun ≡ None → None ≡ film_span events finder.name
  unfolding film_span
  film_none is =
      ap (option_and_then (span_of finder.ticks)) (sym is)
      ∙ ap₂ (λ (t : ℕ) (found : Option Begun). option_and_then (span_of t) found) h.ticks h.begun

-- a run has at least one event
some_times : (event : Event) (times : ℕ) → HasItsTimes event times → 0 < times
some_times (Do tag cmd) times one = omega (arith, one)
some_times (Batch tag cmds) times one = omega (arith, one)
some_times Tick times some = some
some_times (Stop tag) times one = omega (arith, one)

pub have_events : (runs : List Run) → AllByRecursion (λ (run : Run). HasItsTimes run.event run.times) runs → HaveEvents runs
have_events [] all = tt
have_events (run ∷ runs) all = (some_times run.event run.times all.0, have_events runs all.1)
