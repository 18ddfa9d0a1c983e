-- A log by the one history of its run.
use Rattle.std.proofs.Common.{◌≡◌, ℕ, ◌+◌, true≢false, List, [], ◌∷◌, ◌++◌, refl, sym, ap, subst, ◌∙◌, append_assoc}
use Rattle.std.specs.Prelude.{IsSome, Option, None, Some, is_some, option_map}
use mathlib.Core.List.{IsPrefix}
use Rattle.play_types.specs.History.{IsHistory, stop_at}
use Rattle.play_types.specs.Media.{MediaNameView}
use Rattle.play_types.specs.declared.event.Event.{Event}
use Rattle.play_types.specs.declared.event.Event.TheVariants.{Do, Batch, Tick, Stop}
use Rattle.play_types.proofs.Histories.{stop_at-other}
use Rattle.play_outside.specs.declared.sink.Sent.{Sent}
use Rattle.history_model.specs.text.History.{joined_events}
use Rattle.history_log.specs.Log.{KeepsLog, Moment}
use Rattle.server_run.specs.Log.{IsLogged}

-- what follows events that have a stop, by what follows those after the first
after_first : (event : Event) (seen : List Event) → (IsSome (stop_at seen) → (later : List Event) → IsHistory (seen ++ later) → later ≡ [])
    → IsSome (stop_at (event ∷ seen)) → stop_at (event ∷ seen) ≡ option_map (λ n. 1 + n) (stop_at seen)
    → (later : List Event) → IsHistory (seen ++ later) → later ≡ []
after_first event seen rest some is = by_stop (stop_at seen) refl
  where
    by_stop : (o : Option ℕ) → stop_at seen ≡ o → (later : List Event) → IsHistory (seen ++ later) → later ≡ []
    by_stop None none = absurd (true≢false (sym some ∙ ap is_some (is ∙ ap (option_map (λ n. 1 + n)) none)))
    by_stop (Some at) found = rest (ap is_some found)

-- nothing follows a stop
pub none_later : (seen : List Event) → IsSome (stop_at seen) → (later : List Event) → IsHistory (seen ++ later) → later ≡ []
none_later [] some later whole = absurd (true≢false (sym some))
none_later (Do tag cmd ∷ seen) some later whole = after_first (Do tag cmd) seen (none_later seen) some (stop_at-other (Do tag cmd) seen refl) later whole
none_later (Batch tag cmds ∷ seen) some later whole =
    after_first (Batch tag cmds) seen (none_later seen) some (stop_at-other (Batch tag cmds) seen refl) later whole.1
none_later (Tick ∷ seen) some later whole = after_first Tick seen (none_later seen) some (stop_at-other Tick seen refl) later whole
none_later (Stop tag ∷ seen) some later whole = nothing seen later whole
  where
    nothing : (xs ys : List Event) → xs ++ ys ≡ [] → ys ≡ []
    nothing [] ys none = none
    nothing (x ∷ xs) ys none = absurd cc

-- what was written of the given events and of the history that a pass has seen is the log of each history that begins with them
pub logged_whole : (given : List Event) (names : List MediaNameView) (logged : Sent) (old new : Moment) (came : List Event) → IsPrefix new.pass.seen came → IsHistory (given ++ came)
    → KeepsLog given names logged old new → IsLogged logged names (given ++ came) old.sink new.sink
logged_whole given names logged old new came grows whole keeps =
    let seen : List Event = given ++ new.pass.seen in
    let parts : given ++ came ≡ seen ++ grows.0 =
    ap (λ (l : List Event). given ++ l) (sym grows.1) ∙ sym (append_assoc given new.pass.seen grows.0) in
    record {
      pieces = keeps.pieces;
      rest = keeps.unwritten ++ grows.0;
      whole =
          parts ∙ ap (λ (l : List Event). l ++ grows.0) keeps.whole
          ∙ append_assoc (joined_events keeps.pieces) keeps.unwritten grows.0;
      all = λ is.
          let all = keeps.all is in
          let later : grows.0 ≡ [] = none_later seen all.1 grows.0 (subst IsHistory parts whole) in
          ap (λ (l : List Event). l ++ grows.0) all.0 ∙ later;
      sends = keeps.sends;
    }
