-- The events that a stage was given, and those that came since.
use Rattle.std.proofs.Common.{◌≡◌, ℕ, ◌+◌, List, [], ◌∷◌, ◌++◌, refl, sym, ◌∙◌}
use Rattle.std.specs.Prelude.{Option, Some, None, option_map}
use Rattle.play_types.specs.History.{stop_at}
use Rattle.play_types.specs.declared.event.Event.{Event}
use Rattle.play_types.specs.declared.event.Event.TheVariants.{Do, Batch, Tick, Stop}
use Rattle.play_types.proofs.Histories.{stop_at-other, stop_at-stop}

none_moved : (at : Option ℕ) → option_map (λ n. 1 + n) at ≡ None → at ≡ None
none_moved None h = refl
none_moved (Some n) h = absurd (cc h)

-- if no event is a stop, none of those that came since is one
pub none_since : (given history : List Event) → stop_at (given ++ history) ≡ None → stop_at history ≡ None
none_since [] history h = h
none_since (Do tag cmd ∷ given) history h = none_since given history (none_moved (stop_at (given ++ history)) (sym (stop_at-other (Do tag cmd) (given ++ history) refl) ∙ h))
none_since (Batch tag cmds ∷ given) history h = none_since given history (none_moved (stop_at (given ++ history)) (sym (stop_at-other (Batch tag cmds) (given ++ history) refl) ∙ h))
none_since (Tick ∷ given) history h = none_since given history (none_moved (stop_at (given ++ history)) (sym (stop_at-other Tick (given ++ history) refl) ∙ h))
none_since (Stop tag ∷ given) history h = absurd (cc (stop_at-stop tag (given ++ history), h))
