-- The first tick whose frames a film needs.
use Rattle.std.proofs.Common.{◌≡◌, ℕ, ◌+◌, ◌-◌, ◌≤◌, min, Bool, true, false, cond, List, [], ◌∷◌, ◌++◌, refl, sym, ap, ◌∙◌, subst, arith}
use Rattle.std.proofs.Math.Nat.{min-le_left, min-le_right}
use Rattle.play_types.specs.History.{ticks}
use Rattle.play_types.specs.declared.event.Event.{Event}
use Rattle.play_types.specs.declared.event.Event.TheVariants.{Do, Batch, Tick, Stop}
use Rattle.play_types.proofs.Histories.{ticks-append}
use Rattle.history_model.specs.recordings.Film.{Span}
use Rattle.needed_frames.specs.Depth.{depth}
use Rattle.play_recorder.specs.Recording.{is_recorded}
use Rattle.play_recorder.specs.inner.Needed.{NeedsNoneOf, least_at, least_needed}
use Rattle.play_recorder.proofs.Texts.{not_recorded}

-- ticks that are not needed by an event and those after it are not needed by the event, nor by those after it
pub event_needs : (skipped : ℕ) (span : Span) (past : List Event) (event : Event) (least : ℕ) → skipped ≤ least_at span past event least
    → NeedsNoneOf skipped span past event
event_needs skipped span past (Do tag cmd) least h = tt
event_needs skipped span past (Batch tag cmds) least h = tt
event_needs skipped span past Tick least h =
    λ recorded.
    let both : skipped ≤ min (ticks past - depth past span.channel) least =
    subst (λ b. skipped ≤ cond b (min (ticks past - depth past span.channel) least) least) recorded h in
    omega (arith, both, min-le_left (ticks past - depth past span.channel) least)
event_needs skipped span past (Stop tag) least h = tt

pub later_needs : (skipped : ℕ) (span : Span) (past : List Event) (event : Event) (least : ℕ) → skipped ≤ least_at span past event least → skipped ≤ least
later_needs skipped span past (Do tag cmd) least h = h
later_needs skipped span past (Batch tag cmds) least h = h
later_needs skipped span past Tick least h = by_test (is_recorded span (ticks past)) h
  where
    by_test : (b : Bool) → skipped ≤ cond b (min (ticks past - depth past span.channel) least) least → skipped ≤ least
    by_test true both = omega (arith, both, min-le_right (ticks past - depth past span.channel) least)
    by_test false both = both
later_needs skipped span past (Stop tag) least h = h

module _ (span : Span) where
  -- the least of another number may be taken before an event or after it
  min_at : (past : List Event) (event : Event) (number least : ℕ) → least_at span past event (min number least) ≡ min number (least_at span past event least)
  min_at past (Do tag cmd) number least = refl
  min_at past (Batch tag cmds) number least = refl
  min_at past Tick number least = by_test (is_recorded span (ticks past))
    where
      by_test : (b : Bool) → cond b (min (ticks past - depth past span.channel) (min number least)) (min number least) ≡ min number (cond b (min (ticks past - depth past span.channel) least) least)
      by_test true = omega arith
      by_test false = refl
  min_at past (Stop tag) number least = refl

  min_needed : (past later : List Event) (number least : ℕ) → least_needed span past later (min number least) ≡ min number (least_needed span past later least)
  min_needed past [] number least = refl
  min_needed past (event ∷ later) number least =
      ap (least_at span past event) (min_needed (past ++ event ∷ []) later number least)
      ∙ min_at past event number (least_needed span (past ++ event ∷ []) later least)

  -- so the number of an event may be taken first
  pub needed_first : (past : List Event) (event : Event) (later : List Event) (least : ℕ)
      → least_needed span past (event ∷ later) least ≡ least_needed span (past ++ event ∷ []) later (least_at span past event least)
  needed_first past (Do tag cmd) later least = refl
  needed_first past (Batch tag cmds) later least = refl
  needed_first past Tick later least = by_test (is_recorded span (ticks past))
    where
      by_test : (b : Bool) → cond b (min (ticks past - depth past span.channel) (least_needed span (past ++ Tick ∷ []) later least)) (least_needed span (past ++ Tick ∷ []) later least)
          ≡ least_needed span (past ++ Tick ∷ []) later (cond b (min (ticks past - depth past span.channel) least) least)
      by_test true = sym (min_needed (past ++ Tick ∷ []) later (ticks past - depth past span.channel) least)
      by_test false = refl
  needed_first past (Stop tag) later least = refl

  -- nothing is needed after the last recorded tick
  pub none_needed : (past later : List Event) (least : ℕ) → span.first + span.frames ≤ ticks past → least_needed span past later least ≡ least
  none_needed past [] least over = refl
  none_needed past (event ∷ later) least over =
      none_at event (least_needed span (past ++ event ∷ []) later least)
      ∙ none_needed (past ++ event ∷ []) later least (omega (arith, over, ticks-append past (event ∷ [])))
    where
      none_at : (one : Event) (rest : ℕ) → least_at span past one rest ≡ rest
      none_at (Do tag cmd) rest = refl
      none_at (Batch tag cmds) rest = refl
      none_at Tick rest = rw (not_recorded span (ticks past) over) refl
      none_at (Stop tag) rest = refl
