-- What a pass knows, pulse by pulse and at the end.
use Rattle.std.proofs.Common.{◌≡◌, ℕ, ◌+◌, ◌≤◌, ◌||◌, Bool, true, false, if◌then◌else◌, Option, Some, None, option_map, List, [], ◌∷◌, ◌++◌, length, refl, sym, ap, subst, ◌∙◌, inl, inr, ⊎_elim, arith, length-append, append-nil, append_assoc, take}
use Rattle.std.proofs.lemmas.List.{take_at}
use mathlib.Core.List.{IsPrefix}
use Rattle.play_types.specs.History.{stop_at, ticks}
use Rattle.play_types.specs.declared.event.Event.{Event}
use Rattle.play_types.specs.declared.event.Event.TheVariants.{Tick, Stop}
use Rattle.play_types.specs.declared.event.TheConstants.{MAX_TICKS}
use Rattle.play_types.proofs.Histories.{ticks-append}
use Rattle.play_outside.specs.ClockState.{ClockState, ClockTold, after_pulse, one_pulse}
use Rattle.history_model.specs.scripts.History.{server}
use Rattle.stage_core.proofs.Stages.{stop_at-more}
use Rattle.stage_lock.specs.Own.{is_own, made_by}
use Rattle.stage_lock.specs.Views.{PassView}
use Rattle.stage_lock.specs.Calls.{Adds, IsFound, Looks, added, looked}
use Rattle.stage_lock.proofs.Prefixes.{prefix_self, prefix_trans}
use Rattle.play_ticker.specs.Ends.{EndsPass, StopsStage, after_pulses, more_pulses, stops_asked}
use Rattle.play_ticker.specs.Frames.{tick_positions}
use Rattle.play_ticker.specs.inner.Loop.{IsAtEnd, IsKnown, MadeTicks, Stops, StopsAt}
use Rattle.play_ticker.specs.inner.Staging.{MakesTick}
use Rattle.play_ticker.specs.declared.ending.TickEnd.{TickEnd}
use Rattle.play_ticker.specs.declared.ending.TickEnd.TheVariants.{ClockClosed, Ended, TicksOver, ClockFault, OutFault}
use Rattle.play_ticker.proofs.Frames.{GoesOn, goes_on, goes_on_by_stop, goes_on-trans, positions_count, ticks_are_own, tick_positions-quiet, tick_positions-tick, ticks-quiet, ticks-since}

-- a history that was found has what the pass had made
pub found_known : (pass : PassView) (history : List Event) → IsFound pass history → IsKnown pass
found_known pass history found = found.made_seen

-- what was found goes on without a tick
pub found_goes_on : (pass : PassView) (history : List Event) → pass.number ≡ 0 → IsFound pass history → GoesOn pass.seen history
found_goes_on pass history first found =
    let one : made_by 0 history ≡ pass.made = ap (λ (n : ℕ). made_by n history) (sym first) ∙ found.made in
    let two : made_by 0 pass.seen ≡ pass.made = ap (λ (n : ℕ). made_by n pass.seen) (sym first) ∙ found.made_seen in
    goes_on pass.seen history found.seen (one ∙ sym two)

no_end : (b : Bool) → (b || false) ≡ b
no_end true = refl
no_end false = refl

-- pass 0 after a tick of its own
abbrev pub ticked : List Event → PassView → PassView
ticked history pass = record pass { seen = history ++ Tick ∷ []; turns = pass.turns + 1; made = pass.made ++ length history ∷ [] }

pub added_tick : (pass : PassView) (history : List Event) → pass.number ≡ 0 → added pass history Tick ≡ ticked history pass
added_tick pass history first =
    let own : is_own pass.number Tick ≡ true = ap (λ (n : ℕ). is_own n Tick) first in
    λ i. record pass {
      seen = history ++ Tick ∷ [];
      turns = pass.turns + 1;
      made = (if own i then pass.made ++ length history ∷ [] else pass.made);
      ends = no_end pass.ends i;
    }

-- what holds of pass 0 after a tick of its own
pub made_tick : (given : List Event) (old new : PassView) (h : MakesTick given old new) → old.number ≡ 0 → MadeTicks given old → MadeTicks given new
made_tick given old new h first was =
    let is : new ≡ ticked h.history old = h.after ∙ added_tick old h.history first in
    let on : GoesOn old.seen h.history = found_goes_on old h.history first h.found in
    let more : ticks (given ++ (h.history ++ Tick ∷ [])) ≤ MAX_TICKS =
    omega (arith, h.time, ticks-append given h.history, ticks-append given (h.history ++ Tick ∷ []), ticks-append h.history (Tick ∷ [])) in
    subst (MadeTicks given) (sym is) (record {
      made = ap (λ (l : List ℕ). l ++ length h.history ∷ []) (was.made ∙ sym (tick_positions-quiet old.seen h.history on)) ∙ sym (tick_positions-tick h.history);
      few = more;
    })

-- pass 0 that made nothing has seen no tick
pub none_made : (pass : PassView) → pass.number ≡ 0 → pass.made ≡ [] → IsKnown pass → ticks pass.seen ≡ 0
none_made pass first none known =
    let empty : made_by 0 pass.seen ≡ [] = ap (λ (n : ℕ). made_by n pass.seen) (sym first) ∙ known ∙ none in
    omega (arith, ap length empty, ticks_are_own 0 pass.seen)

-- a history without ticks goes on from the empty one
pub from_nothing : (history : List Event) → ticks history ≡ 0 → GoesOn [] history
from_nothing history none = record { rest = history; whole = refl; quiet = none }

pub made_none : (given : List Event) (pass : PassView) → ticks given ≤ MAX_TICKS → pass.number ≡ 0 → pass.made ≡ [] → IsKnown pass → MadeTicks given pass
made_none given pass few first none known =
    let quiet : ticks pass.seen ≡ 0 = none_made pass first none known in record {
      made = none ∙ sym (tick_positions-quiet [] pass.seen (from_nothing pass.seen quiet));
      few = omega (arith, few, quiet, ticks-append given pass.seen);
    }

-- one pulse more
one_more_pulse : (count : ℕ) (told : Option ClockTold) → option_map one_pulse (option_map (more_pulses count) told) ≡ option_map (more_pulses (count + 1)) told
one_more_pulse count None = refl
one_more_pulse count (Some told) =
    let sum : (told.pulses + count) + 1 ≡ told.pulses + (count + 1) = omega arith in
    ap (λ (n : ℕ). Some (record told { pulses = n })) sum

pub pulses-more : (count : ℕ) (state : ClockState) → after_pulse (after_pulses count state) ≡ after_pulses (count + 1) state
pulses-more count state = ap (λ (told : Option ClockTold). record state { told = told }) (one_more_pulse count state.told)

no_pulses : (told : Option ClockTold) → told ≡ option_map (more_pulses 0) told
no_pulses None = refl
no_pulses (Some told) =
    let sum : told.pulses ≡ told.pulses + 0 = omega arith in
    ap (λ (n : ℕ). Some (record told { pulses = n })) sum

pub pulses-none : (state : ClockState) → state ≡ after_pulses 0 state
pulses-none state = ap (λ (told : Option ClockTold). record state { told = told }) (no_pulses state.told)

or_true : (b : Bool) → (b || true) ≡ true
or_true true = refl
or_true false = refl

-- pass 0 after it asked for the stop: it has seen no more ticks, and has seen a stop
pub record Stopped (given : List Event) (old new : PassView) : Type 0 where
  pub known : IsKnown old
  pub on : GoesOn old.seen new.seen
  pub seen : IsPrefix old.seen new.seen
  pub made : new.made ≡ old.made
  pub turns : new.turns ≡ old.turns + 1
  pub first : new.number ≡ old.number
  pub stops : (base : PassView) → old.ends ≡ base.ends → StopsStage given base new

made_stop : (given : List Event) (old new : PassView) → old.number ≡ 0 → Adds old (Stop server) (λ history. stop_at (given ++ history) ≡ None) new → Stopped given old new
made_stop given old new first h =
    let history : List Event = h.history in
    let now : PassView = added old history (Stop server) in
    let found : GoesOn old.seen history = found_goes_on old history first h.found in
    let longer : IsPrefix history (history ++ Stop server ∷ []) = (Stop server ∷ [], refl) in
    let whole : List Event = given ++ history in
    let grown : whole ++ Stop server ∷ [] ≡ given ++ (history ++ Stop server ∷ []) = append_assoc given history (Stop server ∷ []) in
    let all : Stopped given old now = record {
      known = h.found.made_seen;
      on = goes_on-trans old.seen history (history ++ Stop server ∷ []) found (goes_on_by_stop history (Stop server) refl);
      seen = prefix_trans old.seen history (history ++ Stop server ∷ []) h.found.seen longer;
      made = refl;
      turns = refl;
      first = refl;
      stops = λ base same. record {
        at = length whole;
        stopped = ap stop_at (sym grown) ∙ stop_at-more whole server h.told;
        by = inl (record {
          ends = or_true old.ends;
          last = sym grown ∙ ap (λ (l : List Event). l ++ Stop server ∷ [])
              (sym (take_at whole (Stop server ∷ []) (length whole) refl) ∙ ap (take (length whole)) grown);
        });
      };
    } in
    subst (Stopped given old) (sym h.after) all

found_stop : (given : List Event) (old new : PassView) (at : ℕ) → old.number ≡ 0 → Looks old (λ history. stop_at (given ++ history) ≡ Some at) new → Stopped given old new
found_stop given old new at first h =
    let all : Stopped given old (looked old h.history) = record {
      known = h.found.made_seen;
      on = found_goes_on old h.history first h.found;
      seen = h.found.seen;
      made = refl;
      turns = refl;
      first = refl;
      stops = λ base same. record { at = at; stopped = h.told; by = inr same };
    } in
    subst (Stopped given old) (sym h.after) all

pub stopped : (given : List Event) (old new : PassView) → old.number ≡ 0 → Stops given old new → Stopped given old new
stopped given old new first h =
    ⊎_elim (made_stop given old new first)
    (λ (found : (at : ℕ) × Looks old (λ history. stop_at (given ++ history) ≡ Some at) new). found_stop given old new found.0 first found.1) h

-- pass 0 after its stop by the end
pub record Finished (end : TickEnd) (old new : PassView) : Type 0 where
  pub known : IsKnown old
  pub on : GoesOn old.seen new.seen
  pub seen : IsPrefix old.seen new.seen
  pub made : new.made ≡ old.made
  pub turns : new.turns ≡ old.turns + stops_asked end
  pub first : new.number ≡ old.number

finished_stop : (given : List Event) (end : TickEnd) (old new : PassView) → stops_asked end ≡ 1 → Stopped given old new → Finished end old new
finished_stop given end old new one h = record {
  known = h.known;
  on = h.on;
  seen = h.seen;
  made = h.made;
  turns = h.turns ∙ ap (λ (n : ℕ). old.turns + n) (sym one);
  first = h.first;
}

pub finished : (given : List Event) (end : TickEnd) (old new : PassView) → old.number ≡ 0 → IsAtEnd given end old → StopsAt given end old new → Finished end old new
finished given ClockClosed old new first at h = finished_stop given ClockClosed old new refl (stopped given old new first h)
finished given (Ended n) old new first at h =
    let same : Finished (Ended n) old old = record {
      known = at.1;
      on = record { rest = []; whole = append-nil old.seen; quiet = refl };
      seen = prefix_self old.seen;
      made = refl;
      turns = omega arith;
      first = refl;
    } in
    subst (Finished (Ended n) old) (sym h) same
finished given TicksOver old new first at h = finished_stop given TicksOver old new refl (stopped given old new first h)
finished given ClockFault old new first at h = finished_stop given ClockFault old new refl (stopped given old new first h)
finished given (OutFault channel) old new first at h = finished_stop given (OutFault channel) old new refl (stopped given old new first h)

-- what holds of pass 0 at the end, if `base` is the pass before all pulses
pub ends_pass : (given : List Event) (end : TickEnd) (base old new : PassView) → old.number ≡ 0 → old.ends ≡ base.ends → (IsKnown old → MadeTicks given old) → IsAtEnd given end old → StopsAt given end old new
    → EndsPass given end base new
ends_pass given ClockClosed base old new first same ticked at h = (stopped given old new first h).stops base same
ends_pass given (Ended n) base old new first same ticked at h =
    (ap (λ (p : PassView). stop_at (given ++ p.seen)) h ∙ at.0, ap (λ (p : PassView). p.ends) h ∙ same)
ends_pass given TicksOver base old new first same ticked at h =
    let s : Stopped given old new = stopped given old new first h in
    let count : ticks (given ++ new.seen) ≡ ticks (given ++ old.seen) = ticks-since given old.seen new.seen s.on in
    let few : ticks (given ++ old.seen) ≤ MAX_TICKS = (ticked s.known).few in
    (s.stops base same, omega (arith, count, few, at))
ends_pass given ClockFault base old new first same ticked at h = (stopped given old new first h).stops base same
ends_pass given (OutFault channel) base old new first same ticked at h = (stopped given old new first h).stops base same

-- the ticks that pass 0 has made are those that it has seen at the end
pub all_made : (given : List Event) (end : TickEnd) (old new : PassView) → Finished end old new → MadeTicks given old → new.made ≡ tick_positions new.seen
all_made given end old new h was = h.made ∙ was.made ∙ sym (tick_positions-quiet old.seen new.seen h.on)

pub all_counted : (given : List Event) (end : TickEnd) (old new : PassView) → Finished end old new → MadeTicks given old → length old.made ≡ ticks new.seen
all_counted given end old new h was = ap length was.made ∙ positions_count 0 old.seen ∙ sym (ticks-quiet old.seen new.seen h.on)

-- pass 0 after it made one tick for each pulse
pub record Goes (base pass : PassView) : Type 0 where
  pub first : pass.number ≡ 0
  pub seen : IsPrefix base.seen pass.seen
  pub turns : pass.turns ≡ base.turns + length pass.made
  pub ends : pass.ends ≡ base.ends

pub goes_first : (pass : PassView) → pass.number ≡ 0 → pass.made ≡ [] → Goes pass pass
goes_first pass first none = record {
  first = first;
  seen = prefix_self pass.seen;
  turns = omega (arith, ap length none);
  ends = refl;
}

pub goes_tick : (given : List Event) (base old new : PassView) → MakesTick given old new → Goes base old → Goes base new
goes_tick given base old new h was =
    let is : new ≡ ticked h.history old = h.after ∙ added_tick old h.history was.first in
    let many = length-append old.made (length h.history ∷ []) in
    let longer : IsPrefix h.history (h.history ++ Tick ∷ []) = (Tick ∷ [], refl) in
    let all : Goes base (ticked h.history old) = record {
      first = was.first;
      seen = prefix_trans base.seen old.seen (h.history ++ Tick ∷ []) was.seen (prefix_trans old.seen h.history (h.history ++ Tick ∷ []) h.found.seen longer);
      turns = omega (arith, was.turns, many);
      ends = was.ends;
    } in
    subst (Goes base) (sym is) all

-- one tick more was made
pub made_more : (given : List Event) (old new : PassView) (h : MakesTick given old new) → old.number ≡ 0 → length new.made ≡ length old.made + 1
made_more given old new h first =
    let is : new ≡ ticked h.history old = h.after ∙ added_tick old h.history first in
    omega (arith, ap (λ (p : PassView). length p.made) is, length-append old.made (length h.history ∷ []))

-- a check of the stage adds nothing to what a pass has made
pub goes_looked : (base old new : PassView) (IsTold : List Event → Type 0) → Looks old IsTold new → Goes base old → (new.number ≡ 0) × IsPrefix base.seen new.seen × (new.made ≡ old.made) × (new.turns ≡ base.turns + (length new.made + 1)) × (new.ends ≡ base.ends)
goes_looked base old new IsTold h was =
    let Is : PassView → Type 0 = λ p. (p.number ≡ 0) × IsPrefix base.seen p.seen × (p.made ≡ old.made) × (p.turns ≡ base.turns + (length p.made + 1)) × (p.ends ≡ base.ends) in
    let turns : old.turns + 1 ≡ base.turns + (length old.made + 1) = omega (arith, was.turns) in
    let all : Is (looked old h.history) = (was.first, prefix_trans base.seen old.seen h.history was.seen h.found.seen, refl, turns, was.ends) in
    subst Is (sym h.after) all
