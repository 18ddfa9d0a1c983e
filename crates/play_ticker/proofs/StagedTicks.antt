-- The side that makes ticks, step by step and at the end.
use Rattle.std.proofs.Common.{◌≡◌, ℕ, ◌+◌, ◌≤◌, false, Some, None, Err, List, [], ◌∷◌, ◌++◌, length, refl, sym, ap, subst, ◌∙◌, arith, length-append}
use Rattle.std.specs.List.{list_any}
use mathlib.Core.List.{IsPrefix}
use Rattle.play_types.specs.History.{stop_at, ticks}
use Rattle.play_types.specs.declared.event.Event.{Event}
use Rattle.play_types.specs.declared.event.Event.TheVariants.{Tick}
use Rattle.play_types.specs.declared.event.TheConstants.{MAX_TICKS}
use Rattle.play_outside.specs.ClockState.{after_clock_closed, after_clock_fault, after_pulse}
use Rattle.stage_lock.specs.Views.{PassView}
use Rattle.stage_lock.specs.Calls.{Looks, looked}
use Rattle.stage_lock.proofs.Prefixes.{prefix_trans}
use Rattle.scene_pipe.specs.declared.item.Taken.{Taken}
use Rattle.scene_pipe.specs.declared.item.Taken.TheVariants.{Done}
use Rattle.scene_pipe.specs.declared.item.Returned.{Returned}
use Rattle.scene_pipe.specs.Counts.{EndsWithNews, free_count, is_news}
use Rattle.scene_pipe.specs.Views.{StageView}
use Rattle.play_ticker.specs.Ends.{after_pulses, clock_at_end, pulses_taken}
use Rattle.play_ticker.specs.inner.Items.{staged_item, staged_of}
use Rattle.play_ticker.specs.inner.Loop.{IsAtEnd, IsKnown, MadeTicks, StopsAt}
use Rattle.play_ticker.specs.inner.Staging.{EndsStaging, GetsRoom, HasStaged, IsSamePipe, IsTold, MakesStep, MakesTick, StagesTick, Staging}
use Rattle.play_ticker.specs.declared.ending.TickEnd.{TickEnd}
use Rattle.play_ticker.specs.declared.ending.TickEnd.TheVariants.{ClockClosed, Ended, TicksOver, ClockFault, OutFault}
use Rattle.play_ticker.proofs.Counts.{HasGot, HasNews, IsBalanced, got, told_news}
use Rattle.play_ticker.proofs.Frames.{GoesOn, tick_positions-quiet, ticks-since}
use Rattle.play_ticker.proofs.Items.{staged-quiet, staged-tick, staged_count}
use Rattle.play_ticker.proofs.Steps.{Finished, Goes, all_counted, all_made, ends_pass, finished, found_goes_on, from_nothing, goes_first, goes_looked, goes_tick, made_more, made_none, made_tick, none_made, pulses-more, pulses-none}

-- one tick was made for each pulse, and its set was sent
pub record IsStaging (given : List Event) (base now : Staging) : Type 0 where
  pub pass : Goes base.pass now.pass
  pub made : IsKnown now.pass → MadeTicks given now.pass
  pub clock : now.clock ≡ after_pulses (length now.pass.made) base.clock
  pub sent : IsKnown now.pass → now.pipe.sent ≡ staged_of base.pipe.channels given now.pass.seen
  pub balanced : IsBalanced now.pipe
  pub same : IsSamePipe base.pipe now.pipe

pub staging_first : (given : List Event) (base : Staging) → ticks given ≤ MAX_TICKS → base.pass.number ≡ 0 → base.pass.made ≡ [] → base.pipe.sent ≡ [] → base.pipe.returned ≡ [] → length base.pipe.held ≤ 4
    → IsStaging given base base
staging_first given base few first none sent returned held = record {
  pass = goes_first base.pass first none;
  made = made_none given base.pass few first none;
  clock = pulses-none base.clock ∙ ap (λ (n : ℕ). after_pulses n base.clock) (sym (ap length none));
  sent = λ known. sent ∙ sym (staged-quiet base.pipe.channels given [] base.pass.seen (from_nothing base.pass.seen (none_made base.pass first none known)));
  balanced = record {
    few = omega (arith, held, ap (λ (l : List Taken). length l) sent);
    quiet = ap (list_any (is_news base.pipe.channels)) returned;
  };
  same = record { pipe = refl; channels = refl };
}

seen_tick : (given : List Event) (old new : PassView) (h : MakesTick given old new) → new.seen ≡ h.history ++ Tick ∷ []
seen_tick given old new h = ap (λ (p : PassView). p.seen) h.after

-- a tick was made and sent
pub staging_goes : (given : List Event) (base old new : Staging) → StagesTick given old new → IsStaging given base old → IsStaging given base new
staging_goes given base old new h was =
    let room : HasGot h.room.scenes old.pipe h.got = got old.pipe h.got h.room was.balanced in
    let known : IsKnown old.pass = h.tick.found.made_seen in
    let on : GoesOn old.pass.seen h.tick.history = found_goes_on old.pass h.tick.history was.pass.first h.tick.found in
    let channels : h.got.channels ≡ base.pipe.channels = room.same.channels ∙ was.same.channels in
    let all : List Event = given ++ h.tick.history in
    let sets : staged_of base.pipe.channels given new.pass.seen ≡ old.pipe.sent ++ staged_item base.pipe.channels all ∷ [] =
    ap (staged_of base.pipe.channels given) (seen_tick given old.pass new.pass h.tick) ∙ staged-tick base.pipe.channels given h.tick.history
    ∙ ap (λ (l : List Taken). l ++ staged_item base.pipe.channels all ∷ []) (staged-quiet base.pipe.channels given old.pass.seen h.tick.history on ∙ sym (was.sent known)) in
    let sent : new.pipe.sent ≡ old.pipe.sent ++ staged_item base.pipe.channels all ∷ [] =
    ap (λ (v : StageView). v.sent) h.sent ∙ (λ i. room.sent i ++ staged_item (channels i) all ∷ []) in
    let Is : StageView → Type 0 = λ view. IsBalanced view × IsSamePipe base.pipe view in
    let pipe : Is (record h.got { sent = h.got.sent ++ staged_item h.got.channels all ∷ [] }) = (
      record { few = omega (arith, room.few, length-append h.got.sent (staged_item h.got.channels all ∷ [])); quiet = room.quiet },
      record { pipe = room.same.pipe ∙ was.same.pipe; channels = channels },
    ) in
    let after : Is new.pipe = subst Is (sym h.sent) pipe in
    record {
      pass = goes_tick given base.pass old.pass new.pass h.tick was.pass;
      made = λ now. made_tick given old.pass new.pass h.tick was.pass.first (was.made known);
      clock = h.clock ∙ ap after_pulse was.clock ∙ pulses-more (length old.pass.made) base.clock
          ∙ ap (λ (n : ℕ). after_pulses n base.clock) (sym (made_more given old.pass new.pass h.tick was.pass.first));
      sent = λ now. sent ∙ sym sets;
      balanced = after.0;
      same = after.1;
    }

-- a pass that makes no more ticks
record PassEnded (given : List Event) (end : TickEnd) (channels : ℕ) (base old new : PassView) : Type 0 where
  first : new.number ≡ 0
  seen : IsPrefix base.seen new.seen
  turns : new.turns ≡ base.turns + pulses_taken end (length new.made)
  ends : new.ends ≡ base.ends
  made : IsKnown new → MadeTicks given new
  sets : IsKnown new → IsKnown old × (staged_of channels given new.seen ≡ staged_of channels given old.seen)
  count : length new.made ≡ length old.made
  cause : IsAtEnd given end new

pass_same : (given : List Event) (end : TickEnd) (channels : ℕ) (base old new : PassView) → ((made : ℕ) → pulses_taken end made ≡ made) → new ≡ old → Goes base old → (IsKnown old → MadeTicks given old) → IsAtEnd given end old
    → PassEnded given end channels base old new
pass_same given end channels base old new pulses same was made cause =
    let all : PassEnded given end channels base old old = record {
      first = was.first;
      seen = was.seen;
      turns = was.turns ∙ ap (λ (n : ℕ). base.turns + n) (sym (pulses (length old.made)));
      ends = was.ends;
      made = made;
      sets = λ known. (known, refl);
      count = refl;
      cause = cause;
    } in
    subst (PassEnded given end channels base old) (sym same) all

made_looked : (given : List Event) (old new : PassView) (IsTold : List Event → Type 0) → old.number ≡ 0 → Looks old IsTold new → MadeTicks given old → MadeTicks given new
made_looked given old new IsTold first h was =
    let on : GoesOn old.seen h.history = found_goes_on old h.history first h.found in
    let all : MadeTicks given (looked old h.history) = record {
      made = was.made ∙ sym (tick_positions-quiet old.seen h.history on);
      few = subst (λ (n : ℕ). n ≤ MAX_TICKS) (sym (ticks-since given old.seen h.history on)) was.few;
    } in
    subst (MadeTicks given) (sym h.after) all

pass_looked : (given : List Event) (end : TickEnd) (channels : ℕ) (IsTold : List Event → Type 0) (base old new : PassView) → ((made : ℕ) → pulses_taken end made ≡ made + 1) → Looks old IsTold new → Goes base old
    → (IsKnown old → MadeTicks given old) → (IsKnown new → IsTold new.seen → IsAtEnd given end new) → PassEnded given end channels base old new
pass_looked given end channels IsTold base old new pulses h was made cause =
    let all = goes_looked base old new IsTold h was in
    let on : GoesOn old.seen h.history = found_goes_on old h.history was.first h.found in
    let seen : new.seen ≡ h.history = ap (λ (p : PassView). p.seen) h.after in
    let known : IsKnown new = subst IsKnown (sym h.after) h.found.made in
    record {
      first = all.0;
      seen = all.1;
      turns = all.3 ∙ ap (λ (n : ℕ). base.turns + n) (sym (pulses (length new.made)));
      ends = all.4;
      made = λ now. made_looked given old new IsTold was.first h (made h.found.made_seen);
      sets = λ now. (h.found.made_seen, ap (staged_of channels given) seen ∙ staged-quiet channels given old.seen h.history on);
      count = ap (λ (l : List ℕ). length l) all.2;
      cause = cause known (subst IsTold (sym seen) h.told);
    }

-- the pipe of a side that makes no more ticks
record PipeEnded (end : TickEnd) (base old new : StageView) : Type 0 where
  sent : new.sent ≡ old.sent
  few : length new.sent ≤ 4 + free_count base.channels new.returned
  told : IsTold end base.channels new.returned
  same : IsSamePipe base new

pipe_got : (end : TickEnd) (base old new : StageView) → ((channels : ℕ) (returned : List Returned) → list_any (is_news channels) returned ≡ false → IsTold end channels returned)
    → GetsRoom old new → IsBalanced old → IsSamePipe base old → PipeEnded end base old new
pipe_got end base old new told h balanced same =
    let room : HasGot h.scenes old new = got old new h balanced in
    let channels : new.channels ≡ base.channels = room.same.channels ∙ same.channels in
    record {
      sent = room.sent;
      few = subst (λ (n : ℕ). length new.sent ≤ 4 + free_count n new.returned) channels (omega (arith, room.few));
      told = told base.channels new.returned (subst (λ (n : ℕ). list_any (is_news n) new.returned ≡ false) channels room.quiet);
      same = record { pipe = room.same.pipe ∙ same.pipe; channels = channels };
    }

all_ended : (given : List Event) (end : TickEnd) (base old new : Staging) → IsStaging given base old → PassEnded given end base.pipe.channels base.pass old.pass new.pass → PipeEnded end base.pipe old.pipe new.pipe
    → new.clock ≡ clock_at_end end (length new.pass.made) base.clock → EndsStaging given end base new
all_ended given end base old new was pass pipe clock = record {
  first = pass.first;
  seen = pass.seen;
  made = pass.made;
  clock = clock;
  turns = pass.turns;
  ends = pass.ends;
  cause = pass.cause;
  sent = λ known. pipe.sent ∙ was.sent (pass.sets known).0 ∙ sym (pass.sets known).1;
  few = pipe.few;
  told = pipe.told;
  same = pipe.same;
}

-- no more ticks are made, by what was met
pub staging_ends : (given : List Event) (end : TickEnd) (base old new : Staging) → MakesStep given (Err end) old new → IsStaging given base old → EndsStaging given end base new
staging_ends given ClockClosed base old new h was =
    let pass = pass_same given ClockClosed base.pipe.channels base.pass old.pass new.pass (λ made. refl) h.1 was.pass was.made tt in
    all_ended given ClockClosed base old new was pass (pipe_got ClockClosed base.pipe old.pipe new.pipe (λ channels returned none. none) h.0 was.balanced was.same)
    (h.2 ∙ ap after_clock_closed was.clock ∙ ap (λ (n : ℕ). after_clock_closed (after_pulses n base.clock)) (sym pass.count))
staging_ends given (Ended at) base old new h was =
    let told : List Event → Type 0 = λ history. stop_at (given ++ history) ≡ Some at in
    let pass = pass_looked given (Ended at) base.pipe.channels told base.pass old.pass new.pass (λ made. refl) h.1 was.pass was.made (λ known stopped. (stopped, known)) in
    all_ended given (Ended at) base old new was pass (pipe_got (Ended at) base.pipe old.pipe new.pipe (λ channels returned none. none) h.0 was.balanced was.same)
    (h.2 ∙ ap after_pulse was.clock ∙ pulses-more (length old.pass.made) base.clock ∙ ap (λ (n : ℕ). after_pulses (n + 1) base.clock) (sym pass.count))
staging_ends given TicksOver base old new h was =
    let told : List Event → Type 0 = λ history. (stop_at (given ++ history) ≡ None) × (MAX_TICKS ≤ ticks (given ++ history)) in
    let pass = pass_looked given TicksOver base.pipe.channels told base.pass old.pass new.pass (λ made. refl) h.1 was.pass was.made (λ known full. full.1) in
    all_ended given TicksOver base old new was pass (pipe_got TicksOver base.pipe old.pipe new.pipe (λ channels returned none. none) h.0 was.balanced was.same)
    (h.2 ∙ ap after_pulse was.clock ∙ pulses-more (length old.pass.made) base.clock ∙ ap (λ (n : ℕ). after_pulses (n + 1) base.clock) (sym pass.count))
staging_ends given ClockFault base old new h was =
    let pass = pass_same given ClockFault base.pipe.channels base.pass old.pass new.pass (λ made. refl) h.1 was.pass was.made tt in
    all_ended given ClockFault base old new was pass (pipe_got ClockFault base.pipe old.pipe new.pipe (λ channels returned none. none) h.0 was.balanced was.same)
    (h.2 ∙ ap after_clock_fault was.clock ∙ ap (λ (n : ℕ). after_clock_fault (after_pulses n base.clock)) (sym pass.count))
staging_ends given (OutFault channel) base old new h was =
    let pass = pass_same given (OutFault channel) base.pipe.channels base.pass old.pass new.pass (λ made. refl) h.1 was.pass was.made tt in
    let news : HasNews old.pipe new.pipe = told_news channel old.pipe new.pipe h.0 was.balanced in
    let channels : new.pipe.channels ≡ base.pipe.channels = news.same.channels ∙ was.same.channels in
    let pipe : PipeEnded (OutFault channel) base.pipe old.pipe new.pipe = record {
      sent = news.sent;
      few = subst (λ (n : ℕ). length new.pipe.sent ≤ 4 + free_count n new.pipe.returned) channels news.few;
      told = subst (λ (n : ℕ). EndsWithNews n new.pipe.returned) channels news.news;
      same = record { pipe = news.same.pipe ∙ was.same.pipe; channels = channels };
    } in
    all_ended given (OutFault channel) base old new was pass pipe
    (h.2 ∙ was.clock ∙ ap (λ (n : ℕ). after_pulses n base.clock) (sym pass.count))

-- the end mark was sent, and the stage was stopped
pub has_staged : (given : List Event) (end : TickEnd) (base mid new : Staging) → EndsStaging given end base mid → StopsAt given end mid.pass new.pass → new.clock ≡ mid.clock
    → new.pipe ≡ record mid.pipe { sent = mid.pipe.sent ++ Done ∷ [] } → HasStaged given end base new
has_staged given end base mid new was stops clock pipe =
    let fin : Finished end mid.pass new.pass = finished given end mid.pass new.pass was.first was.cause stops in
    let made : MadeTicks given mid.pass = was.made fin.known in
    let count : length mid.pass.made ≡ ticks new.pass.seen = all_counted given end mid.pass new.pass fin made in
    let sets : mid.pipe.sent ≡ staged_of base.pipe.channels given new.pass.seen = was.sent fin.known ∙ sym (staged-quiet base.pipe.channels given mid.pass.seen new.pass.seen fin.on) in
    let many : length mid.pipe.sent ≡ ticks new.pass.seen = ap (λ (l : List Taken). length l) sets ∙ staged_count base.pipe.channels given new.pass.seen in
    let Is : StageView → Type 0 = λ view. (view.sent ≡ staged_of base.pipe.channels given new.pass.seen ++ Done ∷ []) × (ticks new.pass.seen ≤ 4 + free_count base.pipe.channels view.returned)
    × IsTold end base.pipe.channels view.returned × IsSamePipe base.pipe view in
    let all : Is (record mid.pipe { sent = mid.pipe.sent ++ Done ∷ [] }) = (
      ap (λ (l : List Taken). l ++ Done ∷ []) sets,
      omega (arith, many, was.few),
      was.told,
      record { pipe = was.same.pipe; channels = was.same.channels },
    ) in
    let now : Is new.pipe = subst Is (sym pipe) all in
    record {
      first = fin.first ∙ was.first;
      seen = prefix_trans base.pass.seen mid.pass.seen new.pass.seen was.seen fin.seen;
      made = all_made given end mid.pass new.pass fin made;
      clock = clock ∙ was.clock ∙ ap (λ (n : ℕ). clock_at_end end n base.clock) count;
      turns = omega (arith, fin.turns, was.turns, ap (pulses_taken end) count);
      pass = ends_pass given end base.pass mid.pass new.pass was.first was.ends was.made was.cause stops;
      sent = now.0;
      few = now.1;
      told = now.2;
      same = now.3;
    }
