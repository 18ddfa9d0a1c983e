-- Ticks and frames, as a history grows.
use Rattle.std.proofs.Common.{◌≡◌, ℕ, suc, ◌+◌, ◌≤◌, Bool, true, false, cond, List, [], ◌∷◌, ◌++◌, length, take, refl, sym, ap, ◌∙◌, arith, length-append, append_assoc}
use Rattle.std.specs.List.{flat_map}
use Rattle.std.proofs.lemmas.List.{append-nil, nil_from_length, take-append-le, take_at}
use Rattle.std.proofs.lemmas.Grind.{flat_map-append}
use mathlib.Core.List.{IsPrefix}
use Rattle.play_types.specs.History.{ticks}
use Rattle.play_types.specs.declared.event.Event.{Event}
use Rattle.play_types.specs.declared.event.Event.TheVariants.{Do, Batch, Tick, Stop}
use Rattle.play_types.proofs.Histories.{ticks-append}
use Rattle.history_model.specs.pictures.Media.{Setup}
use Rattle.stage_lock.specs.Own.{is_own, made_by, positions}
use Rattle.stage_lock.proofs.Positions.{made_by-append, positions-append}
use Rattle.play_ticker.specs.Frames.{frames_since, frames_text, is_tick, raw_frame, tick_positions}

-- there are as many positions as ticks
pub positions_count : (k : ℕ) (xs : List Event) → length (positions is_tick k xs) ≡ ticks xs
positions_count k [] = refl
positions_count k (Do tag cmd ∷ xs) = positions_count (suc k) xs
positions_count k (Batch tag cmds ∷ xs) = positions_count (suc k) xs
positions_count k (Tick ∷ xs) = omega (arith, positions_count (suc k) xs)
positions_count k (Stop tag ∷ xs) = positions_count (suc k) xs

-- each tick is an own event of pass 0
pub ticks_are_own : (k : ℕ) (xs : List Event) → ticks xs ≤ length (positions (is_own 0) k xs)
ticks_are_own k [] = omega arith
ticks_are_own k (Do tag cmd ∷ xs) = one_more (is_own 0 (Do tag cmd)) (ticks_are_own (suc k) xs)
  where
    one_more : (b : Bool) → ticks xs ≤ length (positions (is_own 0) (suc k) xs) → ticks xs ≤ length (cond b (k ∷ positions (is_own 0) (suc k) xs) (positions (is_own 0) (suc k) xs))
    one_more true h = omega (arith, h)
    one_more false h = h
ticks_are_own k (Batch tag cmds ∷ xs) = one_more (is_own 0 (Batch tag cmds)) (ticks_are_own (suc k) xs)
  where
    one_more : (b : Bool) → ticks xs ≤ length (positions (is_own 0) (suc k) xs) → ticks xs ≤ length (cond b (k ∷ positions (is_own 0) (suc k) xs) (positions (is_own 0) (suc k) xs))
    one_more true h = omega (arith, h)
    one_more false h = h
ticks_are_own k (Tick ∷ xs) = omega (arith, ticks_are_own (suc k) xs)
ticks_are_own k (Stop tag ∷ xs) = one_more (is_own 0 (Stop tag)) (ticks_are_own (suc k) xs)
  where
    one_more : (b : Bool) → ticks xs ≤ length (positions (is_own 0) (suc k) xs) → ticks xs ≤ length (cond b (k ∷ positions (is_own 0) (suc k) xs) (positions (is_own 0) (suc k) xs))
    one_more true h = omega (arith, h)
    one_more false h = h

-- a history goes on from another by these events, none of which is a tick
pub record GoesOn (seen history : List Event) : Type 0 where
  pub rest : List Event
  pub whole : seen ++ rest ≡ history
  pub quiet : ticks rest ≡ 0

-- a history in which pass 0 has no more own events goes on without a tick
pub goes_on : (seen history : List Event) → IsPrefix seen history → made_by 0 history ≡ made_by 0 seen → GoesOn seen history
goes_on seen history p same =
    let rest = p.0 in
    let longer : made_by 0 history ≡ made_by 0 seen ++ positions (is_own 0) (length seen) rest = ap (made_by 0) (sym p.1) ∙ made_by-append 0 seen rest in
    let lengths = length-append (made_by 0 seen) (positions (is_own 0) (length seen) rest) in
    let few = ticks_are_own (length seen) rest in
    record { rest = rest; whole = p.1; quiet = omega (arith, ap length longer, ap length same, lengths, few) }

-- a history that has no more own events of pass 0 than another has ticks goes on from it without a tick
pub goes_on_by_ticks : (seen history : List Event) → IsPrefix seen history → made_by 0 history ≡ tick_positions seen → GoesOn seen history
goes_on_by_ticks seen history p same =
    let all = ticks_are_own 0 history in
    let parts : ticks history ≡ ticks seen + ticks p.0 = ap ticks (sym p.1) ∙ ticks-append seen p.0 in
    record { rest = p.0; whole = p.1; quiet = omega (arith, all, parts, ap length same, positions_count 0 seen) }

pub ticks-quiet : (seen history : List Event) → GoesOn seen history → ticks history ≡ ticks seen
ticks-quiet seen history on = omega (arith, ap ticks (sym on.whole), ticks-append seen on.rest, on.quiet)

-- after given events, a history that goes on without a tick has as many ticks as before
pub ticks-since : (given seen history : List Event) → GoesOn seen history → ticks (given ++ history) ≡ ticks (given ++ seen)
ticks-since given seen history on = omega (arith, ticks-append given history, ticks-append given seen, ticks-quiet seen history on)

quiet_positions : (k : ℕ) (rest : List Event) → ticks rest ≡ 0 → positions is_tick k rest ≡ []
quiet_positions k rest quiet = nil_from_length (positions is_tick k rest) (positions_count k rest ∙ quiet)

-- a history that goes on without a tick keeps the positions of its ticks
pub tick_positions-quiet : (seen history : List Event) → GoesOn seen history → tick_positions history ≡ tick_positions seen
tick_positions-quiet seen history on =
    ap tick_positions (sym on.whole) ∙ positions-append is_tick 0 seen on.rest
    ∙ ap (λ l. tick_positions seen ++ l) (quiet_positions (0 + length seen) on.rest on.quiet) ∙ append-nil (tick_positions seen)

-- one tick more is one position more
pub tick_positions-tick : (history : List Event) → tick_positions (history ++ Tick ∷ []) ≡ tick_positions history ++ length history ∷ []
tick_positions-tick history =
    let z : 0 + length history ≡ length history = omega arith in
    positions-append is_tick 0 history (Tick ∷ []) ∙ ap (λ (n : ℕ). tick_positions history ++ n ∷ []) z

-- a stop is no tick
pub goes_on_by_stop : (history : List Event) (event : Event) → is_tick event ≡ false → GoesOn history (history ++ event ∷ [])
goes_on_by_stop history event other = record { rest = event ∷ []; whole = refl; quiet = none event other }
  where
    none : (e : Event) → is_tick e ≡ false → ticks (e ∷ []) ≡ 0
    none (Do tag cmd) h = refl
    none (Batch tag cmds) h = refl
    none Tick h = absurd cc
    none (Stop tag) h = refl

pub goes_on-trans : (xs ys zs : List Event) → GoesOn xs ys → GoesOn ys zs → GoesOn xs zs
goes_on-trans xs ys zs one two = record {
  rest = one.rest ++ two.rest;
  whole = sym (append_assoc xs one.rest two.rest) ∙ ap (λ (l : List Event). l ++ two.rest) one.whole ∙ two.whole;
  quiet = omega (arith, ticks-append one.rest two.rest, one.quiet, two.quiet);
}

-- a history that goes on without a tick does so after given events too
pub goes_on-since : (given front history more : List Event) → GoesOn (front ++ more) history → GoesOn ((given ++ front) ++ more) (given ++ history)
goes_on-since given front history more on = record {
  rest = on.rest;
  whole = ap (λ (l : List Event). l ++ on.rest) (append_assoc given front more) ∙ (append_assoc given (front ++ more) on.rest ∙ ap (λ (l : List Event). given ++ l) on.whole);
  quiet = on.quiet;
}

-- the frames at these ticks, by a history and by a longer one
frames_front : (setup : Setup) (given : List Event) (channel : ℕ) (history rest xs : List Event) (k : ℕ) → k + length xs ≤ length history →
    flat_map (λ at. raw_frame setup (given ++ take at (history ++ rest)) channel) (positions is_tick k xs)
    ≡ flat_map (λ at. raw_frame setup (given ++ take at history) channel) (positions is_tick k xs)
frames_front setup given channel history rest [] k within = refl
frames_front setup given channel history rest (x ∷ xs) k within =
    let next = frames_front setup given channel history rest xs (suc k) (omega (arith, within)) in
    let here : take k (history ++ rest) ≡ take k history = take-append-le k history rest (omega (arith, within)) in
    go (is_tick x) here next
  where
    go : (b : Bool) → take k (history ++ rest) ≡ take k history
        → flat_map (λ at. raw_frame setup (given ++ take at (history ++ rest)) channel) (positions is_tick (suc k) xs)
        ≡ flat_map (λ at. raw_frame setup (given ++ take at history) channel) (positions is_tick (suc k) xs)
        → flat_map (λ at. raw_frame setup (given ++ take at (history ++ rest)) channel) (cond b (k ∷ positions is_tick (suc k) xs) (positions is_tick (suc k) xs))
        ≡ flat_map (λ at. raw_frame setup (given ++ take at history) channel) (cond b (k ∷ positions is_tick (suc k) xs) (positions is_tick (suc k) xs))
    go true here next = λ i. raw_frame setup (given ++ here i) channel ++ next i
    go false here next = next

-- a history without further ticks has the frames of the one that it goes on from
pub frames_since-quiet : (setup : Setup) (given : List Event) (channel : ℕ) (seen history : List Event) → GoesOn seen history →
    frames_since setup given history channel ≡ frames_since setup given seen channel
unfolding frames_since
frames_since-quiet setup given channel seen history on =
    ap (λ (h : List Event). flat_map (λ at. raw_frame setup (given ++ take at h) channel) (tick_positions history)) (sym on.whole)
    ∙ ap (flat_map (λ at. raw_frame setup (given ++ take at (seen ++ on.rest)) channel)) (tick_positions-quiet seen history on)
    ∙ frames_front setup given channel seen on.rest seen 0 (omega arith)

pub frames_text-quiet : (setup : Setup) (channel : ℕ) (seen history : List Event) → GoesOn seen history →
    frames_text setup history channel ≡ frames_text setup seen channel
frames_text-quiet setup channel seen history on = frames_since-quiet setup [] channel seen history on

-- without ticks there is no frame
pub frames_since-none : (setup : Setup) (given : List Event) (channel : ℕ) (history : List Event) → tick_positions history ≡ [] → frames_since setup given history channel ≡ []
unfolding frames_since
frames_since-none setup given channel history none = ap (flat_map (λ at. raw_frame setup (given ++ take at history) channel)) none

-- one tick more is one frame more
pub frames_since-tick : (setup : Setup) (given : List Event) (channel : ℕ) (history : List Event) →
    frames_since setup given (history ++ Tick ∷ []) channel ≡ frames_since setup given history channel ++ raw_frame setup (given ++ history) channel
unfolding frames_since
frames_since-tick setup given channel history =
    let whole : List Event = history ++ Tick ∷ [] in
    let f : ℕ → List ℕ = λ at. raw_frame setup (given ++ take at whole) channel in
    let last : raw_frame setup (given ++ take (length history) whole) channel ++ [] ≡ raw_frame setup (given ++ history) channel =
    append-nil (f (length history)) ∙ ap (λ (h : List Event). raw_frame setup (given ++ h) channel) (take_at history (Tick ∷ []) (length history) refl) in
    ap (flat_map f) (tick_positions-tick history) ∙ flat_map-append f (tick_positions history) (length history ∷ [])
    ∙ (λ i. frames_front setup given channel history (Tick ∷ []) history 0 (omega arith) i ++ last i)

pub frames_text-tick : (setup : Setup) (channel : ℕ) (history : List Event) →
    frames_text setup (history ++ Tick ∷ []) channel ≡ frames_text setup history channel ++ raw_frame setup history channel
frames_text-tick setup channel history = frames_since-tick setup [] channel history
