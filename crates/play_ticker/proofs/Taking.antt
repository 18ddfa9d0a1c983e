-- What outputs took, pulse by pulse.
use Rattle.std.proofs.Common.{◌≡◌, ◌≢◌, ℕ, zero, suc, ◌+◌, ◌<◌, ◌≤◌, List, [], ◌∷◌, ◌++◌, length, get_or, set, refl, sym, ap, subst, ◌∙◌, arith}
use Rattle.std.proofs.lemmas.List.{nil_from_length}
use Rattle.play_types.specs.History.{ticks}
use Rattle.play_types.specs.declared.event.Event.{Event}
use Rattle.play_types.specs.declared.event.Event.TheVariants.{Tick}
use Rattle.play_outside.specs.SinkState.{SinkState, after_taking}
use Rattle.play_outside.specs.Sink.{Fails}
use Rattle.play_outside.proofs.Taking.{after_taking-after_taking, after_taking-nil}
use Rattle.play_ticker.specs.Frames.{frames_since, raw_frame, tick_positions}
use Rattle.play_ticker.specs.Outputs.{AllTakeFrames, Beginning, EachOutput, IsCutAt, TakesFrames, shown_from}
use Rattle.play_ticker.specs.inner.Writing.{FailsAt}
use Rattle.play_ticker.proofs.Frames.{GoesOn, frames_since-none, frames_since-quiet, frames_since-tick, positions_count}

-- what holds of each output as it is
pub each_same : {O : Type 0} (P : ℕ → O → O → Type 0) (k : ℕ) (xs : List O) → ((channel : ℕ) (x : O) → k ≤ channel → P channel x x) → EachOutput P k xs xs
each_same P k [] h = tt
each_same P k (x ∷ xs) h = (h k x (omega arith), each_same P (suc k) xs (λ channel x le. h channel x (omega (arith, le))))

-- what holds of each output after a first and after a second change
pub each_then : {O : Type 0} (P Q S : ℕ → O → O → Type 0) (k n : ℕ) (xs ys zs : List O) → length xs ≡ n
    → ((channel : ℕ) (x y z : O) → k ≤ channel → channel < k + n → P channel x y → Q channel y z → S channel x z)
    → EachOutput P k xs ys → EachOutput Q k ys zs → EachOutput S k xs zs
each_then P Q S k n [] [] [] many h p q = tt
each_then P Q S k n [] [] (z ∷ zs) many h p q = absurd q
each_then P Q S k n [] (y ∷ ys) zs many h p q = absurd p
each_then P Q S k n (x ∷ xs) [] zs many h p q = absurd p
each_then P Q S k n (x ∷ xs) (y ∷ ys) [] many h p q = absurd q
each_then P Q S k zero (x ∷ xs) (y ∷ ys) (z ∷ zs) many h p q = absurd (omega (arith, many))
each_then P Q S k (suc n) (x ∷ xs) (y ∷ ys) (z ∷ zs) many h p q = (
  h k x y z (omega arith) (omega arith) p.0 q.0,
  each_then P Q S (suc k) n xs ys zs (omega (arith, many)) (λ channel x y z le lt p q. h channel x y z (omega (arith, le)) (omega (arith, lt)) p q) p.1 q.1,
)

-- what follows for each output
pub each_map : {O : Type 0} (P S : ℕ → O → O → Type 0) (k : ℕ) (xs ys : List O)
    → ((channel : ℕ) (x y : O) → k ≤ channel → channel < k + length xs → P channel x y → S channel x y) → EachOutput P k xs ys → EachOutput S k xs ys
each_map P S k [] [] h p = tt
each_map P S k [] (y ∷ ys) h p = absurd p
each_map P S k (x ∷ xs) [] h p = absurd p
each_map P S k (x ∷ xs) (y ∷ ys) h p = (
  h k x y (omega arith) (omega arith) p.0,
  each_map P S (suc k) xs ys (λ channel x y le lt q. h channel x y (omega (arith, le)) (omega (arith, lt)) q) p.1,
)

-- one output is changed: that of channel n, which is the i-th from channel k on
pub each_set : {O : Type 0} (P Q : ℕ → O → O → Type 0) (k i n : ℕ) (xs ys : List O) (y z : O) → n ≡ k + i → y ≡ get_or ys i y
    → ((channel : ℕ) (x w : O) → channel ≢ n → P channel x w → Q channel x w) → ((x : O) → P n x y → Q n x z)
    → EachOutput P k xs ys → EachOutput Q k xs (set ys i z)
each_set P Q k i n [] [] y z at read others here p = tt
each_set P Q k i n [] (w ∷ ws) y z at read others here p = absurd p
each_set P Q k i n (x ∷ xs) [] y z at read others here p = absurd p
each_set P Q k zero n (x ∷ xs) (w ∷ ws) y z at read others here p =
    let same : k ≡ n = omega (arith, at) in (
      subst (λ (c : ℕ). Q c x z) (sym same) (here x (subst (λ (c : ℕ). P c x y) same (subst (P k x) (sym read) p.0))),
      each_map P Q (suc k) xs ws (λ channel x w le lt q. others channel x w (omega (arith, le, at)) q) p.1,
    )
each_set P Q k (suc i) n (x ∷ xs) (w ∷ ws) y z at read others here p = (
  others k x w (omega (arith, at)) p.0,
  each_set P Q (suc k) i n xs ws y z (omega (arith, at)) read others here p.1,
)

-- the outputs of the channels up to `at` took their bytes, and the others took nothing
pub record TakesBelow (at : ℕ) (bytes : ℕ → List ℕ) (channel : ℕ) (old new : SinkState) : Type 0 where
  pub below : channel ≤ at → new ≡ after_taking old (bytes channel)
  pub others : at < channel → new ≡ old

-- each output up to `at` took its bytes, and the others took nothing
abbrev pub AllBelow : {O : Type 0} → (O → SinkState) → (ℕ → List ℕ) → ℕ → List O → List O → Type 0
AllBelow state bytes at olds news = EachOutput (λ channel old new. TakesBelow at bytes channel (state old) (state new)) 1 olds news

-- before the first output
pub frames_first : {O : Type 0} (state : O → SinkState) (bytes : ℕ → List ℕ) (xs : List O) → AllBelow state bytes 0 xs xs
frames_first state bytes xs =
    each_same (λ channel old new. TakesBelow 0 bytes channel (state old) (state new)) 1 xs
    (λ channel x le. record { below = λ none. absurd (omega (arith, le, none)); others = λ more. refl })

one_more_takes : (at : ℕ) (bytes : ℕ → List ℕ) (channel : ℕ) (old new : SinkState) → channel ≢ at + 1 → TakesBelow at bytes channel old new → TakesBelow (at + 1) bytes channel old new
one_more_takes at bytes channel old new other h = record { below = λ le. h.below (omega (arith, le, other)); others = λ lt. h.others (omega (arith, lt)) }

this_takes : (at : ℕ) (bytes : ℕ → List ℕ) (old mid new : SinkState) → TakesBelow at bytes (at + 1) old mid → new ≡ after_taking mid (bytes (at + 1)) → TakesBelow (at + 1) bytes (at + 1) old new
this_takes at bytes old mid new h now = record {
  below = λ le. now ∙ ap (λ (s : SinkState). after_taking s (bytes (at + 1))) (h.others (omega arith));
  others = λ lt. absurd (omega (arith, lt));
}

-- one output more took its bytes
pub frames_next : {O : Type 0} (state : O → SinkState) (bytes : ℕ → List ℕ) (at i : ℕ) (xs ys : List O) (y z : O) → i ≡ at → y ≡ get_or ys i y
    → state z ≡ after_taking (state y) (bytes (at + 1)) → AllBelow state bytes at xs ys → AllBelow state bytes (at + 1) xs (set ys i z)
frames_next state bytes at i xs ys y z same read now before =
    each_set
    (λ channel old new. TakesBelow at bytes channel (state old) (state new))
    (λ channel old new. TakesBelow (at + 1) bytes channel (state old) (state new))
    1 i (at + 1) xs ys y z (omega (arith, same)) read
    (λ channel x w other h. one_more_takes at bytes channel (state x) (state w) other h)
    (λ x h. this_takes at bytes (state x) (state y) (state z) h now)
    before

one_fails : (at : ℕ) (bytes : ℕ → List ℕ) (channel : ℕ) (old new : SinkState) → channel ≢ at + 1 → TakesBelow at bytes channel old new → FailsAt (at + 1) bytes channel old new
one_fails at bytes channel old new other h = record {
  below = λ lt. h.below (omega (arith, lt));
  failing = λ same. absurd (other same);
  above = λ lt. h.others (omega (arith, lt));
}

this_fails : (at : ℕ) (bytes : ℕ → List ℕ) (old mid new : SinkState) → TakesBelow at bytes (at + 1) old mid → Fails (bytes (at + 1)) mid new → FailsAt (at + 1) bytes (at + 1) old new
this_fails at bytes old mid new h now = record {
  below = λ lt. absurd (omega (arith, lt));
  failing = λ same. subst (λ (s : SinkState). Fails (bytes (at + 1)) s new) (h.others (omega arith)) now;
  above = λ lt. absurd (omega (arith, lt));
}

-- the next output failed
pub frames_fail : {O : Type 0} (state : O → SinkState) (bytes : ℕ → List ℕ) (at i : ℕ) (xs ys : List O) (y z : O) → i ≡ at → y ≡ get_or ys i y
    → Fails (bytes (at + 1)) (state y) (state z) → AllBelow state bytes at xs ys
    → EachOutput (λ channel old new. FailsAt (at + 1) bytes channel (state old) (state new)) 1 xs (set ys i z)
frames_fail state bytes at i xs ys y z same read now before =
    each_set
    (λ channel old new. TakesBelow at bytes channel (state old) (state new))
    (λ channel old new. FailsAt (at + 1) bytes channel (state old) (state new))
    1 i (at + 1) xs ys y z (omega (arith, same)) read
    (λ channel x w other h. one_fails at bytes channel (state x) (state w) other h)
    (λ x h. this_fails at bytes (state x) (state y) (state z) h now)
    before

-- all outputs took their bytes
pub frames_all : {O : Type 0} (state : O → SinkState) (bytes : ℕ → List ℕ) (at : ℕ) (xs ys : List O) → length xs ≤ at → AllBelow state bytes at xs ys
    → EachOutput (λ channel old new. state new ≡ after_taking (state old) (bytes channel)) 1 xs ys
frames_all state bytes at xs ys all before =
    each_map
    (λ channel old new. TakesBelow at bytes channel (state old) (state new))
    (λ channel old new. state new ≡ after_taking (state old) (bytes channel))
    1 xs ys
    (λ channel x y le lt h. h.below (omega (arith, all, lt)))
    before

-- there are as many outputs after as before
pub each_length : {O : Type 0} (P : ℕ → O → O → Type 0) (k : ℕ) (xs ys : List O) → EachOutput P k xs ys → length ys ≡ length xs
each_length P k [] [] p = refl
each_length P k [] (y ∷ ys) p = absurd p
each_length P k (x ∷ xs) [] p = absurd p
each_length P k (x ∷ xs) (y ∷ ys) p = omega (arith, each_length P (suc k) xs ys p.1)

-- an output that took the frames of a history, and then one frame more
pub taken_tick : (begin : Beginning) (history : List Event) (channel : ℕ) (bytes : List ℕ) (old mid new : SinkState) → bytes ≡ raw_frame begin.setup (begin.given ++ history) channel
    → TakesFrames (shown_from begin history) channel old mid → new ≡ after_taking mid bytes
    → TakesFrames (shown_from begin (history ++ Tick ∷ [])) channel old new
taken_tick begin history channel bytes old mid new frame before now =
    let frames : List Event → List ℕ = λ events. frames_since begin.setup begin.given events channel in
    let text : frames history ++ bytes ≡ frames (history ++ Tick ∷ []) =
    ap (λ (b : List ℕ). frames history ++ b) frame ∙ sym (frames_since-tick begin.setup begin.given channel history) in
    now ∙ ap (λ (s : SinkState). after_taking s bytes) before ∙ after_taking-after_taking old (frames history) bytes ∙ ap (after_taking old) text

-- an output that took the frames of a history, when one of the outputs then failed
pub cut_tick : (begin : Beginning) (history : List Event) (failed channel : ℕ) (bytes : ℕ → List ℕ) (old mid new : SinkState) → bytes channel ≡ raw_frame begin.setup (begin.given ++ history) channel
    → TakesFrames (shown_from begin history) channel old mid → FailsAt failed bytes channel mid new
    → IsCutAt failed (shown_from begin history) channel old new
cut_tick begin history failed channel bytes old mid new frame before now = record {
  below = λ lt. taken_tick begin history channel (bytes channel) old mid new frame before (now.below lt);
  failing = λ same. subst (λ (s : SinkState). Fails (raw_frame begin.setup (begin.given ++ history) channel) s new) before
      (subst (λ (b : List ℕ). Fails b mid new) frame (now.failing same));
  above = λ lt. now.above lt ∙ before;
}

-- the frames of a history that goes on without a tick
pub still_taken : {O : Type 0} (state : O → SinkState) (begin : Beginning) (seen history : List Event) (xs ys : List O) → GoesOn seen history
    → AllTakeFrames state (shown_from begin seen) xs ys → AllTakeFrames state (shown_from begin history) xs ys
still_taken state begin seen history xs ys on is =
    each_map
    (λ channel old new. TakesFrames (shown_from begin seen) channel (state old) (state new))
    (λ channel old new. TakesFrames (shown_from begin history) channel (state old) (state new))
    1 xs ys
    (λ channel x y le lt h. h ∙ ap (after_taking (state x)) (sym (frames_since-quiet begin.setup begin.given channel seen history on)))
    is

-- before the first tick
pub outs_first : {O : Type 0} (state : O → SinkState) (begin : Beginning) (seen : List Event) (xs : List O) → ticks seen ≡ 0
    → AllTakeFrames state (shown_from begin seen) xs xs
outs_first state begin seen xs quiet =
    each_same (λ channel old new. TakesFrames (shown_from begin seen) channel (state old) (state new)) 1 xs
    (λ channel x le. sym (ap (after_taking (state x)) (frames_since-none begin.setup begin.given channel seen (no_positions seen quiet)) ∙ after_taking-nil (state x)))
  where
    no_positions : (seen : List Event) → ticks seen ≡ 0 → tick_positions seen ≡ []
    no_positions seen quiet = nil_from_length (tick_positions seen) (positions_count 0 seen ∙ quiet)
