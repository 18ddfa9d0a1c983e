-- Texts and ticks, one after another.
use Rattle.std.proofs.Common.{◌≡◌, ℕ, zero, suc, ◌+◌, ◌-◌, ◌<◌, List, [], ◌∷◌, ◌++◌, replicate, refl, sym, ap, ◌∙◌, arith, append-nil, append_assoc}
use Rattle.std.specs.Prelude.{Err, Ok, flat_map}
use Rattle.std.specs.List.{range_with_len}
use Rattle.std.proofs.lemmas.Grind.{flat_map-append}
use Rattle.play_types.specs.declared.event.Event.{Event}
use Rattle.play_types.specs.declared.event.Event.TheVariants as event
use Rattle.play_outside.specs.SinkState.{SinkState, after_taking}
use Rattle.play_outside.specs.Sink.{Fails}
use Rattle.play_outside.specs.Gathered.{Adds, Gathered}
use Rattle.play_outside.specs.declared.sink.Sent.TheVariants as sent
use Rattle.play_outside.proofs.Taking.{after_taking-nil}
use Rattle.play_outside.proofs.Sending.{taken_more, Fails-within}
use Rattle.play_outside.proofs.Gathering.{Gathered-more, Gathered-next, Adds-next, Adds-within}
use Rattle.history_model.specs.scripts.History.{Playout}
use Rattle.script_player.specs.declared.ending.Halt.{Halt}
use Rattle.script_player.specs.declared.ending.Halt.TheVariants as halt
use Rattle.script_player.specs.Player.{WritesText}
use Rattle.script_player.specs.Shown.{Shown, shown_tick, shown_ticks}
use Rattle.script_player.proofs.Shown.{shown_ticks-none, shown_ticks-snoc}

replicate-more : {A : Type 0} (n : ℕ) (x : A) → replicate n x ++ x ∷ [] ≡ replicate (n + 1) x
replicate-more zero x = refl
replicate-more {A = A} (suc n) x = ap (λ (l : List A). x ∷ l) (replicate-more n x) ∙ ap (λ (k : ℕ). replicate k x) (let same : suc (n + 1) ≡ suc n + 1 = omega arith in same)

-- a run that stopped in a piece of a text, after the part before it was written, stopped in the text
stopped_within : (reason : Halt) (whole done piece rest : List ℕ) (first state after : SinkState) → whole ≡ (done ++ piece) ++ rest → state ≡ after_taking first done
    → WritesText (Err reason) piece state after → WritesText (Err reason) whole first after
stopped_within halt.Write whole done piece rest first state after parts so_far fails = Fails-within whole done piece rest first state after parts so_far fails
stopped_within halt.Memory whole done piece rest first state after parts so_far none = none
stopped_within halt.Stop whole done piece rest first state after parts so_far none = none
stopped_within halt.Rejected whole done piece rest first state after parts so_far none = none

range-snoc : (first count : ℕ) → range_with_len first (count + 1) ≡ range_with_len first count ++ (first + count) ∷ []
range-snoc first zero = ap (λ (n : ℕ). n ∷ []) (let same : first ≡ first + 0 = omega arith in same)
range-snoc first (suc count) =
    ap (λ (n : ℕ). range_with_len first n) (let same : suc count + 1 ≡ suc (count + 1) = omega arith in same)
    ∙ ap (λ (l : List ℕ). first ∷ l) (range-snoc (first + 1) count
    ∙ ap (λ (n : ℕ). range_with_len (first + 1) count ++ n ∷ []) (let same : first + 1 + count ≡ first + suc count = omega arith in same))

-- what is written for the numbers from 1 to this one
abbrev pub texts_to : (ℕ → List ℕ) → ℕ → List ℕ
texts_to text at = flat_map text (range_with_len 1 at)

texts_to-more : (text : ℕ → List ℕ) (at : ℕ) → texts_to text (at + 1) ≡ texts_to text at ++ text (at + 1)
texts_to-more text at =
    ap (flat_map text) (range-snoc 1 at)
    ∙ flat_map-append text (range_with_len 1 at) ((1 + at) ∷ [])
    ∙ ap (λ (l : List ℕ). texts_to text at ++ l) (append-nil (text (1 + at)))
    ∙ ap (λ (n : ℕ). texts_to text at ++ text n) (let same : 1 + at ≡ at + 1 = omega arith in same)

texts_to-longer : (text : ℕ → List ℕ) (at more : ℕ) → (rest : List ℕ) × (texts_to text (at + more) ≡ texts_to text at ++ rest)
texts_to-longer text at zero =
    ([], ap (texts_to text) (let same : at + 0 ≡ at = omega arith in same) ∙ sym (append-nil (texts_to text at)))
texts_to-longer text at (suc more) =
    let before = texts_to-longer text at more in
    let last = text (at + more + 1) in (
      before.0 ++ last,
      ap (texts_to text) (let same : at + suc more ≡ at + more + 1 = omega arith in same)
          ∙ texts_to-more text (at + more) ∙ ap (λ (l : List ℕ). l ++ last) before.1
          ∙ append_assoc (texts_to text at) before.0 last,
    )

pub no_texts : (text : ℕ → List ℕ) (state : SinkState) → state ≡ after_taking state (texts_to text 0)
no_texts text state = sym (after_taking-nil state)

-- one text more was written
pub text_more : (text : ℕ → List ℕ) (at : ℕ) (first state after : SinkState) → state ≡ after_taking first (texts_to text at)
    → after ≡ after_taking state (text (at + 1)) → after ≡ after_taking first (texts_to text (at + 1))
text_more text at first state after so_far step =
    taken_more (texts_to text at) (text (at + 1)) first state after so_far step
    ∙ ap (after_taking first) (sym (texts_to-more text at))

-- a text stopped the run
pub text_stopped : (text : ℕ → List ℕ) (at count : ℕ) (first state after : SinkState) (reason : Halt) → state ≡ after_taking first (texts_to text at) → at < count
    → WritesText (Err reason) (text (at + 1)) state after → WritesText (Err reason) (texts_to text count) first after
text_stopped text at count first state after reason so_far inside stops =
    let more = texts_to-longer text (at + 1) (count - (at + 1)) in
    stopped_within reason (texts_to text count) (texts_to text at) (text (at + 1)) more.0 first state after
    (ap (texts_to text) (let all : count ≡ at + 1 + (count - (at + 1)) = omega (arith, inside) in all)
    ∙ more.1 ∙ ap (λ (l : List ℕ). l ++ more.0) (texts_to-more text at))
    so_far stops

-- one text more was added
pub text_more_added : (start : List ℕ) (text : ℕ → List ℕ) (at : ℕ) (waiting more : List ℕ) (first state after : SinkState)
    → Gathered (start ++ texts_to text at) waiting first state → Gathered (waiting ++ text (at + 1)) more state after
    → Gathered (start ++ texts_to text (at + 1)) more first after
text_more_added start text at waiting more first state after so_far step =
    Gathered-next start (texts_to text (at + 1)) (texts_to text at) (text (at + 1)) waiting more first state after (texts_to-more text at) so_far step

-- a write failed as a text was added
pub text_not_added : (start : List ℕ) (text : ℕ → List ℕ) (at count : ℕ) (waiting more : List ℕ) (first state after : SinkState) → at < count
    → Gathered (start ++ texts_to text at) waiting first state → Adds sent.Failed (waiting ++ text (at + 1)) more state after
    → Adds sent.Failed (start ++ texts_to text count) more first after
text_not_added start text at count waiting more first state after inside so_far step =
    let longer = texts_to-longer text (at + 1) (count - (at + 1)) in
    Adds-next start (texts_to text count) (texts_to text at) (text (at + 1)) longer.0 waiting more first state after
    (ap (texts_to text) (let all : count ≡ at + 1 + (count - (at + 1)) = omega (arith, inside) in all)
    ∙ longer.1 ∙ ap (λ (l : List ℕ). l ++ longer.0) (texts_to-more text at))
    so_far step

-- one tick more
pub tick-more : (events : List Event) (turn : ℕ) → (events ++ replicate turn event.Tick) ++ event.Tick ∷ [] ≡ events ++ replicate (turn + 1) event.Tick
tick-more events turn = append_assoc events (replicate turn event.Tick) (event.Tick ∷ []) ∙ ap (λ (l : List Event). events ++ l) (replicate-more turn event.Tick)

shown_ticks-more : (shown : Shown) (playout : Playout) (events : List Event) (turn : ℕ) → shown_ticks shown playout events (turn + 1) ≡ shown_ticks shown playout events turn ++ shown_tick shown playout (events ++ replicate turn event.Tick)
shown_ticks-more shown playout events turn = ap (shown_ticks shown playout events) (let same : turn + 1 ≡ suc turn = omega arith in same) ∙ shown_ticks-snoc shown playout events turn

shown_ticks-longer : (shown : Shown) (playout : Playout) (events : List Event) (turn more : ℕ) → (rest : List ℕ) × (shown_ticks shown playout events (turn + more) ≡ shown_ticks shown playout events turn ++ rest)
shown_ticks-longer shown playout events turn zero =
    ([], ap (shown_ticks shown playout events) (let same : turn + 0 ≡ turn = omega arith in same) ∙ sym (append-nil (shown_ticks shown playout events turn)))
shown_ticks-longer shown playout events turn (suc more) =
    let before = shown_ticks-longer shown playout events turn more in
    let last = shown_tick shown playout (events ++ replicate (turn + more) event.Tick) in (
      before.0 ++ last,
      ap (shown_ticks shown playout events) (let same : turn + suc more ≡ turn + more + 1 = omega arith in same)
          ∙ shown_ticks-more shown playout events (turn + more) ∙ ap (λ (l : List ℕ). l ++ last) before.1
          ∙ append_assoc (shown_ticks shown playout events turn) before.0 last,
    )

-- before the first tick nothing is shown, and nothing waits
pub no_ticks : (shown : Shown) (playout : Playout) (events : List Event) (waiting : List ℕ) (state : SinkState) → waiting ≡ []
    → Gathered (shown_ticks shown playout events 0) waiting state state
no_ticks shown playout events waiting state none = record {
  out = [];
  parts = shown_ticks-none shown playout events ∙ sym none;
  taken = sym (after_taking-nil state);
}

-- what is shown of one tick more was added
pub tick_added : (shown : Shown) (playout : Playout) (events : List Event) (turn : ℕ) (waiting more : List ℕ) (first state after : SinkState)
    → Gathered (shown_ticks shown playout events turn) waiting first state
    → Gathered (waiting ++ shown_tick shown playout (events ++ replicate turn event.Tick)) more state after
    → Gathered (shown_ticks shown playout events (turn + 1)) more first after
tick_added shown playout events turn waiting more first state after so_far step =
    Gathered-more (shown_ticks shown playout events (turn + 1)) (shown_ticks shown playout events turn) (shown_tick shown playout (events ++ replicate turn event.Tick)) waiting more first state after
    (shown_ticks-more shown playout events turn) so_far step

-- a write failed as what is shown of a tick was added
pub tick_failed : (shown : Shown) (playout : Playout) (events : List Event) (turn count : ℕ) (waiting more : List ℕ) (first state after : SinkState) → turn < count
    → Gathered (shown_ticks shown playout events turn) waiting first state
    → Adds sent.Failed (waiting ++ shown_tick shown playout (events ++ replicate turn event.Tick)) more state after
    → Fails (shown_ticks shown playout events count) first after
tick_failed shown playout events turn count waiting more first state after inside so_far step =
    let longer = shown_ticks-longer shown playout events (turn + 1) (count - (turn + 1)) in
    let one = shown_tick shown playout (events ++ replicate turn event.Tick) in
    (Adds-within (shown_ticks shown playout events count) (shown_ticks shown playout events turn) one longer.0 waiting more first state after
    (ap (shown_ticks shown playout events) (let all : count ≡ turn + 1 + (count - (turn + 1)) = omega (arith, inside) in all)
    ∙ longer.1 ∙ ap (λ (l : List ℕ). l ++ longer.0) (shown_ticks-more shown playout events turn))
    so_far step).0
