-- What the copies of a sheet give in order is its script.
use Rattle.std.proofs.Common.{◌≡◌, ℕ, zero, suc, ◌+◌, ◌-◌, ◌<◌, ◌≤◌, max, Bool, true, false, cond, List, [], ◌∷◌, ◌++◌, length, take, replicate, refl, sym, ap, ap₂, ◌∙◌, arith, append-nil, append_assoc}
use Rattle.std.specs.Prelude.{◌==◌, nat_lt, if◌then◌else◌, flat_map}
use Rattle.std.specs.List.{AllByRecursion, range_with_len}
use Rattle.std.proofs.lemmas.Bool.{le-ltb}
use Rattle.history_model.specs.scripts.Line.{ScriptLine, Ticks}
use Rattle.play_schedule.specs.declared.cue.Cue.{Cue}
use Rattle.play_schedule.specs.SheetView.{SheetView}
use Rattle.play_schedule.specs.Unfolding.{cue_lines, lines_at, script_of}
use Rattle.play_schedule.specs.Order.{AreAscending, AreOf, Entry, IsOrderOf, are_of, due_in, entry_lines, lines_left}
use Rattle.play_schedule.proofs.Orders.{all-map, all-map₂, none-due}

-- the tick after a moment, if the sheet goes on
abbrev pub tick_after : ℕ → ℕ → List ScriptLine
tick_after ticks moment = if nat_lt moment ticks then Ticks 1 ∷ [] else []

-- what entries give at a moment
abbrev given_at : List Cue → ℕ → List Entry → ℕ → List ScriptLine
given_at cues ticks entries moment = due_in cues moment entries ++ tick_after ticks moment

-- what they give at these moments
abbrev given_in : List Cue → ℕ → List Entry → List ℕ → List ScriptLine
given_in cues ticks entries moments = flat_map (given_at cues ticks entries) moments

-- a tick for each
abbrev ticks_of : ℕ → List ScriptLine
ticks_of count = replicate count (Ticks 1)

pub tick_before : (ticks moment : ℕ) → moment < ticks → tick_after ticks moment ≡ Ticks 1 ∷ []
tick_before ticks moment l =
    let goes_on : nat_lt moment ticks ≡ true = grind arith in
    ap (λ (b : Bool). cond b (Ticks 1 ∷ []) []) goes_on

pub no_tick : (ticks moment : ℕ) → ticks ≤ moment → tick_after ticks moment ≡ []
no_tick ticks moment l = ap (λ (b : Bool). cond b (Ticks 1 ∷ []) []) (le-ltb moment ticks l)

-- before the first entry there are ticks alone
given_before : (cues : List Cue) (ticks : ℕ) (entries : List Entry) (count taken more : ℕ) → taken + (count + more) ≡ ticks
    → AllByRecursion (λ (e : Entry). taken + count ≤ e.0.0) entries
    → given_in cues ticks entries (range_with_len taken (suc (count + more))) ≡ ticks_of count ++ given_in cues ticks entries (range_with_len (taken + count) (suc more))
given_before cues ticks entries zero taken more s later =
    let same : taken ≡ taken + zero = omega arith in
    let less : zero + more ≡ more = omega arith in
    ap₂ (λ (a n : ℕ). given_in cues ticks entries (range_with_len a (suc n))) same less
given_before cues ticks entries (suc count) taken more s later =
    let next : suc count + more ≡ suc (count + more) = omega arith in
    let sum : taken + 1 + (count + more) ≡ ticks = omega arith in
    let there : taken + 1 + count ≡ taken + suc count = omega arith in
    let none : due_in cues taken entries ≡ [] = none-due cues taken entries (all-map (λ e h m. omega arith) entries later) in
    let tick : tick_after ticks taken ≡ Ticks 1 ∷ [] = tick_before ticks taken (omega arith) in
    let here : given_at cues ticks entries taken ≡ Ticks 1 ∷ [] = ap₂ (λ (l k : List ScriptLine). l ++ k) none tick in
    let rest = given_before cues ticks entries count (taken + 1) more sum (all-map (λ e h. omega arith) entries later) in
    ap (λ n. given_in cues ticks entries (range_with_len taken (suc n))) next
    ∙ (ap₂ (λ (l k : List ScriptLine). l ++ k) here rest
    ∙ ap (λ a. Ticks 1 ∷ (ticks_of count ++ given_in cues ticks entries (range_with_len a (suc more)))) there)

-- after its moment an entry gives nothing
given_after : (cues : List Cue) (ticks : ℕ) (entry : Entry) (entries : List Entry) (first count : ℕ) → entry.0.0 < first
    → given_in cues ticks (entry ∷ entries) (range_with_len first count) ≡ given_in cues ticks entries (range_with_len first count)
given_after cues ticks entry entries first zero l = refl
given_after cues ticks entry entries first (suc count) l =
    let other : (entry.0.0 == first) ≡ false = grind arith in
    let here : given_at cues ticks (entry ∷ entries) first ≡ given_at cues ticks entries first =
    ap (λ (b : Bool). ((if b then entry_lines cues entry else []) ++ due_in cues first entries) ++ tick_after ticks first) other in
    ap₂ (λ (l k : List ScriptLine). l ++ k) here (given_after cues ticks entry entries (first + 1) count (omega arith))

-- at its moment it gives its lines first
given_then : (cues : List Cue) (ticks : ℕ) (entry : Entry) (entries : List Entry) (more : ℕ)
    → given_in cues ticks (entry ∷ entries) (range_with_len entry.0.0 (suc more)) ≡ entry_lines cues entry ++ given_in cues ticks entries (range_with_len entry.0.0 (suc more))
given_then cues ticks entry entries more =
    let moment : ℕ = entry.0.0 in
    let lines : List ScriptLine = entry_lines cues entry in
    let due : List ScriptLine = due_in cues moment entries in
    let tick : List ScriptLine = tick_after ticks moment in
    let rest : List ScriptLine = given_in cues ticks entries (range_with_len (moment + 1) more) in
    let same : (entry.0.0 == moment) ≡ true = grind arith in
    let after : given_in cues ticks (entry ∷ entries) (range_with_len (moment + 1) more) ≡ rest = given_after cues ticks entry entries (moment + 1) more (omega arith) in
    ap₂ (λ (b : Bool) (l : List ScriptLine). (((if b then lines else []) ++ due) ++ tick) ++ l) same after
    ∙ (ap (λ l. l ++ rest) (append_assoc lines due tick) ∙ append_assoc lines (due ++ tick) rest)

-- entries that come after `taken` ticks give the lines of each moment from then on, and its tick
given_left : (cues : List Cue) (ticks taken : ℕ) (entries : List Entry) → taken ≤ ticks → AreAscending entries
    → AllByRecursion (λ (e : Entry). (taken ≤ e.0.0) × (e.0.0 ≤ ticks)) entries
    → lines_left cues ticks taken entries ≡ given_in cues ticks entries (range_with_len taken (suc (ticks - taken)))
given_left cues ticks taken [] l ascending within =
    let count : ℕ = ticks - taken in
    let sum : taken + (count + 0) ≡ ticks = omega arith in
    let all : count ≡ count + 0 = omega arith in
    let ends : tick_after ticks (taken + count) ≡ [] = no_tick ticks (taken + count) (omega arith) in
    sym (ap (λ n. given_in cues ticks [] (range_with_len taken (suc n))) all
    ∙ (given_before cues ticks [] count taken 0 sum tt
    ∙ (ap (λ (l : List ScriptLine). ticks_of count ++ (l ++ [])) ends ∙ append-nil (ticks_of count))))
given_left cues ticks taken (entry ∷ entries) l ascending within =
    let moment : ℕ = entry.0.0 in
    let count : ℕ = moment - taken in
    let more : ℕ = ticks - moment in
    let lines : List ScriptLine = entry_lines cues entry in
    let late : taken ≤ moment = within.0.0 in
    let early : moment ≤ ticks = within.0.1 in
    let sum : taken + (count + more) ≡ ticks = omega arith in
    let all : count + more ≡ ticks - taken = omega arith in
    let there : taken + count ≡ moment = omega arith in
    let then_at : max taken moment ≡ moment = omega arith in
    let later : AllByRecursion (λ (e : Entry). moment ≤ e.0.0) entries = all-map (λ e h. h.0) entries ascending.0 in
    let rest = given_left cues ticks moment entries early ascending.1 (all-map₂ (λ e h k. (h, k.1)) entries later within.1) in
    let begun : AllByRecursion (λ (e : Entry). taken + count ≤ e.0.0) (entry ∷ entries) = (omega arith, all-map (λ e h. omega arith) entries later) in
    let before = given_before cues ticks (entry ∷ entries) count taken more sum begun in
    ap (λ a. ticks_of count ++ (lines ++ lines_left cues ticks a entries)) then_at
    ∙ (ap (λ k. ticks_of count ++ (lines ++ k)) rest
    ∙ (ap (λ k. ticks_of count ++ k) (sym (given_then cues ticks entry entries more))
    ∙ (ap (λ a. ticks_of count ++ given_in cues ticks (entry ∷ entries) (range_with_len a (suc more))) (sym there)
    ∙ (sym before ∙ ap (λ n. given_in cues ticks (entry ∷ entries) (range_with_len taken (suc n))) all))))

take-all : (cues : List Cue) → take (length cues) cues ≡ cues
take-all [] = refl
take-all (cue ∷ cues) = ap (λ l. cue ∷ l) (take-all cues)

flat_map-same : (f g : ℕ → List ScriptLine) → ((m : ℕ) → f m ≡ g m) → (moments : List ℕ) → flat_map f moments ≡ flat_map g moments
flat_map-same f g same [] = refl
flat_map-same f g same (m ∷ moments) = ap₂ (λ (l k : List ScriptLine). l ++ k) (same m) (flat_map-same f g same moments)

-- the entries of all cues give the script
pub lines_left_all : (cues : List Cue) (ticks : ℕ) (entries : List Entry) → IsOrderOf cues ticks (length cues) entries
    → lines_left cues ticks 0 entries ≡ script_of (record { cues = cues; ticks = ticks })
lines_left_all cues ticks entries order =
    let sheet : SheetView = record { cues = cues; ticks = ticks } in
    let whole : suc (ticks - 0) ≡ ticks + 1 = omega arith in
    given_left cues ticks 0 entries (omega arith) order.ascending (all-map (λ e h. (omega arith, h.1.1)) entries order.each)
    ∙ (ap (λ n. given_in cues ticks entries (range_with_len 0 n)) whole
    ∙ flat_map-same (given_at cues ticks entries) (lines_at sheet)
    (λ m. ap (λ l. l ++ tick_after ticks m) (order.due m ∙ ap (flat_map (cue_lines m)) (take-all cues)))
    (range_with_len 0 (ticks + 1)))

-- entries of cues pass the test
pub are_of-true : (ticks cues : ℕ) (entries : List Entry) → AreOf ticks cues entries → are_of cues entries ≡ true
are_of-true ticks cues [] h = refl
are_of-true ticks cues (entry ∷ entries) h =
    let cue : nat_lt entry.0.1 cues ≡ true = grind (arith, h.0.0) in
    let copy : nat_lt 0 entry.1 ≡ true = grind (arith, h.0.1.0) in
    rw (cue, copy) (are_of-true ticks cues entries h.1)
