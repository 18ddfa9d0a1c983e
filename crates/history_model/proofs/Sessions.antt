-- The steps of a session whose stream grows: earlier steps stay, and after an end there are no more.
use Rattle.std.proofs.Common.{◌≡◌, ℕ, suc, ◌+◌, ◌<◌, ◌≤◌, Bool, true, false, cond, ◌==◌, List, [], ◌∷◌, ◌++◌, map, take, length, refl, ap, ap₂, ◌∙◌, arith, inl, inr}
use Rattle.std.proofs.Math.Bool.{or-false}
use Rattle.std.specs.Prelude.{Option, None, filter_map, All}
use Rattle.std.specs.List.{list_any, enumerate_from, position_or_len}
use Rattle.std.proofs.lemmas.Bool.{cases_Bool, or_parts, ne_eqb}
use Rattle.std.proofs.lemmas.List.{map-append, length-map, length-take, take-append-le}
use Rattle.std.proofs.lemmas.List.Elements.{filter_map-append}
use Rattle.std.proofs.lemmas.List.Folds.{list_any-append, list_any_none}
use Rattle.std.proofs.lemmas.List.FromFn.{length-enumerate_from}
use Rattle.amcp_text.specs.Lines.{Line}
use Rattle.amcp_text.proofs.FirstEnd.{position_or_len_some}
use Rattle.play_types.specs.Config.{ConfigView}
use Rattle.play_types.specs.Media.{MediaNameView}
use Rattle.history_model.specs.sessions.Line.{line_meaning, asked_by}
use Rattle.history_model.specs.sessions.Session.{Step, is_given_up, asked_by_line, asks, step_of_line, is_end, until_end, line_steps}

-- the numbers of two lists in a row
pub enumerate_from-append : {X : Type 0} (n : ℕ) (xs ys : List X)
    → enumerate_from n (xs ++ ys) ≡ enumerate_from n xs ++ enumerate_from (n + length xs) ys
enumerate_from-append n [] ys = let same : n + 0 ≡ n = omega arith in rw same refl
enumerate_from-append n (x ∷ xs) ys =
    let same : (n + 1) + length xs ≡ n + suc (length xs) = omega arith in
    ap (λ rest. (n, x) ∷ rest) (rw (← same) (enumerate_from-append (n + 1) xs ys))

-- two functions that agree on numbered elements map them alike
map-enumerated : {X Y : Type 0} (f g : ℕ × X → Y) (n : ℕ) (xs : List X)
    → ((k : ℕ) (x : X) → n ≤ k → k < n + length xs → f (k, x) ≡ g (k, x))
    → map f (enumerate_from n xs) ≡ map g (enumerate_from n xs)
map-enumerated f g n [] same = refl
map-enumerated f g n (x ∷ xs) same =
    ap₂ (λ y ys. y ∷ ys) (same n x (omega arith) (omega arith))
    (map-enumerated f g (n + 1) xs (λ k y above below. same k y (omega arith) (omega arith)))

filter_map-enumerated : {X Y : Type 0} (f g : ℕ × X → Option Y) (n : ℕ) (xs : List X)
    → ((k : ℕ) (x : X) → n ≤ k → k < n + length xs → f (k, x) ≡ g (k, x))
    → filter_map f (enumerate_from n xs) ≡ filter_map g (enumerate_from n xs)
filter_map-enumerated f g n [] same = refl
filter_map-enumerated f g n (x ∷ xs) same =
    rw (same n x (omega arith) (omega arith), filter_map-enumerated f g (n + 1) xs (λ k y above below. same k y (omega arith) (omega arith))) refl

-- whether a line was given up does not depend on higher numbers
is_given_up-later : (given_up later : List ℕ) (n number : ℕ) → All (λ k. n ≤ k) later → number < n
    → is_given_up (given_up ++ later) number ≡ is_given_up given_up number
is_given_up-later given_up later n number high below =
    let none = list_any_none (λ k. k == number) later (λ k d inside. ne_eqb _ number (λ e. omega (arith, high k d inside, e))) in
    list_any-append (λ k. k == number) given_up later ∙ rw none (or-false (is_given_up given_up number))

-- what a line asks for, if lines of higher numbers were given up later
asked_by_line-later : (config : ConfigView) (media : List MediaNameView) (given_up later : List ℕ) (n number : ℕ) (line : Line)
    → All (λ k. n ≤ k) later → number < n
    → asked_by_line config media (given_up ++ later) (number, line) ≡ asked_by_line config media given_up (number, line)
asked_by_line-later config media given_up later n number line high below =
    ap (λ (b : Bool). cond b None (asked_by (line_meaning config media line))) (is_given_up-later given_up later n number high below)

-- what lines ask for with more lines after them
pub asks-append : (config : ConfigView) (media : List MediaNameView) (given_up : List ℕ) (lines more : List Line)
    → asks config media given_up (lines ++ more)
    ≡ asks config media given_up lines ++ filter_map (asked_by_line config media given_up) (enumerate_from (length lines) more)
unfolding asks
asks-append config media given_up lines more =
    let same : 0 + length lines ≡ length lines = omega arith in
    rw (enumerate_from-append 0 lines more, same, filter_map-append) refl

-- a line that is given up later, at a number that comes after these lines, changes nothing in what they ask for
pub asks-later : (config : ConfigView) (media : List MediaNameView) (given_up later : List ℕ) (lines : List Line)
    → All (λ k. length lines ≤ k) later → asks config media (given_up ++ later) lines ≡ asks config media given_up lines
unfolding asks
asks-later config media given_up later lines high =
    filter_map-enumerated (asked_by_line config media (given_up ++ later)) (asked_by_line config media given_up) 0 lines
    (λ k line above below. asked_by_line-later config media given_up later (length lines) k line high (omega arith))

-- the step of a line depends on the lines before it alone
step_of_line-append : (config : ConfigView) (media : List MediaNameView) (given_up : List ℕ) (lines more : List Line) (number : ℕ) (line : Line)
    → number ≤ length lines
    → step_of_line config media given_up (lines ++ more) (number, line) ≡ step_of_line config media given_up lines (number, line)
step_of_line-append config media given_up lines more number line within =
    rw (take-append-le number lines more within) refl

step_of_line-later : (config : ConfigView) (media : List MediaNameView) (given_up later : List ℕ) (lines : List Line) (number : ℕ) (line : Line)
    → All (λ k. length lines ≤ k) later → number < length lines
    → step_of_line config media (given_up ++ later) lines (number, line) ≡ step_of_line config media given_up lines (number, line)
step_of_line-later config media given_up later lines number line high below =
    let short : length (take number lines) ≤ length lines = omega (arith, length-take number lines) in
    rw (
      is_given_up-later given_up later (length lines) number high below,
      asks-later config media given_up later (take number lines) (λ k d inside. omega (arith, high k d inside)),
    ) refl

-- a step for each line
pub length-line_steps : (config : ConfigView) (media : List MediaNameView) (given_up : List ℕ) (lines : List Line)
    → length (line_steps config media given_up lines) ≡ length lines
unfolding line_steps
length-line_steps config media given_up lines =
    length-map (enumerate_from 0 lines) (step_of_line config media given_up lines) ∙ length-enumerate_from 0 lines

-- the steps of more lines come after those of the lines before them
pub line_steps-append : (config : ConfigView) (media : List MediaNameView) (given_up : List ℕ) (lines more : List Line)
    → line_steps config media given_up (lines ++ more)
    ≡ line_steps config media given_up lines
    ++ map (step_of_line config media given_up (lines ++ more)) (enumerate_from (length lines) more)
unfolding line_steps
line_steps-append config media given_up lines more =
    let same : 0 + length lines ≡ length lines = omega arith in
    let first = map-enumerated (step_of_line config media given_up (lines ++ more)) (step_of_line config media given_up lines) 0 lines
    (λ k line above below. step_of_line-append config media given_up lines more k line (omega arith)) in
    rw (enumerate_from-append 0 lines more, same, map-append, first) refl

-- the steps of one line more
pub line_steps-snoc : (config : ConfigView) (media : List MediaNameView) (given_up : List ℕ) (lines : List Line) (line : Line)
    → line_steps config media given_up (lines ++ line ∷ [])
    ≡ line_steps config media given_up lines ++ step_of_line config media given_up lines (length lines, line) ∷ []
line_steps-snoc config media given_up lines line =
    line_steps-append config media given_up lines (line ∷ [])
    ∙ ap (λ (s : Step). line_steps config media given_up lines ++ s ∷ [])
    (step_of_line-append config media given_up lines (line ∷ []) (length lines) line (omega arith))

-- a line that is given up later, at a number that comes after these lines, changes none of their steps
pub line_steps-later : (config : ConfigView) (media : List MediaNameView) (given_up later : List ℕ) (lines : List Line)
    → All (λ k. length lines ≤ k) later → line_steps config media (given_up ++ later) lines ≡ line_steps config media given_up lines
unfolding line_steps
line_steps-later config media given_up later lines high =
    map-enumerated (step_of_line config media (given_up ++ later) lines) (step_of_line config media given_up lines) 0 lines
    (λ k line above below. step_of_line-later config media given_up later lines k line high (omega arith))

-- the steps of a longer session begin with those of the earlier one
pub record Longer (config : ConfigView) (media : List MediaNameView) (given_up later : List ℕ) (lines more : List Line) : Type 0 where
  pub added : List Step
  pub whole : line_steps config media (given_up ++ later) (lines ++ more) ≡ line_steps config media given_up lines ++ added
  pub one_a_line : length added ≡ length more

pub line_steps-longer : (config : ConfigView) (media : List MediaNameView) (given_up later : List ℕ) (lines more : List Line)
    → All (λ k. length lines ≤ k) later → Longer config media given_up later lines more
line_steps-longer config media given_up later lines more high =
    let step = step_of_line config media (given_up ++ later) (lines ++ more) in
    record {
      added = map step (enumerate_from (length lines) more);
      whole = line_steps-append config media (given_up ++ later) lines more
          ∙ ap (λ (ss : List Step). ss ++ map step (enumerate_from (length lines) more)) (line_steps-later config media given_up later lines high);
      one_a_line = length-map (enumerate_from (length lines) more) step ∙ length-enumerate_from (length lines) more;
    }

-- the first element that passes, in a list with more after it
pub position_or_len-append : {X : Type 0} (p : X → Bool) (xs ys : List X) → list_any p xs ≡ true
    → position_or_len p (xs ++ ys) ≡ position_or_len p xs
position_or_len-append p [] ys h = cc
position_or_len-append p (x ∷ xs) ys h = elim (cases_Bool (p x)) [
  | inl passes ↦ rw passes refl
  | inr fails ↦ rw (fails, position_or_len-append p xs ys (rw fails at h)) refl
]

-- after an end there are no more steps
pub until_end-ended : (before more : List Step) → list_any is_end before ≡ true → until_end (before ++ more) ≡ until_end before
until_end-ended before more ends =
    let within = position_or_len_some is_end before ends in
    rw (position_or_len-append is_end before more ends, take-append-le (position_or_len is_end before + 1) before more (omega arith)) refl

-- if no step ends the session, all of them stay
pub until_end-going : (before more : List Step) → list_any is_end before ≡ false → until_end (before ++ more) ≡ before ++ until_end more
until_end-going [] more h = refl
until_end-going (x ∷ xs) more h =
    let parts = or_parts (is_end x) (list_any is_end xs) h in
    let next : 1 + position_or_len is_end (xs ++ more) + 1 ≡ suc (position_or_len is_end (xs ++ more) + 1) = omega arith in
    rw (parts.0, next) (ap (λ ss. x ∷ ss) (until_end-going xs more parts.1))

pub length-until_end : (all : List Step) → length (until_end all) ≤ length all
length-until_end all = omega (arith, length-take (position_or_len is_end all + 1) all)

-- after an end there are no more steps, whatever lines come
pub until_end-lines_ended : (config : ConfigView) (media : List MediaNameView) (given_up later : List ℕ) (lines more : List Line)
    → All (λ k. length lines ≤ k) later → list_any is_end (line_steps config media given_up lines) ≡ true
    → until_end (line_steps config media (given_up ++ later) (lines ++ more)) ≡ until_end (line_steps config media given_up lines)
until_end-lines_ended config media given_up later lines more high ended =
    let l = line_steps-longer config media given_up later lines more high in
    ap until_end l.whole ∙ until_end-ended (line_steps config media given_up lines) l.added ended
