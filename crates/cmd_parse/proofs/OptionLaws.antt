-- Options that are read one after another are the options of the line.
use Rattle.std.proofs.Common.{◌≡◌, ℕ, ◌+◌, zero, suc, Bool, true, false, cond, ◌&&◌, not, List, [], ◌∷◌, ◌++◌, take, drop, length, get_or, drop-cons, ◌<◌, ◌≤◌, refl, sym, ap, ◌∙◌, add-one, add-zero, inl, inr, arith}
use Rattle.std.specs.Prelude.{Option, Some, None, Result, Ok, Err, is_some, is_none, option_map, option_and_then, unwrap_or, ok_or, slice_get, codes, ◌==◌, if◌then◌else◌}
use Rattle.std.specs.Option.{option_map_or, option_or}
use Rattle.std.specs.List.{find}
use Rattle.std.proofs.Math.Numerals.{one-add}
use Rattle.std.proofs.lemmas.Bool.{cases_Bool, and_parts, eqb-true}
use Rattle.std.proofs.lemmas.List.{drop-drop, drop_all, append-nil, append_assoc}
use Rattle.std.proofs.lemmas.List.Folds.{find-append}
use Rattle.amcp_text.specs.Numbers.{whole_number}
use Rattle.play_types.specs.Transition.{TransView, trans_of}
use Rattle.play_types.specs.declared.transition.Kind.{Kind}
use Rattle.play_types.specs.declared.transition.Kind.TheVariants.{Cut}
use Rattle.play_types.specs.declared.transition.TheConstants.{MAX_DURATION}
use Rattle.play_types.specs.declared.parsed.Refusal.{Refusal}
use Rattle.play_types.specs.declared.parsed.Refusal.TheVariants.{Illegal, Missing}
use Rattle.history_model.specs.commands.Line.{Line, ◌>>=◌, legal, number_at}
use Rattle.play_types.specs.Words.{is_word, kind_of}
use Rattle.history_model.specs.commands.Options.{OptionName, Written, option_of, number_len, option_len, manner_len, is_same_option, option_number, is_option, given, written_number, number_refusal, option_refusal, options_refusal, options_after, options_from, options_of, options_at, transition_of, unless_refused, least_number, most_number, option_value}
use Rattle.history_model.specs.commands.Options as meant
use Rattle.cmd_parse.specs.inner.Keyword.{keyword_of, option_named, is_cut}
use Rattle.cmd_parse.specs.inner.Options.{result_view, no_options, has_option, duration_at, transition_at, manner_at, with_given, with_keyword, with_word, with_option, is_number_at}
use Rattle.cmd_parse.specs.declared.keyword.Keyword.{Keyword}
use Rattle.cmd_parse.specs.declared.keyword.Keyword.TheVariants.{Loop, Seek, Length, Auto, Transition}
use Rattle.cmd_parse.specs.declared.options.Given.{Given}
use Rattle.cmd_parse.proofs.Keywords.{keyword_named, keyword_kind, cut_word, cut_kind}
use Rattle.cmd_parse.proofs.Manner.{word_here, manner_from}

-- the options that are read if these are written
abbrev pub read_of : List Written → Given
read_of all = record {
  looped = is_some (given meant.Loop all);
  transition = option_map transition_of (given meant.Transition all);
  seek = option_map (written_number meant.Seek) (given meant.Seek all);
  length = option_map (written_number meant.Length) (given meant.Length all);
  auto = is_some (given meant.Auto all);
}

is_some-map : {A B : Type 0} (f : A → B) (o : Option A) → is_some (option_map f o) ≡ is_some o
is_some-map f None = refl
is_some-map f (Some a) = refl

-- an option that was read is one that is written
has_given : (all : List Written) (keyword : Keyword) → has_option (read_of all) keyword ≡ is_some (given (option_named keyword) all)
has_given all Loop = refl
has_given all Auto = refl
has_given all Seek = is_some-map (written_number meant.Seek) (given meant.Seek all)
has_given all Length = is_some-map (written_number meant.Length) (given meant.Length all)
has_given all (Transition kind) = is_some-map transition_of (given meant.Transition all)

-- an option after one more is written of the name `found`, which was not given before
abbrev chosen : List Written → Written → OptionName → OptionName → Option Written
chosen before written found option = cond (is_same_option option found) (Some written) (given option before)

-- an option among those that are written, after one more
or_none : {A : Type 0} (o : Option A) → option_or o None ≡ o
or_none None = refl
or_none (Some a) = refl

given_other : (option : OptionName) (before : List Written) (written : Written) → is_option option written ≡ false
    → given option (before ++ written ∷ []) ≡ given option before
given_other option before written h =
    find-append (is_option option) before (written ∷ []) ∙ rw h (or_none (given option before))

or_new : {A : Type 0} (o : Option A) (a : A) → is_some o ≡ false → option_or o (Some a) ≡ Some a
or_new None a h = refl
or_new (Some b) a h = cc

given_new : (option : OptionName) (before : List Written) (written : Written) → is_some (given option before) ≡ false → is_option option written ≡ true
    → given option (before ++ written ∷ []) ≡ Some written
given_new option before written h is =
    find-append (is_option option) before (written ∷ []) ∙ rw is (or_new (given option before) written h)

-- an option that is written has the name that its first word gives
is_option_of : (option : OptionName) (written : Written) (found : OptionName) → option_of written.word ≡ Some found → is_option option written ≡ is_same_option option found
is_option_of option written found h = ap (λ o. option_map_or (is_same_option option) o false) h

given_push : (before : List Written) (written : Written) (found : OptionName) → option_of written.word ≡ Some found → is_some (given found before) ≡ false → (option : OptionName)
    → given option (before ++ written ∷ []) ≡ chosen before written found option
given_push before written found is absent option = elim (cases_Bool (is_same_option option found)) [
  | inl same ↦
      let number = eqb-true (option_number option) (option_number found) same in
      let absent_too : is_some (given option before) ≡ false =
      ap (λ n. is_some (find (λ w. option_map_or (λ other. n == option_number other) (option_of w.word) false) before)) number ∙ absent in
      rw same (given_new option before written absent_too (is_option_of option written found is ∙ same))
  | inr other ↦ rw other (given_other option before written (is_option_of option written found is ∙ other))
]

-- the options that are read, by what is written of each
abbrev read_by : Option Written → Option Written → Option Written → Option Written → Option Written → Given
read_by looped transition seek length auto = record {
  looped = is_some looped;
  transition = option_map transition_of transition;
  seek = option_map (written_number meant.Seek) seek;
  length = option_map (written_number meant.Length) length;
  auto = is_some auto;
}

-- the options that are read, after one more is written that was not given before
abbrev read_with : List Written → Written → OptionName → Given
read_with before written meant.Loop = record (read_of before) { looped = true }
read_with before written meant.Transition = record (read_of before) { transition = Some (transition_of written) }
read_with before written meant.Seek = record (read_of before) { seek = Some (written_number meant.Seek written) }
read_with before written meant.Length = record (read_of before) { length = Some (written_number meant.Length written) }
read_with before written meant.Auto = record (read_of before) { auto = true }

read_chosen : (before : List Written) (written : Written) (found : OptionName)
    → read_by (chosen before written found meant.Loop) (chosen before written found meant.Transition) (chosen before written found meant.Seek) (chosen before written found meant.Length) (chosen before written found meant.Auto)
    ≡ read_with before written found
read_chosen before written meant.Loop = refl
read_chosen before written meant.Transition = refl
read_chosen before written meant.Seek = refl
read_chosen before written meant.Length = refl
read_chosen before written meant.Auto = refl

read_push : (before : List Written) (written : Written) (found : OptionName) → option_of written.word ≡ Some found → is_some (given found before) ≡ false
    → read_of (before ++ written ∷ []) ≡ read_with before written found
read_push before written found is absent =
    let h = given_push before written found is absent in
    rw (h meant.Loop, h meant.Transition, h meant.Seek, h meant.Length, h meant.Auto) (read_chosen before written found)

-- a value, unless it is refused
abbrev pub unless : {A : Type 0} → Option Refusal → A → Result A Refusal
unless None value = Ok value
unless (Some refusal) value = Err refusal

unless_then : {A B : Type 0} (refusal : Option Refusal) (value : A) (next : A → B) → (unless refusal value >>= λ a. Ok (next a)) ≡ unless refusal (next value)
unless_then None value next = refl
unless_then (Some refusal) value next = refl

-- the number of an option that a word writes
abbrev number_in : OptionName → Option (List ℕ) → ℕ
number_in option word = unwrap_or (option_and_then (option_value option) word) 0

legal_number : (line : Line) (at : ℕ) (value : Option ℕ) → legal line at value ≡ unless (cond (is_some value) None (Some (Illegal line.name at))) (unwrap_or value 0)
legal_number line at None = refl
legal_number line at (Some value) = refl

number_read : (line : Line) (at : ℕ) (option : OptionName) (word : Option (List ℕ))
    → (ok_or word (Missing line.name) >>= λ w. legal line (at + 1) (option_value option w)) ≡ unless (number_refusal line.name at option word) (number_in option word)
number_read line at option None = refl
number_read line at option (Some word) = legal_number line (at + 1) (option_value option word)

count_read : (line : Line) (option : OptionName) (rest : List (List ℕ)) (at : ℕ) → drop (at + 1) line.words ≡ rest
    → number_at line (at + 1) (least_number option) (most_number option) ≡ unless (number_refusal line.name at option (slice_get rest 0)) (number_in option (slice_get rest 0))
count_read line option rest at h =
    ap (λ word. ok_or word (Missing line.name) >>= λ w. legal line (at + 1) (option_value option w)) (word_here line.words rest (at + 1) h)
    ∙ number_read line at option (slice_get rest 0)

-- the first word of a prefix that has one
first_taken : {X : Type 0} (len : ℕ) (rest : List X) → slice_get (take (suc len) rest) 0 ≡ slice_get rest 0
first_taken len [] = refl
first_taken len (x ∷ xs) = refl

-- an option as it is written at a position
abbrev written_at : ℕ → List ℕ → Option OptionName → List (List ℕ) → Written
written_at at word option rest = record { at = at; word = word; more = take (option_len word option rest) rest }

-- what reading an option gives that a word begins, or none: the options with it, and the number of words after its first
-- that belong to it
abbrev one_step : Line → List Written → Written → Option OptionName → ℕ → Result (Given × ℕ) Refusal
one_step line before written option len =
    unless (option_refusal line.name before written option) (read_of (before ++ written ∷ []), len)

-- options of which the last one has one word after its first
abbrev with_one : Given → Given × ℕ
with_one options = (options, 1)

-- the numbers of SEEK and LENGTH
counted : (line : Line) (at : ℕ) (word : List ℕ) (rest : List (List ℕ)) (option : OptionName) (next : ℕ → Given)
    → drop (at + 1) line.words ≡ rest
    → (number_at line (at + 1) (least_number option) (most_number option) >>= λ count. Ok (with_one (next count)))
    ≡ unless (number_refusal line.name at option (slice_get (take 1 rest) 0)) (with_one (next (written_number option (record { at = at; word = word; more = take 1 rest }))))
counted line at word rest option next h =
    let name = line.name in
    ap (λ count. count >>= λ c. Ok (with_one (next c))) (count_read line option rest at h)
    ∙ unless_then (number_refusal name at option (slice_get rest 0)) (number_in option (slice_get rest 0)) (λ c. with_one (next c))
    ∙ ap (λ first. unless (number_refusal name at option first) (with_one (next (number_in option first)))) (sym (first_taken 0 rest))

not_some : {A : Type 0} (o : Option A) → not (is_some o) ≡ is_none o
not_some None = refl
not_some (Some a) = refl

-- whether the word is CUT and no number follows it
abbrev has_no_number : List ℕ → List (List ℕ) → Bool
has_no_number word rest = is_word (codes "CUT") word && is_none (option_and_then whole_number (slice_get rest 0))

no_number_test : (line : Line) (rest : List (List ℕ)) (at : ℕ) (word : List ℕ) (kind : Kind) → drop (at + 1) line.words ≡ rest → kind_of word ≡ Some kind
    → (is_cut kind && not (is_number_at line (at + 1))) ≡ has_no_number word rest
no_number_test line rest at word kind h is =
    ap (λ cut. cut && not (is_number_at line (at + 1))) (sym (cut_word word kind is))
    ∙ ap (λ no. is_word (codes "CUT") word && no) (not_some (option_and_then whole_number (slice_get line.words (at + 1))))
    ∙ ap (λ first. is_word (codes "CUT") word && is_none (option_and_then whole_number first)) (word_here line.words rest (at + 1) h)

-- what reading a transition gives
abbrev transition_more : Line → ℕ → List ℕ → List (List ℕ) → Result (TransView × ℕ) Refusal
transition_more line at word rest =
    let written = written_at at word (Some meant.Transition) rest in
    unless (if number_len word meant.Transition written.more == 0 then None else number_refusal line.name at meant.Transition (slice_get written.more 0))
    (transition_of written, option_len word (Some meant.Transition) rest)

-- a transition of this duration, which `duration.1` words write
abbrev timed : Line → ℕ → Kind → ℕ × ℕ → TransView × ℕ
timed line at kind duration =
    let manner = manner_at line (at + duration.1) in (trans_of kind duration.0 manner.curve manner.leftward, duration.1 + manner.words)

abbrev with_number : ℕ → ℕ × ℕ
with_number duration = (duration, 1)

timed_number : (line : Line) (rest : List (List ℕ)) (at : ℕ) (kind : Kind) → drop (at + 1) line.words ≡ rest
    → ((number_at line (at + 1) 0 MAX_DURATION >>= λ duration. Ok (with_number duration)) >>= λ duration. Ok (timed line (at + 1) kind duration))
    ≡ unless (number_refusal line.name at meant.Transition (slice_get rest 0)) (timed line (at + 1) kind (with_number (number_in meant.Transition (slice_get rest 0))))
timed_number line rest at kind h =
    let refused = number_refusal line.name at meant.Transition (slice_get rest 0) in
    let number = number_in meant.Transition (slice_get rest 0) in
    ap (λ count. (count >>= λ duration. Ok (with_number duration)) >>= λ duration. Ok (timed line (at + 1) kind duration)) (count_read line meant.Transition rest at h)
    ∙ ap (λ count. count >>= λ duration. Ok (timed line (at + 1) kind duration)) (unless_then refused number with_number)
    ∙ unless_then refused (with_number number) (timed line (at + 1) kind)

drop_one-take : {X : Type 0} (len : ℕ) (rest : List X) → drop 1 (take (suc len) rest) ≡ take len (drop 1 rest)
drop_one-take zero [] = refl
drop_one-take (suc len) [] = refl
drop_one-take len (x ∷ xs) = refl

transition_read_number : (line : Line) (rest : List (List ℕ)) (at : ℕ) (word : List ℕ) (kind : Kind) → drop (at + 1) line.words ≡ rest → kind_of word ≡ Some kind
    → has_no_number word rest ≡ false → transition_at line (at + 1) kind ≡ transition_more line at word rest
unfolding transition_at duration_at kind_of
transition_read_number line rest at word kind h is number =
    let manner = manner_len (drop 1 rest) in
    let further : drop (at + 1 + 1) line.words ≡ drop 1 rest = sym (drop-drop 1 (at + 1) line.words) ∙ ap (drop 1) h in
    let left = manner_from line (drop 1 rest) (at + 1 + 1) further in
    rw (no_number_test line rest at word kind h is, number, one-add manner, first_taken manner rest, number, drop_one-take manner rest)
    (timed_number line rest at kind h ∙ rw (left, is, one-add manner) refl)

number_unread : {X : Type 0} (len : ℕ) (rest : List X) (test : Option X → Bool) → test None ≡ true → test (slice_get rest 0) ≡ true → test (slice_get (take len rest) 0) ≡ true
number_unread zero rest test none first = none
number_unread (suc len) rest test none first = ap test (first_taken len rest) ∙ first

transition_read_cut : (line : Line) (rest : List (List ℕ)) (at : ℕ) (word : List ℕ) → drop (at + 1) line.words ≡ rest → kind_of word ≡ Some Cut
    → has_no_number word rest ≡ true → transition_at line (at + 1) Cut ≡ transition_more line at word rest
unfolding transition_at duration_at kind_of
transition_read_cut line rest at word h is none =
    let parts = and_parts (is_word (codes "CUT") word) (is_none (option_and_then whole_number (slice_get rest 0))) none in
    let left = manner_from line rest (at + 1) h in
    let still = number_unread (0 + manner_len rest) rest (λ first. is_none (option_and_then whole_number first)) refl parts.1 in
    rw (no_number_test line rest at word Cut h is, none, add-zero (at + 1), left, parts.0, still) refl

transition_read : (line : Line) (rest : List (List ℕ)) (at : ℕ) (word : List ℕ) (kind : Kind) → drop (at + 1) line.words ≡ rest → kind_of word ≡ Some kind
    → transition_at line (at + 1) kind ≡ transition_more line at word rest
transition_read line rest at word kind h is = elim (cases_Bool (has_no_number word rest)) [
  | inl none ↦
      let parts = and_parts (is_word (codes "CUT") word) (is_none (option_and_then whole_number (slice_get rest 0))) none in
      let cut : kind ≡ Cut = cut_kind kind (sym (cut_word word kind is) ∙ parts.0) in
      ap (λ k. transition_at line (at + 1) k) cut ∙ transition_read_cut line rest at word h (is ∙ ap Some cut) none
  | inr number ↦ transition_read_number line rest at word kind h is number
]

abbrev with_transition : Given → TransView × ℕ → Given × ℕ
with_transition options read = (record options { transition = Some read.0 }, read.1)

-- an option that was not given before is read as it is written
given_read : (line : Line) (before : List Written) (at : ℕ) (word : List ℕ) (rest : List (List ℕ)) (keyword : Keyword)
    → drop (at + 1) line.words ≡ rest → keyword_of word ≡ Some keyword → is_some (given (option_named keyword) before) ≡ false
    → with_given line at (read_of before) keyword
    ≡ one_step line before (written_at at word (Some (option_named keyword)) rest) (Some (option_named keyword)) (option_len word (Some (option_named keyword)) rest)
given_read line before at word rest Loop h is absent =
    let named = keyword_named word ∙ ap (option_map option_named) is in
    rw (absent, read_push before (written_at at word (Some meant.Loop) rest) meant.Loop named absent) refl
given_read line before at word rest Auto h is absent =
    let named = keyword_named word ∙ ap (option_map option_named) is in
    rw (absent, read_push before (written_at at word (Some meant.Auto) rest) meant.Auto named absent) refl
given_read line before at word rest Seek h is absent =
    let named = keyword_named word ∙ ap (option_map option_named) is in
    rw (absent, read_push before (written_at at word (Some meant.Seek) rest) meant.Seek named absent)
    (counted line at word rest meant.Seek (λ count. record (read_of before) { seek = Some count }) h)
given_read line before at word rest Length h is absent =
    let named = keyword_named word ∙ ap (option_map option_named) is in
    rw (absent, read_push before (written_at at word (Some meant.Length) rest) meant.Length named absent)
    (counted line at word rest meant.Length (λ count. record (read_of before) { length = Some count }) h)
given_read line before at word rest (Transition kind) h is absent =
    let named = keyword_named word ∙ ap (option_map option_named) is in
    rw (absent, read_push before (written_at at word (Some meant.Transition) rest) meant.Transition named absent)
    (ap (λ read. read >>= λ r. Ok (with_transition (read_of before) r)) (transition_read line rest at word kind h (keyword_kind word kind is))
    ∙ unless_then _ _ (with_transition (read_of before)))

-- a word is read as the option that it begins, or refused
one_found : (line : Line) (before : List Written) (at : ℕ) (word : List ℕ) (rest : List (List ℕ)) (found : Option Keyword)
    → drop (at + 1) line.words ≡ rest → keyword_of word ≡ found
    → with_word line at (read_of before) found
    ≡ one_step line before (written_at at word (option_map option_named found) rest) (option_map option_named found) (option_len word (option_map option_named found) rest)
unfolding with_keyword
one_found line before at word rest None h is = refl
one_found line before at word rest (Some keyword) h is = elim (cases_Bool (is_some (given (option_named keyword) before))) [
  | inl present ↦ rw (has_given before keyword, present) refl
  | inr absent ↦
      let read : with_word line at (read_of before) (Some keyword) ≡ with_given line at (read_of before) keyword = rw (has_given before keyword, absent) refl in
      read ∙ given_read line before at word rest keyword h is absent
]

-- the words after the first of those that are left
words_after : (words rest : List (List ℕ)) (word : List ℕ) (at : ℕ) → drop at words ≡ word ∷ rest → drop (at + 1) words ≡ rest
words_after words rest word at h = sym (drop-drop 1 at words) ∙ ap (drop 1) h

-- an option is read as it is written
one_read : (line : Line) (before : List Written) (at : ℕ) (word : List ℕ) (rest : List (List ℕ))
    → drop at line.words ≡ word ∷ rest
    → with_option line at (read_of before) ≡ one_step line before (written_at at word (option_of word) rest) (option_of word) (option_len word (option_of word) rest)
unfolding with_option
one_read line before at word rest h =
    ap (λ first. with_word line at (read_of before) (option_and_then keyword_of first)) (word_here line.words (word ∷ rest) at h)
    ∙ one_found line before at word rest (keyword_of word) (words_after line.words rest word at h) refl
    ∙ ap (λ option. one_step line before (written_at at word option rest) option (option_len word option rest)) (sym (keyword_named word))

-- the options that are read from the words that are left, without the first `passed` of them
abbrev pub run : Line → ℕ → ℕ → List (List ℕ) → Given → Result Given Refusal
run line passed at [] options = Ok options
run line (suc passed) at (word ∷ rest) options = run line passed (at + 1) rest options
run line zero at (word ∷ rest) options = with_option line at options >>= λ read. run line read.1 (at + 1) rest read.0

-- reading without the first `passed` words is reading from the word after them
run_passed : (line : Line) (passed at : ℕ) (rest : List (List ℕ)) (options : Given)
    → run line passed at rest options ≡ run line 0 (at + passed) (drop passed rest) options
run_passed line zero at rest options = rw (add-zero at) refl
run_passed line (suc passed) at [] options = refl
run_passed line (suc passed) at (word ∷ rest) options =
    let e : at + suc passed ≡ at + 1 + passed = omega arith in
    rw e (run_passed line passed (at + 1) rest options)

run_step : (line : Line) (at : ℕ) (rest : List (List ℕ)) (one : Given × ℕ) (refusal later : Option Refusal) (all : Given)
    → run line one.1 (at + 1) rest one.0 ≡ unless later all
    → (unless refusal one >>= λ read. run line read.1 (at + 1) rest read.0) ≡ unless (cond (is_some refusal) refusal later) all
run_step line at rest one None later all h = h
run_step line at rest one (Some refusal) later all h = refl

-- options that are read one after another are those that are written, or their first refusal
run_is : (line : Line) (passed at : ℕ) (rest : List (List ℕ)) (before : List Written) → drop at line.words ≡ rest
    → run line passed at rest (read_of before) ≡ unless (options_refusal line.name before (options_after passed at rest)) (read_of (before ++ options_after passed at rest))
run_is line passed at [] before h = ap (λ all. Ok (read_of all)) (sym (append-nil before))
run_is line (suc passed) at (word ∷ rest) before h = run_is line passed (at + 1) rest before (words_after line.words rest word at h)
run_is line zero at (word ∷ rest) before h =
    let option = option_of word in
    let written = written_at at word option rest in
    let len = option_len word option rest in
    let more = options_after len (at + 1) rest in
    ap (λ step. step >>= λ read. run line read.1 (at + 1) rest read.0) (one_read line before at word rest h)
    ∙ run_step line at rest (read_of (before ++ written ∷ []), len) (option_refusal line.name before written option) (options_refusal line.name (before ++ written ∷ []) more)
    (read_of ((before ++ written ∷ []) ++ more)) (run_is line len (at + 1) rest (before ++ written ∷ []) (words_after line.words rest word at h))
    ∙ ap (λ all. unless (options_refusal line.name before (written ∷ more)) (read_of all)) (append_assoc before (written ∷ []) more)

view_unless : (refusal : Option Refusal) (all : List Written) → result_view (unless refusal (read_of all)) ≡ unless_refused refusal (options_of all)
view_unless None all = refl
view_unless (Some refusal) all = refl

-- the options that are read from a position on are those of the line
pub run_options : (line : Line) (at : ℕ) → result_view (run line 0 at (drop at line.words) no_options) ≡ options_at line at
unfolding options_at
run_options line at =
    let all = options_from at (drop at line.words) in
    ap result_view (run_is line 0 at (drop at line.words) [] refl) ∙ view_unless (options_refusal line.name [] all) all

-- one option is read, and then those after its words
abbrev pub then_run : Line → ℕ → Result (Given × ℕ) Refusal → Result Given Refusal
then_run line at step = step >>= λ read. run line 0 (at + 1 + read.1) (drop (at + 1 + read.1) line.words) read.0

run_one : (line : Line) (at : ℕ) (step : Result (Given × ℕ) Refusal)
    → (step >>= λ read. run line read.1 (at + 1) (drop (at + 1) line.words) read.0) ≡ then_run line at step
run_one line at (Ok read) =
    run_passed line read.1 (at + 1) (drop (at + 1) line.words) read.0 ∙ ap (λ rest. run line 0 (at + 1 + read.1) rest read.0) (drop-drop read.1 (at + 1) line.words)
run_one line at (Err refusal) = refl

pub run_at : (line : Line) (at : ℕ) (options : Given) (step : Result (Given × ℕ) Refusal) → at < length line.words → step ≡ with_option line at options
    → run line 0 at (drop at line.words) options ≡ then_run line at step
run_at line at options step inside read =
    let first : drop at line.words ≡ get_or line.words at [] ∷ drop (at + 1) line.words = rw add-one (drop-cons line.words at [] inside) in
    ap (λ rest. run line 0 at rest options) first
    ∙ ap (λ one. one >>= λ more. run line more.1 (at + 1) (drop (at + 1) line.words) more.0) (sym read)
    ∙ run_one line at step

pub run_end : (line : Line) (at : ℕ) (options : Given) → length line.words ≤ at → run line 0 at (drop at line.words) options ≡ Ok options
run_end line at options end = ap (λ rest. run line 0 at rest options) (drop_all at line.words end)
