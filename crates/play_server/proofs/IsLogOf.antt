-- The path of a log, and two paths of one file.
use Rattle.std.proofs.Common.{◌≡◌, ◌≢◌, ◌||◌, List, ◌++◌, ℕ, Bool, Bor, false, true, true≢false, sym, ap, ap₂, ◌∙◌}
use Rattle.std.specs.Prelude.{Option, codes, option_map}
use Rattle.std.specs.Str.{bytes_eq}
use Rattle.std.proofs.lemmas.Bool.Decides.{same_from_decides}
use Rattle.std.proofs.lemmas.List.{append_cancel_right}
use Rattle.std.proofs.lemmas.Slice.Eq.{bytes_eq-Decides}
use Rattle.clap.specs.Walk.{Row}
use Rattle.clap.specs.Words.{first_of, first_value, found_of, rows_of}
use Rattle.clap.specs.declared.parser.matches.ArgMatches.{ArgMatches}
use Rattle.clap.proofs.WalkLemmas.{first_value-rows}
use Rattle.play_server.specs.ServerWords.{is_one_file, names_twice}

-- a path with the ending is another path with it if both are the same before it
pub with_ending : (path front journal ending : List ℕ) → path ≡ front ++ ending → bytes_eq front journal ≡ bytes_eq path (journal ++ ending)
with_ending path front journal ending cut =
    same_from_decides (bytes_eq front journal) (bytes_eq path (journal ++ ending)) (bytes_eq-Decides front journal) (
      λ equal. append_cancel_right front journal ending (sym cut ∙ (bytes_eq-Decides path (journal ++ ending)).0 equal),
      λ same. (bytes_eq-Decides path (journal ++ ending)).1 (cut ∙ ap (λ (begin : List ℕ). begin ++ ending) same),
    )

-- a path without the ending is none with it
pub without_ending : (path journal ending : List ℕ) → ((front : List ℕ) → path ≢ front ++ ending) → false ≡ bytes_eq path (journal ++ ending)
without_ending path journal ending other =
    sym (no (bytes_eq path (journal ++ ending)) (λ equal. other journal ((bytes_eq-Decides path (journal ++ ending)).0 equal)))
  where
    no : (b : Bool) → (b ≡ true → ⊥) → b ≡ false
    no true refuted = absurd (refuted cc)
    no false refuted = cc

-- whether two paths are one file, by what the arguments have
pub by_values : (rows : List Row) (resume journal : Option (List ℕ)) → first_of (codes "resume") rows ≡ resume → first_of (codes "journal") rows ≡ journal
    → is_one_file resume journal ≡ names_twice rows
by_values rows resume journal resume_is journal_is = sym (ap₂ is_one_file resume_is journal_is)

-- the value of an option, as the arguments have it
pub value_in : (m : ArgMatches) (id : List ℕ) (text : Option (Bor (List ℕ))) (value : Option (List ℕ)) → option_map (λ s. s.now) text ≡ first_value (found_of m) id
    → option_map (λ s. s.now) text ≡ value → first_of id (rows_of (found_of m)) ≡ value
value_in m id text value got is = sym (first_value-rows (found_of m) id) ∙ sym got ∙ is

-- the first test holds, or the second decides
pub tested_first : (first second result : Bool) → result ≡ first → result ≡ true → result ≡ (first || second)
tested_first true second result is holds = is
tested_first false second result is holds = absurd (true≢false (sym holds ∙ is))

pub tested_second : (first second result : Bool) → first ≡ false → result ≡ second → result ≡ (first || second)
tested_second true second result fails is = absurd (true≢false fails)
tested_second false second result fails is = is
