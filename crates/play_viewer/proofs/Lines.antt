-- What comes of a command line.
use Rattle.std.proofs.Common.{◌≡◌, ◌≤◌, ℕ, false, List, [], max, min, refl, sym, ap, ◌∙◌, subst, arith}
use Rattle.std.specs.Prelude.{Option, Some, None, Result, Ok, Err, IfOk, IsErrOf, codes}
use Rattle.std.specs.Option.{option_map_or}
use Rattle.clap.specs.Words.{fault_of, first_of, matches_of}
use Rattle.clap.specs.Walk.{Row, byte_or_zero}
use Rattle.play_viewer.specs.ViewerWords.{Accepts, Names, ReadsWords, has_too_many, playview_app}
use Rattle.play_viewer.specs.declared.words.ViewerWords.{ViewerWords}
use Rattle.play_viewer.specs.declared.words.ViewerWordsFault.{ViewerWordsFault}
use Rattle.play_viewer.specs.declared.words.ViewerWordsFault.TheVariants.{Usage, OutOfMemory}

-- the values of a command line that was accepted were read
named_lines : (line : List (List ℕ)) (result : Result ViewerWords ViewerWordsFault) → fault_of playview_app line ≡ [] → has_too_many (matches_of playview_app line) ≡ false
    → IfOk result (Names (matches_of playview_app line)) → (IsErrOf result Usage → ⊥) → ReadsWords line result
named_lines line (Ok words) accepted few names memory = record { accepted = accepted; few = few; names = names }
named_lines line (Err Usage) accepted few names memory = absurd (memory refl)
named_lines line (Err OutOfMemory) accepted few names memory = tt

pub named_line : (words line : List (List ℕ)) (rows : List Row) (result : Result ViewerWords ViewerWordsFault) → words ≡ line → rows ≡ matches_of playview_app words
    → fault_of playview_app words ≡ [] → has_too_many rows ≡ false → IfOk result (Names rows) → (IsErrOf result Usage → ⊥) → ReadsWords line result
named_line words line rows result same found accepted few names memory =
    let all = found ∙ ap (matches_of playview_app) same in
    named_lines line result (ap (fault_of playview_app) (sym same) ∙ accepted) (ap has_too_many (sym all) ∙ few)
    (subst (λ (r : List Row). IfOk result (Names r)) all names) memory

-- the number of workers is from 1 to 64
within : (given : Option (List ℕ)) → (1 ≤ option_map_or (λ text. max 1 (min (byte_or_zero text) 64)) given 1) × (option_map_or (λ text. max 1 (min (byte_or_zero text) 64)) given 1 ≤ 64)
within None = (omega arith, omega arith)
within (Some text) = (omega arith, omega arith)

pub workers_within : (line : List (List ℕ)) (words : ViewerWords) → Accepts line words → (1 ≤ words.workers) × (words.workers ≤ 64)
workers_within line words accepts =
    subst (λ (n : ℕ). (1 ≤ n) × (n ≤ 64)) (sym accepts.names.workers) (within (first_of (codes "workers") (matches_of playview_app line)))
