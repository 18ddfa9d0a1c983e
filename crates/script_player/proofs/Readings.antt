-- An input that is read piece by piece.
use Rattle.std.proofs.Common.{◌≡◌, ℕ, ◌+◌, ◌≤◌, List, ◌++◌, length, sym, ◌∙◌, subst, arith, length-append}
use Rattle.std.specs.Prelude.{Result, Ok, Err}
use Rattle.std.specs.Result.{IsErrAnd}
use Rattle.std.specs.Global.{Vec}
use Rattle.play_outside.specs.Source.{Consumes}
use Rattle.play_outside.specs.SourceState.{SourceState}
use Rattle.play_outside.proofs.Reading.{Consumes-then}
use Rattle.server_setup.specs.declared.fault.RunFault.{RunFault}
use Rattle.server_setup.specs.declared.fault.RunFault.TheVariants as faults
use Rattle.script_player.specs.Reading.{ReadsInput}

-- one byte too many was read
pub read_too_long : (most : ℕ) (held piece : List ℕ) (before now after : SourceState) → Consumes held before now → Consumes piece now after
    → length held + length piece ≡ most + 1 → ReadsInput most (Err faults.InputTooLong) before after
read_too_long most held piece before now after consumed more many =
    let both = Consumes-then held piece before now after consumed more in
    record { bytes = held ++ piece; gives = both.gives; ends = (length-append held piece ∙ many, both.faults) }

-- there is no memory for what was read
pub read_no_memory : (most : ℕ) (result : Result (Vec ℕ) RunFault) (held piece : List ℕ) (before now after : SourceState) → Consumes held before now → Consumes piece now after
    → length held + length piece ≤ most → IsErrAnd result (λ fault. fault ≡ faults.OutOfMemory) → ReadsInput most result before after
read_no_memory most (Ok all) held piece before now after consumed more few is = absurd is
read_no_memory most (Err fault) held piece before now after consumed more few is =
    let both = Consumes-then held piece before now after consumed more in
    subst (λ f. ReadsInput most (Err f) before after) (sym is)
    (record { bytes = held ++ piece; gives = both.gives; ends = (let size = length-append held piece in omega (arith, size, few), both.faults) })
