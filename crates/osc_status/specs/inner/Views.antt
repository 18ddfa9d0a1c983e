-- The parts that were found at the front of bytes, as contracts see them.
use Rattle.std.specs.Prelude.{ℕ, ℤ, List}
use Rattle.std.specs.Borrow.{Bor}
use Rattle.std.specs.Str.{chars}
use Rattle.osc_status.specs.declared.arg.OscArg.{OscArg}
use Rattle.osc_status.specs.declared.arg.OscValue.{OscValue}
use Rattle.osc_status.specs.Written.{arg_value}

-- the bytes of a slice
abbrev pub kinds_view : Bor (List ℕ) → List ℕ
kinds_view kinds = kinds.now

-- two slices, by their bytes
abbrev pub bytes_view : (Bor (List ℕ)) × (Bor (List ℕ)) → List ℕ × List ℕ
bytes_view found = (found.0.now, found.1.now)

-- a text, by its characters, and the bytes that follow it
abbrev pub text_view : (Bor (List ℕ)) × (Bor (List ℕ)) → List ℕ × List ℕ
text_view found = (chars found.0.now, found.1.now)

-- a number and the bytes that follow it
abbrev pub number_view : ℤ × (Bor (List ℕ)) → ℤ × List ℕ
number_view found = (found.0, found.1.now)

-- an argument and the bytes that follow it
abbrev pub value_view : OscArg × (Bor (List ℕ)) → OscValue × List ℕ
value_view found = (arg_value found.0, found.1.now)

-- an address, by its characters, and the letters and the bytes of arguments
abbrev pub parts_view : (Bor (List ℕ)) × (Bor (List ℕ)) × (Bor (List ℕ)) → List ℕ × List ℕ × List ℕ
parts_view parts = (chars parts.0.now, parts.1.now, parts.2.now)
