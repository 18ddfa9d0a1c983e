-- When a listening socket has failed.
use Rattle.std.specs.Prelude.{◌≡◌, ℤ, pos, ◌⊎◌, Option, Some, None}

-- Linux's error numbers of `accept` that do not pass: bad descriptor (9), bad address (14), invalid argument or a socket that does not
-- listen (22), and not a socket (88)
abbrev pub IsLasting : ℤ → Type 0
IsLasting code = (code ≡ pos 9) ⊎ (code ≡ pos 14) ⊎ (code ≡ pos 22) ⊎ (code ≡ pos 88)

-- an error without a number of the system passes; one with a number does not pass if it is one of those
abbrev pub HasFailed : Option ℤ → Type 0
HasFailed None = ⊥
HasFailed (Some code) = IsLasting code
