-- How long writes may wait for a client.
use Rattle.std.specs.Prelude.{◌≡◌, ℕ, ◌+◌, ◌-◌, ◌*◌, ◌≤◌, ◌%◌, ◌⊎◌, nat_lt, if◌then◌else◌}
use Rattle.real_devices.specs.declared.patience.TheConstants.{RESTORED_WAITS, RESTORING_BYTES, WRITE_WAITS}
use Rattle.real_devices.specs.declared.patience.Patience.{Patience}

-- the waits that are left to a client, in units of which RESTORING_BYTES are one wait: each byte that it took since waits were last
-- restored adds RESTORED_WAITS units
abbrev pub credit : Patience → ℕ
credit patience = patience.waits * RESTORING_BYTES + patience.taken * RESTORED_WAITS

-- how many waits a write costs that took `count` of `asked` bytes
abbrev pub spent : ℕ → ℕ → ℕ
spent count asked = if nat_lt count asked then 1 else 0

-- waits are restored for `count` bytes that the client took
pub record Restores (count : ℕ) (before after : Patience) : Type 0 where
  -- a client has WRITE_WAITS at most
  pub most : after.waits ≤ WRITE_WAITS
  -- waits are restored for each whole RESTORING_BYTES, and the remainder is kept
  pub rest : after.taken ≡ (before.taken + count) % RESTORING_BYTES
  -- the credit grows by RESTORED_WAITS units for each byte at most
  pub earned : credit after ≤ credit before + count * RESTORED_WAITS
  -- and by no less, unless the client has all WRITE_WAITS
  pub kept : (credit after ≡ credit before + count * RESTORED_WAITS) ⊎ (after.waits ≡ WRITE_WAITS)

-- a write of which the client took `count` of `asked` bytes: waits are restored, and then one is spent if it did not take all
pub record Counts (count asked : ℕ) (before after : Patience) : Type 0 where
  pub restored : Patience
  pub restores : Restores count before restored
  pub waits : after ≡ record restored { waits = restored.waits - spent count asked }
