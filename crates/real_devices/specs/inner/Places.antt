-- Which silent client gives up its place if another client needs one.
use Rattle.std.specs.Prelude.{◌≡◌, ◌<◌, ℕ, ◌⊎◌}
use Rattle.real_devices.specs.declared.place.TheConstants.{FREE}
use Rattle.real_devices.specs.declared.place.Silent.{Silent}

-- a silent client keeps its place because of another one: that is free, or the client there has sent no command for longer, or for as long
-- at a lower index
abbrev pub StaysFor : Silent → ℕ → ℕ → Type 0
StaysFor silent other state =
    (state ≡ FREE) ⊎ (state < silent.since) ⊎ ((state ≡ silent.since) × (other < silent.at))
