-- Which frames the window of an output holds.
use Rattle.std.specs.Prelude.{◌≤◌, ◌<◌, ◌+◌, ◌⊎◌, ℕ, All, Any, length}
use Rattle.rtrb.specs.Ring.{received}
use Rattle.live_output.specs.declared.output.LiveOutput.{LiveOutput}

module _ {W : Type 0} where
  -- for each frame in the window, by its number among all that came, some reader has not begun it; without readers the window is empty
  abbrev pub HoldsWanted : LiveOutput W → Type 0
  HoldsWanted output =
      (number : ℕ) → output.window.gone ≤ number → number < output.window.gone + length output.window.frames.items
      → Any (λ reader. reader.next ≤ number) output.readers.items

  -- each frame that is no longer in the window has been begun or skipped by every reader, unless at least `waiting` frames came after it
  abbrev pub KeepsWanted : LiveOutput W → Type 0
  KeepsWanted output =
      (output.window.gone + output.window.waiting ≤ length (received output.window.inbox))
      ⊎ All (λ reader. output.window.gone ≤ reader.next) output.readers.items
