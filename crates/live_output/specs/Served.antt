-- What all readers of an output got.
use Rattle.std.specs.Prelude.{◌≡◌, ◌∷◌, ◌++◌, [], ℕ, Option, List, All, length}
use Rattle.rtrb.specs.Ring.{received}
use Rattle.live_output.specs.declared.output.LiveOutput.{LiveOutput}
use Rattle.live_output.specs.declared.reader.Reader.{Reader}
use Rattle.live_output.specs.Got.{HasGot}

-- each reader got whole frames of those that came, and a prefix of one more
abbrev pub AreServed : {W : Type 0} → (W → Option (List ℕ)) → LiveOutput W → Type 0
AreServed contents output = All (HasGot contents (received output.window.inbox)) output.readers.items

-- a reader is added, which gets frames from the next one to come on
pub record Comes {W : Type 0} (to : W) (before after : LiveOutput W) : Type 0 where
  pub reader : Reader W
  pub came : (reader.came.value ≡ to) × (reader.to ≡ to)
  pub first : reader.first ≡ length (received before.window.inbox)
  pub added : after.readers.items ≡ before.readers.items ++ reader ∷ []
