-- When the fill level of the history's journal is reported.
use Rattle.std.specs.Prelude.{◌≡◌, ℕ, ◌*◌, ◌<◌, ◌≤◌, Option, Some, None}
use Rattle.real_devices.specs.declared.fill.Fill.{Fill}
use Rattle.real_devices.specs.declared.fill.Level.{Level}
use Rattle.real_devices.specs.declared.fill.Level.TheVariants.{Low, NineTenths, Full}

-- the level of a journal that holds `commands` of at most `limit` commands: less than nine tenths, nine tenths or more, full
abbrev pub IsLevel : ℕ → ℕ → Level → Type 0
IsLevel limit commands Low = commands * 10 < limit * 9
IsLevel limit commands NineTenths = (limit * 9 ≤ commands * 10) × (commands < limit)
IsLevel limit commands Full = limit ≤ commands

-- the order of the levels: a fuller one has a greater rank
abbrev pub rank : Level → ℕ
rank Low = 0
rank NineTenths = 1
rank Full = 2

-- the level of `commands` commands is reported exactly if it is fuller than the one that was reported last
pub record Notes (result : Option Level) (commands : ℕ) (before after : Fill) : Type 0 where
  pub level : Level
  pub holds : IsLevel before.limit commands level
  pub said : rank before.said < rank level → (result ≡ Some level) × (after ≡ record before { said = level })
  pub unsaid : rank level ≤ rank before.said → (result ≡ None) × (after ≡ before)
