-- The ranges of the numbers that a run is made with.
use Rattle.std.specs.Prelude.{◌≤◌, ℕ}
use Rattle.scr_slots.specs.declared.settings.Settings.{Settings}

-- so many ways to the square shape may be tried
abbrev pub IsShort : ℕ → Type 0
IsShort short = (1 ≤ short) × (short ≤ 1000)

-- the attempts and the effort are in their ranges
abbrev pub AreInRange : Settings → Type 0
AreInRange settings = (settings.attempts ≤ 1000000) × IsShort settings.effort.short
