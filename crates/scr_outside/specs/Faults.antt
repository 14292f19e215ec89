-- Counts of faults, and of ends that were told. A count never falls and is at most 2 ^ 64 - 1, where it stays.
use Rattle.std.specs.Prelude.{ℕ, zero, suc, ◌≡◌, ◌<◌, ◌+◌, ◌-◌, ◌^◌, ◌⊎◌, min}

-- the greatest count
abbrev pub last_count : ℕ
last_count = 2 ^ 64 - 1

-- the count rose: it is greater than before, or stands at its last value
abbrev pub Rose : ℕ → ℕ → Type 0
Rose before after = (before < after) ⊎ (after ≡ last_count)

-- a count one higher, which stays at the last value
abbrev pub raised : ℕ → ℕ
raised count = min (count + 1) last_count

-- how often a source told its end, after a read that gave so many bytes: none mean the end
abbrev pub ends_told : ℕ → ℕ → ℕ
ends_told zero ends = raised ends
ends_told (suc n) ends = ends
