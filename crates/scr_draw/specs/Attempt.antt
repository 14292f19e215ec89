-- An attempt: three words of a stream read as one number, which is accepted or refused.
use Rattle.std.specs.Prelude.{ℕ, zero, suc, ◌+◌, ◌*◌, ◌/◌, ◌%◌, ◌^◌, nat_lt, Bool, if◌then◌else◌, Option, Some, None, List, [], ◌∷◌}

-- the number below 2 ^ 96 that the three words from a place on spell, low word first
abbrev pub attempt_value : (ℕ → ℕ) → ℕ → ℕ
attempt_value word place = word place + 2 ^ 32 * word (place + 1) + 2 ^ 64 * word (place + 2)

-- how many of the numbers below 2 ^ 96 each of `count` answers can have
abbrev pub quotient : ℕ → ℕ
quotient count = 2 ^ 96 / count

-- a number is accepted where it is in one of the `quotient` whole runs of `count` numbers
abbrev pub is_accepted : ℕ → ℕ → Bool
is_accepted count v = nat_lt v (quotient count * count)

-- the answer of a number: its place in its run of `count` numbers, or none where it is refused
abbrev pub answer : ℕ → ℕ → Option ℕ
answer count v = if is_accepted count v then Some (v % count) else None

-- the numbers of n attempts, one after another, the first of them at a place
unfoldable pub attempt_values : (ℕ → ℕ) → ℕ → ℕ → List ℕ
attempt_values word place zero = []
attempt_values word place (suc n) = attempt_value word place ∷ attempt_values word (place + 3) n
