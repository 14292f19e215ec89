-- Sets of turns, as the bits of a number: bit t stands for turn t.
use Rattle.std.specs.Prelude.{ℕ, ◌==◌, Bool, List, filter}
use Rattle.std.specs.Int.{bit_at}
use Rattle.scr_cube.specs.ListedTurns.{turn_numbers}

abbrev pub contains_turn : ℕ → ℕ → Bool
contains_turn bits t = bit_at bits t == 1

-- the turns of a set, in order
unfoldable pub turns_in : ℕ → List ℕ
turns_in bits = filter (contains_turn bits) turn_numbers
