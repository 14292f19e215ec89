-- How many twists a word has, and what they make of the equator.
use Rattle.std.specs.Prelude.{ℕ, zero, suc, ◌≤◌, Bool, not, List, length}
use Rattle.scr_combinatorics.specs.Play.{count_in}
use Rattle.scr_notation.specs.declared.turn.Turn.{Turn}
use Rattle.scr_notation.specs.declared.turn.Turn.TheVariants.{Twist}

abbrev pub twists_of : Turn → ℕ
twists_of Twist = 1
twists_of _ = 0

abbrev pub twists_in : List Turn → ℕ
twists_in word = count_in twists_of word

-- so many turns, and so many twists
pub record Cost : Type 0 where
  pub turns : ℕ
  pub twists : ℕ

-- A word has at most so many turns, and at most so many twists.
pub record Costs (w : List Turn) (most_turns most_twists : ℕ) : Type 0 where
  pub turns : length w ≤ most_turns
  pub twists : twists_in w ≤ most_twists

-- the equator, turned over so many times
unfoldable pub turned_over : ℕ → Bool → Bool
turned_over zero equator = equator
turned_over (suc times) equator = not (turned_over times equator)

-- at most 76 twists and 153 turns
pub record IsWithinBounds (w : List Turn) : Type 0 where
  pub twists : twists_in w ≤ 76
  pub turns : length w ≤ 153
