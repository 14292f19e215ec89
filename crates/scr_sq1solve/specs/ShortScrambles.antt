-- The short scramble of a Square-1, which is our own choice: of the solutions that its first shape words begin, that of
-- the fewest twists, taken back. How many of these words are looked at is a setting; with one it is the scramble by
-- stages.
use Rattle.std.specs.Prelude.{◌≡◌, ℕ, ◌<◌, ◌≤◌, All, List, ◌∷◌, ◌++◌, take}
use Rattle.scr_combinatorics.specs.Back.{back}
use Rattle.scr_notation.specs.declared.turn.Turn.{Turn}
use Rattle.scr_notation.specs.Turning.{opposite}
use Rattle.scr_sq1.specs.Units.{Sq1State}
use Rattle.scr_sq1solve.specs.Counts.{twists_in}
use Rattle.scr_sq1solve.specs.Totals.{IsTotal}
use Rattle.scr_sq1tables.specs.ShapeWords.{shape_words}

-- The total of one of some words has the fewest twists, and is that of the earliest among equals: each total of a word
-- before it has more twists, and each total of a word behind it no fewer.
pub record IsShortest (s : Sq1State) (words : List (List ℕ)) (total : List Turn) : Type 0 where
  pub before : List (List ℕ)
  pub word : List ℕ
  pub behind : List (List ℕ)
  pub in_order : words ≡ before ++ word ∷ behind
  pub is : IsTotal s word total
  pub more_before : All (λ v. (other : List Turn) → IsTotal s v other → twists_in total < twists_in other) before
  pub no_fewer_behind : All (λ v. (other : List Turn) → IsTotal s v other → twists_in total ≤ twists_in other) behind

-- The short scramble: the shortest total of the first so many shape words of a state, or of all where there are fewer,
-- taken back.
pub record IsShortScramble (short : ℕ) (s : Sq1State) (turns : List Turn) : Type 0 where
  pub total : List Turn
  pub shortest : IsShortest s (take short (shape_words s)) total
  pub taken_back : turns ≡ back opposite total
