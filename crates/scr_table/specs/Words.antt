-- The words of a coordinate's turns that lead from a position to a goal, in the order of words. No puzzle stands here.
use Rattle.std.specs.Prelude.{ℕ, Bool, false, List, ◌++◌, map, filter}
use Rattle.std.specs.Option.{option_map_or}
use Rattle.scr_combinatorics.specs.Lists.{numbers_from}
use Rattle.scr_combinatorics.specs.Play.{play}
use Rattle.scr_combinatorics.specs.Words.{words_of, words_within}
use Rattle.scr_positions.specs.Coordinates.{Coordinate, moved}

-- the word leads from a position to a goal
unfoldable pub leads_to_goal : Coordinate → ℕ → List ℕ → Bool
leads_to_goal c position word = option_map_or c.is_goal (play (moved c) position word) false

-- The words of at most so many turns that lead from a position to a goal, in the order of words. One that meets a goal
-- on its way is one too.
unfoldable pub words_to_goal : Coordinate → ℕ → ℕ → List (List ℕ)
words_to_goal c position most = filter (leads_to_goal c position) (words_within (numbers_from 0 c.turns) most)

-- The words that go on from one by just so many turns, where these lead from a position to a goal.
unfoldable pub goal_words_behind : Coordinate → ℕ → List ℕ → ℕ → List (List ℕ)
goal_words_behind c position word more =
    map (λ v. word ++ v) (filter (leads_to_goal c position) (words_of (numbers_from 0 c.turns) more))
