-- The letters of the first stage by parts: the top turned alone, the bottom turned alone, and a twist.
use Rattle.std.specs.Prelude.{ℕ, ◌-◌, nat_lt, false, if◌then◌else◌, pos, ◌-ℤ◌, List, [], ◌∷◌}
use Rattle.scr_combinatorics.specs.Stages.{by_letters}
use Rattle.scr_positions.specs.Coordinates.{Coordinate}
use Rattle.scr_positions.specs.Indexes.{indexed_coordinate}
use Rattle.scr_notation.specs.declared.turn.Turn.{Turn}
use Rattle.scr_notation.specs.declared.turn.Turn.TheVariants.{Twist}
use Rattle.scr_sq1.specs.Units.{sq1_after}
use Rattle.scr_sq1tables.specs.Stages.{turn_word}
use Rattle.scr_sq1tables.specs.Tables.{shapes_numbered}

-- part n, for n below 12, turns the top by n - 5; part 12 + n turns the bottom by n - 5; and part 24 twists
unfoldable pub shape_part : ℕ → List Turn
shape_part n =
    if nat_lt n 12 then turn_word (pos n -ℤ pos 5) (pos 0)
    else (if nat_lt n 24 then turn_word (pos 0) (pos (n - 12) -ℤ pos 5) else Twist ∷ [])

-- where they lead from the indexes of the table `shapes`; it has no goals
abbrev pub shape_parts_coordinate : Coordinate
shape_parts_coordinate =
    indexed_coordinate shapes_numbered 25 (by_letters sq1_after 25 shape_part) (λ i. false)
