-- How a puzzle is held when its scramble begins (WCA Regulations, article 4d), in lines of at most 72 letters.
use Rattle.std.specs.Prelude.{ℕ, List, ◌++◌, codes}
use Rattle.scr_notation.specs.declared.event.Event.{Event}
use Rattle.scr_notation.specs.declared.event.Puzzle.{Puzzle}
use Rattle.scr_notation.specs.declared.event.Puzzle.TheVariants as puzzle
use Rattle.scr_notation.specs.Event.{puzzle_of}

abbrev pub held_cube : List ℕ
held_cube = codes "Hold the solved cube with white up and green in front."

-- the text, with a line feed between two lines
unfoldable pub held_as : Puzzle → List ℕ
held_as puzzle.Cube222 = held_cube
held_as puzzle.Cube333 = held_cube
held_as puzzle.Held333 =
    held_cube ++ codes " Do the words\nwith w at the end too, and then don't turn the cube back: put it down,\nor hand it over, as it lies in the hand."
held_as puzzle.Fewest333 =
    held_cube ++ codes " Where R' U' F\nmeets the rest, two turns of one face may stand side by side, and undo\neach other: do both."
held_as puzzle.Cube555 = held_cube
held_as puzzle.Cube666 = held_cube
held_as puzzle.Cube777 = held_cube
held_as puzzle.Clock =
    codes "Hold the clock with 12 o'clock up, either side in front. At y2 turn it\nround as a door is, 12 o'clock still up. Leave the pins as they come to\nstand."
held_as puzzle.Megaminx = codes "Hold the solved Megaminx with white up and green in front."
held_as puzzle.Pyraminx = codes "Hold the solved Pyraminx with yellow down and green in front."
held_as puzzle.Skewb = codes "Hold the solved Skewb with white up and green in front."
held_as puzzle.Square1 =
    codes "Hold the solved Square-1 with the cut at the front a little to the left\nof the middle. Two sides can face you so: take the darker one."

-- that of an event is what its puzzle asks for
abbrev pub held_of : Event → List ℕ
held_of event = held_as (puzzle_of event)
