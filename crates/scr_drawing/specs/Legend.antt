-- What marks of drawings mean, for paper without colours. The words are our own choice.
use Rattle.std.specs.Prelude.{ℕ, List, [], codes}
use Rattle.scr_notation.specs.declared.event.Event.{Event}
use Rattle.scr_notation.specs.declared.event.Puzzle.{Puzzle}
use Rattle.scr_notation.specs.declared.event.Puzzle.TheVariants as puzzle
use Rattle.scr_notation.specs.Event.{puzzle_of}

-- none is said where greys and a dot tell colours apart
unfoldable pub legend_as : Puzzle → List ℕ
legend_as puzzle.Cube222 = []
legend_as puzzle.Cube333 = []
legend_as puzzle.Held333 = []
legend_as puzzle.Fewest333 = []
legend_as puzzle.Cube555 = []
legend_as puzzle.Cube666 = []
legend_as puzzle.Cube777 = []
legend_as puzzle.Clock = []
legend_as puzzle.Megaminx =
    codes "In black and white, marks tell the colours: a black + is green, - lime, | yellow, / pink, \\ orange, x grey and a square cream; a white + is purple, - red and | blue. White and light blue have none; light blue is darker."
legend_as puzzle.Pyraminx = []
legend_as puzzle.Skewb = []
legend_as puzzle.Square1 = []

-- those of an event's drawings are those of its puzzle's
abbrev pub legend_of : Event → List ℕ
legend_of event = legend_as (puzzle_of event)
