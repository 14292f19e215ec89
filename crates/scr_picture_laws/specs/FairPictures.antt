-- What is promised of each event in pictures.
use Rattle.std.specs.Prelude.{ℕ, List}
use Rattle.scr_notation.specs.declared.event.Event.{Event}
use Rattle.scr_notation.specs.declared.event.Puzzle.{Puzzle}
use Rattle.scr_notation.specs.declared.event.Puzzle.TheVariants as puzzle
use Rattle.scr_notation.specs.Event.{puzzle_of}
use Rattle.scr_notation.specs.declared.turn.Turn.{Turn}
use Rattle.scr_net.specs.Nets.{Letters}
use Rattle.scr_notation.specs.Written.{at_most}
use Rattle.scr_combinatorics.specs.Play.{play}
use Rattle.scr_clock.specs.Dials.{solved, clock_puzzle}
use Rattle.scr_clock.specs.Held.{clock_after}
use Rattle.scr_sq1.specs.Units.{Sq1State, solved_sq1, sq1_after, sq1_puzzle}
use Rattle.scr_sq1solve.specs.Counts.{IsWithinBounds}
use Rattle.scr_slots.specs.declared.settings.Settings.{Settings}
use Rattle.scr_slots.specs.Promised.{States, drawn_puzzle}
use Rattle.scr_sheet.specs.Headline.{AreFairScrambles}
use Rattle.scr_picture_laws.specs.Pictured.{pictures_222, pictures_333, pictures_fewest, pictures_held, pictures_pyram, pictures_skewb}

-- The slots on streams one after another are drawn fairly, in pictures: by some numbers of them, every picture that
-- turns reach and that needs so many is drawn by equally many lists of numbers, and no other by any; and these turns
-- give the pictures that the slots' numbers draw. The pictures of a Clock and of a Square-1 are their dials and units.
-- Of random moves nothing is said.
abbrev pub AreFairPicturesOf : Puzzle → Settings → ℕ → ℕ → List (List Turn) → Type 0
AreFairPicturesOf puzzle.Cube222 = AreFairScrambles (States Letters pictures_222)
AreFairPicturesOf puzzle.Cube333 = AreFairScrambles (States Letters pictures_333)
AreFairPicturesOf puzzle.Held333 = AreFairScrambles (States Letters pictures_held)
AreFairPicturesOf puzzle.Fewest333 = AreFairScrambles (States Letters pictures_fewest)
AreFairPicturesOf puzzle.Cube555 = λ settings least stream scrambles. Unit {0}
AreFairPicturesOf puzzle.Cube666 = λ settings least stream scrambles. Unit {0}
AreFairPicturesOf puzzle.Cube777 = λ settings least stream scrambles. Unit {0}
AreFairPicturesOf puzzle.Clock = AreFairScrambles (States (List ℕ) (drawn_puzzle clock_puzzle (clock_after solved) (at_most 15)))
AreFairPicturesOf puzzle.Megaminx = λ settings least stream scrambles. Unit {0}
AreFairPicturesOf puzzle.Pyraminx = AreFairScrambles (States (List ℕ) pictures_pyram)
AreFairPicturesOf puzzle.Skewb = AreFairScrambles (States (List ℕ) pictures_skewb)
AreFairPicturesOf puzzle.Square1 = AreFairScrambles (States Sq1State (drawn_puzzle sq1_puzzle (play sq1_after solved_sq1) IsWithinBounds))

abbrev pub AreFairPictures : Event → Settings → ℕ → ℕ → List (List Turn) → Type 0
AreFairPictures event = AreFairPicturesOf (puzzle_of event)
