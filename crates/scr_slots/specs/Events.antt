-- What is scrambled for each event: the one place that says by puzzle what a slot draws, what its scramble is and what
-- is promised of it.
use Rattle.std.specs.Prelude.{ℕ, List, None, if◌then◌else◌}
use Rattle.scr_notation.specs.declared.event.Event.{Event}
use Rattle.scr_notation.specs.declared.event.Event.TheVariants.{C222, C333, C555, C666, C777, Clock, Minx, Pyram, Skewb, Sq1, Bf333, Fm333}
use Rattle.scr_notation.specs.declared.event.Puzzle.{Puzzle}
use Rattle.scr_notation.specs.declared.event.Puzzle.TheVariants as puzzle
use Rattle.scr_notation.specs.Event.{puzzle_of}
use Rattle.scr_notation.specs.Written.{at_most}
use Rattle.scr_notation.specs.declared.turn.Turn.{Turn}
use Rattle.scr_combinatorics.specs.Play.{play}
use Rattle.scr_orbit.specs.Orbits.{Orbit}
use Rattle.scr_orbit.specs.PowerPuzzles.{PowerPuzzle, after_letter, power_puzzle}
use Rattle.scr_cube.specs.Cube222.{numbers_222, powers_222}
use Rattle.scr_cube.specs.Cube333.{CubeState, cube_numbers, cube_powers, solved_cube}
use Rattle.scr_cube.specs.Held.{HeldState, solved_held, held_cube_after, held_puzzle, held_numbers}
use Rattle.scr_twophase.specs.TwoParts.{IsScramble333}
use Rattle.scr_twophase.specs.HeldScramble.{IsScramble333bf}
use Rattle.scr_twophase.specs.Fewest.{is_framed, IsScrambleFewest}
use Rattle.scr_tetra.specs.Pyraminx.{PyramState, pyram_powers, pyram_numbers}
use Rattle.scr_tetra.specs.Skewb.{SkewbState, skewb_numbers, skewb_powers}
use Rattle.scr_small.specs.Puzzles.{IsScramble222, IsScramblePyram, IsScrambleSkewb}
use Rattle.scr_sq1.specs.Units.{Sq1State, solved_sq1, sq1_after, sq1_puzzle}
use Rattle.scr_sq1.specs.Numbers.{sq1_numbers}
use Rattle.scr_sq1solve.specs.ShortScrambles.{IsShortScramble}
use Rattle.scr_sq1solve.specs.Counts.{IsWithinBounds}
use Rattle.scr_clock.specs.Dials.{solved, clock_puzzle}
use Rattle.scr_clock.specs.Numbers.{clock_numbers}
use Rattle.scr_clock.specs.Held.{clock_after}
use Rattle.scr_clock.specs.Written.{IsClockScramble}
use Rattle.scr_bigs.specs.CubeMoves.{cube_moves}
use Rattle.scr_bigs.specs.Megaminx.{megaminx_moves}
use Rattle.scr_bigs.specs.Fairness.{AreFairTurns, AreFairBits}
use Rattle.scr_slots.specs.Promised.{DrawnPuzzle, drawn_puzzle, RandomMoves, Promised, States, Moves}
use Rattle.scr_slots.specs.Slots.{Scrambling, ByState, ByMoves}

-- ---- what is promised

-- a puzzle of pieces, with scrambles of at most so many turns
abbrev pub drawn_by_powers : {S : Type 0} → PowerPuzzle S Turn → ℕ → DrawnPuzzle S
drawn_by_powers p most = drawn_puzzle (power_puzzle p) (play (after_letter p) p.monoid.solved) (at_most most)

-- The 3x3x3 for fewest moves: two frames of three turns more. Turns that don't begin and end with R' U' F are no
-- scramble.
abbrev pub drawn_fewest : DrawnPuzzle CubeState
drawn_fewest =
    drawn_puzzle (power_puzzle cube_powers)
    (λ turns. if is_framed turns then play (after_letter cube_powers) solved_cube turns else None) (at_most 58)

-- a big cube of so many layers: each turn is one of those that may follow the one before
abbrev pub cube_random_moves : ℕ → RandomMoves
cube_random_moves side = record { moves = cube_moves side; AreFair = AreFairTurns side }

-- a Megaminx: the seventy bits of one attempt, whatever the attempts
abbrev pub moves_minx : RandomMoves
moves_minx = record { moves = λ attempts. megaminx_moves; AreFair = AreFairBits }

-- Of what is scrambled: the puzzle whose states are drawn, and of how few turns its scrambles are, or the random moves.
-- A 3x3x3 as it is held has two wide turns more, a Clock fourteen amounts and `y2`, and a Square-1 at most 76 twists,
-- and 153 turns.
unfoldable pub promised_as : Puzzle → Promised
promised_as puzzle.Cube222 = States Orbit (drawn_by_powers powers_222 11)
promised_as puzzle.Cube333 = States CubeState (drawn_by_powers cube_powers 52)
promised_as puzzle.Held333 = States HeldState (drawn_puzzle held_puzzle (play held_cube_after solved_held) (at_most 54))
promised_as puzzle.Fewest333 = States CubeState drawn_fewest
promised_as puzzle.Cube555 = Moves (cube_random_moves 5)
promised_as puzzle.Cube666 = Moves (cube_random_moves 6)
promised_as puzzle.Cube777 = Moves (cube_random_moves 7)
promised_as puzzle.Clock = States (List ℕ) (drawn_puzzle clock_puzzle (clock_after solved) (at_most 15))
promised_as puzzle.Megaminx = Moves moves_minx
promised_as puzzle.Pyraminx = States PyramState (drawn_by_powers pyram_powers 15)
promised_as puzzle.Skewb = States SkewbState (drawn_by_powers skewb_powers 11)
promised_as puzzle.Square1 = States Sq1State (drawn_puzzle sq1_puzzle (play sq1_after solved_sq1) IsWithinBounds)

abbrev pub promised_of : Event → Promised
promised_of event = promised_as (puzzle_of event)

-- ---- how it is scrambled

-- How it is scrambled. The event in a line is the one by whose notation its scrambles are written. Puzzles other than
-- the 3x3x3 and the Square-1 have one scramble, whatever the effort.
unfoldable pub scrambled_as : (what : Puzzle) → Scrambling (promised_as what)
unfolding promised_as
scrambled_as puzzle.Cube222 = ByState C222 numbers_222 (λ effort. IsScramble222)
scrambled_as puzzle.Cube333 = ByState C333 cube_numbers (λ effort. IsScramble333 effort.tries)
scrambled_as puzzle.Held333 = ByState Bf333 held_numbers (λ effort. IsScramble333bf effort.tries)
scrambled_as puzzle.Fewest333 = ByState Fm333 cube_numbers (λ effort. IsScrambleFewest effort.tries)
scrambled_as puzzle.Cube555 = ByMoves C555
scrambled_as puzzle.Cube666 = ByMoves C666
scrambled_as puzzle.Cube777 = ByMoves C777
scrambled_as puzzle.Clock = ByState Clock clock_numbers (λ effort. IsClockScramble)
scrambled_as puzzle.Megaminx = ByMoves Minx
scrambled_as puzzle.Pyraminx = ByState Pyram pyram_numbers (λ effort. IsScramblePyram)
scrambled_as puzzle.Skewb = ByState Skewb skewb_numbers (λ effort. IsScrambleSkewb)
scrambled_as puzzle.Square1 = ByState Sq1 sq1_numbers (λ effort. IsShortScramble effort.short)

abbrev pub scrambling_of : (event : Event) → Scrambling (promised_of event)
scrambling_of event = scrambled_as (puzzle_of event)
