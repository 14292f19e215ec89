-- What is so of whatever is scrambled: it has one answer a slot and one listing of its states, and is drawn fairly where
-- its tables are built.
use Rattle.std.proofs.Common.{ℕ, ◌≤◌, Bool, List}
use Rattle.scr_notation.specs.declared.event.Event.{Event}
use Rattle.scr_notation.specs.declared.event.Event.TheVariants.{C222, C333, C555, C666, C777, Clock, Minx, Pyram, Skewb, Sq1, Bf333, Fm333}
use Rattle.scr_notation.specs.declared.event.Puzzle.{Puzzle}
use Rattle.scr_notation.specs.declared.event.Puzzle.TheVariants as puzzle
use Rattle.scr_notation.specs.Event.{greatest_of}
use Rattle.scr_notation.specs.EventSets.{Has}
use Rattle.scr_notation.specs.declared.turn.Turn.{Turn}
use Rattle.scr_combinatorics.specs.Numbered.{Numbered, numbers_of}
use Rattle.scr_combinatorics.specs.Numbering.{IsNumbering}
use Rattle.scr_clock.specs.Numbers.{clock_numbered}
use Rattle.scr_clock.proofs.Numbering.{clock_numbering}
use Rattle.scr_clock.proofs.AmountLaws.{IsScrambleOf-one}
use Rattle.scr_cube.specs.Cube222.{numbered_222}
use Rattle.scr_cube.specs.Cube333.{cube_numbered}
use Rattle.scr_cube.specs.Held.{held_numbered}
use Rattle.scr_cube.proofs.Numbered222.{numbering_222}
use Rattle.scr_cube.proofs.Numbered333.{cube_numbering}
use Rattle.scr_cube.proofs.NumberedHeld.{held_numbering}
use Rattle.scr_twophase.specs.TwoParts.{two_parts}
use Rattle.scr_twophase.proofs.PartLaws.{IsScrambleBy-unique}
use Rattle.scr_twophase.proofs.HeldScrambles.{IsScramble333bf-unique}
use Rattle.scr_twophase.proofs.FewestLaws.{IsScrambleFewest-unique}
use Rattle.scr_small.specs.Puzzles.{numbered_puzzle_222, numbered_puzzle_skewb}
use Rattle.scr_small.proofs.Lawful222.{lawful_puzzle_222}
use Rattle.scr_small.proofs.LawfulSkewb.{lawful_puzzle_skewb}
use Rattle.scr_small.proofs.PuzzleLaws.{IsScrambleOf-unique}
use Rattle.scr_small.proofs.PyramLaws.{IsScramblePyram-unique}
use Rattle.scr_tetra.specs.Pyraminx.{numbered_pyram}
use Rattle.scr_tetra.specs.Skewb.{skewb_numbered}
use Rattle.scr_tetra.proofs.NumberedPyram.{pyram_numbering}
use Rattle.scr_tetra.proofs.NumberedSkewb.{skewb_numbering}
use Rattle.scr_sq1.specs.Numbers.{sq1_numbered}
use Rattle.scr_sq1.proofs.Numbering.{sq1_numbering}
use Rattle.scr_sq1solve.proofs.ShortestLaws.{IsShortScramble-unique}
use Rattle.scr_slots.specs.declared.settings.Effort.{Effort}
use Rattle.scr_slots.specs.Promised.{DrawnPuzzle, RandomMoves, Promised, States, Moves}
use Rattle.scr_slots.specs.Slots.{Scrambling, ByState, ByMoves, IsDrawnFairly}
use Rattle.scr_slots.specs.Events.{scrambled_as, scrambling_of, promised_as}
use Rattle.scr_slots.specs.Outcomes.{HasOneAnswer, HasOneListing}
use Rattle.scr_slots.proofs.Listings.{HaveOneListing-numbered}
use Rattle.scr_slots.proofs.OneAnswer.{IsOnly, HasOneAnswer-state, HasOneAnswer-moves}

-- ---- one answer and one listing

-- Of how an event is scrambled this is so, whatever tables are built: a slot has one answer, and its states have one
-- listing.
pub record IsLawful {promised : Promised} (scrambling : Scrambling promised) : Type 0 where
  pub one_answer : (least : ℕ) → HasOneAnswer scrambling least
  pub one_listing : HasOneListing scrambling

-- where states are numbered, and each that turns reach has one scramble at most
by_states : {S : Type 0} {drawn : DrawnPuzzle S} (event : Event) (n : Numbered S) (IsScramble : Effort → S → List Turn → Type 0)
    → IsNumbering n → IsOnly drawn.puzzle IsScramble → IsLawful {promised = States S drawn} (ByState event (numbers_of n) IsScramble)
by_states {drawn = drawn} event n IsScramble numbering only = record {
  one_answer = λ least. HasOneAnswer-state event drawn (numbers_of n) IsScramble least numbering.some only;
  one_listing = HaveOneListing-numbered n drawn.puzzle numbering;
}

by_moves : {random : RandomMoves} (event : Event) → IsLawful {promised = Moves random} (ByMoves event)
by_moves {random} event = record { one_answer = HasOneAnswer-moves event random; one_listing = tt }

pub each_lawful : (what : Puzzle) → IsLawful (scrambled_as what)
unfolding promised_as scrambled_as
each_lawful puzzle.Cube222 =
    by_states C222 numbered_222 _ numbering_222 (λ effort state turns other reached. IsScrambleOf-unique numbered_puzzle_222 lawful_puzzle_222 state turns other)
each_lawful puzzle.Cube333 =
    by_states C333 cube_numbered _ cube_numbering
    (λ effort state turns other reached. IsScrambleBy-unique (two_parts state effort.tries) state turns other)
each_lawful puzzle.Held333 =
    by_states Bf333 held_numbered _ held_numbering (λ effort state turns other reached. IsScramble333bf-unique effort.tries state turns other)
each_lawful puzzle.Fewest333 =
    by_states Fm333 cube_numbered _ cube_numbering (λ effort state turns other reached. IsScrambleFewest-unique effort.tries state turns other)
each_lawful puzzle.Cube555 = by_moves C555
each_lawful puzzle.Cube666 = by_moves C666
each_lawful puzzle.Cube777 = by_moves C777
each_lawful puzzle.Clock =
    by_states Clock clock_numbered _ clock_numbering (λ effort state turns other reached. IsScrambleOf-one state turns other)
each_lawful puzzle.Megaminx = by_moves Minx
each_lawful puzzle.Pyraminx =
    by_states Pyram numbered_pyram _ pyram_numbering (λ effort state turns other reached. IsScramblePyram-unique state turns other)
each_lawful puzzle.Skewb =
    by_states Skewb skewb_numbered _ skewb_numbering (λ effort state turns other reached. IsScrambleOf-unique numbered_puzzle_skewb lawful_puzzle_skewb state turns other)
each_lawful puzzle.Square1 =
    by_states Sq1 sq1_numbered _ sq1_numbering (λ effort state turns other reached. IsShortScramble-unique effort.short state turns other)

-- ---- fairness

-- an event of a set is drawn fairly at each minimum up to the greatest
abbrev pub IsFairIn : List Bool → Event → Type 0
IsFairIn set event = Has set event → (least : ℕ) → least ≤ greatest_of event → IsDrawnFairly (scrambling_of event) least
