-- Pictures as puzzles: what turns make of them, by moving stickers in space. No piece stands here.
use Rattle.std.specs.Prelude.{◌≡◌, ℕ, ◌<◌, ◌≤◌, List, length, Option, None, if◌then◌else◌}
use Rattle.scr_combinatorics.specs.Play.{play}
use Rattle.scr_combinatorics.specs.Reach.{Puzzle}
use Rattle.scr_notation.specs.declared.event.Event.{Event}
use Rattle.scr_notation.specs.declared.event.Event.TheVariants.{C222, C333, Pyram, Skewb, Bf333}
use Rattle.scr_notation.specs.declared.turn.Turn.{Turn}
use Rattle.scr_notation.specs.Turns.{permits}
use Rattle.scr_net.specs.Nets.{Letters, net_after, quarter_net, solved_net}
use Rattle.scr_twophase.specs.Fewest.{is_framed}
use Rattle.scr_picture.specs.Stickers.{stickers_after}
use Rattle.scr_picture.specs.Pyraminx.{pyram_moves, solved_pyram_picture}
use Rattle.scr_picture.specs.Skewb.{skewb_moves, solved_skewb_picture}
use Rattle.scr_slots.specs.Promised.{DrawnPuzzle, drawn_puzzle}

-- What a turn makes of a picture, where it is a turn of the event; else nothing.
abbrev pub turn_of : {P : Type 0} → Event → (P → Turn → Option P) → P → Turn → Option P
turn_of event after picture turn = if permits event turn then after picture turn else None

-- The pictures of an event as a puzzle. Each turn counts once (WCA Regulations, article 4).
abbrev pub picture_puzzle : {P : Type 0} → Event → (P → Turn → Option P) → (P → Type 0) → Puzzle P
picture_puzzle event after IsSolved =
    record { Turn = Turn; after = turn_of event after; IsSolved = IsSolved; counted = λ t. 1 }

-- The pictures of an event whose states are drawn: its puzzle, what the turns of a scramble make of the solved picture,
-- and of how few turns its scrambles are.
abbrev pub drawn_pictures : {P : Type 0} → Event → (P → Turn → Option P) → P → ℕ → DrawnPuzzle P
drawn_pictures event after solved most =
    drawn_puzzle (picture_puzzle event after (λ picture. picture ≡ solved)) (play (turn_of event after) solved) (λ turns. length turns ≤ most)

abbrev pub pictures_222 : DrawnPuzzle Letters
pictures_222 = drawn_pictures C222 (net_after 2) (solved_net 2) 11

abbrev pub pictures_333 : DrawnPuzzle Letters
pictures_333 = drawn_pictures C333 (net_after 3) (solved_net 3) 52

-- For fewest moves: turns that don't begin and end with R' U' F are no scramble.
abbrev pub pictures_fewest : DrawnPuzzle Letters
pictures_fewest =
    drawn_puzzle pictures_333.puzzle (λ turns. if is_framed turns then pictures_333.played turns else None) (λ turns. length turns ≤ 58)

abbrev pub pictures_pyram : DrawnPuzzle (List ℕ)
pictures_pyram = drawn_pictures Pyram (stickers_after pyram_moves) solved_pyram_picture 15

abbrev pub pictures_skewb : DrawnPuzzle (List ℕ)
pictures_skewb = drawn_pictures Skewb (stickers_after skewb_moves) solved_skewb_picture 11

-- A 3x3x3 that is solved, however it is held (WCA Regulations, article 10): the solved net, and what quarter turns of
-- all three layers about a face, which turn the whole cube, make of it.
pub data IsSolvedAnyWay : Letters → Type 0 where
  as_solved : IsSolvedAnyWay (solved_net 3)
  turned_whole : (face : ℕ) (net : Letters) → face < 6 → IsSolvedAnyWay net → IsSolvedAnyWay (quarter_net 3 face 3 net)

-- and as a scramble with wide turns leaves it
abbrev pub pictures_held : DrawnPuzzle Letters
pictures_held =
    drawn_puzzle (picture_puzzle Bf333 (net_after 3) IsSolvedAnyWay) (play (turn_of Bf333 (net_after 3)) (solved_net 3)) (λ turns. length turns ≤ 54)
