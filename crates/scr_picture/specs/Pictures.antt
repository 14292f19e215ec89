-- What the picture of a scrambled puzzle is, as the text of its letters (their order is our own choice).
use Rattle.std.specs.Prelude.{ℕ, ◌-◌, ◌%◌, ◌++◌, if◌then◌else◌, List, [], ◌∷◌, codes, flat_map, slice_index, Option}
use Rattle.std.specs.List.{range_with_len}
use Rattle.std.specs.Option.{option_map}
use Rattle.scr_combinatorics.specs.Play.{play}
use Rattle.scr_notation.specs.declared.event.Event.{Event}
use Rattle.scr_notation.specs.declared.event.Puzzle.{Puzzle}
use Rattle.scr_notation.specs.declared.event.Puzzle.TheVariants as puzzle
use Rattle.scr_notation.specs.Event.{puzzle_of}
use Rattle.scr_notation.specs.declared.turn.Turn.{Turn}
use Rattle.scr_net.specs.Nets.{Letters, cell, net_after, solved_net}
use Rattle.scr_sq1.specs.Units.{Sq1State, solved_sq1, sq1_after}
use Rattle.scr_clock.specs.Dials.{solved}
use Rattle.scr_clock.specs.Held.{clock_after}
use Rattle.scr_picture.specs.declared.names.Alphabet.TheVariants.{Cube, Pyraminx, Megaminx, Hours, Units}
use Rattle.scr_picture.specs.Names.{name_in, joined_text, spaced_text}
use Rattle.scr_picture.specs.Stickers.{stickers_after}
use Rattle.scr_picture.specs.Pyraminx.{pyram_moves, solved_pyram_picture}
use Rattle.scr_picture.specs.Skewb.{skewb_moves, solved_skewb_picture}
use Rattle.scr_picture.specs.Megaminx.{minx_moves, solved_minx}

-- The letters of a row of a net, of a face, row by row, and of all faces, in the order U R F D L B.
abbrev pub row_letters : ℕ → Letters → ℕ → ℕ → List ℕ
row_letters side net face row = flat_map (λ column. name_in Cube (cell net face row column)) (range_with_len 0 side)

abbrev pub face_letters : ℕ → Letters → ℕ → List ℕ
face_letters side net face = flat_map (row_letters side net face) (range_with_len 0 side)

abbrev pub net_letters : ℕ → Letters → List ℕ
net_letters side net = flat_map (face_letters side net) (range_with_len 0 6)

-- The units of a Square-1, and `/` where its equator stands turned, else `-`.
unfoldable pub sq1_letters : Sq1State → List ℕ
sq1_letters s = joined_text Units s.units ++ (if s.equator then codes "/" else codes "-")

-- The hours that the nine dials of each side show as they are seen from there, row by row. At each corner the back
-- shows the opposite of what the front shows at the same pin, with left and right exchanged.
unfoldable pub clock_hours : List ℕ → List ℕ
clock_hours dials =
    let d : ℕ → ℕ = slice_index dials in
    let opposite : ℕ → ℕ = λ hour. (12 - hour) % 12 in
    d 0 ∷ d 1 ∷ d 2 ∷ d 3 ∷ d 4 ∷ d 5 ∷ d 6 ∷ d 7 ∷ d 8
    ∷ opposite (d 2) ∷ d 9 ∷ opposite (d 0) ∷ d 10 ∷ d 11 ∷ d 12 ∷ opposite (d 8) ∷ d 13 ∷ opposite (d 6) ∷ []

-- ---- what turns make of the solved puzzles

abbrev pub net_picture : ℕ → List Turn → Option (List ℕ)
net_picture side turns = option_map (net_letters side) (play (net_after side) (solved_net side) turns)

abbrev pub pyram_picture : List Turn → Option (List ℕ)
pyram_picture turns =
    option_map (joined_text Pyraminx) (play (stickers_after pyram_moves) solved_pyram_picture turns)

abbrev pub skewb_picture : List Turn → Option (List ℕ)
skewb_picture turns = option_map (joined_text Cube) (play (stickers_after skewb_moves) solved_skewb_picture turns)

abbrev pub minx_picture : List Turn → Option (List ℕ)
minx_picture turns = option_map (spaced_text Megaminx) (play (stickers_after minx_moves) solved_minx turns)

abbrev pub clock_picture : List Turn → Option (List ℕ)
clock_picture turns = option_map (λ dials. spaced_text Hours (clock_hours dials)) (clock_after solved turns)

abbrev pub sq1_picture : List Turn → Option (List ℕ)
sq1_picture turns = option_map sq1_letters (play sq1_after solved_sq1 turns)

-- The picture of a puzzle after these turns, and of that of an event.
abbrev pub picture : Puzzle → List Turn → Option (List ℕ)
picture puzzle.Cube222 turns = net_picture 2 turns
picture puzzle.Cube333 turns = net_picture 3 turns
picture puzzle.Held333 turns = net_picture 3 turns
picture puzzle.Fewest333 turns = net_picture 3 turns
picture puzzle.Cube555 turns = net_picture 5 turns
picture puzzle.Cube666 turns = net_picture 6 turns
picture puzzle.Cube777 turns = net_picture 7 turns
picture puzzle.Clock turns = clock_picture turns
picture puzzle.Megaminx turns = minx_picture turns
picture puzzle.Pyraminx turns = pyram_picture turns
picture puzzle.Skewb turns = skewb_picture turns
picture puzzle.Square1 turns = sq1_picture turns

abbrev pub picture_of : Event → List Turn → Option (List ℕ)
picture_of event = picture (puzzle_of event)
