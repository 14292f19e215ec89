-- Words and states that are known from elsewhere.
use Rattle.std.specs.Prelude.{ℕ, List, [], ◌∷◌, codes, map, replicate, slice_index, Option}
use Rattle.std.specs.Option.{option_map}
use Rattle.scr_combinatorics.specs.Lists.{numbers_from}
use Rattle.scr_combinatorics.specs.Play.{play}
use Rattle.scr_orbit.specs.Orbits.{solved_orbit}
use Rattle.scr_orbit.specs.PowerPuzzles.{word_at}
use Rattle.scr_notation.specs.declared.turn.Turn.{Turn}
use Rattle.scr_cube.specs.Cube333.{CubeState, cube_powers}
use Rattle.scr_cube.specs.Held.{held_cube_after, solved_held}

-- Words of turns by their numbers, and how often each is done to move nothing: R U, R U' and R U R' U'.
abbrev pub known_orders : List (List ℕ × ℕ)
known_orders = (3 ∷ 0 ∷ [], 105) ∷ (3 ∷ 2 ∷ [], 63) ∷ (3 ∷ 0 ∷ 5 ∷ 2 ∷ [], 6) ∷ []

-- The superflip: each piece at home, and each edge flipped.
unfoldable pub superflip : CubeState
superflip = record { corners = solved_orbit 8; edges = record { pieces = numbers_from 0 12; digits = replicate 12 1 } }

-- A known word for it, of 20 turns: U R2 F B R B2 R U2 L B2 R U' D' R2 F R' L B2 U2 F2
abbrev pub superflip_word : List Turn
superflip_word =
    word_at cube_powers (0 ∷ 4 ∷ 6 ∷ 15 ∷ 3 ∷ 16 ∷ 3 ∷ 1 ∷ 12 ∷ 16 ∷ 3 ∷ 2 ∷ 11 ∷ 4 ∷ 6 ∷ 5 ∷ 12 ∷ 16 ∷ 1 ∷ 7 ∷ [])

-- The colours of the centres of a cube that is held with white up and green in front, by the places U R F D L B: white,
-- red, green, yellow, orange, blue (WCA Regulations, article 4: so a cube is held to be scrambled).
abbrev pub colours : List ℕ
colours = codes "WRGYOB"

-- The colours of the centres that stand there after a word.
abbrev pub colours_after : List Turn → Option (List ℕ)
colours_after word = option_map (λ s. map (slice_index colours) s.centres) (play held_cube_after solved_held word)
