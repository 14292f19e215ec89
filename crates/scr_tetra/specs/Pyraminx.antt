-- A Pyraminx as its edges, its axial pieces and its tips, its turns (WCA Regulations, article 12), and its number.
--
-- The axes are 0 U, 1 L, 2 R, 3 B: the corners above, at the left, at the right and at the back. An edge stands
-- between two of them; edge places and pieces are numbered 0 UL, 1 UR, 2 UB, 3 LR, 4 LB, 5 RB. Of each edge one sticker
-- is marked: at home those on the faces L, F, R, F, D and R, in this order. Its flip is 0 where that sticker lies where
-- the marked one of its place does when solved. Axial pieces and tips stay at their axes. An axial piece's digit is how
-- many thirds clockwise it stands turned, and a tip's how many it stands turned against the axial piece below it. Without
-- its tips the puzzle is known as the Tetraminx, which stands here by itself, since it is what a search has to solve.
use Rattle.std.specs.Prelude.{ℕ, ◌/◌, List, [], ◌∷◌, ◌++◌, map, replicate, slice_index}
use Rattle.std.specs.List.{zip}
use Rattle.scr_combinatorics.specs.Lists.{numbers_from}
use Rattle.scr_combinatorics.specs.Permutations.{IsEven, permutation_number, half_at}
use Rattle.scr_combinatorics.specs.Twists.{twists_number, twists_at}
use Rattle.scr_combinatorics.specs.Digits.{mixed_number, mixed_digits}
use Rattle.scr_combinatorics.specs.Numbered.{Numbers, numbers_by_digits, Numbered, numbered_by_digits}
use Rattle.scr_orbit.specs.Monoids.{Monoid}
use Rattle.scr_orbit.specs.Orbits.{Orbit, IsZeroSumOrbit, added_digits, turned_orbit, solved_orbit, zeros}
use Rattle.scr_orbit.specs.InPlace.{AreDigitsInPlace}
use Rattle.scr_orbit.specs.PowerPuzzles.{PowerPuzzle}
use Rattle.scr_notation.specs.declared.turn.Turn.{Turn}
use Rattle.scr_notation.specs.AxisLetters.{letters_about_axes}

-- ---- the Tetraminx: edges with their flips, and the digits of the axial pieces

pub record TetraminxState : Type 0 where
  pub edges : Orbit
  pub axials : List ℕ

-- What can be put together without taking the puzzle apart: the edges are an even list, and the flips sum to 0
-- modulo 2.
pub record IsTetraminx (s : TetraminxState) : Type 0 where
  pub edges : IsZeroSumOrbit 6 2 s.edges
  pub even : IsEven s.edges.pieces
  pub axials : AreDigitsInPlace 4 3 s.axials

-- The turns about U, L, R and B by a third: which place's edge comes to each place, and what is added to its flip.
abbrev pub edge_thirds : List Orbit
edge_thirds =
    record { pieces = 1 ∷ 2 ∷ 0 ∷ 3 ∷ 4 ∷ 5 ∷ []; digits = zeros 6 }
    ∷ record { pieces = 4 ∷ 1 ∷ 2 ∷ 0 ∷ 3 ∷ 5 ∷ []; digits = zeros 6 }
    ∷ record { pieces = 0 ∷ 3 ∷ 2 ∷ 5 ∷ 4 ∷ 1 ∷ []; digits = 0 ∷ 1 ∷ 0 ∷ 1 ∷ 0 ∷ 0 ∷ [] }
    ∷ record { pieces = 0 ∷ 1 ∷ 5 ∷ 3 ∷ 2 ∷ 4 ∷ []; digits = 0 ∷ 0 ∷ 1 ∷ 0 ∷ 1 ∷ 0 ∷ [] } ∷ []

-- What a third about each axis adds to pieces that stay at the four axes.
abbrev pub thirds_in_place : List (List ℕ)
thirds_in_place = (1 ∷ 0 ∷ 0 ∷ 0 ∷ []) ∷ (0 ∷ 1 ∷ 0 ∷ 0 ∷ []) ∷ (0 ∷ 0 ∷ 1 ∷ 0 ∷ []) ∷ (0 ∷ 0 ∷ 0 ∷ 1 ∷ []) ∷ []

-- Such a turn moves edges and turns the axial piece of its axis.
abbrev pub tetraminx_thirds : List TetraminxState
tetraminx_thirds = map (λ r. record { edges = r.0; axials = r.1 }) (zip edge_thirds thirds_in_place)

unfoldable pub solved_tetraminx : TetraminxState
solved_tetraminx = record { edges = solved_orbit 6; axials = zeros 4 }

-- Turns move the edges and turn the axial pieces at once.
abbrev pub tetraminx_monoid : Monoid TetraminxState
tetraminx_monoid = record {
  turned = λ s r. record { edges = turned_orbit 2 s.edges r.edges; axials = added_digits 3 s.axials r.axials };
  solved = solved_tetraminx;
}

-- The Tetraminx as data. Its 8 turns are U U' L L' R R' B B', in the order of their numbers.
abbrev pub tetraminx_powers : PowerPuzzle TetraminxState Turn
tetraminx_powers = record { letters = letters_about_axes; monoid = tetraminx_monoid; generators = tetraminx_thirds }

-- Digits of pieces that stay at the four axes, as an orbit.
abbrev pub at_axes : List ℕ → Orbit
at_axes digits = record { pieces = numbers_from 0 4; digits = digits }

-- ---- the Pyraminx: with its tips

pub record PyramState : Type 0 where
  pub body : TetraminxState
  pub tips : List ℕ

pub record IsPyram (s : PyramState) : Type 0 where
  pub body : IsTetraminx s.body
  pub tips : AreDigitsInPlace 4 3 s.tips

unfoldable pub solved_pyram : PyramState
solved_pyram = record { body = solved_tetraminx; tips = zeros 4 }

abbrev pub pyram_monoid : Monoid PyramState
pyram_monoid = record {
  turned = λ s r. record { body = tetraminx_monoid.turned s.body r.body; tips = added_digits 3 s.tips r.tips };
  solved = solved_pyram;
}

-- A third about each axis, which leaves the tips as they stand to the axial pieces, and then a third of each tip
-- alone: u, l, r and b.
abbrev pub pyram_thirds : List PyramState
pyram_thirds =
    map (λ r. record { body = r; tips = zeros 4 }) tetraminx_thirds
    ++ map (λ added. record { body = solved_tetraminx; tips = added }) thirds_in_place

-- The Pyraminx as data. Its 16 turns are U U' L L' R R' B B', and then u u' l l' r r' b b', in the order of their
-- numbers.
abbrev pub pyram_powers : PowerPuzzle PyramState Turn
pyram_powers = record { letters = letters_about_axes; monoid = pyram_monoid; generators = pyram_thirds }

-- ---- numbers

-- The number of four digits from 0 to 2, the first one the least.
abbrev pub thirds_number : List ℕ → ℕ
thirds_number = mixed_number (replicate 4 3)

-- The numbers of the axial pieces' digits and of the flips, and half the number of the list of edges, which is even.
unfoldable pub tetraminx_digits : TetraminxState → List ℕ
tetraminx_digits s =
    thirds_number s.axials ∷ twists_number 2 s.edges.digits ∷ permutation_number s.edges.pieces / 2 ∷ []

-- The numbered states of a Tetraminx, 933,120 of them: 81 of the axial pieces, 32 of the flips, 360 even lists of
-- edges.
abbrev pub tetraminx_numbers : Numbers TetraminxState
tetraminx_numbers = numbers_by_digits (81 ∷ 32 ∷ 360 ∷ []) tetraminx_digits IsTetraminx

unfoldable pub tetraminx_of_digits : List ℕ → TetraminxState
tetraminx_of_digits ds = record {
  edges = record { pieces = half_at 6 0 (slice_index ds 2); digits = twists_at 6 2 (slice_index ds 1) };
  axials = mixed_digits (replicate 4 3) (slice_index ds 0);
}

-- and with the state of each number
abbrev pub numbered_tetraminx : Numbered TetraminxState
numbered_tetraminx = numbered_by_digits (81 ∷ 32 ∷ 360 ∷ []) tetraminx_of_digits tetraminx_digits IsTetraminx

unfoldable pub pyram_digits : PyramState → List ℕ
pyram_digits s = thirds_number s.tips ∷ tetraminx_numbers.number_of s.body ∷ []

-- The numbered states of a Pyraminx, 75,582,720 of them: 81 of the tips, whose number is the least digit, times those
-- without tips.
abbrev pub pyram_numbers : Numbers PyramState
pyram_numbers = numbers_by_digits (81 ∷ 933120 ∷ []) pyram_digits IsPyram

unfoldable pub pyram_of_digits : List ℕ → PyramState
pyram_of_digits ds = record {
  body = numbered_tetraminx.state_at (slice_index ds 1);
  tips = mixed_digits (replicate 4 3) (slice_index ds 0);
}

-- and with the state of each number
abbrev pub numbered_pyram : Numbered PyramState
numbered_pyram = numbered_by_digits (81 ∷ 933120 ∷ []) pyram_of_digits pyram_digits IsPyram
