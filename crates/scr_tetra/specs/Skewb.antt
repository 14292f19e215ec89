-- A Skewb as its corners and centres, its turns (WCA Regulations, article 12), and its number.
--
-- The corner UFR stands still. The other corners are of two orbits: the four 0 UFL, 1 UBR, 2 DFR, 3 DBL, and the
-- three 0 ULB, 1 DLF, 2 DRB. The centres are 0 U, 1 R, 2 F, 3 D, 4 L, 5 B. Places and pieces are numbered alike. A
-- corner's twist is how many thirds clockwise its U or D sticker stands from the U or D side; centres have no twist,
-- so their digits, modulo 1, are 0.
use Rattle.std.specs.Prelude.{◌≡◌, ℕ, ◌+◌, ◌-◌, ◌/◌, ◌%◌, List, [], ◌∷◌, ◌++◌, map, slice_index, bit_xor}
use Rattle.std.specs.List.{zip}
use Rattle.scr_combinatorics.specs.Lists.{total}
use Rattle.scr_combinatorics.specs.Permutations.{IsEven, permutation_number, half_at}
use Rattle.scr_combinatorics.specs.Digits.{mixed_number, mixed_digits}
use Rattle.scr_combinatorics.specs.Numbered.{Numbers, numbers_by_digits, Numbered, numbered_by_digits}
use Rattle.scr_orbit.specs.Monoids.{Monoid}
use Rattle.scr_orbit.specs.Orbits.{Orbit, IsOrbit, turned_orbit, solved_orbit, zeros}
use Rattle.scr_orbit.specs.PowerPuzzles.{PowerPuzzle}
use Rattle.scr_notation.specs.declared.turn.Turn.{Turn}
use Rattle.scr_notation.specs.AxisLetters.{letters_about_axes}

-- The four and the three corners with their twists, and the centres.
pub record SkewbState : Type 0 where
  pub four : Orbit
  pub three : Orbit
  pub centres : Orbit

-- The class of an even list of the four: 0, 1 or 2 where the pieces at the places 0 and 3 are 0 and 3 or the other
-- two, 1 and 3 or the other two, 2 and 3 or the other two. Every turn of U, L or R goes on to another class, round in
-- a circle.
abbrev pub class_of : List ℕ → ℕ
class_of four = bit_xor (slice_index four 0) (bit_xor (slice_index four 3) 3)

-- A Skewb that can be put together without taking one apart: all three lists are even, the twists of the three and
-- the class of the four sum to 0 modulo 3, and so do the twists of the four and the piece at place 0 of the three.
pub record IsSkewb (s : SkewbState) : Type 0 where
  pub four : IsOrbit 4 3 s.four
  pub three : IsOrbit 3 3 s.three
  pub centres : IsOrbit 6 1 s.centres
  pub even_four : IsEven s.four.pieces
  pub even_three : IsEven s.three.pieces
  pub even_centres : IsEven s.centres.pieces
  pub twists_of_three : (total s.three.digits + class_of s.four.pieces) % 3 ≡ 0
  pub twists_of_four : (total s.four.digits + slice_index s.three.pieces 0) % 3 ≡ 0

-- ---- turns

-- The clockwise turns by one third about U (the corner ULB), L (DLF), R (DRB) and B (DBL), of half of the Skewb each:
-- which place's piece comes to each place of the four, and the twist added. UFR stands still, so each turns the half
-- without it.
abbrev pub four_thirds : List Orbit
four_thirds =
    record { pieces = 1 ∷ 3 ∷ 2 ∷ 0 ∷ []; digits = 2 ∷ 2 ∷ 0 ∷ 2 ∷ [] }
    ∷ record { pieces = 3 ∷ 1 ∷ 0 ∷ 2 ∷ []; digits = 2 ∷ 0 ∷ 2 ∷ 2 ∷ [] }
    ∷ record { pieces = 0 ∷ 2 ∷ 3 ∷ 1 ∷ []; digits = 0 ∷ 2 ∷ 2 ∷ 2 ∷ [] }
    ∷ record { pieces = 0 ∷ 1 ∷ 2 ∷ 3 ∷ []; digits = 0 ∷ 0 ∷ 0 ∷ 1 ∷ [] } ∷ []

-- The same of the three.
abbrev pub three_thirds : List Orbit
three_thirds =
    record { pieces = 0 ∷ 1 ∷ 2 ∷ []; digits = 1 ∷ 0 ∷ 0 ∷ [] }
    ∷ record { pieces = 0 ∷ 1 ∷ 2 ∷ []; digits = 0 ∷ 1 ∷ 0 ∷ [] }
    ∷ record { pieces = 0 ∷ 1 ∷ 2 ∷ []; digits = 0 ∷ 0 ∷ 1 ∷ [] }
    ∷ record { pieces = 2 ∷ 0 ∷ 1 ∷ []; digits = 2 ∷ 2 ∷ 2 ∷ [] } ∷ []

-- And of the centres.
abbrev pub centre_thirds : List Orbit
centre_thirds =
    record { pieces = 5 ∷ 1 ∷ 2 ∷ 3 ∷ 0 ∷ 4 ∷ []; digits = zeros 6 }
    ∷ record { pieces = 0 ∷ 1 ∷ 4 ∷ 2 ∷ 3 ∷ 5 ∷ []; digits = zeros 6 }
    ∷ record { pieces = 0 ∷ 3 ∷ 2 ∷ 5 ∷ 4 ∷ 1 ∷ []; digits = zeros 6 }
    ∷ record { pieces = 0 ∷ 1 ∷ 2 ∷ 4 ∷ 5 ∷ 3 ∷ []; digits = zeros 6 } ∷ []

-- All three at once.
abbrev pub skewb_thirds : List SkewbState
skewb_thirds =
    map (λ r. record { four = r.0; three = r.1.0; centres = r.1.1 }) (zip four_thirds (zip three_thirds centre_thirds))

unfoldable pub solved_skewb : SkewbState
solved_skewb = record { four = solved_orbit 4; three = solved_orbit 3; centres = solved_orbit 6 }

-- Turns move the pieces of the three orbits at once.
abbrev pub skewb_monoid : Monoid SkewbState
skewb_monoid = record {
  turned = λ s r. record {
    four = turned_orbit 3 s.four r.four;
    three = turned_orbit 3 s.three r.three;
    centres = turned_orbit 1 s.centres r.centres;
  };
  solved = solved_skewb;
}

-- The Skewb as data. Its 8 turns are U U' L L' R R' B B', in the order of their numbers.
abbrev pub skewb_powers : PowerPuzzle SkewbState Turn
skewb_powers = record { letters = letters_about_axes; monoid = skewb_monoid; generators = skewb_thirds }

-- ---- numbers

-- The numbers of the twists of the four and of the first two of the three, place 0 the least digit, and the halves of
-- the numbers of the lists of the four and of the centres. The third twist and the list of the three are fixed by the
-- two sums.
unfoldable pub skewb_digits : SkewbState → List ℕ
skewb_digits s =
    mixed_number (3 ∷ 3 ∷ 3 ∷ 3 ∷ []) s.four.digits ∷ mixed_number (3 ∷ 3 ∷ []) s.three.digits
    ∷ permutation_number s.four.pieces / 2 ∷ permutation_number s.centres.pieces / 2 ∷ []

-- The digit that brings a sum to 0 modulo 3.
abbrev pub completing : ℕ → ℕ
completing sum = (3 - sum % 3) % 3

-- The numbered states, 3,149,280 of them: 81 of the four's twists, whose number is the least digit, 9 of two twists
-- of the three, 12 even lists of the four and 360 of the centres.
abbrev pub skewb_numbers : Numbers SkewbState
skewb_numbers = numbers_by_digits (81 ∷ 9 ∷ 12 ∷ 360 ∷ []) skewb_digits IsSkewb

-- The Skewb with these four numbers. The even list of the three that begins with k has number 2 k or 2 k + 1.
unfoldable pub skewb_of_digits : List ℕ → SkewbState
skewb_of_digits ds =
    let four = half_at 4 0 (slice_index ds 2) in
    let twists = mixed_digits (3 ∷ 3 ∷ 3 ∷ 3 ∷ []) (slice_index ds 0) in
    let two = mixed_digits (3 ∷ 3 ∷ []) (slice_index ds 1) in
    record {
      four = record { pieces = four; digits = twists };
      three = record {
        pieces = half_at 3 0 (completing (total twists));
        digits = two ++ completing (total two + class_of four) ∷ [];
      };
      centres = record { pieces = half_at 6 0 (slice_index ds 3); digits = zeros 6 };
    }

-- and with the state of each number
abbrev pub skewb_numbered : Numbered SkewbState
skewb_numbered = numbered_by_digits (81 ∷ 9 ∷ 12 ∷ 360 ∷ []) skewb_of_digits skewb_digits IsSkewb
