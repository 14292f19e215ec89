-- Words and states of a Pyraminx that are known from elsewhere.
use Rattle.std.specs.Prelude.{ℕ, List, [], ◌∷◌}
use Rattle.scr_orbit.specs.Orbits.{zeros}
use Rattle.scr_orbit.specs.PowerPuzzles.{word_at}
use Rattle.scr_notation.specs.declared.turn.Turn.{Turn}
use Rattle.scr_tetra.specs.Pyraminx.{PyramState, pyram_powers}

-- The usual words of the last layer: R U' R' U' R U' R' exchanges three edges in a cycle, and R' L R L' U L' U' L
-- flips two.
abbrev pub edge_cycle : List Turn
edge_cycle = word_at pyram_powers (4 ∷ 1 ∷ 5 ∷ 1 ∷ 4 ∷ 1 ∷ 5 ∷ [])

abbrev pub edge_flip : List Turn
edge_flip = word_at pyram_powers (5 ∷ 2 ∷ 4 ∷ 3 ∷ 0 ∷ 3 ∷ 1 ∷ 2 ∷ [])

-- Words of turns by their numbers, and how often each is done to move nothing: U L, of which five take back the edges
-- and three the axial pieces; U L U' L', which exchanges three edges in a cycle; and so L B L' B', the cycle and the
-- flip.
abbrev pub pyram_orders : List (List ℕ × ℕ)
pyram_orders =
    (0 ∷ 2 ∷ [], 15) ∷ (0 ∷ 2 ∷ 1 ∷ 3 ∷ [], 3) ∷ (2 ∷ 6 ∷ 3 ∷ 7 ∷ [], 3) ∷ (4 ∷ 1 ∷ 5 ∷ 1 ∷ 4 ∷ 1 ∷ 5 ∷ [], 3)
    ∷ (5 ∷ 2 ∷ 4 ∷ 3 ∷ 0 ∷ 3 ∷ 1 ∷ 2 ∷ [], 2) ∷ []

-- Solved but for the order of the edges at U, but for the flips of UL and UR, and but for its tips u and b.
abbrev pub cycled : PyramState
cycled = record {
  body = record { edges = record { pieces = 1 ∷ 2 ∷ 0 ∷ 3 ∷ 4 ∷ 5 ∷ []; digits = zeros 6 }; axials = zeros 4 };
  tips = zeros 4;
}

abbrev pub flipped : PyramState
flipped = record {
  body = record {
    edges = record { pieces = 0 ∷ 1 ∷ 2 ∷ 3 ∷ 4 ∷ 5 ∷ []; digits = 1 ∷ 1 ∷ 0 ∷ 0 ∷ 0 ∷ 0 ∷ [] };
    axials = zeros 4;
  };
  tips = zeros 4;
}

abbrev pub two_tips : PyramState
two_tips = record {
  body = record { edges = record { pieces = 0 ∷ 1 ∷ 2 ∷ 3 ∷ 4 ∷ 5 ∷ []; digits = zeros 6 }; axials = zeros 4 };
  tips = 1 ∷ 0 ∷ 0 ∷ 2 ∷ [];
}
