-- Words, states and a symmetry of the Skewb that are known from elsewhere.
use Rattle.std.specs.Prelude.{◌≡◌, ℕ, List, [], ◌∷◌, map, slice_get}
use Rattle.std.specs.List.{filter_map}
use Rattle.scr_orbit.specs.Orbits.{zeros}
use Rattle.scr_tetra.specs.Skewb.{SkewbState, skewb_thirds, skewb_monoid}

-- Words of turns by their numbers, and how often each is done to move nothing: U L, U L', U B and R' L R L'.
abbrev pub skewb_orders : List (List ℕ × ℕ)
skewb_orders = (0 ∷ 2 ∷ [], 45) ∷ (0 ∷ 3 ∷ [], 30) ∷ (0 ∷ 6 ∷ [], 9) ∷ (5 ∷ 2 ∷ 4 ∷ 3 ∷ [], 6) ∷ []

-- The state after B U.
unfoldable pub after_b_u : SkewbState
after_b_u = record {
  four = record { pieces = 1 ∷ 3 ∷ 2 ∷ 0 ∷ []; digits = 2 ∷ 0 ∷ 0 ∷ 2 ∷ [] };
  three = record { pieces = 2 ∷ 0 ∷ 1 ∷ []; digits = 0 ∷ 2 ∷ 2 ∷ [] };
  centres = record { pieces = 3 ∷ 1 ∷ 2 ∷ 4 ∷ 0 ∷ 5 ∷ []; digits = zeros 6 };
}

-- The state after B R, which moves corners of the other axes too.
unfoldable pub after_b_r : SkewbState
after_b_r = record {
  four = record { pieces = 0 ∷ 2 ∷ 3 ∷ 1 ∷ []; digits = 0 ∷ 2 ∷ 0 ∷ 2 ∷ [] };
  three = record { pieces = 2 ∷ 0 ∷ 1 ∷ []; digits = 2 ∷ 2 ∷ 0 ∷ [] };
  centres = record { pieces = 0 ∷ 4 ∷ 2 ∷ 3 ∷ 5 ∷ 1 ∷ []; digits = zeros 6 };
}

-- The Skewb turned as a whole about UFR, clockwise by one third, as what it makes of the solved one. (It twists UFR, so
-- it is no turn.)
abbrev pub rotation : SkewbState
rotation = record {
  four = record { pieces = 2 ∷ 0 ∷ 1 ∷ 3 ∷ []; digits = 2 ∷ 2 ∷ 2 ∷ 2 ∷ [] };
  three = record { pieces = 1 ∷ 2 ∷ 0 ∷ []; digits = 1 ∷ 1 ∷ 1 ∷ [] };
  centres = record { pieces = 2 ∷ 0 ∷ 1 ∷ 5 ∷ 3 ∷ 4 ∷ []; digits = zeros 6 };
}

-- It takes the axis U to R, L to U, R to L, and leaves B: a turn and then the rotation are the rotation and then the
-- turn about the axis where the first one has come to.
abbrev pub RotatesTurns : SkewbState → Type 0
RotatesTurns whole =
    map (λ r. skewb_monoid.turned r whole) skewb_thirds
    ≡ map (skewb_monoid.turned whole) (filter_map (slice_get skewb_thirds) (2 ∷ 0 ∷ 1 ∷ 3 ∷ []))
